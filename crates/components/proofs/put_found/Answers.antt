-- `components::put_found` meets its contract: labels, segments and parameters, one after the other, have room in the array.
use native.Mathlib.Omega.{arith}
use mathlib.Core.Path.{ap, ◌∙◌}
use mathlib.Core.List.{◌++◌}
use lib.ListN.{length, drop, length-append}
use Rattle.rules.specs.Model.{limits, most_labels, most_parameters}
use Rattle.rules.specs.Meaning.{components}
use Rattle.put.proofs.Wrote.{wrote_then, wrote_all, wrote_length}
use Rattle.reader.specs.Answers.{slot_of, found_of}
use Rattle.components.specs.Layout.{span_numbers, spans_after}
use Rattle.components.proofs.Filling.{texts_at, texts_at_lem, found_size}
use Rattle.components.proofs.put_found.Goals as goal

pub put_texts-segments-requires : goal.put_texts-segments-requires
put_texts-segments-requires c =
    let s = c.args.s.now in
    let l = slot_of c.labels_of.result in
    let labels = c.labels_of.ensures.texts_stand s c.requires.opening in
    record { texts_at = texts_at_lem most_labels s l labels; texts_in_bounds = omega (arith, found_size s l (found_of c.args.found) labels c.requires) }

pub put_texts-parameters-requires : goal.put_texts-parameters-requires
put_texts-parameters-requires c =
    let s = c.args.s.now in
    let f = found_of c.args.found in
    let room = found_size s (slot_of c.labels_of.result) f (c.labels_of.ensures.texts_stand s c.requires.opening) c.requires in
    let first = c.put_texts-segments.ensures in
    record { texts_at = texts_at_lem limits.segments s f.path c.requires.path; texts_in_bounds = omega (arith, room, first.place, wrote_length first) }

pub put_texts-requires : goal.put_texts-requires
put_texts-requires c =
    let s = c.args.s.now in
    let f = found_of c.args.found in
    let room = found_size s (slot_of c.labels_of.result) f (c.labels_of.ensures.texts_stand s c.requires.opening) c.requires in
    let first = c.put_texts-segments.ensures in
    let second = c.put_texts-parameters.ensures in
    record { texts_at = texts_at_lem most_parameters s f.query c.requires.query; texts_in_bounds = omega (arith, room, first.place, second.place, wrote_length first, wrote_length second) }

pub returns : goal.returns
unfolding components spans_after
returns c =
    let s = c.args.s.now in
    let f = found_of c.args.found in
    let ls = texts_at s (slot_of c.labels_of.result) in
    let ps = texts_at s f.path in
    let qs = texts_at s f.query in
    let room = found_size s (slot_of c.labels_of.result) f (c.labels_of.ensures.texts_stand s c.requires.opening) c.requires in
    let all = wrote_then c.put_texts-segments.ensures (wrote_then c.put_texts-parameters.ensures c.put_texts.ensures) in
    (wrote_all all (omega (arith, room, length-append ls (ps ++ qs), length-append ps qs))).1
    ∙ ap (λ j. (j ++ (ps ++ qs)) ++ drop (length (j ++ (ps ++ qs))) c.args.room.now) (ap span_numbers (c.labels_of.ensures.result_value s))
