-- `writer::Encoding::add_reference` meets its contract.
use native.Mathlib.Omega.{arith}
use mathlib.Core.Path.{◌∙◌}
use lib.ListN.{drop}
use Rattle.rules.specs.Encode.{encode}
use Rattle.components.specs.Content.{path_place, query_place, components_of}
use Rattle.writer.specs.AddedItems.{said_by, tail_of}
use Rattle.writer.proofs.Added.{went, halted}
use Rattle.writer.proofs.AddedItems.{opening_most, tail_most, reference_made, counted_each}
use Rattle.writer.proofs.Encoding.add_reference.Goals as goal

pub overflow_add-items : goal.overflow_add-items
overflow_add-items c =
    let a = c.args in
    let lent = a.lent.now in
    let xs = a.spans.now in
    let r = said_by lent xs a.c in
    omega (arith, c.opening_items.ensures lent xs, c.further_items-further.ensures lent (drop (path_place a.c) xs) (drop (query_place a.c) xs), opening_most r.opening c.further_items-further.result, tail_most r.path r.query r.fragment)

pub add_opening-requires : goal.add_opening-requires
add_opening-requires c = (counted_each c.args.spans.now c.args.c c.requires).0

pub returns-in_err-add_head : goal.returns-in_err-add_head
unfolding encode
returns-in_err-add_head c =
    let a = c.args in
    let lent = a.lent.now in
    let xs = a.spans.now in
    let k = components_of xs a.c in
    let r = said_by lent xs a.c in
    halted _ _ _ _ _ _ _ _ c.from_residual.ensures.1 c.in_err-add_head.ensures
    ∙ reference_made lent k r.opening (tail_of r) _ _ _ (c.further_items-further.ensures lent (drop (path_place a.c) xs) (drop (query_place a.c) xs)) (c.opening_items.ensures lent xs)

pub returns-in_err-add_opening : goal.returns-in_err-add_opening
unfolding encode
returns-in_err-add_opening c =
    let a = c.args in
    let lent = a.lent.now in
    let xs = a.spans.now in
    let k = components_of xs a.c in
    let r = said_by lent xs a.c in
    went _ _ _ _ _ _ c.in_ok-add_head.ensures (halted _ _ _ _ _ _ _ _ c.from_residual-in_err-add_opening.ensures.1 c.in_err-add_opening.ensures)
    ∙ reference_made lent k r.opening (tail_of r) _ _ _ (c.further_items-further.ensures lent (drop (path_place a.c) xs) (drop (query_place a.c) xs)) (c.opening_items.ensures lent xs)

pub returns : goal.returns
unfolding encode
returns c =
    let a = c.args in
    let lent = a.lent.now in
    let xs = a.spans.now in
    let k = components_of xs a.c in
    let r = said_by lent xs a.c in
    went _ _ _ _ _ _ c.in_ok-add_head.ensures (went _ _ _ _ _ _ c.in_ok-add_opening.ensures c.add_further.ensures)
    ∙ reference_made lent k r.opening (tail_of r) _ _ _ (c.further_items-further.ensures lent (drop (path_place a.c) xs) (drop (query_place a.c) xs)) (c.opening_items.ensures lent xs)
