-- `resolver_parts::tail_of` meets its contract.
use mathlib.Core.Path.{refl, sym, ap, ◌∙◌}
use mathlib.Core.Bool.{Bool}
use Rattle.rules.proofs.Laid.{between_then, between_at}
use Rattle.reader.specs.Answers.{slot_of, text_of, opening_of}
use Rattle.resolver_parts.specs.Parts.{further_of}
use Rattle.resolver_parts.proofs.ResultParts.{span_is_lem, span_none, own_query, old_query}
use Rattle.resolver_parts.proofs.tail_of.Goals as goal

pub returns-then-takes_query : goal.returns-then-takes_query
returns-then-takes_query c =
    let b = c.args.base in
    let r = c.args.reference in
    old_query b.bytes.now r.bytes.now (slot_of b.found.query) (text_of b.found.fragment) (opening_of r.found.opening) (slot_of r.found.path) (slot_of r.found.query) (text_of r.found.fragment) _
    (sym c.takes_query.ensures ∙ c.if-takes_query.true)
    (span_is_lem (between_at (sym c.tail_start.ensures) (sym c.fragment_start.ensures) c.requires.base_accepted.laid.tail.query) _ c.between.ensures)
    (span_is_lem (between_at (sym c.fragment_start-then-takes_query.ensures) refl c.requires.reference_accepted.laid.tail.fragment) _ c.between-then-takes_query.ensures)
    c.count_further.ensures

pub returns : goal.returns
returns c =
    let b = c.args.base in
    let r = c.args.reference in
    let t = c.requires.reference_accepted.laid.tail in
    own_query b.bytes.now r.bytes.now (slot_of b.found.query) (opening_of r.found.opening) (slot_of r.found.path) r.found.query (text_of r.found.fragment) _
    (sym c.takes_query.ensures ∙ c.if-takes_query.false)
    span_none
    (span_is_lem (between_at (sym c.tail_start-2.ensures) refl (between_then t.query t.fragment)) _ c.between-2.ensures)
    (c.count_further-2.ensures ∙ ap (λ (q : Bool). further_of q (text_of r.found.fragment)) c.is_some.ensures)
