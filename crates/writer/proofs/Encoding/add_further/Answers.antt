-- `writer::Encoding::add_further` meets its contract.
use mathlib.Core.Path.{sym, ◌∙◌}
use Rattle.components.specs.Content.{path_place, query_place, components_of}
use Rattle.writer.proofs.Added.{went, halted}
use Rattle.writer.proofs.AddedTexts.{array_from}
use Rattle.writer.proofs.AddedItems.{tail_none, tail_made, after_none, after_made}
use Rattle.writer.proofs.Encoding.add_further.Goals as goal

pub returns-then-further-eq0 : goal.returns-then-further-eq0
returns-then-further-eq0 c =
    let a = c.args in
    let k = components_of a.spans.now a.c in
    tail_none a.lent.now k.path k.query k.fragment _ (sym c.requires.further_value ∙ c.if-further-eq0.true)

pub returns-in_err-add_slot : goal.returns-in_err-add_slot
returns-in_err-add_slot c =
    let a = c.args in
    let k = components_of a.spans.now a.c in
    halted _ _ _ _ _ _ _ _ c.from_residual.ensures.1 (rw (c.label_count-segments.ensures, array_from (path_place a.c) a.spans.now c.told-spans) at c.in_err-add_slot.ensures)
    ∙ tail_made a.lent.now k.path k.query k.fragment _ (λ e. c.if-further-eq0.false (c.requires.further_value ∙ e))

pub returns-then-further-eq1 : goal.returns-then-further-eq1
returns-then-further-eq1 c =
    let a = c.args in
    let k = components_of a.spans.now a.c in
    went _ _ _ _ _ _ (rw (c.label_count-segments.ensures, array_from (path_place a.c) a.spans.now c.told-spans) at c.in_ok-add_slot.ensures) (after_none a.lent.now k.path k.query k.fragment _ (sym c.requires.further_value ∙ c.if-further-eq1.true))
    ∙ tail_made a.lent.now k.path k.query k.fragment _ (λ e. c.if-further-eq0.false (c.requires.further_value ∙ e))

pub returns-in_err-add_slot-2 : goal.returns-in_err-add_slot-2
returns-in_err-add_slot-2 c =
    let a = c.args in
    let k = components_of a.spans.now a.c in
    went _ _ _ _ _ _ (rw (c.label_count-segments.ensures, array_from (path_place a.c) a.spans.now c.told-spans) at c.in_ok-add_slot.ensures)
    (halted _ _ _ _ _ _ _ _ c.from_residual-in_err-add_slot-2.ensures.1 (rw (c.label_count-segments.ensures, c.text_count.ensures, array_from (query_place a.c) a.spans.now c.told-spans) at c.in_err-add_slot-2.ensures) ∙ after_made a.lent.now k.path k.query k.fragment _ (λ e. c.if-further-eq0.false (c.requires.further_value ∙ e)) (λ e. c.if-further-eq1.false (c.requires.further_value ∙ e)))
    ∙ tail_made a.lent.now k.path k.query k.fragment _ (λ e. c.if-further-eq0.false (c.requires.further_value ∙ e))

pub returns : goal.returns
returns c =
    let a = c.args in
    let k = components_of a.spans.now a.c in
    went _ _ _ _ _ _ (rw (c.label_count-segments.ensures, array_from (path_place a.c) a.spans.now c.told-spans) at c.in_ok-add_slot.ensures)
    (went _ _ _ _ _ _ (rw (c.label_count-segments.ensures, c.text_count.ensures, array_from (query_place a.c) a.spans.now c.told-spans) at c.in_ok-add_slot-2.ensures) c.add_fragment.ensures ∙ after_made a.lent.now k.path k.query k.fragment _ (λ e. c.if-further-eq0.false (c.requires.further_value ∙ e)) (λ e. c.if-further-eq1.false (c.requires.further_value ∙ e)))
    ∙ tail_made a.lent.now k.path k.query k.fragment _ (λ e. c.if-further-eq0.false (c.requires.further_value ∙ e))
