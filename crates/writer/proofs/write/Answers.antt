-- `writer::write` meets its contract.
use mathlib.Core.Path.{sym, ap, ◌∙◌}
use Rattle.rules.specs.Result.{ok}
use Rattle.rules.proofs.Steps.{bind_ok, bind_refused}
use Rattle.refusals.proofs.Steps.{left}
use Rattle.components.specs.Content.{components_of}
use Rattle.outcomes.proofs.Answers.{right_refused, right_as}
use Rattle.writer.proofs.CallCases.{judged, call_uncounted, call_made, judged_refused, judged_ok}
use Rattle.writer.proofs.write.Goals as goal

pub returns-then-not-is_counted : goal.returns-then-not-is_counted
returns-then-not-is_counted c =
    let a = c.args in
    let u = right_refused 4 0 (call_uncounted a.lent.now (components_of a.spans.now a.c) (sym (c.is_counted.ensures a.spans.now) ∙ c.if-not-is_counted.true)) in
    record { result_value = u.answered; room_after = u.holds }

pub returns-in_err-add_reference : goal.returns-in_err-add_reference
returns-in_err-add_reference c =
    let a = c.args in
    let made = call_made a.lent.now (components_of a.spans.now a.c) (sym (c.is_counted.ensures a.spans.now) ∙ c.if-not-is_counted.false) in
    let u = right_refused _ _ (sym (bind_refused _ judged _ _ c.in_err-add_reference.ensures ∙ made)) in
    record { result_value = left (λ n. n) _ _ c.from_residual.ensures.1 u.answered; room_after = u.holds }

pub returns-in-Err : goal.returns-in-Err
returns-in-Err c =
    let a = c.args in
    let made = call_made a.lent.now (components_of a.spans.now a.c) (sym (c.is_counted.ensures a.spans.now) ∙ c.if-not-is_counted.false) in
    let u = right_refused _ 0 (sym (judged_refused _ _ _ c.in-Err.ensures ∙ bind_ok _ judged _ (ap ok c.bytes-made.ensures ∙ c.in_ok-add_reference.ensures) ∙ made)) in
    record { result_value = u.answered; room_after = u.holds }

pub returns-in-Ok : goal.returns-in-Ok
returns-in-Ok c =
    let a = c.args in
    let made = call_made a.lent.now (components_of a.spans.now a.c) (sym (c.is_counted.ensures a.spans.now) ∙ c.if-not-is_counted.false) in
    let r = right_as _ (judged_ok _ _ c.in-Ok.ensures ∙ bind_ok _ judged _ (ap ok c.bytes-made.ensures ∙ c.in_ok-add_reference.ensures) ∙ made) (c.copied.ensures.result_value, c.copied.ensures.room_after) in
    record { result_value = r.0; room_after = r.1 }
