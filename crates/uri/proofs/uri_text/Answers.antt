-- `uri::uri_text` meets its contract.
use native.Mathlib.Omega.{arith}
use mathlib.Core.Path.{sym, ◌∙◌}
use Rattle.outcomes.proofs.Answers.{right_refused, right_left, right_as}
use Rattle.rules.proofs.Tools.{octets_of}
use Rattle.uri.proofs.Printed.{prints, text_refused, text_relative, text_written}
use Rattle.uri.proofs.uri_text.Goals as goal

pub returns-in_err-found : goal.returns-in_err-found
returns-in_err-found c =
    let u = right_left _ _ c.from_residual.ensures.1 (text_refused c.args.s.now _ _ (sym c.in_err-found.ensures)) in
    record { result_value = u.answered; room_after = u.holds }

pub returns-then-not-is_absolute : goal.returns-then-not-is_absolute
returns-then-not-is_absolute c =
    let u = right_refused _ _ (text_relative c.args.s.now _ (sym c.in_ok-found.ensures) (sym c.is_absolute.ensures ∙ c.if-not-is_absolute.true)) in
    record { result_value = u.answered; room_after = u.holds }

pub print-requires : goal.print-requires
print-requires c =
    let bs = c.args.s.now in
    let h = octets_of bs (λ j. omega (arith, c.type_inv.s j)) in
    record { prints = prints bs _ h (sym c.in_ok-found.ensures) (sym c.is_absolute.ensures ∙ c.if-not-is_absolute.false) }

pub returns : goal.returns
returns c =
    let bs = c.args.s.now in
    let h = octets_of bs (λ j. omega (arith, c.type_inv.s j)) in
    let u = sym (text_written bs _ h (sym c.in_ok-found.ensures) (sym c.is_absolute.ensures ∙ c.if-not-is_absolute.false)) in
    let r = right_as _ u (c.print.ensures.result_value, c.print.ensures.room_after) in
    record { result_value = r.0; room_after = r.1 }
