-- `coap_options::options` meets its contract.
use native.Mathlib.Omega.{arith}
use mathlib.Core.Path.{sym, ◌∙◌}
use Rattle.rules.proofs.Tools.{octets_of}
use Rattle.refusals.proofs.Steps.{left}
use Rattle.outcomes.proofs.Answers.{right_refused, right_as}
use Rattle.coap_options.proofs.CallCases.{address_refused, input_refused, found_answered, asks}
use Rattle.coap_options.proofs.options.Goals as goal

pub returns-then-not-is_address_length : goal.returns-then-not-is_address_length
returns-then-not-is_address_length c =
    let a = c.args in
    let u = right_refused _ _ (address_refused a.s.now a.address.now a.port (sym c.is_address_length.ensures ∙ c.if-not-is_address_length.true)) in
    record { result_value = u.answered; room_after = u.holds }

pub returns-in_err-found : goal.returns-in_err-found
returns-in_err-found c =
    let a = c.args in
    let t = sym c.is_address_length.ensures ∙ c.if-not-is_address_length.false in
    let u = right_refused _ _ (input_refused a.s.now a.address.now a.port t _ _ (sym c.in_err-found.ensures)) in
    record { result_value = left (λ n. n) _ _ c.from_residual.ensures.1 u.answered; room_after = u.holds }

pub options_of_found-requires : goal.options_of_found-requires
options_of_found-requires c = asks c.args.s.now _ (octets_of c.args.s.now (λ i. omega (arith, c.type_inv.s i))) (sym c.in_ok-found.ensures)

pub returns : goal.returns
returns c =
    let a = c.args in
    let t = sym c.is_address_length.ensures ∙ c.if-not-is_address_length.false in
    let u = sym (found_answered a.s.now a.address.now a.port t _ (sym c.in_ok-found.ensures)) in
    let r = right_as _ u (c.options_of_found.ensures.result_value, c.options_of_found.ensures.room_after) in
    record { result_value = r.0; room_after = r.1 }
