-- `coap_options::options_of_number` meets its contract.
use native.Mathlib.Omega.{arith}
use Prim.Native.Nat.{ℕ}
use mathlib.Core.Path.{sym, ap, ◌∙◌}
use mathlib.Core.Option.{get_or}
use Rattle.rules.specs.Bytes.{Bytes}
use Rattle.rules.specs.Result.{ok}
use Rattle.rules.specs.Code.{option_is}
use Rattle.rules.proofs.OptionsBack.{port_most}
use Rattle.outcomes.proofs.Answers.{right_refused, right_as}
use Rattle.reader.specs.Answers.{slot_of, host_of, port_of}
use Rattle.schemes.proofs.Table.{default_most}
use Rattle.coap_options.specs.Requests.{options_at}
use Rattle.coap_options.proofs.CallCases.{default_none, default_fragment, default_some, port_or}
use Rattle.coap_options.proofs.options_of_number.Goals as goal

pub returns-in_default : goal.returns-in_default
returns-in_default c =
    let u = right_refused _ _ (default_none _ _ (sym (ap (option_is (λ p. p)) c.in_default.is) ∙ c.default_port.ensures)) in
    record { result_value = u.answered; room_after = u.holds }

pub returns-then-is_some : goal.returns-then-is_some
returns-then-is_some c =
    let u = right_refused _ _ (default_fragment _ (sym (ap (option_is (λ p. p)) c.in-Some.is) ∙ c.default_port.ensures) _ (sym c.is_some.ensures ∙ c.if-is_some.true)) in
    record { result_value = u.answered; room_after = u.holds }

pub requested-requires-clause-host_asks : goal.requested-requires-clause-host_asks
requested-requires-clause-host_asks c =
    let m = default_most _ _ (sym c.default_port.ensures ∙ ap (option_is (λ p. p)) c.in-Some.is) in
    let p = port_most (port_of c.args.authority.port) _ c.requires.authority_asks.1 m in
    (c.requires.authority_asks.0.0, omega (arith, p, c.unwrap_or.ensures, port_or c.args.authority.port c.in-Some.default))

pub returns : goal.returns
returns c =
    let a = c.args in
    let w : ℕ → Bytes = λ p. options_at a.s.now (host_of a.authority.host) p (slot_of a.found.path) (slot_of a.found.query) a.to_address.now a.to_port in
    let e = ap (λ p. ok (w p)) (c.unwrap_or.ensures ∙ port_or a.authority.port c.in-Some.default)
    ∙ default_some (λ (d : ℕ). w (get_or (port_of a.authority.port) d)) (sym (ap (option_is (λ p. p)) c.in-Some.is) ∙ c.default_port.ensures) a.found.fragment (sym c.is_some.ensures ∙ c.if-is_some.false) in
    let r = right_as _ e (c.requested.ensures.result_value, c.requested.ensures.room_after) in
    record { result_value = r.0; room_after = r.1 }
