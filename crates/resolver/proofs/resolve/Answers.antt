-- `resolver::resolve` meets its contract.
use native.Mathlib.Omega.{arith}
use mathlib.Core.Path.{sym}
use Rattle.rules.proofs.Tools.{octets_of}
use Rattle.refusals.proofs.Steps.{left}
use Rattle.outcomes.proofs.Answers.{right_refused, right_as}
use Rattle.resolver.proofs.Encoded.{accepted, parts_inside, parts_small, call_parts, base_says, base_refused, reference_refused, read_reference_lem}
use Rattle.resolver.proofs.resolve.Goals as goal

pub returns-in_err-b : goal.returns-in_err-b
returns-in_err-b c =
    let u = right_refused _ _ (base_refused c.args.base.now c.args.reference.now _ _ (sym c.in_err-b.ensures)) in
    record { result_value = left (λ n. n) _ _ c.from_residual.ensures.1 u.answered; room_after = u.holds }

pub returns-in_err-r : goal.returns-in_err-r
returns-in_err-r c =
    let d = base_says c.args.base.now _ (sym c.in_ok-b.ensures) in
    let u = right_refused _ _ (reference_refused c.args.base.now c.args.reference.now _ _ _ d.absolute (sym c.in_err-r.ensures)) in
    record { result_value = left (λ n. n) _ _ c.from_residual-in_err-r.ensures.1 u.answered; room_after = u.holds }

pub parts_of-parts-requires : goal.parts_of-parts-requires
parts_of-parts-requires c =
    let base = c.args.base.now in
    let ref = c.args.reference.now in
    record {
      base_accepted = accepted base _ (octets_of base (λ i. omega (arith, c.type_inv.base i))) (base_says base _ (sym c.in_ok-b.ensures)).found;
      reference_accepted = accepted ref _ (octets_of ref (λ i. omega (arith, c.type_inv.reference i))) (sym c.in_ok-r.ensures);
    }

pub put_result-requires : goal.put_result-requires
put_result-requires c =
    let base = c.args.base.now in
    let ref = c.args.reference.now in
    let d = base_says base _ (sym c.in_ok-b.ensures) in
    let a = c.parts_of-parts.ensures d.cri d.says in
    (parts_small base ref _ _ d.found (sym c.in_ok-r.ensures) a, parts_inside base ref _ _ a)

pub returns : goal.returns
returns c =
    let base = c.args.base.now in
    let ref = c.args.reference.now in
    let d = base_says _ _ (sym c.in_ok-b.ensures) in
    let u = sym (call_parts base ref _ _ _ d.absolute (read_reference_lem ref _ (sym c.in_ok-r.ensures)) (c.parts_of-parts.ensures d.cri d.says)) in
    let r = right_as _ u (c.put_result.ensures.result_value, c.put_result.ensures.room_after) in
    record { result_value = r.0; room_after = r.1 }
