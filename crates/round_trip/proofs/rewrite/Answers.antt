-- `round_trip::rewrite` meets its contract.
use native.Mathlib.Omega.{arith}
use Rattle.rules.proofs.Tools.{octets_of}
use Rattle.outcomes.proofs.Answers.{right_left, right_as}
use Rattle.round_trip.proofs.Rewriting.{again_refused, again_written}
use Rattle.round_trip.proofs.rewrite.Goals as goal

pub returns-in_err-components : goal.returns-in_err-components
returns-in_err-components c =
    let u = right_left _ _ c.from_residual.ensures.1 (again_refused _ _ _ c.in_err-components.ensures.value) in
    record { result_value = u.answered; room_after = u.holds; spans_after = c.read.ensures.spans_after }

pub returns : goal.returns
returns c =
    let s = c.args.s.now in
    let octets = octets_of s (λ i. omega (arith, c.type_inv.s i)) in
    let same = again_written s _ _ _ c.in_ok-components.ensures.value c.read.ensures.spans_after octets in
    let u = right_as _ same (c.write.ensures.result_value, c.write.ensures.room_after) in
    record { result_value = u.0; room_after = u.1; spans_after = c.read.ensures.spans_after }
