-- `segment_view::segment_verdict` meets its contract.
use mathlib.Core.Path.{ap}
use Rattle.rules.specs.Views.{verdict}
use Rattle.refusals.proofs.Steps.{left}
use Rattle.segment_view.proofs.segment_verdict.Goals as goal

pub returns-in_err-nth_segment : goal.returns-in_err-nth_segment
returns-in_err-nth_segment c = left (λ u. u) _ _ c.from_residual.ensures.1 (ap verdict c.in_err-nth_segment.ensures)

pub returns : goal.returns
returns c = ap verdict c.in_ok-nth_segment.ensures
