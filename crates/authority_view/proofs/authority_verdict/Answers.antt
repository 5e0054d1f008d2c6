-- `authority_view::authority_verdict` meets its contract.
use mathlib.Core.Path.{ap}
use Rattle.rules.specs.Views.{verdict}
use Rattle.refusals.proofs.Steps.{left}
use Rattle.authority_view.proofs.authority_verdict.Goals as goal

pub returns-in_err-chosen_authority : goal.returns-in_err-chosen_authority
returns-in_err-chosen_authority c = left (λ u. u) _ _ c.from_residual.ensures.1 (ap verdict c.in_err-chosen_authority.ensures)

pub returns : goal.returns
returns c = ap verdict c.in_ok-chosen_authority.ensures
