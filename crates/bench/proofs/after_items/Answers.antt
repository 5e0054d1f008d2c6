-- `bench::after_items` meets its contract: what is left is read from where the last item ended.
use native.Mathlib.Omega.{arith}
use mathlib.Core.Path.{◌∙◌}
use Rattle.refusals.proofs.Steps.{stopped}
use Rattle.bench.proofs.Answers.{items_end, items_more, items_next}
use Rattle.bench.proofs.after_items.Goals as goal

pub returns-in_err-at : goal.returns-in_err-at
returns-in_err-at c =
    stopped (λ n. n) _ _ _ c.from_residual.ensures.1 c.in_err-at.ensures ∙ items_more _ _ _ _ (omega arith) ∙ c.loop-i.invariant

pub loop-i-preserved : goal.loop-i-preserved
loop-i-preserved c = items_next _ _ _ _ _ _ (omega arith) (omega arith) c.in_ok-at.ensures ∙ c.loop-i.invariant

pub returns : goal.returns
returns c = items_end _ _ _ _ (omega arith) ∙ c.loop-i.invariant
