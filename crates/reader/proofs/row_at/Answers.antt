-- `reader::row_at` meets its contract: what is left is read from where the last text ended.
use native.Mathlib.Omega.{arith}
use mathlib.Core.Path.{◌∙◌}
use Rattle.reader.proofs.ReaderCases.{row_none, row_more, row_next}
use Rattle.refusals.proofs.Steps.{stopped}
use Rattle.reader.proofs.row_at.Goals as goal

pub returns-in_err-here : goal.returns-in_err-here
returns-in_err-here c =
    stopped (λ n. n) _ _ _ c.from_residual.ensures.1 c.in_err-here.ensures ∙ row_more _ _ _ _ (omega arith) ∙ c.loop-i.invariant

pub loop-i-preserved : goal.loop-i-preserved
loop-i-preserved c = row_next _ _ _ _ _ _ (omega arith) (omega arith) c.in_ok-here.ensures ∙ c.loop-i.invariant

pub returns : goal.returns
returns c = row_none _ _ _ _ (omega arith) ∙ c.loop-i.invariant
