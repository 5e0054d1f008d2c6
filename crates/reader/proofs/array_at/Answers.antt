-- `reader::array_at` meets its contract.
use native.Mathlib.Omega.{arith}
use mathlib.Core.Path.{sym, ap, ◌∙◌}
use Rattle.rules.proofs.Steps.{bind_ok, if_yes, if_no}
use Rattle.refusals.proofs.Steps.{stopped, left}
use Rattle.reader.specs.Answers.{slot_is}
use Rattle.reader.proofs.ReaderCases.{array_or_null, array_none, array_more}
use Rattle.reader.proofs.array_at.Goals as goal

pub returns-then-left-eq0 : goal.returns-then-left-eq0
returns-then-left-eq0 c = array_none _ _ _ _ _ _ c.if-left-eq0.true

pub returns-in_err-head : goal.returns-in_err-head
returns-in_err-head c =
    stopped slot_is _ _ _ c.from_residual.ensures.1 (array_or_null _ _ c.in_err-head.ensures) ∙ array_more _ _ _ _ _ _ (omega arith)

pub returns-in_err-next : goal.returns-in_err-next
returns-in_err-next c =
    left slot_is _ _ c.from_residual-in_err-next.ensures.1 c.in_err-next.ensures
    ∙ if_yes _ _ _ (sym c.if-is.ensures)
    ∙ bind_ok _ _ _ (array_or_null _ _ c.in_ok-head.ensures)
    ∙ array_more _ _ _ _ _ _ (omega arith)

pub returns-then-is : goal.returns-then-is
returns-then-is c =
    c.in_ok-next.ensures
    ∙ if_yes _ _ _ (sym c.if-is.ensures)
    ∙ bind_ok _ _ _ (array_or_null _ _ c.in_ok-head.ensures)
    ∙ array_more _ _ _ _ _ _ (omega arith)

pub returns-in_err-row : goal.returns-in_err-row
returns-in_err-row c =
    left slot_is _ _ c.from_residual-in_err-row.ensures.1 c.in_err-row.ensures
    ∙ if_no _ _ _ (sym c.if-is.ensures)
    ∙ bind_ok _ _ _ (array_or_null _ _ c.in_ok-head.ensures)
    ∙ array_more _ _ _ _ _ _ (omega arith)

pub returns : goal.returns
returns c =
    c.in_ok-row.ensures
    ∙ if_no _ _ _ (sym c.if-is.ensures)
    ∙ bind_ok _ _ _ (array_or_null _ _ c.in_ok-head.ensures)
    ∙ array_more _ _ _ _ _ _ (omega arith)
