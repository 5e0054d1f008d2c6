-- `reader::port_at` meets its contract.
use native.Mathlib.Omega.{arith}
use mathlib.Core.Path.{sym, ap, ◌∙◌}
use Rattle.rules.proofs.Steps.{bind_ok}
use Rattle.refusals.proofs.Steps.{stopped}
use Rattle.reader.specs.Answers.{names_is}
use Rattle.reader.proofs.ReaderCases.{number, port_none, port_more}
use Rattle.reader.proofs.port_at.Goals as goal

pub returns-then-left-eq0 : goal.returns-then-left-eq0
returns-then-left-eq0 c = port_none _ _ _ c.if-left-eq0.true

pub returns-in_err-head : goal.returns-in_err-head
returns-in_err-head c =
    stopped names_is _ _ _ c.from_residual.ensures.1 (number _ _ c.in_err-head.ensures) ∙ port_more _ _ _ (omega arith)

pub returns : goal.returns
returns c = c.port_body.ensures ∙ bind_ok _ _ _ (number _ _ c.in_ok-head.ensures) ∙ port_more _ _ _ (omega arith)
