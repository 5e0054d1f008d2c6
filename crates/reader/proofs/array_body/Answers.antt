-- `reader::array_body` meets its contract.
use native.Mathlib.Omega.{arith}
use mathlib.Core.Path.{sym, ap, ◌∙◌}
use borrow.Author.Tests.{le-leb}
use Rattle.rules.specs.Reader.{array_body}
use Rattle.rules.proofs.Steps.{need_yes, need_no, bind_ok}
use Rattle.rules.proofs.Tools.{is_within}
use Rattle.refusals.proofs.Steps.{stopped}
use Rattle.reader.specs.Answers.{set_before}
use Rattle.reader.proofs.ReaderCases.{outside}
use Rattle.reader.proofs.array_body.Goals as goal

pub returns-then-head-low : goal.returns-then-head-low
unfolding array_body
returns-then-head-low c = let a = c.args in need_no _ _ _ _ (outside a.low a.high a.head.value c.then-head-low.either)

pub returns-in_err-next : goal.returns-in_err-next
unfolding array_body
returns-in_err-next c =
    let a = c.args in
    stopped set_before _ _ _ c.from_residual.ensures.1 c.in_err-next.ensures ∙ need_yes _ _ _ _ (is_within a.low a.high a.head.value (omega arith) (omega arith))

pub returns : goal.returns
unfolding array_body
returns c =
    let a = c.args in
    bind_ok _ _ _ c.in_ok-next.ensures ∙ need_yes _ _ _ _ (is_within a.low a.high a.head.value (omega arith) (omega arith))
