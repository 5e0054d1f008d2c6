-- `reader::port_body` meets its contract.
use native.Mathlib.Omega.{arith}
use mathlib.Core.Path.{sym, ap, ◌∙◌}
use borrow.Author.Tests.{le-leb, lt-leb}
use Rattle.rules.specs.Reader.{port_body}
use Rattle.rules.proofs.Steps.{need_yes, need_no, bind_ok}
use Rattle.refusals.proofs.Steps.{stopped}
use Rattle.reader.specs.Answers.{names_is}
use Rattle.reader.proofs.port_body.Goals as goal

pub returns-then-head-gt-PORT : goal.returns-then-head-gt-PORT
unfolding port_body
returns-then-head-gt-PORT c = need_no _ _ _ _ (lt-leb c.args.head.value 65535 c.if-head-gt-PORT.true)

pub returns-in_err-next : goal.returns-in_err-next
unfolding port_body
returns-in_err-next c =
    stopped names_is _ _ _ c.from_residual.ensures.1 c.in_err-next.ensures ∙ need_yes _ _ _ _ (le-leb c.args.head.value 65535 (omega arith))

pub returns : goal.returns
unfolding port_body
returns c = bind_ok _ _ _ c.in_ok-next.ensures ∙ need_yes _ _ _ _ (le-leb c.args.head.value 65535 (omega arith))
