-- `reader::after_scheme` meets its contract.
use native.Mathlib.Omega.{arith}
use mathlib.Core.Path.{sym, ap, ◌∙◌}
use borrow.Author.Tests.{le-leb, lt-leb}
use Rattle.rules.specs.Reader.{after_scheme}
use Rattle.rules.proofs.Steps.{need_yes, need_no, bind_ok}
use Rattle.refusals.proofs.Steps.{stopped}
use Rattle.reader.specs.Answers.{opened_is}
use Rattle.reader.proofs.after_scheme.Goals as goal

pub returns-then-count-lt2 : goal.returns-then-count-lt2
unfolding after_scheme
returns-then-count-lt2 c = need_no _ _ _ _ (lt-leb 2 c.args.count c.if-count-lt2.true)

pub returns-in_err-authority : goal.returns-in_err-authority
unfolding after_scheme
returns-in_err-authority c =
    stopped opened_is _ _ _ c.from_residual.ensures.1 c.in_err-authority.ensures ∙ need_yes _ _ _ _ (le-leb 2 c.args.count (omega arith))

pub returns : goal.returns
unfolding after_scheme
returns c = bind_ok _ _ _ c.in_ok-authority.ensures ∙ need_yes _ _ _ _ (le-leb 2 c.args.count (omega arith))
