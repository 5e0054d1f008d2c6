-- `reader::null_body` meets its contract.
use mathlib.Core.Bool.{not}
use mathlib.Core.Path.{ap}
use borrow.Author.Tests.{eq-eqb, ne_eqb}
use Rattle.rules.specs.Reader.{null_body}
use Rattle.rules.proofs.Steps.{need_yes, need_no}
use Rattle.reader.proofs.null_body.Goals as goal

pub returns-then-left-eq0 : goal.returns-then-left-eq0
unfolding null_body
returns-then-left-eq0 c = need_no _ _ _ _ (ap not (eq-eqb c.args.left 0 c.if-left-eq0.true))

pub returns : goal.returns
unfolding null_body
returns c = need_yes _ _ _ _ (ap not (ne_eqb c.args.left 0 c.if-left-eq0.false))
