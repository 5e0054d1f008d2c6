-- `reader::discard_all_body` meets its contract.
use native.Mathlib.Omega.{arith}
use mathlib.Core.Path.{sym, ap, ◌∙◌}
use borrow.Author.Tests.{le-leb, lt-leb}
use Rattle.rules.specs.Reader.{opening_body}
use Rattle.rules.proofs.Steps.{need_yes, need_no}
use Rattle.reader.proofs.discard_all_body.Goals as goal

pub returns-then-count-gt-DISCARD_ITEMS : goal.returns-then-count-gt-DISCARD_ITEMS
unfolding opening_body
returns-then-count-gt-DISCARD_ITEMS c = λ bs. need_no _ _ _ _ (lt-leb c.args.count 4 c.if-count-gt-DISCARD_ITEMS.true)

pub returns : goal.returns
unfolding opening_body
returns c = λ bs. need_yes _ _ _ _ (le-leb c.args.count 4 (omega arith))
