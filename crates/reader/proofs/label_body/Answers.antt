-- `reader::label_body` meets its contract.
use native.Mathlib.Omega.{arith}
use mathlib.Core.Path.{sym, ap, ◌∙◌}
use borrow.Author.Tests.{le-ltb, lt-ltb}
use Rattle.rules.specs.Reader.{label_body}
use Rattle.rules.proofs.Steps.{need_yes, need_no}
use Rattle.reader.proofs.label_body.Goals as goal

pub returns-then-count-ge-LABELS : goal.returns-then-count-ge-LABELS
unfolding label_body
returns-then-count-ge-LABELS c = need_no _ _ _ _ (le-ltb c.args.count 8 c.if-count-ge-LABELS.true)

pub returns : goal.returns
unfolding label_body
returns c = c.text_body.ensures ∙ need_yes _ _ _ _ (lt-ltb c.args.count 8 (omega arith))
