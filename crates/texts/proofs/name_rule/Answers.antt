-- `texts::name_rule` meets its contract.
use native.Mathlib.Omega.{arith}
use mathlib.Core.Path.{ap, ◌∙◌}
use mathlib.Core.Bool.{not}
use borrow.Author.Tests.{lt-leb}
use Rattle.texts.proofs.RuleCases.{name_long, name_looks}
use Rattle.texts.proofs.name_rule.Goals as goal

pub returns-then-dotted_length-le-DOTTED_BYTES : goal.returns-then-dotted_length-le-DOTTED_BYTES
returns-then-dotted_length-le-DOTTED_BYTES c = ap not c.looks_ipv4.ensures ∙ name_looks _ (omega (arith, c.dotted_length.ensures))

pub returns-else-dotted_length-le-DOTTED_BYTES : goal.returns-else-dotted_length-le-DOTTED_BYTES
returns-else-dotted_length-le-DOTTED_BYTES c = lt-leb _ _ (omega arith) ∙ name_long _ (omega (arith, c.dotted_length.ensures))
