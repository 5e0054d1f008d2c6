-- `schemes::is_name` meets its contract. The loop's invariant: the text is the name of no number passed.
use native.Mathlib.Omega.{arith}
use mathlib.Core.Path.{sym, ◌∙◌}
use Rattle.rules.specs.Rules.{schemes}
use Rattle.schemes.specs.Schemes.{known_name}
use Rattle.schemes.proofs.Table.{name_found, no_name_found}
use Rattle.schemes.proofs.is_name.Goals as goal

pub returns-then-has_name : goal.returns-then-has_name
unfolding known_name
returns-then-has_name c = name_found _ schemes _ (sym c.has_name.ensures ∙ c.if-has_name.true)

pub returns : goal.returns
returns c = no_name_found _ (λ k h. c.loop-number.invariant k (omega arith))
