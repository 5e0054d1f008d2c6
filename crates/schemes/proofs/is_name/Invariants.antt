-- `schemes::is_name` meets its contract. The loop's invariant: the text is the name of no number passed.
use Prim.Native.Nat.{ℕ, ◌<◌}
use mathlib.Core.Path.{◌≡◌}
use mathlib.Core.Bool.{false}
use Rattle.rules.specs.Rules.{schemes, scheme_in}
use Rattle.schemes.specs.Schemes.{same_name}
use Rattle.schemes.proofs.is_name.Given as goal

abbrev pub invariant-loop-number : goal.invariant-loop-number
invariant-loop-number l = (k : ℕ) → k < l.number → same_name l.text (scheme_in schemes k) ≡ false
