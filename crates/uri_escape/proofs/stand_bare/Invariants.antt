-- `uri_escape::stand_bare` meets its contract: the first k bytes stand bare.
use Prim.Native.Nat.{ℕ, ◌<◌}
use mathlib.Core.Path.{◌≡◌}
use mathlib.Core.Bool.{true}
use lib.ListN.{get_or}
use Rattle.rules.specs.Text.{bare}
use Rattle.uri_escape.specs.Escape.{class_is}
use Rattle.uri_escape.proofs.stand_bare.Given as goal

abbrev pub invariant-loop-k : goal.invariant-loop-k
invariant-loop-k l = (i : ℕ) → i < l.k → bare (class_is l.class) (get_or l.text i 0) ≡ true
