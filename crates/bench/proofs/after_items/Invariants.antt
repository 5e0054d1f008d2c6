-- `bench::after_items` meets its contract: what is left is read from where the last item ended.
use Prim.Native.Nat.{◌-◌}
use mathlib.Core.Path.{◌≡◌}
use Rattle.cbor.specs.Heads.{allows}
use Rattle.bench.specs.Answers.{items}
use Rattle.bench.proofs.after_items.Given as goal

abbrev pub invariant-loop-i : goal.invariant-loop-i
invariant-loop-i l = items (allows l.allowed) l.s l.at (l.count - l.i) ≡ items (allows l.allowed) l.s 0 l.count
