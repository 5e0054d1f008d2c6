-- `reader::names_at` meets its contract: what is left is read from where the last label ended.
use Prim.Native.Nat.{◌+◌, ◌-◌}
use mathlib.Core.Path.{◌≡◌}
use Rattle.rules.specs.Reader.{read_names}
use Rattle.reader.proofs.names_at.Given as goal

abbrev pub invariant-loop-i : goal.invariant-loop-i
invariant-loop-i l = read_names l.s l.here (l.items - l.i) (l.count + l.i) ≡ read_names l.s l.at l.items l.count
