-- `put::put_blocks` meets its contract: after i turns the first i blocks are written.
use Prim.Native.Nat.{◌*◌}
use mathlib.Core.Path.{◌≡◌}
use lib.Seq.{sets}
use Rattle.rules.specs.Bytes.{part}
use Rattle.put.proofs.put_blocks.Given as goal

abbrev pub invariant-loop-i : goal.invariant-loop-i
invariant-loop-i l = l.room ≡ sets l.initial.room l.at (part l.text 0 (l.i * 32))
