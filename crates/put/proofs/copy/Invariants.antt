-- `put::copy` meets its contract: the first bytes of the room are those of the text.
use mathlib.Core.Path.{◌≡◌}
use lib.ListN.{take}
use Rattle.put.proofs.copy.Given as goal

abbrev pub invariant-loop-i : goal.invariant-loop-i
invariant-loop-i l = take l.i l.room ≡ take l.i l.text
