-- `put::put_big_endian` meets its contract: what is left to write is as many of the lowest bytes.
use Prim.Native.Nat.{◌+◌, ◌-◌}
use mathlib.Core.List.{[]}
use Rattle.rules.specs.Bytes.{big_endian}
use Rattle.put.proofs.Wrote.{Left}
use Rattle.put.proofs.put_big_endian.Given as goal

abbrev pub invariant-loop-i : goal.invariant-loop-i
invariant-loop-i l = Left l.room (l.at + l.i) (big_endian (l.width - l.i) l.v []) l.initial.room l.at (big_endian l.width l.v [])
