-- `cbor::number_of` meets its contract. The loop's invariant: v is the number of the bytes passed, and fits them.
use Prim.Native.Nat.{◌^◌, ◌<◌}
use mathlib.Core.Path.{◌≡◌}
use lib.ListN.{drop}
use Rattle.rules.specs.Bytes.{number_from}
use Rattle.cbor.proofs.number_of.Given as goal

abbrev pub invariant-loop-b : goal.invariant-loop-b
invariant-loop-b l = (l.v < 256 ^ l.b-index) × (number_from 0 l.bytes ≡ number_from l.v (drop l.b-index l.bytes))
