-- `ipv4::ipv4_length` meets its contract: what is left to count is what is left of the bytes.
use lib.ListN.{length, drop}
use Rattle.put.proofs.Wrote.{Count}
use Rattle.ipv4.proofs.Dotted.{digits}
use Rattle.ipv4.proofs.ipv4_length.Given as goal

abbrev pub invariant-loop-b : goal.invariant-loop-b
invariant-loop-b l = Count l.digits (digits (drop l.b-index l.address)) (length (digits l.address))
