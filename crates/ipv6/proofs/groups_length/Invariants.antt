-- `ipv6::groups_length` meets its contract: what is left to count is what is left of the groups.
use lib.ListN.{length, drop}
use Rattle.rules.specs.Bytes.{colon}
use Rattle.rules.specs.Numeral.{numeral}
use Rattle.rules.specs.Address.{hex_groups}
use Rattle.put.specs.Joined.{further}
use Rattle.put.proofs.Wrote.{Count}
use Rattle.ipv6.proofs.groups_length.Given as goal

abbrev pub invariant-loop-g : goal.invariant-loop-g
invariant-loop-g l = Count l.total (further colon (numeral 16 4) (drop l.g-index l.further)) (length (hex_groups l.groups))
