-- `ipv6::put_groups` meets its contract: what is left to write is what is left of the groups.
use lib.ListN.{drop}
use Rattle.rules.specs.Bytes.{colon}
use Rattle.rules.specs.Numeral.{numeral}
use Rattle.rules.specs.Address.{hex_groups}
use Rattle.put.specs.Joined.{further}
use Rattle.put.proofs.Wrote.{Left}
use Rattle.ipv6.proofs.put_groups.Given as goal

abbrev pub invariant-loop-g : goal.invariant-loop-g
invariant-loop-g l = Left l.room l.o (further colon (numeral 16 4) (drop l.g-index l.further)) l.fn.room l.at (hex_groups l.groups)
