-- `ipv6::groups_of` meets its contract: the first groups are those of the address.
use mathlib.Core.Path.{◌≡◌}
use lib.ListN.{length, take}
use Rattle.rules.specs.Address.{groups}
use Rattle.ipv6.proofs.groups_of.Given as goal

abbrev pub invariant-loop-k : goal.invariant-loop-k
invariant-loop-k l = (length l.groups ≡ 8) × (take l.k l.groups ≡ take l.k (groups l.address))
