-- `ipv6::longest_run` meets its contract: what was found is of the groups from k on.
use mathlib.Core.Path.{◌≡◌}
use lib.ListN.{drop}
use Rattle.ipv6.specs.Zeros.{zeros_from}
use Rattle.ipv6.proofs.longest_run.Given as goal

abbrev pub invariant-loop-k : goal.invariant-loop-k
invariant-loop-k l = l.z ≡ zeros_from l.k (drop l.k l.groups)
