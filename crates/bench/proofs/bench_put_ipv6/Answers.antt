-- `bench::bench_put_ipv6` meets its contract.
use native.Mathlib.Omega.{arith}
use Rattle.rules.specs.Bytes.{part}
use Rattle.rules.proofs.Tools.{length_part}
use Rattle.ipv6.proofs.Mapped.{ipv6_fits}
use Rattle.bench.proofs.bench_put_ipv6.Goals as goal

pub put_ipv6-requires-clause-room_enough : goal.put_ipv6-requires-clause-room_enough
put_ipv6-requires-clause-room_enough c =
    omega (arith, ipv6_fits (part c.args.src.now 0 16) (length_part c.args.src.now 0 16 (omega arith)))
