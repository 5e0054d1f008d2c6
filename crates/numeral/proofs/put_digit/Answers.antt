-- `numeral::put_digit` meets its contract.
use native.Mathlib.Omega.{arith}
use mathlib.Core.Path.{ap}
use lib.ListN.{length}
use Rattle.put.proofs.Wrote.{wrote_none}
use Rattle.numeral.proofs.Scales.{digit_none, digit_one}
use Rattle.numeral.proofs.put_digit.Goals as goal

pub returns-then-n-scale : goal.returns-then-n-scale
returns-then-n-scale g c = rw (digit_none _ _ _ c.if-n-scale.true) wrote_none

pub put_byte-requires : goal.put_byte-requires
put_byte-requires g c = omega (arith, ap length (digit_one g.row.BASE _ _ c.if-n-scale.false))

pub returns : goal.returns
returns g c = rw (digit_one g.row.BASE c.args.scale c.args.n c.if-n-scale.false, ← c.digit.ensures) c.put_byte.ensures
