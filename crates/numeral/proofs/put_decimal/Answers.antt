-- `numeral::put_decimal` meets its contract: the numeral is its digits at the scales.
use Rattle.put.proofs.Wrote.{wrote_then}
use Rattle.numeral.specs.Scales.{scaled}
use Rattle.numeral.proofs.Scales.{decimal_scaled}
use Rattle.numeral.proofs.put_decimal.Goals as goal

pub returns : goal.returns
unfolding scaled
returns c =
    rw (decimal_scaled c.args.n c.ranges.n.fits, ← c.digit.ensures)
    (wrote_then c.put_digit-a.ensures (wrote_then c.put_digit-b.ensures (wrote_then c.put_digit-c.ensures (wrote_then c.put_digit-d.ensures c.put_byte.ensures))))
