-- `numeral::put_hex` meets its contract: the numeral is its digits at the scales.
use Rattle.put.proofs.Wrote.{wrote_then}
use Rattle.numeral.specs.Scales.{scaled}
use Rattle.numeral.proofs.Scales.{hex_scaled}
use Rattle.numeral.proofs.put_hex.Goals as goal

pub returns : goal.returns
unfolding scaled
returns c =
    rw (hex_scaled c.args.n c.ranges.n.fits, ← c.digit.ensures)
    (wrote_then c.put_digit-a.ensures (wrote_then c.put_digit-b.ensures (wrote_then c.put_digit-c.ensures c.put_byte.ensures)))
