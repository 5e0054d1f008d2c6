-- `put::put_bytes` meets its contract.
use native.Mathlib.Omega.{arith}
use mathlib.Core.Path.{refl}
use Rattle.put.proofs.Wrote.{part_sets}
use Rattle.put.proofs.put_bytes.Goals as goal

pub returns : goal.returns
returns c =
    record { bytes = rw c.copy.ensures (part_sets c.args.room.now c.args.text.now c.args.at _ c.requires (omega arith)); place = refl }
