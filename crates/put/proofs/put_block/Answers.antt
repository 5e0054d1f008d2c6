-- `put::put_block` meets its contract.
use native.Mathlib.Omega.{arith}
use mathlib.Core.Path.{◌≡◌, ◌∙◌}
use Rattle.rules.specs.Bytes.{part}
use Rattle.rules.proofs.Tools.{length_part}
use Rattle.rules.proofs.Slices.{slice_part}
use Rattle.put.proofs.Wrote.{part_sets}
use Rattle.put.proofs.put_block.Goals as goal

pub returns : goal.returns
returns c =
    let a = c.args in
    let size = length_part a.text.now a.from 32 c.requires.from_in_bounds in
    let copied : c.copy_from_slice.new.self ≡ part a.text.now a.from 32 = c.copy_from_slice.ensures.after ∙ slice_part a.text.now a.from 32 in
    record {
      bytes = rw copied (part_sets a.room.now (part a.text.now a.from 32) a.at _ (omega (arith, size, c.requires.at_in_bounds)) (omega (arith, size)));
      place = omega (arith, size);
    }
