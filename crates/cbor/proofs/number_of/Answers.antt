-- `cbor::number_of` meets its contract. The loop's invariant: v is the number of the bytes passed, and fits them.
use native.Mathlib.Omega.{arith}
use mathlib.Core.Path.{sym, ◌∙◌}
use lib.ListN.{get_or}
use Rattle.cbor.proofs.BigEndian.{number_step, number_end, Room, room}
use Rattle.cbor.proofs.number_of.Goals as goal
use Rattle.cbor.proofs.number_of.Goals.{In-loop-b}

-- the number has room for the next byte
more : (c : In-loop-b) → Room c.loop-b.b-index c.loop-b.v (get_or c.args.bytes.now c.loop-b.b-index 0)
more c = room c.loop-b.b-index c.loop-b.v _ (omega arith) c.loop-b.invariant.0 (omega (arith, c.type_inv.bytes c.loop-b.b-index))

pub overflow_mul-v : goal.overflow_mul-v
overflow_mul-v c = omega (arith, (more (goal.at.overflow_mul-v c).In-loop-b).shifted)

pub overflow_add-v : goal.overflow_add-v
overflow_add-v c = omega (arith, (more (goal.at.overflow_add-v c).In-loop-b).fits, c.from.ensures)

pub loop-b-preserved : goal.loop-b-preserved
loop-b-preserved c =
    let l = c.loop-b in
    rw c.from.ensures ((more (goal.at.loop-b-preserved c).In-loop-b).grown, l.invariant.1 ∙ number_step c.args.bytes.now l.b-index l.v c.loop-b-test.true)

pub returns : goal.returns
returns c = let l = c.loop-b in sym (l.invariant.1 ∙ number_end c.args.bytes.now l.b-index l.v c.loop-b-test.false)
