-- `components::put_spans` meets its contract: what is left to put is the numbers of the spans that are left.
use native.Mathlib.Omega.{arith}
use lib.ListN.{length-set}
use Rattle.put.proofs.Wrote.{next_room, next_wrote, wrote_two}
use Rattle.components.proofs.Filling.{numbers_next, numbers_done}
use Rattle.components.proofs.put_spans.Goals as goal

pub bounds-room-o : goal.bounds-room-o
bounds-room-o c = omega (arith, next_room (numbers_next c.in-Some.ensures.steps c.loop-span.invariant) c.requires.row_in_bounds)

pub bounds-room-o-in-loop-span : goal.bounds-room-o-in-loop-span
bounds-room-o-in-loop-span c =
    omega (arith, next_room (numbers_next c.in-Some.ensures.steps c.loop-span.invariant) c.requires.row_in_bounds, length-set c.loop-span.room c.loop-span.o c.in-Some.span.start)

pub loop-span-preserved : goal.loop-span-preserved
loop-span-preserved c = next_wrote (numbers_next c.in-Some.ensures.steps c.loop-span.invariant) wrote_two

pub returns : goal.returns
returns c = numbers_done c.in-None.ensures.steps.0 c.loop-span.invariant
