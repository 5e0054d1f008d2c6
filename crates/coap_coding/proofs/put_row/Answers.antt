-- `coap_coding::put_row` meets its contract: what is left to write is the options of the texts that are left.
use native.Mathlib.Omega.{arith}
use Rattle.put.proofs.Wrote.{next_room, next_wrote}
use Rattle.coap_coding.proofs.CodedTurns.{coded_next, coded_done}
use Rattle.coap_coding.proofs.put_row.Goals as goal

pub put_option-o-requires-clause-room_enough : goal.put_option-o-requires-clause-room_enough
put_option-o-requires-clause-room_enough c = next_room (coded_next _ c.in-Some.ensures.steps c.loop-text.invariant.2) c.requires.count_in_bounds

pub loop-text-preserved : goal.loop-text-preserved
loop-text-preserved c =
    let n = coded_next c.loop-text.difference c.in-Some.ensures.steps c.loop-text.invariant.2 in
    ((rw c.in-Some.ensures.steps at c.loop-text.invariant.0).1, omega arith, next_wrote n c.put_option-o.ensures)

pub returns : goal.returns
returns c = coded_done _ c.in-None.ensures.steps.0 c.loop-text.invariant.2
