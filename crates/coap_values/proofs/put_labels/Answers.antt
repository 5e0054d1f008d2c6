-- `coap_values::put_labels` meets its contract: what is left to write is each further label after a ".".
use native.Mathlib.Omega.{arith}
use mathlib.Core.Path.{sym, ◌∙◌}
use Rattle.put.proofs.Wrote.{next_room, next_wrote, wrote_none, wrote_as, wrote_then, wrote_length}
use Rattle.coap_values.proofs.Values.{labels_first, labels_next, labels_done, no_labels}
use Rattle.coap_values.proofs.put_labels.Goals as goal

pub returns-in_default : goal.returns-in_default
returns-in_default c = wrote_as (no_labels _ (sym c.texts_at-labels.ensures ∙ c.in_default.ensures.steps.0)) wrote_none

pub put_bytes-o-requires : goal.put_bytes-o-requires
put_bytes-o-requires c = next_room (labels_first {room = c.args.room.now} (sym c.texts_at-labels.ensures ∙ c.in-Some.ensures.steps)) (omega (arith, c.requires.count_in_bounds))

pub loop-label-init : goal.loop-label-init
loop-label-init c =
    rw (c.into_iter-label-iterator.ensures.into_iter_gives)
    (next_wrote (labels_first {room = c.args.room.now} (sym c.texts_at-labels.ensures ∙ c.in-Some.ensures.steps)) c.put_bytes-o.ensures)

pub put_byte-p-requires : goal.put_byte-p-requires
put_byte-p-requires c = omega (arith, next_room (labels_next c.in-Some-label.ensures.steps c.loop-label.invariant) (omega (arith, c.requires.count_in_bounds)))

pub put_bytes-o-requires-in-loop-label : goal.put_bytes-o-requires-in-loop-label
put_bytes-o-requires-in-loop-label c =
    omega (arith, next_room (labels_next c.in-Some-label.ensures.steps c.loop-label.invariant) (omega (arith, c.requires.count_in_bounds)), c.put_byte-p.ensures.place, wrote_length c.put_byte-p.ensures)

pub loop-label-preserved : goal.loop-label-preserved
loop-label-preserved c = next_wrote (labels_next c.in-Some-label.ensures.steps c.loop-label.invariant) (wrote_then c.put_byte-p.ensures c.put_bytes-o-in-loop-label.ensures)

pub returns : goal.returns
returns c = labels_done c.in-None.ensures.steps.0 c.loop-label.invariant
