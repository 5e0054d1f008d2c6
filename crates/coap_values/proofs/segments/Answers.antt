-- `coap_values::segments` meets its contract: a path of one empty segment is none, and any other is as it stands.
use Rattle.coap_values.proofs.Values.{texts_row, lone_empty, lone_full, not_one}
use Rattle.coap_values.proofs.segments.Goals as goal
use Rattle.coap_values.proofs.segments.Goals.{else-row-eq1-via-then-row-eq1+else-span_at-eq0, else-row-eq1-via-else-row-eq1}

pub returns-then-span_at-eq0 : goal.returns-then-span_at-eq0
returns-then-span_at-eq0 c =
    let r = texts_row _ _ _ c.unwrap_or-row.ensures c.requires in
    lone_empty r _ _ c.if-row-eq1.true c.span_at.ensures c.if-span_at-eq0.true

pub returns : goal.returns
returns c =
    let r = texts_row _ _ _ c.unwrap_or-row.ensures c.requires in
    elim c.else-row-eq1.branch [
      | else-row-eq1-via-then-row-eq1+else-span_at-eq0 w ↦ lone_full r _ _ w.if-row-eq1.true w.span_at.ensures w.if-span_at-eq0.false
      | else-row-eq1-via-else-row-eq1 w ↦ not_one r w.if-row-eq1.false
    ]
