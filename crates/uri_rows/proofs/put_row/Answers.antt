-- `uri_rows::put_row` meets its contract: what is left to write is the texts that are left, the first of them after the mark.
use native.Mathlib.Omega.{arith}
use mathlib.Core.Path.{sym, ◌∙◌}
use Rattle.put.proofs.Wrote.{left_all, next_room, next_wrote, wrote_then, wrote_as, wrote_length}
use Rattle.uri_escape.specs.Escape.{class_is}
use Rattle.uri_rows.proofs.Marked.{row_none, row_some}
use Rattle.uri_rows.proofs.MarkedTurns.{marked_next, marked_done}
use Rattle.uri_rows.proofs.put_row.Goals as goal

pub returns-then-row-eq0 : goal.returns-then-row-eq0
returns-then-row-eq0 c =
    let a = c.args in
    wrote_as (sym (row_none (class_is a.class) a.mark a.delimiter a.s.now a.row.at a.row.count c.if-row-eq0.true)) c.put_byte.ensures

pub loop-text-init : goal.loop-text-init
loop-text-init c =
    let a = c.args in
    rw (c.into_iter-text-iterator.ensures.into_iter_gives ∙ c.texts_at-text-items.ensures, row_some (class_is a.class) a.mark a.delimiter a.s.now a.row.at a.row.count c.if-row-eq0.false) left_all

pub put_byte-p-requires : goal.put_byte-p-requires
put_byte-p-requires c = omega (arith, next_room (marked_next _ _ _ c.in-Some.ensures.steps c.loop-text.invariant) c.requires.count_in_bounds)

pub put_escaped-o-requires : goal.put_escaped-o-requires
put_escaped-o-requires c =
    omega (arith, next_room (marked_next _ _ _ c.in-Some.ensures.steps c.loop-text.invariant) c.requires.count_in_bounds, c.put_byte-p.ensures.place, wrote_length c.put_byte-p.ensures)

pub loop-text-preserved : goal.loop-text-preserved
loop-text-preserved c = next_wrote (marked_next _ _ _ c.in-Some.ensures.steps c.loop-text.invariant) (wrote_then c.put_byte-p.ensures c.put_escaped-o.ensures)

pub returns : goal.returns
returns c = marked_done _ _ _ c.in-None.ensures.steps.0 c.loop-text.invariant
