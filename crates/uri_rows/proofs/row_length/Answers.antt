-- `uri_rows::row_length` meets its contract: what is left to count is the texts that are left. The marks are 0 here: the length does not depend on them.
use Prim.Native.Nat.{◌+◌, ◌*◌, ◌≤◌}
use native.Mathlib.Omega.{arith}
use mathlib.Core.Path.{sym, ap, ◌∙◌}
use lib.ListN.{length}
use Rattle.rules.specs.Text.{escape}
use Rattle.rules.specs.Reader.{contents}
use Rattle.put.proofs.Wrote.{counted}
use Rattle.uri_escape.specs.Escape.{class_is}
use Rattle.uri_rows.proofs.Marked.{marked_length, marked_most, escape_least, row_none, row_some}
use Rattle.uri_rows.proofs.MarkedTurns.{marked_count, marked_counted}
use Rattle.uri_rows.proofs.row_length.Goals as goal
use Rattle.uri_rows.proofs.row_length.Goals.{In-Some}

pub returns-then-row-eq0 : goal.returns-then-row-eq0
returns-then-row-eq0 c mark delimiter =
    let a = c.args in
    sym (ap length (row_none (class_is a.class) mark delimiter a.s.now a.row.at a.row.count c.if-row-eq0.true))

-- the total with this text is no more than the whole, which is bounded
fits : (c : In-Some) → c.loop-text.total + (1 + length (escape (class_is c.args.class) c.in-Some.text.now)) ≤ 3 * length c.args.s.now
fits c =
    let a = c.args in
    omega (arith, (marked_count (class_is a.class) 0 0 c.in-Some.ensures.steps c.loop-text.invariant).sum, marked_most (class_is a.class) 0 0 a.s.now a.row.at a.row.count c.requires.row_at)

pub escaped_length-requires : goal.escaped_length-requires
escaped_length-requires c = omega (arith, fits c, escape_least (class_is c.args.class) c.in-Some.text.now, c.requires.link_size)

pub overflow_add-total : goal.overflow_add-total
overflow_add-total c = omega (arith, fits (goal.at.overflow_add-total c).In-Some, c.escaped_length.ensures, c.requires.link_size)

pub overflow_add-total-in-loop-text : goal.overflow_add-total-in-loop-text
overflow_add-total-in-loop-text c = omega (arith, fits (goal.at.overflow_add-total-in-loop-text c).In-Some, c.escaped_length.ensures, c.requires.link_size)

pub loop-text-preserved : goal.loop-text-preserved
loop-text-preserved c = counted (marked_count _ 0 0 c.in-Some.ensures.steps c.loop-text.invariant) (omega (arith, c.escaped_length.ensures))

pub returns : goal.returns
returns c mark delimiter =
    let a = c.args in
    let k = class_is a.class in
    marked_counted k 0 0 c.in-None.ensures.steps.0 c.loop-text.invariant
    ∙ marked_length k 0 0 mark delimiter (contents a.s.now a.row.at a.row.count)
    ∙ ap length (row_some k mark delimiter a.s.now a.row.at a.row.count c.if-row-eq0.false)
