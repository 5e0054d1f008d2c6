-- `next` meets its contract: the span of the first of the items that are left, and then the others.
use mathlib.Core.Path.{sym, ap, ◌∙◌}
use native.Mathlib.Omega.{arith}
use lib.ListN.{length}
use Rattle.std.proofs.Common.{rules}
use Rattle.rules.proofs.RowWalk.{First, first, no_spans}
use Rattle.cbor_rows.proofs.SpansIterator.next.Goals as goal
use Rattle.cbor_rows.proofs.SpansIterator.next.Goals.{After-span_at-span}

-- the item that the span is of
turn : (c : After-span_at-span) → let i = c.self.inside in First i.link.now i.at i.left c.span_at-span.result.start c.span_at-span.result.length
turn c = first _ _ _ _ _ (omega (arith, c.if-self-eq0.false)) c.self.invariant c.span_at-span.ensures

pub returns-then-self-eq0-clause-steps : goal.returns-then-self-eq0-clause-steps
returns-then-self-eq0-clause-steps c =
    let i = c.self.inside in
    let e = sym c.self.view_is ∙ no_spans i.link.now i.at i.left (omega arith) in (e, e)

pub returns-clause-steps : goal.returns-clause-steps
returns-clause-steps c = sym c.self.view_is ∙ (turn (goal.at.returns-clause-steps c).After-span_at-span).span

pub returns-clause-goes : goal.returns-clause-goes
returns-clause-goes c =
    let shorter = ap length (sym c.self.view_is ∙ (turn (goal.at.returns-clause-goes c).After-span_at-span).span) in
    search rules
