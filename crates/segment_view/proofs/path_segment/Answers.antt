-- `segment_view::path_segment` meets its contract.
use Prim.Native.Nat.{suc}
use mathlib.Core.Path.{ap}
use Rattle.rules.specs.Result.{ok, given}
use Rattle.cbor_rows.proofs.Rows.{first_items, nth_span, no_span}
use Rattle.segment_view.proofs.path_segment.Goals as goal

pub returns-in_default : goal.returns-in_default
unfolding given
returns-in_default c = simp c.in_default.is

pub nth_span-requires : goal.nth_span-requires
nth_span-requires c =
    let p = rw c.in-Some.is at c.requires in
    first_items _ _ _ (suc _) c.if-row-n.false p.each

pub returns-then-row-n : goal.returns-then-row-n
unfolding given
returns-then-row-n c =
    let r = c.in-Some.row in
    simp (c.in-Some.is, no_span c.args.s.now r.at r.count _ c.if-row-n.true)

pub returns : goal.returns
unfolding given
returns c =
    let r = c.in-Some.row in
    simp (c.in-Some.is, nth_span c.args.s.now r.at r.count _ c.if-row-n.false) (ap ok c.nth_span.ensures)
