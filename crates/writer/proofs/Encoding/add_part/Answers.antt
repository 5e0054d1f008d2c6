-- `writer::Encoding::add_part` meets its contract.
use native.Mathlib.Omega.{arith}
use Rattle.cbor.specs.Heads.{span_is}
use Rattle.writer.proofs.Added.{added_outside, added_over, made_length, made_more}
use Rattle.writer.proofs.AddedItems.{lies, lies_not, length_taken}
use Rattle.writer.proofs.Encoding.add_part.Goals as goal

pub returns-then-lent-span : goal.returns-then-lent-span
returns-then-lent-span c = let a = c.args in added_outside _ _ _ (lies_not a.lent.now (span_is a.span) (omega arith))

pub returns-then-lent-span-2 : goal.returns-then-lent-span-2
returns-then-lent-span-2 c = let a = c.args in added_outside _ _ _ (lies_not a.lent.now (span_is a.span) (omega arith))

pub returns-then-self-span : goal.returns-then-self-span
returns-then-self-span c =
    let a = c.args in
    let e = c.self.inside in
    let g = lies a.lent.now (span_is a.span) (omega arith) in
    added_over _ _ _ (omega (arith, c.if-self-span.true, made_length e.bytes e.end _ c.self.view_is c.self.invariant c.self.told, length_taken a.lent.now (span_is a.span) g))

pub returns : goal.returns
returns c =
    let a = c.args in
    let e = c.self.inside in
    let g = lies a.lent.now (span_is a.span) (omega arith) in
    made_more e.bytes e.end _ c.self.view_is c.self.invariant c.self.told _ _ _ _ g (omega (arith, c.if-self-span.false, length_taken a.lent.now (span_is a.span) g)) (rw c.of.ensures.shows at c.put_bytes-self-inside.ensures)
