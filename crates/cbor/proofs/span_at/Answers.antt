-- `cbor::span_at` meets its contract.
use Prim.Native.Nat.{◌+◌}
use native.Mathlib.Omega.{arith}
use Rattle.rules.proofs.Slices.{slice_part}
use Rattle.rules.proofs.Tools.{length_part}
use Rattle.cbor.proofs.Heads.{width_most, item_head, span_small, span_byte, width_byte, span_sized}
use Rattle.cbor.proofs.span_at.Goals as goal

pub bounds-s-at : goal.bounds-s-at
bounds-s-at c = omega (arith, item_head _ _ c.requires)

pub overflow_add-from : goal.overflow_add-from
overflow_add-from c = omega (arith, item_head _ _ c.requires)

pub returns-then-info-lt24 : goal.returns-then-info-lt24
returns-then-info-lt24 c = span_small _ _ c.if-info-lt24.true

pub bounds-s-from : goal.bounds-s-from
bounds-s-from c =
    omega (arith, item_head _ _ c.requires, width_byte c.args.s.now c.args.at c.if-info-eq24.true)

pub returns-then-info-eq24 : goal.returns-then-info-eq24
returns-then-info-eq24 c =
    span_byte _ _ c.if-info-eq24.true (omega (arith, item_head _ _ c.requires, width_byte c.args.s.now c.args.at c.if-info-eq24.true))

pub overflow_add-from-2 : goal.overflow_add-from-2
overflow_add-from-2 c = omega (arith, c.width_of-w.ensures, item_head _ _ c.requires)

pub slice_bounds-number_of-end : goal.slice_bounds-number_of-end
slice_bounds-number_of-end c = omega (arith, c.width_of-w.ensures, item_head _ _ c.requires)

pub number_of-v-requires : goal.number_of-v-requires
number_of-v-requires c =
    let a = c.args in
    let w = c.width_of-w.ensures in
    let h = item_head _ _ c.requires in
    rw (slice_part a.s.now (a.at + 1) c.width_of-w.result) (omega (arith, w, width_most _ c.requires.info, length_part a.s.now (a.at + 1) c.width_of-w.result (omega (arith, w, h))))

pub overflow_add-result-2 : goal.overflow_add-result-2
overflow_add-result-2 c =
    omega (arith, c.width_of-w.ensures, item_head _ _ c.requires)

pub returns : goal.returns
returns c = span_sized _ _ _ _ c.if-info-lt24.false c.width_of-w.ensures (rw (slice_part c.args.s.now (c.args.at + 1) c.width_of-w.result) at c.number_of-v.ensures)
