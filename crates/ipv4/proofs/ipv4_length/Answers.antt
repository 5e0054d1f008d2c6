-- `ipv4::ipv4_length` meets its contract: what is left to count is what is left of the bytes.
use Prim.Native.Nat.{ℕ}
use native.Mathlib.Omega.{arith}
use mathlib.Core.Path.{ap}
use lib.ListN.{length}
use Rattle.rules.specs.Numeral.{decimal}
use Rattle.put.proofs.Wrote.{counted, count_item, count_no_item}
use Rattle.ipv4.proofs.Dotted.{digits, digits_none, digits_step, digits_most, ipv4_lengths}
use Rattle.ipv4.proofs.ipv4_length.Goals as goal
use Rattle.ipv4.proofs.ipv4_length.Goals.{In-loop-b}

pub overflow_add-digits : goal.overflow_add-digits
overflow_add-digits c =
    let l = c.loop-b in
    let n = count_item digits decimal digits_step digits_none c.args.address.now l.b-index c.loop-b-test.true l.invariant in
    omega (arith, n.sum, c.decimal_length-digits.ensures, ap (λ (b : ℕ). length (decimal b)) c.from.ensures, digits_most c.args.address.now)

pub loop-b-preserved : goal.loop-b-preserved
loop-b-preserved c =
    let l = c.loop-b in
    counted (count_item digits decimal digits_step digits_none c.args.address.now l.b-index c.loop-b-test.true l.invariant) (rw c.from.ensures at c.decimal_length-digits.ensures)

pub overflow_add-result : goal.overflow_add-result
overflow_add-result c = omega (arith, c.loop-b.invariant.sum, digits_most c.args.address.now)

pub returns : goal.returns
returns c =
    omega (arith, count_no_item digits decimal digits_step digits_none c.args.address.now c.loop-b.b-index c.loop-b-test.false c.loop-b.invariant, ipv4_lengths c.args.address.now c.requires)
