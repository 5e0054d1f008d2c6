-- `cbor_heads::put_head` meets its contract: the first byte, and the bytes that its head information asks for.
use Prim.Native.Nat.{ℕ, ◌+◌, ◌-◌, ◌*◌}
use native.Mathlib.Omega.{arith}
use mathlib.Core.Path.{◌≡◌, refl, ap₂}
use lib.ListN.{length}
use Rattle.rules.specs.Head.{width, shortest, head_bytes}
use Rattle.rules.proofs.Heads.{major_most}
use Rattle.put.proofs.Wrote.{wrote_then}
use Rattle.cbor.specs.Heads.{kind_is}
use Rattle.cbor.proofs.Heads.{width_most}
use Rattle.cbor_heads.proofs.ShortestHead.{shortest_most, length_head}
use Rattle.cbor_heads.proofs.put_head.Goals as goal
use Rattle.cbor_heads.proofs.put_head.Goals.{Start}

-- how long the head is
whole : (s : Start) → let a = s.args in 1 + width (shortest a.v) ≡ length (head_bytes (kind_is a.kind) a.v)
whole s = length_head (kind_is s.args.kind) s.args.v (shortest s.args.v) (width (shortest s.args.v)) refl refl

pub overflow_mul-major_of : goal.overflow_mul-major_of
overflow_mul-major_of c = omega (arith, c.major_of.ensures, major_most (kind_is c.args.kind))

pub overflow_add-major_of : goal.overflow_add-major_of
overflow_add-major_of c =
    omega (arith, c.major_of.ensures, major_most (kind_is c.args.kind), c.shortest_of.ensures, shortest_most c.args.v)

pub put_byte-p-requires : goal.put_byte-p-requires
put_byte-p-requires c = omega (arith, whole (goal.at.put_byte-p-requires c).Start)

pub overflow_sub-head_length : goal.overflow_sub-head_length
overflow_sub-head_length c =
    omega (arith, c.head_length.ensures (kind_is c.args.kind), whole (goal.at.overflow_sub-head_length c).Start)

pub put_big_endian-requires : goal.put_big_endian-requires
put_big_endian-requires c =
    let n = c.head_length.ensures (kind_is c.args.kind) in
    (omega (arith, n, whole (goal.at.put_big_endian-requires c).Start, width_most (shortest c.args.v) (shortest_most c.args.v)), omega (arith, n, whole (goal.at.put_big_endian-requires c).Start))

pub returns : goal.returns
unfolding head_bytes
returns c =
    let w : c.head_length.result - 1 ≡ width (shortest c.args.v) = omega (arith, c.head_length.ensures (kind_is c.args.kind), whole (goal.at.returns c).Start) in
    let f = ap₂ (λ (c n : ℕ). c * 32 + n) c.major_of.ensures c.shortest_of.ensures in
    rw (← f, ← w) (wrote_then c.put_byte-p.ensures c.put_big_endian.ensures)
