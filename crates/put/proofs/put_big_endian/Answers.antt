-- `put::put_big_endian` meets its contract: what is left to write is as many of the lowest bytes.
use Prim.Native.Nat.{ℕ, suc, ◌+◌, ◌-◌, ◌*◌, ◌/◌, ◌%◌, ◌^◌, ◌<◌}
use native.Mathlib.Omega.{arith}
use mathlib.Core.Path.{◌≡◌, ap, ◌∙◌}
use mathlib.Core.List.{[], ◌∷◌, ◌++◌}
use Rattle.rules.specs.Bytes.{big_endian}
use Rattle.rules.proofs.Heads.{big_high}
use Rattle.put.proofs.Wrote.{left_done, next_wrote, wrote_one}
use Rattle.put.proofs.put_big_endian.Goals as goal

-- the highest byte that is left, and the others
high : (left v : ℕ) → 0 < left → big_endian left v [] ≡ (v / 2 ^ (8 * (left - 1)) % 256 ∷ []) ++ big_endian (left - 1) v []
high left v h =
    let e : left ≡ suc (left - 1) = omega arith in
    ap (λ (n : ℕ). big_endian n v []) e ∙ big_high (left - 1) v []

pub loop-i-preserved : goal.loop-i-preserved
loop-i-preserved c =
    let a = c.args in
    let next : a.at + c.loop-i.i + 1 ≡ a.at + (c.loop-i.i + 1) = omega arith in
    let rest : a.width - c.loop-i.i - 1 ≡ a.width - (c.loop-i.i + 1) = omega arith in
    rw (← next, ← rest) (next_wrote (record { left = rw (high (a.width - c.loop-i.i) a.v (omega arith)) at c.loop-i.invariant }) wrote_one)

pub returns : goal.returns
unfolding big_endian
returns c =
    let none : c.args.width - c.loop-i.i ≡ 0 = omega arith in
    let all : c.args.at + c.loop-i.i ≡ c.args.at + c.args.width = omega arith in
    left_done (rw (none, all) at c.loop-i.invariant)
