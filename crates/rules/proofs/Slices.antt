-- Parts of a byte string as the code cuts them: `&bs[at..end]` has the `end - at` bytes from `at` on.
use Prim.Native.Nat.{ℕ, ◌+◌, ◌-◌, ◌≤◌}
use native.Mathlib.Omega.{arith}
use mathlib.Core.Path.{◌≡◌, sym, ap, ◌∙◌}
use lib.ListN.{length, take, drop, length-drop}
use lib.Seq.{take_all}
use Rattle.rules.specs.Bytes.{Bytes, part}

-- `&bs[at..at + n]`
pub slice_part : (bs : Bytes) (at n : ℕ) → take (at + n - at) (drop at bs) ≡ part bs at n
slice_part bs at n = let e : at + n - at ≡ n = omega arith in ap (λ (k : ℕ). take k (drop at bs)) e

-- `&bs[at..]`
pub slice_rest : (bs : Bytes) (at : ℕ) → take (length bs - at) (drop at bs) ≡ drop at bs
slice_rest bs at = take_all (length bs - at) (drop at bs) (omega (arith, length-drop at bs))
