-- Numbers of several bytes: read one byte after the other, and how large they can be.
use Prim.Native.Nat.{ℕ, suc, ◌+◌, ◌-◌, ◌*◌, ◌^◌, ◌≤◌, ◌<◌}
use native.Mathlib.Omega.{arith}
use native.Mathlib.Numerals.{add-one}
use native.Mathlib.Nat.{add-mul, mul_assoc, mul-le-mul_right, pow-suc, pow-succ', pow-le-pow_right}
use mathlib.Core.Path.{◌≡◌, sym, ap, ◌∙◌, subst}
use mathlib.Core.List.{[], ◌∷◌}
use lib.ListN.{length, get_or, drop, drop_of_length-le}
use lib.Seq.{drop-cons}
use lib.Dec.{lit<}
use Rattle.rules.specs.Bytes.{Bytes, Octets, number_from}

-- what stands before the bytes
number_after_lem : (v : ℕ) (xs : Bytes) → number_from v xs ≡ v * 256 ^ length xs + number_from 0 xs
unfolding number_from
number_after_lem v [] = omega arith
number_after_lem v (b ∷ bs) =
    let high : v * 256 ^ suc (length bs) ≡ v * 256 * 256 ^ length bs = ap (λ (n : ℕ). v * n) (pow-succ' 256 (length bs)) ∙ sym (mul_assoc v 256 (256 ^ length bs)) in
    omega (
      arith,
      high,
      number_after_lem (v * 256 + b) bs,
      number_after_lem (0 * 256 + b) bs,
      add-mul (v * 256) b (256 ^ length bs),
      add-mul (0 * 256) b (256 ^ length bs),
    )

pub number_below : (xs : Bytes) → Octets xs → number_from 0 xs < 256 ^ length xs
unfolding number_from
number_below [] o = omega arith
number_below (b ∷ bs) o =
    let p : ℕ = 256 ^ length bs in
    let h : b < 256 = o.0 in
    let m : (b + 1) * p ≤ 256 * p = mul-le-mul_right p (omega arith) in
    omega (arith, m, add-mul b 1 p, add-mul (0 * 256) b p, pow-succ' 256 (length bs), number_after_lem (0 * 256 + b) bs, number_below bs o.1)

-- ---- read byte by byte, where v is the number of the bytes passed

pub number_step : (bs : Bytes) (i v : ℕ) → i < length bs → number_from v (drop i bs) ≡ number_from (v * 256 + get_or bs i 0) (drop (i + 1) bs)
unfolding number_from
number_step bs i v h = rw (add-one, drop-cons bs i 0 h)

pub number_end : (bs : Bytes) (i v : ℕ) → length bs ≤ i → number_from v (drop i bs) ≡ v
unfolding number_from
number_end bs i v h = ap (number_from v) (drop_of_length-le bs h)

-- a number of j bytes has room for one more, where j is less than 8
pub record Room (j v b : ℕ) : Type 0 where
  pub shifted : v * 256 < 2 ^ 64
  pub fits : v * 256 + b < 2 ^ 64
  pub grown : v * 256 + b < 256 ^ (j + 1)

pub room : (j v b : ℕ) → j < 8 → v < 256 ^ j → b < 256 → Room j v b
room j v b h hv hb =
    let e : 256 ^ (j + 1) ≡ 256 ^ j * 256 = ap (λ (n : ℕ). 256 ^ n) (add-one j) ∙ pow-suc 256 j in
    let m : 256 ^ j ≤ 256 ^ 7 = pow-le-pow_right (lit< tt) {i = j} {j = 7} (omega arith) in
    record { shifted = omega arith; fits = omega arith; grown = omega arith }
