-- A numeral is its digits at the scales, the highest first.
use Prim.Native.Nat.{ℕ, zero, suc, ◌+◌, ◌*◌, ◌/◌, ◌%◌, ◌^◌, ◌≤◌, ◌<◌}
use native.Mathlib.Omega.{arith}
use native.Mathlib.Nat.{pow-suc, pow-zero, one-mul, mul_comm, one-le-pow, mul-le-mul_right, le_trans, mod-eq_of_lt, div-lt_iff_lt-mul, le-div_iff_mul-le, div-div-eq-div-mul}
use mathlib.Core.Path.{◌≡◌, refl, sym, ap, ◌∙◌, subst}
use mathlib.Core.Bool.{Bool, true, false, cond}
use mathlib.Core.List.{[], ◌∷◌, ◌++◌, append_assoc}
use lib.Dec.{leb, ltb, lit≤}
use mir.Val.{bool_byte}
use lib.ListN.{length, length-append}
use borrow.Author.Tests.{lt-ltb, le-ltb, ltb-true, ltb-false, leb-true, leb-false}
use Rattle.rules.specs.Bytes.{Bytes}
use Rattle.rules.specs.Numeral.{digit_byte, numeral, decimal}
use Rattle.rules.proofs.Tools.{by_test}
use Rattle.numeral.specs.Scales.{digit_at, scaled}

pub digit_small : (d : ℕ) → d < 10 → digit_byte d ≡ 0x30 + d
unfolding digit_byte
digit_small d h = rw (lt-ltb d 10 h)

module _ (base scale n : ℕ) where
  pub digit_none : n < scale → digit_at base scale n ≡ []
  unfolding digit_at
  digit_none h = rw (lt-ltb n scale h)

  pub digit_one : scale ≤ n → digit_at base scale n ≡ digit_byte (n / scale % base) ∷ []
  unfolding digit_at
  digit_one h = rw (le-ltb n scale h)

module _ (base : ℕ) (two : 2 ≤ base) where
  base_one : base ^ 1 ≡ base
  base_one = pow-suc base 0 ∙ ap (λ (x : ℕ). x * base) (pow-zero base) ∙ one-mul base

  -- each scale but the last is the base at least
  scale_base : (f : ℕ) → base ≤ base ^ suc f
  scale_base f = subst (λ (x : ℕ). base ≤ x) (sym (pow-suc base f)) (subst (λ (x : ℕ). x ≤ base ^ f * base) (one-mul base) (mul-le-mul_right base (one-le-pow f base (omega arith))))

  -- a number below the base has one digit
  scaled_small : (f n : ℕ) → n < base → scaled base f n ≡ digit_byte n ∷ []
  unfolding scaled
  scaled_small zero n h = ap (λ (d : ℕ). digit_byte d ∷ []) (mod-eq_of_lt h)
  scaled_small (suc f) n h = rw (digit_none base (base ^ suc f) n (le_trans h (scale_base f))) (scaled_small f n h)

  -- the digit of n at a scale is that of n / base one scale lower
  digit_shift : (scale n : ℕ) → digit_at base (scale * base) n ≡ digit_at base scale (n / base)
  digit_shift scale n = by (ltb n (scale * base)) refl
    where
      by : (t : Bool) → ltb n (scale * base) ≡ t → digit_at base (scale * base) n ≡ digit_at base scale (n / base)
      by true e =
          let h : n < scale * base = ltb-true n (scale * base) e in
          digit_none base (scale * base) n h ∙ sym (digit_none base scale (n / base) ((div-lt_iff_lt-mul (omega arith)).1 h))
      by false e =
          let h : scale * base ≤ n = ltb-false n (scale * base) e in
          digit_one base (scale * base) n h
          ∙ ap (λ (x : ℕ). digit_byte (x % base) ∷ []) (ap (λ (x : ℕ). n / x) (mul_comm scale base) ∙ sym (div-div-eq-div-mul n base scale))
          ∙ sym (digit_one base scale (n / base) ((le-div_iff_mul-le (omega arith)).1 h))

  -- the digits of n are those of n / base, and the last
  scaled_shift : (f n : ℕ) → base ≤ n → scaled base f (n / base) ++ (digit_byte (n % base) ∷ []) ≡ scaled base (suc f) n
  unfolding scaled
  scaled_shift zero n h = ap (λ (x : Bytes). x ++ (digit_byte (n % base) ∷ [])) (sym (ap (λ (s : ℕ). digit_at base s n) base_one ∙ digit_one base base n h))
  scaled_shift (suc f) n h =
      append_assoc (digit_at base (base ^ suc f) (n / base)) (scaled base f (n / base)) (digit_byte (n % base) ∷ [])
      ∙ ap (λ (x : Bytes). digit_at base (base ^ suc f) (n / base) ++ x) (scaled_shift f n h)
      ∙ ap (λ (x : Bytes). x ++ scaled base (suc f) n) (sym (digit_shift (base ^ suc f) n) ∙ ap (λ (s : ℕ). digit_at base s n) (sym (pow-suc base (suc f))))

  -- a number of at most f + 1 digits
  pub numeral_scaled : (f n : ℕ) → n < base ^ suc f → numeral base (suc f) n ≡ scaled base f n
  unfolding numeral
  numeral_scaled zero n h = let l : n < base = subst (λ (x : ℕ). n < x) base_one h in rw (lt-ltb n base l) (sym (scaled_small zero n l))
  numeral_scaled (suc f) n h =
      by_test (λ t. cond t (digit_byte n ∷ []) (numeral base (suc f) (n / base) ++ (digit_byte (n % base) ∷ [])) ≡ scaled base (suc f) n) (ltb n base)
      (λ e. sym (scaled_small (suc f) n (ltb-true n base e)))
      (λ e. ap (λ (x : Bytes). x ++ (digit_byte (n % base) ∷ [])) (numeral_scaled f (n / base) ((div-lt_iff_lt-mul (omega arith)).1 (subst (λ (x : ℕ). n < x) (pow-suc base (suc f)) h)))
      ∙ scaled_shift f n (ltb-false n base e))

-- five decimal digits, and four hex digits
pub decimal_scaled : (n : ℕ) → n < 65536 → decimal n ≡ scaled 10 4 n
unfolding decimal
decimal_scaled n h = numeral_scaled 10 (lit≤ tt) 4 n (omega arith)

pub hex_scaled : (n : ℕ) → n < 65536 → numeral 16 4 n ≡ scaled 16 3 n
hex_scaled n h = numeral_scaled 16 (lit≤ tt) 3 n h

-- how long they are, digit by digit
pub length_digit : (base scale n : ℕ) → length (digit_at base scale n) ≡ bool_byte (leb scale n)
length_digit base scale n =
    by_test (λ t. leb scale n ≡ t → length (digit_at base scale n) ≡ bool_byte t) (leb scale n)
    (λ e h. ap length (digit_one base scale n (leb-true scale n e)))
    (λ e h. ap length (digit_none base scale n (leb-false scale n e)))
    refl

pub length_decimal : (n : ℕ) → n < 65536
    → length (decimal n) ≡ length (digit_at 10 10000 n) + (length (digit_at 10 1000 n) + (length (digit_at 10 100 n) + (length (digit_at 10 10 n) + 1)))
unfolding scaled
length_decimal n h = ap length (decimal_scaled n h) ∙ simp length-append

pub length_hex : (n : ℕ) → n < 65536 → length (numeral 16 4 n) ≡ length (digit_at 16 4096 n) + (length (digit_at 16 256 n) + (length (digit_at 16 16 n) + 1))
unfolding scaled
length_hex n h = ap length (hex_scaled n h) ∙ simp length-append
