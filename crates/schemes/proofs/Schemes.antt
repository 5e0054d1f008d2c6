-- Scheme numbers and the negative integers that carry them: what the code computes at 64 bits, and the way there and back.
use Rattle.std.specs.Prelude.{Some, None}
use Prim.Native.Nat.{ℕ, zero, suc, ◌≤◌, ◌<◌, ◌^◌}
use native.Mathlib.Omega.{arith}
use mathlib.Core.Path.{◌≡◌, refl, sym, ap, ◌∙◌, subst}
use mathlib.Core.Bool.{Bool, true, false, cond}
use lib.IntN.{ℤ, pos, negsuc, nat_abs, neg_ℤ, ◌+ℤ◌, ◌-ℤ◌, +ℤ_one, -ℤ_one, +ℤ_idl, neg_ℤ-neg_ℤ}
use lib.Dec.{T, ltb}
use lib.Signed.{non_neg, lt_z}
use borrow.Author.Tests.{ltb-true, lt-ltb, le-ltb}
use mir.Syntax.{w64}
use mir.Val.{SFits, Fits, to_z, of_z}
use mir.Facts.{to_z-of_z}
use Rattle.rules.proofs.Tools.{cond_yes, cond_no}
use Rattle.schemes.specs.Schemes.{Below, scheme_id, scheme_number}

-- ---- the ends, and the way there and back

-- -1 carries the number 0, and -10 the number 9
pub ends : (scheme_number (negsuc 0) ≡ Some 0) × (scheme_number (negsuc 9) ≡ Some 9)
ends = (refl, refl)

-- 64 bits hold -1 - n for each n below 2^63
pub id_fits : (n : ℕ) → n < 2 ^ 63 → Some (negsuc n) ≡ scheme_id n
id_fits n h = sym (cond_yes (ltb n (2 ^ 63)) _ _ (lt-ltb n (2 ^ 63) h))

pub id_too_large : (n : ℕ) → 2 ^ 63 ≤ n → None ≡ scheme_id n
id_too_large n h = sym (cond_no (ltb n (2 ^ 63)) _ _ (le-ltb n (2 ^ 63) h))

-- what the integer of a number is, and that 64 bits hold it
pub id_is : (n : ℕ) (z : ℤ) → scheme_id n ≡ Some z → (z ≡ negsuc n) × (n < 2 ^ 63)
id_is n z e = of (ltb n (2 ^ 63)) refl e
  where
    of : (t : Bool) → ltb n (2 ^ 63) ≡ t → cond t (Some (negsuc n)) None ≡ Some z
        → (z ≡ negsuc n) × (n < 2 ^ 63)
    of true h e = (cc, ltb-true n (2 ^ 63) h)
    of false h e = let q : ◌≡◌ {A = ℕ} 0 1 = cc in absurd (omega arith)

-- the same of the integer as the code hands it on
pub id_read : (n : ℕ) (z : ℤ) → scheme_id n ≡ Some z → to_z w64 (of_z w64 z) ≡ negsuc n
id_read n z e = rw (id_is n z e).0 (to_z-of_z {w = w64} {z = negsuc n} (record { sfits = (id_is n z e).1 }))

-- a number comes back from the integer that carries it
pub number_back : (n : ℕ) (z : ℤ) → scheme_id n ≡ Some z → scheme_number z ≡ Some n
number_back n z e = ap scheme_number (id_is n z e).0

module _ (n : ℕ) (z : ℤ) (e : scheme_id n ≡ Some z) where
  read : scheme_number (to_z w64 (of_z w64 z)) ≡ Some n
  read = ap scheme_number (id_read n z e)

  pub number_read : (m : ℕ) → scheme_number (to_z w64 (of_z w64 z)) ≡ Some m → m ≡ n
  number_read m h = let q : Some n ≡ Some m = sym read ∙ h in cc

  pub negative_read : scheme_number (to_z w64 (of_z w64 z)) ≡ None → ⊥
  negative_read h =
      let q : Some n ≡ None = sym read ∙ h in
      let x : ◌≡◌ {A = ℕ} 0 1 = cc in
      omega arith

-- an integer of 64 bits comes back from the number that it carries
pub id_back : (z : ℤ) (n : ℕ) → SFits w64 z → scheme_number z ≡ Some n → scheme_id n ≡ Some z
id_back (negsuc m) n f e = let q : m ≡ n = cc in ap scheme_id (sym q) ∙ sym (id_fits m f.sfits)
id_back (pos m) n f e = let q : ◌≡◌ {A = ℕ} 0 1 = cc in absurd (omega arith)

-- ---- at 64 bits

-- -n fits where n does
pub negated_fits : (n : ℕ) → n < 2 ^ 63 → SFits w64 (neg_ℤ (pos n))
negated_fits zero h = record { sfits = omega arith }
negated_fits (suc n) h = record { sfits = omega arith }

-- (-1 - n) + 1 is -n, and -n - 1 is -1 - n
inc : (n : ℕ) → negsuc n +ℤ pos 1 ≡ neg_ℤ (pos n)
inc zero = refl
inc (suc n) = +ℤ_one (negsuc (suc n))

dec : (n : ℕ) → neg_ℤ (pos n) -ℤ pos 1 ≡ negsuc n
dec zero = refl
dec (suc n) = -ℤ_one (negsuc n)

minus : (x : ℤ) → pos 0 -ℤ x ≡ neg_ℤ x
minus x = +ℤ_idl (neg_ℤ x)

module _ (n : ℕ) (h : n < 2 ^ 63) where
  up : to_z w64 (of_z w64 (negsuc n)) +ℤ pos 1 ≡ neg_ℤ (pos n)
  up = ap (λ (z : ℤ). z +ℤ pos 1) (to_z-of_z {w = w64} {z = negsuc n} (record { sfits = h })) ∙ inc n

  over : pos 0 -ℤ to_z w64 (of_z w64 (to_z w64 (of_z w64 (negsuc n)) +ℤ pos 1)) ≡ pos n
  over =
      ap (λ (z : ℤ). pos 0 -ℤ to_z w64 (of_z w64 z)) up
      ∙ ap (λ (z : ℤ). pos 0 -ℤ z) (to_z-of_z {w = w64} (negated_fits n h))
      ∙ minus (neg_ℤ (pos n))
      ∙ neg_ℤ-neg_ℤ (pos n)

  over_read : to_z w64 (of_z w64 (pos 0 -ℤ to_z w64 (of_z w64 (to_z w64 (of_z w64 (negsuc n)) +ℤ pos 1)))) ≡ pos n
  over_read = ap (λ (z : ℤ). to_z w64 (of_z w64 z)) over ∙ to_z-of_z {w = w64} {z = pos n} (record { sfits = h })

  -- -n, and -n - 1, as the code computes them of n
  pub down : pos 0 -ℤ to_z w64 n ≡ neg_ℤ (pos n)
  down = ap (λ (z : ℤ). pos 0 -ℤ z) (to_z-of_z {w = w64} {z = pos n} (record { sfits = h })) ∙ minus (pos n)

  pub under : to_z w64 (of_z w64 (pos 0 -ℤ to_z w64 n)) -ℤ pos 1 ≡ negsuc n
  under = ap (λ (z : ℤ). to_z w64 (of_z w64 z) -ℤ pos 1) down ∙ ap (λ (z : ℤ). z -ℤ pos 1) (to_z-of_z {w = w64} (negated_fits n h)) ∙ dec n

  pub under_read : to_z w64 (of_z w64 (to_z w64 (of_z w64 (pos 0 -ℤ to_z w64 n)) -ℤ pos 1)) ≡ negsuc n
  under_read = ap (λ (z : ℤ). to_z w64 (of_z w64 z)) under ∙ to_z-of_z {w = w64} {z = negsuc n} (record { sfits = h })

-- z + 1, and -z, as the code computes them
abbrev one_more : ℤ → ℤ
one_more z = to_z w64 (of_z w64 z) +ℤ pos 1

abbrev negated : ℤ → ℤ
negated z = pos 0 -ℤ to_z w64 (of_z w64 z)

pub add_fits : (z : ℤ) → Below z → SFits w64 z → SFits w64 (one_more z)
add_fits (negsuc n) b f = subst (SFits w64) (sym (up n f.sfits)) (negated_fits n f.sfits)
add_fits (pos _) b f = elim b [ ]

pub sub_fits : (z : ℤ) → Below z → SFits w64 z → SFits w64 (negated (one_more z))
sub_fits (negsuc n) b f = subst (SFits w64) (sym (over n f.sfits)) (record { sfits = f.sfits })
sub_fits (pos _) b f = elim b [ ]

pub cast_fits : (z : ℤ) → Below z → SFits w64 z → T (non_neg (to_z w64 (of_z w64 (negated (one_more z))))) × Fits w64 (nat_abs (to_z w64 (of_z w64 (negated (one_more z)))))
cast_fits (negsuc n) b f = rw (over_read n f.sfits) (tt, record { fits = omega (arith, f.sfits) })
cast_fits (pos _) b f = elim b [ ]

pub carried : (z : ℤ) → Below z → SFits w64 z → z ≡ negsuc (nat_abs (to_z w64 (of_z w64 (negated (one_more z)))))
carried (negsuc n) b f = rw (over_read n f.sfits)
carried (pos _) b f = elim b [ ]

-- the test of the sign
pub below : (z : ℤ) → lt_z z (pos 0) ≡ true → Below z
below (negsuc n) h = tt
below (pos n) h = omega (arith, ltb-true n 0 h)

pub not_below : (z : ℤ) → lt_z z (pos 0) ≡ false → None ≡ scheme_number z
not_below (pos n) h = refl
not_below (negsuc n) h = cc
