-- What `lead_of` is on each range of lead bytes, by computing it at every byte of the range.
use Prim.Native.Nat.{ℕ, ◌+◌, ◌-◌, ◌≤◌, ◌<◌}
use native.Mathlib.Omega.{arith}
use mathlib.Core.Path.{◌≡◌, refl, subst}
use mathlib.Core.Bool.{Bool, true, false, ◌&&◌}
use lib.Dec.{eqb}
use borrow.Author.Tests.{eqb-true}
use Rattle.rules.specs.Utf8.{Lead, follow, wrong, lead_of}
use Rattle.rules.proofs.Tools.{never, and_left, and_right, all_below, below}
use Rattle.utf8.specs.Answers.{second_low, second_high}

abbrev same_lead : Lead → Lead → Bool
same_lead (follow a b c) (follow d e f) = eqb a d && (eqb b e && eqb c f)
same_lead (follow a b c) wrong = false
same_lead wrong (follow d e f) = false
same_lead wrong wrong = true

same_lead_lem : (x y : Lead) → same_lead x y ≡ true → x ≡ y
same_lead_lem (follow a b c) (follow d e f) t =
    let p : a ≡ d = eqb-true a d (and_left _ _ t) in
    let u = and_right (eqb a d) _ t in
    let q : b ≡ e = eqb-true b e (and_left _ _ u) in
    let r : c ≡ f = eqb-true c f (and_right (eqb b e) _ u) in
    λ i. follow (p i) (q i) (r i)
same_lead_lem (follow a b c) wrong t = never t
same_lead_lem wrong (follow d e f) t = never t
same_lead_lem wrong wrong t = refl

-- a test at each of the n bytes from lo on
abbrev on_range : (ℕ → Lead) → ℕ → ℕ → Bool
on_range f lo n = all_below n (λ i. same_lead (f (lo + i)) (lead_of (lo + i)))

on_range_lem : (f : ℕ → Lead) (lo n b : ℕ) → on_range f lo n ≡ true → lo ≤ b → b < lo + n → f b ≡ lead_of b
on_range_lem f lo n b t l h =
    let e : lo + (b - lo) ≡ b = omega arith in
    subst (λ (x : ℕ). f x ≡ lead_of x) e (same_lead_lem _ _ (below n (λ i. same_lead (f (lo + i)) (lead_of (lo + i))) t (b - lo) (omega arith)))

pub lead_none : (b : ℕ) → 0x80 ≤ b → b < 0xC2 → wrong ≡ lead_of b
unfolding lead_of
lead_none b l h = on_range_lem (λ _. wrong) 0x80 0x42 b refl l h

pub lead_two : (b : ℕ) → 0xC2 ≤ b → b < 0xE0 → follow 1 (second_low b) (second_high b) ≡ lead_of b
unfolding lead_of second_low second_high
lead_two b l h = on_range_lem (λ b. follow 1 (second_low b) (second_high b)) 0xC2 0x1E b refl l h

pub lead_three : (b : ℕ) → 0xE0 ≤ b → b < 0xF0 → follow 2 (second_low b) (second_high b) ≡ lead_of b
unfolding lead_of second_low second_high
lead_three b l h = on_range_lem (λ b. follow 2 (second_low b) (second_high b)) 0xE0 0x10 b refl l h

pub lead_four : (b : ℕ) → 0xF0 ≤ b → b < 0xF5 → follow 3 (second_low b) (second_high b) ≡ lead_of b
unfolding lead_of second_low second_high
lead_four b l h = on_range_lem (λ b. follow 3 (second_low b) (second_high b)) 0xF0 0x05 b refl l h

pub lead_over : (b : ℕ) → 0xF5 ≤ b → b < 0x100 → wrong ≡ lead_of b
unfolding lead_of
lead_over b l h = on_range_lem (λ _. wrong) 0xF5 0x0B b refl l h
