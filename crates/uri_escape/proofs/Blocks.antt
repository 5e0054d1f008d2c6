-- A test of all bytes of a text, and of the m bytes of it from k on.
use Prim.Native.Nat.{ℕ, ◌+◌, ◌-◌, ◌≤◌, ◌<◌}
use native.Mathlib.Omega.{arith}
use mathlib.Core.Path.{◌≡◌, refl, sym, ◌∙◌}
use mathlib.Core.Bool.{Bool, true, false}
use mathlib.Core.Logic.{inl, inr}
use lib.ListN.{length, get_or, take, drop, length-drop}
use Rattle.std.proofs.lemmas.Bool.{cases_lt}
use Rattle.std.proofs.lemmas.List.{get_or-take, get_or-drop, length-take-le}
use Rattle.std.proofs.lemmas.List.Recursion.{and_at, and_from_places}
use Rattle.rules.specs.Bytes.{Bytes, all}
use Rattle.rules.proofs.Tools.{by_test}

module _ (p : ℕ → Bool) (s : Bytes) where
  all_places : ((i : ℕ) → i < length s → p (get_or s i 0) ≡ true) → all p s ≡ true
  unfolding all
  all_places h = and_from_places (all p) p refl (λ _ _. refl) s 0 h

  module _ (k m : ℕ) (h : k + m ≤ length s) where
    size : length (take m (drop k s)) ≡ m
    size = length-take-le m (drop k s) (omega (arith, length-drop k s))

    place : (i : ℕ) → i < m → get_or (take m (drop k s)) i 0 ≡ get_or s (k + i) 0
    place i l = get_or-take m (drop k s) i 0 l ∙ get_or-drop k s i 0

    block_places : all p (take m (drop k s)) ≡ true → (i : ℕ) → k ≤ i → i < k + m → p (get_or s i 0) ≡ true
    unfolding all
    block_places e i l g =
        let a : i ≡ k + (i - k) = omega arith in
        rw (a, ← place (i - k) (omega arith)) (and_at (all p) p refl (λ _ _. refl) (take m (drop k s)) (i - k) 0 (omega (arith, size)) e)

    pub all_not : all p (take m (drop k s)) ≡ false → all p s ≡ false
    unfolding all
    all_not e =
        by_test (λ t. t ≡ false) (all p s)
        (λ t. sym (and_from_places (all p) p refl (λ _ _. refl) (take m (drop k s)) 0
        (λ i l. rw (place i (omega (arith, size))) (and_at (all p) p refl (λ _ _. refl) s (k + i) 0 (omega (arith, size)) t))) ∙ e)
        (λ t. refl)

    -- where the first k pass too
    pub all_more : ((i : ℕ) → i < k → p (get_or s i 0) ≡ true) → all p (take m (drop k s)) ≡ true → (i : ℕ) → i < k + m → p (get_or s i 0) ≡ true
    all_more before e i g = elim (cases_lt i k) [ inl a ↦ before i a | inr b ↦ block_places e i b g ]

    pub all_last : length s ≤ k + m → ((i : ℕ) → i < k → p (get_or s i 0) ≡ true) → all p (take m (drop k s)) ≡ all p s
    all_last g before =
        by_test (λ t. t ≡ all p s) (all p (take m (drop k s)))
        (λ e. sym (all_places (λ i l. all_more before e i (omega arith))))
        (λ e. sym (all_not e))
