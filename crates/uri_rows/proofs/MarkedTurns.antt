-- Texts after marks, as a loop writes and measures them: the first text after its mark, and then the others.
use Prim.Native.Nat.{ℕ}
use mathlib.Core.Path.{◌≡◌, refl}
use mathlib.Core.List.{List, [], ◌∷◌, ◌++◌}
use Rattle.rules.specs.Bytes.{Bytes}
use Rattle.rules.specs.Text.{Class, escape}
use Rattle.put.specs.Wrote.{Wrote}
use Rattle.put.proofs.Wrote.{Left, Next, Count, CountNext}
use Rattle.put.proofs.Turns.{turn_next, turn_count, turns_done, turns_counted}
use Rattle.uri_rows.proofs.Marked.{marked_each}

module _ (k : Class) (mark d : ℕ) where
  each : (t : Bytes) (ts : List Bytes) → marked_each k mark d (t ∷ ts) ≡ (mark ∷ escape k t) ++ marked_each k d d ts
  unfolding marked_each
  each t ts = refl

  none : marked_each k mark d [] ≡ []
  unfolding marked_each
  none = refl

  module _ {t : Bytes} {left others : List Bytes} (e : left ≡ t ∷ others) where
    pub marked_next : {room room₀ w₀ : Bytes} {o at : ℕ} → Left room o (marked_each k mark d left) room₀ at w₀
        → Next room o (mark ∷ escape k t) (marked_each k d d others) room₀ at w₀
    marked_next = turn_next (marked_each k mark d) (marked_each k d d) (λ (t : Bytes). mark ∷ escape k t) each e

    pub marked_count : {p m : ℕ} → Count p (marked_each k mark d left) m → CountNext p (mark ∷ escape k t) (marked_each k d d others) m
    marked_count = turn_count (marked_each k mark d) (marked_each k d d) (λ (t : Bytes). mark ∷ escape k t) each e

  module _ {left : List Bytes} (e : left ≡ []) where
    pub marked_done : {room room₀ w₀ : Bytes} {o at : ℕ} → Left room o (marked_each k mark d left) room₀ at w₀ → Wrote room₀ at w₀ room o
    marked_done = turns_done (marked_each k mark d) none e

    pub marked_counted : {p m : ℕ} → Count p (marked_each k mark d left) m → p ≡ m
    marked_counted = turns_counted (marked_each k mark d) none e
