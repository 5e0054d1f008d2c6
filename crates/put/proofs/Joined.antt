-- The laws of joined texts, as a loop writes them.
use Prim.Native.Nat.{ℕ}
use mathlib.Core.Path.{◌≡◌, refl}
use mathlib.Core.List.{List, [], ◌∷◌, ◌++◌, map}
use Rattle.rules.specs.Bytes.{Bytes, concat, join}
use Rattle.rules.proofs.Escapes.{join_each}
use Rattle.put.specs.Joined.{further}

module _ {A : Type 0} (d : ℕ) (text : A → Bytes) where
  pub joined : (x : A) (xs : List A) → join d (map text (x ∷ xs)) ≡ text x ++ further d text xs
  unfolding further
  joined x xs = join_each d (text x) (map text xs)

  pub further_none : further d text [] ≡ []
  unfolding further concat
  further_none = refl

  pub further_step : (x : A) (xs : List A) → further d text (x ∷ xs) ≡ (d ∷ text x) ++ further d text xs
  unfolding further concat
  further_step x xs = refl
