-- One turn of a loop over a list that writes something of each element, and of one that measures it: `f` is all of it, `g` what the first
-- element gives, `f'` the rest. `left` is what is left of the list.
use Prim.Native.Nat.{ℕ}
use native.Mathlib.Omega.{arith}
use mathlib.Core.Path.{◌≡◌, ap, ◌∙◌}
use mathlib.Core.List.{List, [], ◌∷◌, ◌++◌}
use lib.ListN.{length, length-append}
use Rattle.rules.specs.Bytes.{Bytes}
use Rattle.put.proofs.Wrote.{Left, Next, Count, CountNext, left_done}
use Rattle.put.specs.Wrote.{Wrote}

module _ {A : Type 0} (f f' : List A → Bytes) (g : A → Bytes) (each : (x : A) (xs : List A) → f (x ∷ xs) ≡ g x ++ f' xs)
    {x : A} {left others : List A} (e : left ≡ x ∷ others) where
  turn : f left ≡ g x ++ f' others
  turn = ap f e ∙ each x others

  pub turn_next : {room room₀ w₀ : Bytes} {o at : ℕ} → Left room o (f left) room₀ at w₀ → Next room o (g x) (f' others) room₀ at w₀
  turn_next l = record { left = rw turn at l }

  pub turn_count : {p m : ℕ} → Count p (f left) m → CountNext p (g x) (f' others) m
  turn_count c = record { sum = omega (arith, ap length turn, length-append (g x) (f' others), c.sum) }

-- nothing is left
module _ {A : Type 0} (f : List A → Bytes) (none : f [] ≡ []) {left : List A} (e : left ≡ []) where
  pub turns_done : {room room₀ w₀ : Bytes} {o at : ℕ} → Left room o (f left) room₀ at w₀ → Wrote room₀ at w₀ room o
  turns_done l = left_done (rw (ap f e ∙ none) at l)

  pub turns_counted : {p m : ℕ} → Count p (f left) m → p ≡ m
  turns_counted c = omega (arith, ap length (ap f e ∙ none), c.sum)
