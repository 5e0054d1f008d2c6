-- The largest value of a digit is below the base where all are.
use Prim.Native.Nat.{ℕ, max}
use native.Mathlib.Omega.{arith}
use mathlib.Core.Path.{◌≡◌, sym, ap, ◌∙◌}
use mathlib.Core.Bool.{Bool, ◌&&◌, and-true, and_assoc}
use mathlib.Core.List.{[], ◌∷◌}
use lib.Dec.{ltb}
use borrow.Author.Tests.{lt-ltb, le-ltb, ltb-true, ltb-false}
use Rattle.std.specs.List.{fold, list_all}
use Rattle.rules.specs.Bytes.{Bytes}
use Rattle.rules.proofs.Tools.{by_test}
use Rattle.words.specs.Words.{value_of}

larger : (base a b : ℕ) → ltb (max a b) base ≡ (ltb a base && ltb b base)
larger base a b =
    by_test (λ t. ltb (max a b) base ≡ (t && ltb b base)) (ltb a base)
    (λ t. by_test (λ u. ltb (max a b) base ≡ u) (ltb b base) (λ u. lt-ltb _ _ (omega (arith, ltb-true a base t, ltb-true b base u))) (λ u. le-ltb _ _ (omega (arith, ltb-false b base u))))
    (λ f. le-ltb _ _ (omega (arith, ltb-false a base f)))

pub largest : (base m : ℕ) (w : Bytes) → ltb (fold (λ m c. max m (value_of c)) m w) base ≡ (ltb m base && list_all (λ c. ltb (value_of c) base) w)
largest base m [] = sym (and-true _)
largest base m (c ∷ w) =
    let all : Bool = list_all (λ c. ltb (value_of c) base) w in
    largest base (max m (value_of c)) w ∙ ap (λ (t : Bool). t && all) (larger base m (value_of c)) ∙ and_assoc (ltb m base) (ltb (value_of c) base) all
