-- The longest run of zero groups is where the walk from the last group to the first finds it.
use Prim.Native.Nat.{ℕ, suc, ◌+◌, ◌-◌, ◌≤◌, ◌<◌}
use native.Mathlib.Omega.{arith}
use mathlib.Core.Path.{◌≡◌, refl, sym, ap, ap₂, ◌∙◌, subst}
use mathlib.Core.Bool.{Bool, true, false}
use mathlib.Core.List.{List, [], ◌∷◌}
use lib.ListN.{length, get_or, take, drop}
use lib.Seq.{take-nil, drop-nil, drop-cons}
use lib.Dec.{leb, eqb}
use Rattle.rules.specs.Address.{zeros_ahead, Run, run_here, run_later, longer, longest}
use Rattle.rules.proofs.Tools.{cond_split, cond_yes, cond_no}
use Rattle.ipv6.specs.declared.Zeros.{Zeros}
use Rattle.ipv6.specs.Zeros.{zeros, ahead, with_group, zeros_from}

-- z says of the groups gs, the first of which is group k, what their definitions do
pub record Found (k : ℕ) (gs : List ℕ) (z : Zeros) : Type 0 where
  pub leading : z.here ≡ zeros_ahead gs
  pub from : k ≤ z.at
  pub inside : z.at + z.size ≤ k + length gs
  pub size : (longest gs).size ≡ z.size
  pub left : (longest gs).left ≡ take (z.at - k) gs
  pub right : (longest gs).right ≡ drop (z.at - k + z.size) gs

zeros_le : (gs : List ℕ) → zeros_ahead gs ≤ length gs
unfolding zeros_ahead
zeros_le [] = omega arith
zeros_le (g ∷ gs) = cond_split (λ n. n ≤ suc (length gs)) (eqb g 0) (λ _. omega (arith, zeros_le gs)) (λ _. omega arith)

-- how the definitions, and the walk, take one group more
module _ (g : ℕ) (gs : List ℕ) where
  pub ahead_more : (here : ℕ) → here ≡ zeros_ahead gs → ahead here g ≡ zeros_ahead (g ∷ gs)
  unfolding zeros_ahead
  ahead_more here e = ap (λ (n : ℕ). ahead n g) e

  longest_here : leb (longest gs).size (zeros_ahead (g ∷ gs)) ≡ true → longest (g ∷ gs) ≡ run_here (g ∷ gs)
  unfolding longest longer run_here run_later
  longest_here e = cond_yes _ _ _ e

  longest_later : leb (longest gs).size (zeros_ahead (g ∷ gs)) ≡ false → longest (g ∷ gs) ≡ run_later g (longest gs)
  unfolding longest longer run_here run_later
  longest_later e = cond_no _ _ _ e

module _ (k g : ℕ) (z : Zeros) where
  pub walk_here : leb z.size (ahead z.here g) ≡ true → with_group k g z ≡ zeros (ahead z.here g) k (ahead z.here g)
  unfolding with_group
  walk_here e = cond_yes _ _ _ e

  pub walk_later : leb z.size (ahead z.here g) ≡ false → with_group k g z ≡ zeros (ahead z.here g) z.at z.size
  unfolding with_group
  walk_later e = cond_no _ _ _ e

module _ (k g : ℕ) (gs : List ℕ) (z : Zeros) (f : Found (suc k) gs z) where
  new : ahead z.here g ≡ zeros_ahead (g ∷ gs)
  new = ahead_more g gs z.here f.leading

  -- both compare the same two numbers
  same_test : leb (longest gs).size (zeros_ahead (g ∷ gs)) ≡ leb z.size (ahead z.here g)
  same_test = ap₂ leb f.size (sym new)

  at_first : leb z.size (ahead z.here g) ≡ true → Found k (g ∷ gs) (zeros (ahead z.here g) k (ahead z.here g))
  unfolding run_here
  at_first e =
      let r = longest_here g gs (same_test ∙ e) in
      let zero-off : 0 ≡ k - k = omega arith in
      let all : zeros_ahead (g ∷ gs) ≡ k - k + ahead z.here g = omega (arith, new) in
      record {
        leading = new;
        from = omega arith;
        inside = omega (arith, new, zeros_le (g ∷ gs));
        size = ap (λ (x : Run). x.size) r ∙ sym new;
        left = ap (λ (x : Run). x.left) r ∙ ap (λ (n : ℕ). take n (g ∷ gs)) zero-off;
        right = ap (λ (x : Run). x.right) r ∙ ap (λ (n : ℕ). drop n (g ∷ gs)) all;
      }

  at_later : leb z.size (ahead z.here g) ≡ false → Found k (g ∷ gs) (zeros (ahead z.here g) z.at z.size)
  unfolding run_later
  at_later e =
      let r = longest_later g gs (same_test ∙ e) in
      let off : suc (z.at - suc k) ≡ z.at - k = omega (arith, f.from) in
      let far : suc (z.at - suc k + z.size) ≡ z.at - k + z.size = omega (arith, f.from) in
      record {
        leading = new;
        from = omega (arith, f.from);
        inside = omega (arith, f.inside);
        size = ap (λ (x : Run). x.size) r ∙ f.size;
        left = ap (λ (x : Run). x.left) r ∙ ap (λ (l : List ℕ). g ∷ l) f.left ∙ ap (λ (n : ℕ). take n (g ∷ gs)) off;
        right = ap (λ (x : Run). x.right) r ∙ f.right ∙ ap (λ (n : ℕ). drop n (g ∷ gs)) far;
      }

  found_more : Found k (g ∷ gs) (with_group k g z)
  found_more = by (leb z.size (ahead z.here g)) refl
    where
      by : (t : Bool) → leb z.size (ahead z.here g) ≡ t → Found k (g ∷ gs) (with_group k g z)
      by true e = subst (Found k (g ∷ gs)) (sym (walk_here k g z e)) (at_first e)
      by false e = subst (Found k (g ∷ gs)) (sym (walk_later k g z e)) (at_later e)

pub found : (k : ℕ) (gs : List ℕ) → Found k gs (zeros_from k gs)
unfolding zeros_from longest run_here zeros_ahead
found k [] = record {
  leading = refl;
  from = omega arith;
  inside = omega arith;
  size = refl;
  left = sym (take-nil (k - k));
  right = sym (drop-nil (k - k + 0));
}
found k (g ∷ gs) = found_more k g gs (zeros_from (suc k) gs) (found (suc k) gs)

-- one turn of the walk: from the groups from k on to those from k - 1 on
pub walk_turn : (gs : List ℕ) (k : ℕ) → 0 < k → k ≤ length gs → with_group (k - 1) (get_or gs (k - 1) 0) (zeros_from k (drop k gs)) ≡ zeros_from (k - 1) (drop (k - 1) gs)
unfolding zeros_from
walk_turn gs k l h =
    let e : k ≡ suc (k - 1) = omega arith in
    sym (ap (zeros_from (k - 1)) (drop-cons gs (k - 1) 0 (omega arith)) ∙ ap (λ (j : ℕ). with_group (k - 1) (get_or gs (k - 1) 0) (zeros_from j (drop j gs))) (sym e))

pub walk_ahead : (k : ℕ) (gs : List ℕ) → (zeros_from k gs).here ≤ length gs
walk_ahead k gs = omega (arith, (found k gs).leading, zeros_le gs)

pub run_inside : (gs : List ℕ) → (zeros_from 0 gs).at + (zeros_from 0 gs).size ≤ length gs
run_inside gs = omega (arith, (found 0 gs).inside)
