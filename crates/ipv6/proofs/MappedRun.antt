-- An IPv4-mapped address by its groups: its longest run of zeros is that of the first five, and the next one is ffff.
use Prim.Native.Nat.{ℕ, suc, ◌+◌, ◌*◌, ◌-◌, ◌≤◌}
use native.Mathlib.Omega.{arith}
use mathlib.Core.Path.{◌≡◌, refl, sym, ap, ◌∙◌}
use mathlib.Core.Bool.{true, false}
use mathlib.Core.List.{List, [], ◌∷◌, ◌++◌}
use lib.ListN.{length, get_or, drop, replicate, take, length-drop}
use lib.Seq.{drop-cons}
use lib.Dec.{leb, eqb}
use borrow.Author.Tests.{eq-eqb, ne_eqb, le-leb}
use Rattle.rules.specs.Bytes.{Bytes, Octets}
use Rattle.rules.specs.Address.{groups, zeros_ahead, longest, mapped_start, mapped}
use Rattle.rules.specs.ReadAddress.{ungroup}
use Rattle.rules.proofs.Tools.{by_test, cond_split}
use Rattle.rules.proofs.Addresses.{length_groups, ungroup_groups, longest_whole, mapped_whole}
use Rattle.ipv6.specs.declared.Zeros.{Zeros}
use Rattle.ipv6.specs.Zeros.{ahead, zeros, with_group, zeros_from}
use Rattle.ipv6.proofs.ZeroRuns.{Found, found, ahead_more, walk_here}

-- a group more, and no run is longer than n
run_most : (n k g : ℕ) (gs : List ℕ) → (zeros_from (suc k) gs).size ≤ n → zeros_ahead (g ∷ gs) ≤ n → (zeros_from k (g ∷ gs)).size ≤ n
unfolding zeros_from with_group
run_most n k g gs h l =
    let z : Zeros = zeros_from (suc k) gs in
    let a : ahead z.here g ≡ zeros_ahead (g ∷ gs) = ahead_more g gs z.here (found (suc k) gs).leading in
    cond_split (λ (x : Zeros). x.size ≤ n) (leb z.size (ahead z.here g)) (λ _. omega arith) (λ _. h)

-- whatever the last two groups are, no run is longer than that of the first five
mapped_zeros : (x y : ℕ) → zeros_from 0 (0 ∷ 0 ∷ 0 ∷ 0 ∷ 0 ∷ 0xffff ∷ x ∷ y ∷ []) ≡ zeros 5 0 5
unfolding zeros_from zeros_ahead
mapped_zeros x y =
    let last : List ℕ = 0xffff ∷ x ∷ y ∷ [] in
    let f : Found 5 last (zeros_from 5 last) = found 5 last in
    let few : (zeros_from 5 last).size ≤ 4 = omega (arith, f.from, f.inside) in
    let z : Zeros = zeros_from 1 (0 ∷ 0 ∷ 0 ∷ 0 ∷ last) in
    let most : z.size ≤ 4 =
    run_most 4 1 0 (0 ∷ 0 ∷ 0 ∷ last) (run_most 4 2 0 (0 ∷ 0 ∷ last) (run_most 4 3 0 (0 ∷ last) (run_most 4 4 0 last few (omega arith)) (omega arith)) (omega arith)) (omega arith) in
    let here : z.here ≡ 4 = (found 1 (0 ∷ 0 ∷ 0 ∷ 0 ∷ last)).leading in
    walk_here 0 0 z (le-leb z.size (suc z.here) (omega arith)) ∙ ap (λ (n : ℕ). zeros (suc n) 0 (suc n)) here

-- the run of zeros, and the group after it
abbrev Run5 : List ℕ → Type 0
Run5 gs = (zeros_from 0 gs ≡ zeros 5 0 5) × (get_or gs 5 0 ≡ 0xffff)

four_more : (t : Bytes) → length t ≡ 4 → Run5 (groups (mapped_start ++ t))
unfolding groups
four_more (a ∷ b ∷ c ∷ d ∷ []) e = (mapped_zeros (a * 256 + b) (c * 256 + d), refl)
four_more [] e = absurd (omega arith)
four_more (a ∷ []) e = absurd (omega arith)
four_more (a ∷ b ∷ []) e = absurd (omega arith)
four_more (a ∷ b ∷ c ∷ []) e = absurd (omega arith)
four_more (a ∷ b ∷ c ∷ d ∷ x ∷ t) e = absurd (omega arith)

-- an address whose longest run of zeros was found
module _ (bs : Bytes) (e : length bs ≡ 16) (h : Octets bs) (z : Zeros) (is : z ≡ zeros_from 0 (groups bs)) where
  mapped_run : mapped bs ≡ true → (z.at ≡ 0) × (z.size ≡ 5) × (get_or (groups bs) 5 0 ≡ 0xffff)
  mapped_run m =
      let r : Run5 (groups bs) = rw (mapped_whole bs m) at (four_more (drop 12 bs) (omega (arith, length-drop 12 bs))) in
      let w : z ≡ zeros 5 0 5 = is ∙ r.0 in
      (ap (λ (x : Zeros). x.at) w, ap (λ (x : Zeros). x.size) w, r.1)

  run_mapped : z.at ≡ 0 → z.size ≡ 5 → get_or (groups bs) 5 0 ≡ 0xffff → mapped bs ≡ true
  unfolding mapped ungroup
  run_mapped a s g =
      let gs : List ℕ = groups bs in
      let f : Found 0 gs z = rw is (found 0 gs) in
      let n : length gs ≡ 8 = length_groups 8 bs e in
      let left : (longest gs).left ≡ [] = f.left ∙ ap (λ (n : ℕ). take (n - 0) gs) a in
      let size : (longest gs).size ≡ 5 = f.size ∙ s in
      let after : z.at - 0 + z.size ≡ 5 = omega arith in
      let right : (longest gs).right ≡ 0xffff ∷ drop 6 gs =
      f.right ∙ ap (λ (n : ℕ). drop n gs) after ∙ drop-cons gs 5 0 (omega arith) ∙ ap (λ (x : ℕ). x ∷ drop 6 gs) g in
      let five : (longest gs).left ++ (replicate (longest gs).size 0 ++ (longest gs).right) ≡ replicate 5 0 ++ (0xffff ∷ drop 6 gs) = rw (left, size, right) in
      ap mapped (sym (ungroup_groups 8 bs e h) ∙ ap ungroup (sym (longest_whole gs) ∙ five))

  -- the walk for the longest run would tell it too
  pub mapped_five : get_or (groups bs) 5 0 ≡ 0xffff → z.at ≡ 0 → eqb z.size 5 ≡ mapped bs
  mapped_five g a =
      by_test (λ t. mapped bs ≡ t → eqb z.size 5 ≡ t) (mapped bs)
      (λ m _. eq-eqb _ _ (mapped_run m).1)
      (λ m _. ne_eqb _ _ (λ s. let q = run_mapped a s g in let o : ◌≡◌ {A = ℕ} 0 1 = cc in omega arith)) refl

  pub mapped_not : ((get_or (groups bs) 5 0 ≡ 0xffff) × (z.at ≡ 0) → ⊥) → false ≡ mapped bs
  mapped_not k =
      by_test (λ t. mapped bs ≡ t → false ≡ t) (mapped bs) (λ m _. absurd (k ((mapped_run m).2, (mapped_run m).0))) (λ _ _. refl) refl
