-- The text of an address in hex groups, in the pieces that the code writes.
use Prim.Native.Nat.{ℕ, ◌+◌, ◌*◌, ◌-◌, ◌≤◌, ◌<◌}
use native.Mathlib.Omega.{arith}
use mathlib.Core.Path.{◌≡◌, refl, sym, ap, ap₂, ◌∙◌}
use mathlib.Core.List.{List, [], ◌∷◌, ◌++◌}
use lib.ListN.{length, get_or, take, drop, length-append, length-drop}
use lib.Seq.{take_all}
use borrow.Author.Tests.{le-leb, lt-leb}
use Rattle.rules.specs.Bytes.{Bytes, colon, join}
use Rattle.rules.specs.Numeral.{numeral}
use Rattle.rules.specs.Address.{groups, longest, hex_groups, hex_text}
use Rattle.rules.proofs.Tools.{cond_yes, cond_no}
use Rattle.rules.proofs.Numerals.{numeral_length}
use Rattle.put.specs.Joined.{further}
use Rattle.put.proofs.Joined.{joined, further_none, further_step}
use Rattle.ipv6.specs.Zeros.{zeros_from}
use Rattle.ipv6.specs.declared.Zeros.{Zeros}
use Rattle.ipv6.proofs.Groups.{eight_groups}
use Rattle.ipv6.proofs.ZeroRuns.{Found, found}

pub no_groups : (gs : List ℕ) → length gs < 1 → hex_groups gs ≡ []
unfolding hex_groups join
no_groups [] h = refl
no_groups (g ∷ gs) h = absurd (omega arith)

-- the first, and each further one after a ":"
pub some_groups : (gs : List ℕ) → 1 ≤ length gs → hex_groups gs ≡ numeral 16 4 (get_or gs 0 0) ++ further colon (numeral 16 4) (drop 1 gs)
unfolding hex_groups
some_groups [] h = absurd (omega arith)
some_groups (g ∷ gs) h = joined colon (numeral 16 4) g gs

-- how long groups are at most
pub further_most : (gs : List ℕ) → length (further colon (numeral 16 4) gs) ≤ 5 * length gs
further_most [] = omega (arith, ap length (further_none colon (numeral 16 4)))
further_most (g ∷ gs) =
    omega (
      arith,
      ap length (further_step colon (numeral 16 4) g gs),
      length-append (numeral 16 4 g) (further colon (numeral 16 4) gs),
      numeral_length 16 4 g,
      further_most gs,
    )

pub groups_most : (gs : List ℕ) → length (hex_groups gs) ≤ 5 * length gs
groups_most [] = omega (arith, ap length (no_groups [] (omega arith)))
groups_most (g ∷ gs) =
    let h : 1 ≤ length (g ∷ gs) = omega arith in
    omega (
      arith,
      ap length (some_groups (g ∷ gs) h),
      length-append (numeral 16 4 g) (further colon (numeral 16 4) gs),
      numeral_length 16 4 g,
      further_most gs,
    )

-- the text of an address whose longest run of zeros was found: there is no run to leave out, or there is one
module _ (bs : Bytes) (gs : List ℕ) (z : Zeros) (h : length bs ≡ 16) (e : gs ≡ groups bs) (is : z ≡ zeros_from 0 gs) where
  -- the groups before the run, and those after it
  abbrev left : Bytes
  left = hex_groups (take z.at gs)

  abbrev right : Bytes
  right = hex_groups (take (8 - (z.at + z.size)) (drop (z.at + z.size) gs))

  run : Found 0 gs z
  run = rw is (found 0 gs)

  pub text_whole : z.size < 2 → hex_text bs ≡ hex_groups gs
  unfolding hex_text
  text_whole l = rw (← e) (cond_no _ _ _ (lt-leb 2 (longest gs).size (omega (arith, run.size))))

  pub text_cut : 2 ≤ z.size → hex_text bs ≡ left ++ ((colon ∷ colon ∷ []) ++ right)
  unfolding hex_text
  text_cut l =
      let first : z.at - 0 ≡ z.at = omega arith in
      let rest : z.at - 0 + z.size ≡ z.at + z.size = omega arith in
      let all : take (8 - (z.at + z.size)) (drop (z.at + z.size) gs) ≡ drop (z.at + z.size) gs =
      take_all (8 - (z.at + z.size)) (drop (z.at + z.size) gs) (omega (arith, length-drop (z.at + z.size) gs, ap length e, eight_groups bs h)) in
      rw (← e) (
      cond_yes _ _ _ (le-leb 2 (longest gs).size (omega (arith, run.size)))
      ∙ ap₂ (λ (a b : List ℕ). hex_groups a ++ (colon ∷ colon ∷ hex_groups b))
      (run.left ∙ ap (λ (n : ℕ). take n gs) first)
      (run.right ∙ ap (λ (n : ℕ). drop n gs) rest ∙ sym all))

  pub whole_length : z.size < 2 → length (hex_text bs) ≡ length (hex_groups gs)
  whole_length l = ap length (text_whole l)

  pub cut_length : 2 ≤ z.size → length (hex_text bs) ≡ length left + (2 + length right)
  cut_length l = omega (arith, ap length (text_cut l), length-append left ((colon ∷ colon ∷ []) ++ right))
