-- Steps of a walk over the bytes of a text: what is left of it is judged as the whole is.
use Prim.Native.Nat.{ℕ, zero, suc, max, ◌+◌, ◌-◌, ◌≤◌, ◌<◌}
use native.Mathlib.Omega.{arith}
use mathlib.Core.Path.{◌≡◌, refl, sym, ap, ◌∙◌}
use mathlib.Core.Bool.{Bool, true, false, cond, ◌&&◌, and-true, and-false, and_assoc}
use mathlib.Core.List.{[], ◌∷◌, ◌++◌}
use lib.ListN.{length, get_or, take, drop, length-drop, take-append-drop}
use lib.Seq.{drop-drop}
use lib.Dec.{ltb, eqb}
use borrow.Author.Tests.{lt-ltb, le-ltb, ltb-true, ltb-false, ne_eqb}
use Rattle.std.specs.List.{fold}
use Rattle.std.proofs.Common.{◌⊎◌, inl, inr}
use Rattle.std.proofs.lemmas.List.{append-nil}
use Rattle.rules.specs.Bytes.{Bytes, within, all}
use Rattle.rules.specs.Utf8.{follow, wrong, lead_of, lead_from, after_lead, utf8_from, utf8}
use Rattle.rules.proofs.Tools.{by_test, and_left, and_right}
use Rattle.utf8.specs.Answers.{is_ascii, second_low, second_high, follows, Passed, Suffix, NoMultibyte}
use Rattle.utf8.proofs.Leads.{lead_none, lead_two, lead_three, lead_four, lead_over}

-- ---- ASCII

larger_ascii : (a b : ℕ) → ltb (max a b) 0x80 ≡ (ltb a 0x80 && ltb b 0x80)
larger_ascii a b =
    by_test (λ t. ltb (max a b) 0x80 ≡ (t && ltb b 0x80)) (ltb a 0x80)
    (λ t. by_test (λ u. ltb (max a b) 0x80 ≡ u) (ltb b 0x80) (λ u. lt-ltb _ _ (omega (arith, ltb-true a 0x80 t, ltb-true b 0x80 u))) (λ u. le-ltb _ _ (omega (arith, ltb-false b 0x80 u))))
    (λ f. le-ltb _ _ (omega (arith, ltb-false a 0x80 f)))

-- the largest byte is ASCII where all bytes are
pub largest_ascii : (m : ℕ) (xs : Bytes) → ltb (fold max m xs) 0x80 ≡ (ltb m 0x80 && all is_ascii xs)
unfolding all
largest_ascii m [] = sym (and-true _)
largest_ascii m (b ∷ bs) = largest_ascii (max m b) bs ∙ ap (λ (t : Bool). t && all is_ascii bs) (larger_ascii m b) ∙ and_assoc (ltb m 0x80) (ltb b 0x80) (all is_ascii bs)

ascii_first : (xs ys : Bytes) → all is_ascii xs ≡ true → utf8 (xs ++ ys) ≡ utf8 ys
unfolding utf8 utf8_from lead_from lead_of all
ascii_first [] ys e = refl
ascii_first (b ∷ bs) ys e = rw (and_left (ltb b 0x80) _ e) (ascii_first bs ys (and_right (ltb b 0x80) _ e))

all_drop : (n : ℕ) (xs : Bytes) → all is_ascii xs ≡ true → all is_ascii (drop n xs) ≡ true
unfolding all
all_drop zero xs e = e
all_drop (suc n) [] e = e
all_drop (suc n) (b ∷ bs) e = all_drop n bs (and_right (ltb b 0x80) _ e)

pub suffix_all : (text : Bytes) → Suffix text text
suffix_all text =
    let z : length text - length text ≡ 0 = omega arith in
    record { passed = record { shorter = omega arith; same = refl }; at_end = sym (ap (λ (k : ℕ). drop k text) z) }

pub suffix_block : (text rest : Bytes) (n : ℕ) → Suffix text rest → n ≤ length rest → true ≡ all is_ascii (take n rest) → Suffix text (drop n rest)
suffix_block text rest n p h e =
    let s = p.passed.shorter in
    let k : length text - length rest + n ≡ length text - length (drop n rest) = omega (arith, length-drop n rest) in
    record {
      passed = record {
        shorter = omega (arith, length-drop n rest);
        same = p.passed.same ∙ ap utf8 (sym (take-append-drop n rest)) ∙ ascii_first (take n rest) (drop n rest) (sym e);
      };
      at_end = ap (drop n) p.at_end ∙ drop-drop n (length text - length rest) text ∙ ap (λ (i : ℕ). drop i text) k;
    }

pub passed_then : (text mid rest : Bytes) → Passed text mid → Passed mid rest → Passed text rest
passed_then text mid rest p q = record { shorter = omega (arith, p.shorter, q.shorter); same = p.same ∙ q.same }

suffix_then : (text mid rest : Bytes) → Suffix text mid → Suffix mid rest → Suffix text rest
suffix_then text mid rest p q =
    let a = p.passed.shorter in
    let b = q.passed.shorter in
    let k : length text - length mid + (length mid - length rest) ≡ length text - length rest = omega arith in
    record {
      passed = passed_then text mid rest p.passed q.passed;
      at_end = q.at_end ∙ ap (drop (length mid - length rest)) p.at_end ∙ drop-drop (length mid - length rest) (length text - length mid) text ∙ ap (λ (i : ℕ). drop i text) k;
    }

-- the last n bytes are ASCII, and what is left is among them
pub passed_last : (text mid rest : Bytes) (n : ℕ) → Suffix text mid → Suffix mid rest → length rest ≤ n → n ≤ length text
    → true ≡ all is_ascii (drop (length text - n) text) → Passed text []
passed_last text mid rest n p q h l e =
    let r = suffix_then text mid rest p q in
    let k : length text - n + (n - length rest) ≡ length text - length rest = omega arith in
    let d : drop (n - length rest) (drop (length text - n) text) ≡ rest =
    drop-drop (n - length rest) (length text - n) text ∙ ap (λ (i : ℕ). drop i text) k ∙ sym r.at_end in
    let a : all is_ascii rest ≡ true = ap (all is_ascii) (sym d) ∙ all_drop (n - length rest) (drop (length text - n) text) (sym e) in
    record { shorter = omega arith; same = r.passed.same ∙ ap utf8 (sym (append-nil rest)) ∙ ascii_first rest [] a }

-- one ASCII byte
pub passed_one : (text : Bytes) → 0 < length text → get_or text 0 0 < 0x80 → utf8 text ≡ utf8 (drop 1 text)
unfolding utf8 utf8_from lead_from lead_of
passed_one [] h b = absurd (omega arith)
passed_one (x ∷ xs) h b = rw (lt-ltb x 0x80 b)

-- ---- characters of two bytes or more

-- a byte that is not ASCII, and none after it
lone : (a : ℕ) → 0x80 ≤ a → a < 0x100 → utf8 (a ∷ []) ≡ false
unfolding utf8 utf8_from lead_from
lone a l u =
    by_test (λ _. utf8 (a ∷ []) ≡ false) (ltb a 0xC2) (λ t. rw (← lead_none a l (ltb-true a 0xC2 t)))
    (λ f. by_test (λ _. utf8 (a ∷ []) ≡ false) (ltb a 0xE0) (λ t. rw (← lead_two a (ltb-false a 0xC2 f) (ltb-true a 0xE0 t)))
    (λ f. by_test (λ _. utf8 (a ∷ []) ≡ false) (ltb a 0xF0) (λ t. rw (← lead_three a (ltb-false a 0xE0 f) (ltb-true a 0xF0 t)))
    (λ f. by_test (λ _. utf8 (a ∷ []) ≡ false) (ltb a 0xF5) (λ t. rw (← lead_four a (ltb-false a 0xF0 f) (ltb-true a 0xF5 t)))
    (λ f. rw (← lead_over a (ltb-false a 0xF5 f) u)))))

pub no_second : (text : Bytes) → length text < 2 → get_or text 0 0 < 0x100 → NoMultibyte text
no_second [] h u = λ l. absurd (omega arith)
no_second (a ∷ []) h u = λ l. lone a l u
no_second (a ∷ b ∷ bs) h u = absurd (omega arith)

-- the lead byte asks for a second byte, and then n more
pub lead_then : (n : ℕ) (text : Bytes) → 2 ≤ length text → follow (suc n) (second_low (get_or text 0 0)) (second_high (get_or text 0 0)) ≡ lead_of (get_or text 0 0)
    → utf8 text ≡ (follows (get_or text 0 0) (get_or text 1 0) && utf8_from n 0x80 0xBF (drop 2 text))
unfolding utf8 utf8_from lead_from follows
lead_then n [] h e = absurd (omega arith)
lead_then n (a ∷ []) h e = absurd (omega arith)
lead_then n (a ∷ b ∷ bs) h e =
    rw (← e) (by_test (λ t. after_lead (cond t (follow n 0x80 0xBF) wrong) (λ n l h. utf8_from n l h bs) ≡ (t && utf8_from n 0x80 0xBF bs)) (within (second_low a) (second_high a) b) (λ _. refl) (λ _. refl))

pub no_lead : (text : Bytes) → 0 < length text → wrong ≡ lead_of (get_or text 0 0) → utf8 text ≡ false
unfolding utf8 utf8_from lead_from
no_lead [] h e = absurd (omega arith)
no_lead (a ∷ bs) h e = rw (← e)

-- the first byte is no lead byte
pub not_lead : (text : Bytes) → 0 < length text → get_or text 0 0 < 0x100 → (get_or text 0 0 < 0xC2) ⊎ (0xF5 ≤ get_or text 0 0) → NoMultibyte text
not_lead text h u (inl t) = λ l. no_lead text h (lead_none _ l t)
not_lead text h u (inr t) = λ l. no_lead text h (lead_over _ t u)

from_next : (n c : ℕ) (bs : Bytes) → utf8_from (suc n) 0x80 0xBF (c ∷ bs) ≡ (within 0x80 0xBF c && utf8_from n 0x80 0xBF bs)
unfolding utf8_from lead_from
from_next n c bs =
    by_test (λ t. after_lead (cond t (follow n 0x80 0xBF) wrong) (λ n l h. utf8_from n l h bs) ≡ (t && utf8_from n 0x80 0xBF bs)) (within 0x80 0xBF c) (λ _. refl) (λ _. refl)

pub two_bytes : (text : Bytes) → 2 ≤ length text → 0xC2 ≤ get_or text 0 0 → get_or text 0 0 < 0xE0
    → utf8 text ≡ (follows (get_or text 0 0) (get_or text 1 0) && utf8 (drop 2 text))
unfolding utf8
two_bytes text h l u = lead_then 0 text h (lead_two _ l u)

three : (text : Bytes) → 3 ≤ length text → 0xE0 ≤ get_or text 0 0 → get_or text 0 0 < 0xF0
    → utf8 text ≡ ((follows (get_or text 0 0) (get_or text 1 0) && within 0x80 0xBF (get_or (drop 2 text) 0 0)) && utf8 (drop 1 (drop 2 text)))
unfolding utf8
three [] h l u = absurd (omega arith)
three (a ∷ []) h l u = absurd (omega arith)
three (a ∷ b ∷ []) h l u = absurd (omega arith)
three (a ∷ b ∷ c ∷ bs) h l u =
    lead_then 1 (a ∷ b ∷ c ∷ bs) (omega arith) (lead_three _ l u)
    ∙ ap (λ (t : Bool). follows a b && t) (from_next 0 c bs)
    ∙ sym (and_assoc (follows a b) (within 0x80 0xBF c) _)

four : (text : Bytes) → 4 ≤ length text → 0xF0 ≤ get_or text 0 0 → get_or text 0 0 < 0xF5
    → utf8 text ≡ (((follows (get_or text 0 0) (get_or text 1 0) && within 0x80 0xBF (get_or (drop 2 text) 0 0)) && within 0x80 0xBF (get_or (drop 2 text) 1 0)) && utf8 (drop 2 (drop 2 text)))
unfolding utf8
four [] h l u = absurd (omega arith)
four (a ∷ []) h l u = absurd (omega arith)
four (a ∷ b ∷ []) h l u = absurd (omega arith)
four (a ∷ b ∷ c ∷ []) h l u = absurd (omega arith)
four (a ∷ b ∷ c ∷ d ∷ bs) h l u =
    lead_then 2 (a ∷ b ∷ c ∷ d ∷ bs) (omega arith) (lead_four _ l u)
    ∙ ap (λ (t : Bool). follows a b && t) (from_next 1 c (d ∷ bs) ∙ ap (λ (t : Bool). within 0x80 0xBF c && t) (from_next 0 d bs))
    ∙ sym (and_assoc (follows a b) (within 0x80 0xBF c) _)
    ∙ sym (and_assoc (follows a b && within 0x80 0xBF c) (within 0x80 0xBF d) _)

-- the same, where r is what follows the second byte
pub three_bytes : (text r : Bytes) → r ≡ drop 2 text → 3 ≤ length text → 0xE0 ≤ get_or text 0 0 → get_or text 0 0 < 0xF0
    → utf8 text ≡ ((follows (get_or text 0 0) (get_or text 1 0) && within 0x80 0xBF (get_or r 0 0)) && utf8 (drop 1 r))
three_bytes text r e h l u =
    three text h l u ∙ ap (λ (r : Bytes). (follows (get_or text 0 0) (get_or text 1 0) && within 0x80 0xBF (get_or r 0 0)) && utf8 (drop 1 r)) (sym e)

pub four_bytes : (text r : Bytes) → r ≡ drop 2 text → 4 ≤ length text → 0xF0 ≤ get_or text 0 0 → get_or text 0 0 < 0xF5
    → utf8 text ≡ (((follows (get_or text 0 0) (get_or text 1 0) && within 0x80 0xBF (get_or r 0 0)) && within 0x80 0xBF (get_or r 1 0)) && utf8 (drop 2 r))
four_bytes text r e h l u =
    four text h l u
    ∙ ap (λ (r : Bytes). ((follows (get_or text 0 0) (get_or text 1 0) && within 0x80 0xBF (get_or r 0 0)) && within 0x80 0xBF (get_or r 1 0)) && utf8 (drop 2 r)) (sym e)

-- the bytes end before the third
pub no_third : (text : Bytes) → 2 ≤ length text → length text < 3 → 0xE0 ≤ get_or text 0 0 → get_or text 0 0 < 0xF0 → utf8 text ≡ false
unfolding utf8_from
no_third [] h k l u = absurd (omega arith)
no_third (a ∷ []) h k l u = absurd (omega arith)
no_third (a ∷ b ∷ []) h k l u = lead_then 1 (a ∷ b ∷ []) h (lead_three _ l u) ∙ and-false _
no_third (a ∷ b ∷ c ∷ bs) h k l u = absurd (omega arith)

-- or before the fourth
pub no_fourth : (text : Bytes) → 2 ≤ length text → length text < 4 → 0xF0 ≤ get_or text 0 0 → get_or text 0 0 < 0xF5 → utf8 text ≡ false
unfolding utf8_from
no_fourth [] h k l u = absurd (omega arith)
no_fourth (a ∷ []) h k l u = absurd (omega arith)
no_fourth (a ∷ b ∷ []) h k l u = lead_then 2 (a ∷ b ∷ []) h (lead_four _ l u) ∙ and-false _
no_fourth (a ∷ b ∷ c ∷ []) h k l u =
    lead_then 2 (a ∷ b ∷ c ∷ []) h (lead_four _ l u)
    ∙ ap (λ (t : Bool). follows a b && t) (from_next 1 c [] ∙ and-false _)
    ∙ and-false _
no_fourth (a ∷ b ∷ c ∷ d ∷ bs) h k l u = absurd (omega arith)

-- where a test decides on the first bytes
pub tested : (text rest : Bytes) (t : Bool) → utf8 text ≡ (t && utf8 rest) → t ≡ true → length rest < length text → Passed text rest × (length rest < length text)
tested text rest t e y l = (record { shorter = omega arith; same = e ∙ rw y }, l)

pub refused : (text rest : Bytes) (t : Bool) → utf8 text ≡ (t && utf8 rest) → t ≡ false → utf8 text ≡ false
refused text rest t e n = e ∙ rw n

-- the text begins with no character
pub at_end : (text : Bytes) → NoMultibyte text → (0 < length text → 0x80 ≤ get_or text 0 0) → eqb (length text) 0 ≡ utf8 text
unfolding utf8 utf8_from
at_end [] n h = refl
at_end (b ∷ bs) n h = ne_eqb (suc (length bs)) 0 (λ e. omega arith) ∙ sym (n (h (omega arith)))
