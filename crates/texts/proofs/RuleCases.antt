-- The rules, case by case.
use Prim.Native.Nat.{ℕ, zero, suc, ◌+◌, ◌≤◌, ◌<◌}
use native.Mathlib.Omega.{arith}
use mathlib.Core.Path.{◌≡◌, refl, sym, ap, ◌∙◌}
use mathlib.Core.Bool.{Bool, true, false, not, ◌&&◌, ◌||◌}
use mathlib.Core.List.{List, [], ◌∷◌}
use lib.ListN.{length, length-append}
use lib.Dec.{leb, eqb}
use borrow.Author.Tests.{le-leb, lt-leb, leb-true, leb-false, eq-eqb, ne_eqb}
use Rattle.std.specs.List.{list_all, sum_by, fold}
use Rattle.rules.specs.Bytes.{Bytes, part, within, all, any, same, join, dot}
use Rattle.rules.specs.Result.{refused, ok, need, ◌>>=◌, ◌>>◌, CUT, LIMIT, TEXT, RULE}
use Rattle.rules.specs.Utf8.{utf8}
use Rattle.rules.specs.Head.{Head, head_at}
use Rattle.rules.specs.Standing.{RowAt}
use Rattle.rules.specs.Rules.{Sort, schemes, scheme_byte, scheme_rule, scheme_name, starts_lower, octet, looks_ipv4, name_rule, segment_rule}
use Rattle.rules.specs.Reader.{read_content, text_body, contents, spans, end_at}
use Rattle.rules.proofs.Tools.{by_test, length_part}
use Rattle.rules.proofs.Steps.{need_yes, need_no, bind_ok, bind_refused, Ok, ok_any, ok_map, ok_need}
use Rattle.rules.proofs.Texts.{ok_content, length_contents}
use Rattle.rules.proofs.RowWalk.{first}
use Rattle.schemes.specs.Schemes.{known_name}
use Rattle.texts.specs.Answers.{scheme_form, sort_is, dotted_length}
use Rattle.texts.specs.declared.Sort.TheVariants as SortV

-- ---- the table of schemes

pub not_any : {A : Type 0} (p : A → Bool) (xs : List A) → not (any p xs) ≡ all (λ x. not (p x)) xs
unfolding any all
not_any p [] = refl
not_any p (x ∷ xs) = by_test (λ t. not (t || any p xs) ≡ (not t && all (λ x. not (p x)) xs)) (p x) (λ e. refl) (λ e. not_any p xs)

-- ---- the library's test of each

pub list_all_is_all : {A : Type 0} (p : A → Bool) (xs : List A) → list_all p xs ≡ all p xs
unfolding all
list_all_is_all p [] = refl
list_all_is_all p (x ∷ xs) = ap (λ (t : Bool). p x && t) (list_all_is_all p xs)

-- ---- a text, by the first of its tests that fails

module _ (t : Sort) (bs : Bytes) (at : ℕ) (h : Head) where
  pub text_limit : within t.low t.high h.value ≡ false → refused LIMIT at ≡ text_body t bs at h
  unfolding text_body
  text_limit l = need_no _ _ _ _ l

  module _ (fits : within t.low t.high h.value ≡ true) where
    pub text_cut : length bs < h.next + h.value → refused CUT at ≡ text_body t bs at h
    unfolding text_body read_content
    text_cut l = bind_refused _ _ _ _ (need_no _ _ _ _ (lt-leb _ _ l)) ∙ need_yes _ _ _ _ fits

    module _ (inside : h.next + h.value ≤ length bs) where
      content : ok (part bs h.next h.value) ≡ read_content bs at h
      unfolding read_content
      content = need_yes _ _ _ _ (le-leb _ _ inside)

      pub text_wrong : utf8 (part bs h.next h.value) ≡ false → refused TEXT at ≡ text_body t bs at h
      unfolding text_body
      text_wrong u = need_no _ _ _ _ u ∙ bind_ok _ _ _ content ∙ need_yes _ _ _ _ fits

      module _ (u : utf8 (part bs h.next h.value) ≡ true) where
        pub text_against : t.rule (part bs h.next h.value) ≡ false → refused RULE at ≡ text_body t bs at h
        unfolding text_body
        text_against r = need_no _ _ _ _ r ∙ need_yes _ _ _ _ u ∙ bind_ok _ _ _ content ∙ need_yes _ _ _ _ fits

        pub text_kept : t.rule (part bs h.next h.value) ≡ true → ok (h.next + h.value) ≡ text_body t bs at h
        unfolding text_body
        text_kept r = need_yes _ _ _ _ r ∙ need_yes _ _ _ _ u ∙ bind_ok _ _ _ content ∙ need_yes _ _ _ _ fits

-- the content of an accepted text lies inside
pub text_inside : (t : Sort) (bs : Bytes) (at : ℕ) (h : Head) → Ok (λ next. h.next + h.value ≤ length bs) (text_body t bs at h)
unfolding text_body
text_inside t bs at h = ok_need _ _ _ _ (λ w. ok_content _ _ _ _ (λ l. ok_map (ok_any _) (λ _ _. l)))

-- ---- the text of a scheme: its form, and then the names of the table

rule_split : (t : Bytes) → scheme_rule t ≡ (scheme_form t && not (known_name t))
unfolding scheme_rule scheme_form known_name
rule_split t =
    by_test (λ x. (x && (all scheme_byte t && all (λ e. not (same t e.name)) schemes)) ≡ ((x && all scheme_byte t) && not (any (λ e. same t e.name) schemes)))
    (starts_lower t) (λ _. ap (λ y. all scheme_byte t && y) (sym (not_any _ _))) (λ _. refl)

module _ (bs : Bytes) (at : ℕ) (h : Head) where
  abbrev named : Bool
  named = known_name (part bs h.next h.value)

  -- the names are judged after all else
  pub scheme_then : text_body scheme_name bs at h ≡ (text_body (sort_is SortV.SchemeForm) bs at h >>= (λ next. need (not named) RULE at >> ok next))
  scheme_then =
      let t = part bs h.next h.value in
      let P = text_body scheme_name bs at h ≡ (text_body (sort_is SortV.SchemeForm) bs at h >>= (λ next. need (not named) RULE at >> ok next)) in
      let n = scheme_name in
      let f = sort_is SortV.SchemeForm in
      by_test (λ _. P) (within 1 16 h.value)
      (λ w. by_test (λ _. P) (leb (h.next + h.value) (length bs))
      (λ l. let i = leb-true _ _ l in by_test (λ _. P) (utf8 t)
      (λ u. by_test (λ _. P) (scheme_form t)
      (λ r. by_test (λ _. P) named
      (λ k. sym (text_against n bs at h w i u (rule_split t ∙ rw (r, k))) ∙ need_no _ _ _ _ (ap not k) ∙ bind_ok _ _ _ (text_kept f bs at h w i u r))
      (λ k. sym (text_kept n bs at h w i u (rule_split t ∙ rw (r, k))) ∙ need_yes _ _ _ _ (ap not k) ∙ bind_ok _ _ _ (text_kept f bs at h w i u r)))
      (λ r. sym (text_against n bs at h w i u (rule_split t ∙ rw r)) ∙ bind_refused _ _ _ _ (text_against f bs at h w i u r)))
      (λ u. sym (text_wrong n bs at h w i u) ∙ bind_refused _ _ _ _ (text_wrong f bs at h w i u)))
      (λ l. let o = leb-false _ _ l in sym (text_cut n bs at h w o) ∙ bind_refused _ _ _ _ (text_cut f bs at h w o)))
      (λ w. sym (text_limit n bs at h w) ∙ bind_refused _ _ _ _ (text_limit f bs at h w))

-- neither "." nor ".."
pub long_segment : (t : Bytes) → 3 ≤ length t → true ≡ segment_rule t
unfolding segment_rule
long_segment [] h = absurd (omega arith)
long_segment (a ∷ []) h = absurd (omega arith)
long_segment (a ∷ b ∷ []) h = absurd (omega arith)
long_segment (a ∷ b ∷ c ∷ t) h = by_test (λ x. true ≡ (not (x && false) && not (x && (eqb b 0x2E && false)))) (eqb a 0x2E) (λ _. by_test (λ y. true ≡ not (y && false)) (eqb b 0x2E) (λ _. refl) (λ _. refl)) (λ _. refl)

-- ---- labels

-- each label stands after a byte of its head
pub dotted_most : (bs : Bytes) (at n : ℕ) → RowAt bs at n → at ≤ length bs → at + dotted_length (contents bs at n) ≤ length bs
unfolding dotted_length contents spans
dotted_most bs at zero h l = omega arith
dotted_most bs at (suc n) h l =
    let f = first bs at (suc n) _ _ (omega arith) h refl in
    let m = dotted_most bs (end_at bs at) n h.1 h.0.inside in
    omega (arith, m, f.after, f.end, length_part bs (head_at bs at).next (head_at bs at).value f.inside)

sum_from : (n : ℕ) (ts : List Bytes) → fold (λ a x. a + (length x + 1)) n ts ≡ n + dotted_length ts
unfolding dotted_length
sum_from n [] = omega arith
sum_from n (t ∷ ts) = omega (arith, sum_from (n + (length t + 1)) ts)

pub dotted_sum : (ts : List Bytes) → sum_by (λ t. length t + 1) ts ≡ dotted_length ts
dotted_sum ts = sum_from 0 ts ∙ omega arith

-- with a dot after each, labels are one byte longer than with a dot between any two
dotted_join : (t : Bytes) (ts : List Bytes) → dotted_length (t ∷ ts) ≡ length (join dot (t ∷ ts)) + 1
unfolding dotted_length join
dotted_join t [] = omega arith
dotted_join t (u ∷ ts) = omega (arith, length-append t (dot ∷ join dot (u ∷ ts)), dotted_join u ts)

pub name_long : (ts : List Bytes) → 256 < dotted_length ts → false ≡ name_rule ts
unfolding name_rule dotted_length
name_long [] h = absurd (omega arith)
name_long (t ∷ ts) h = rw (lt-leb (length (join dot (t ∷ ts))) 255 (omega (arith, dotted_join t ts)))

pub name_looks : (ts : List Bytes) → dotted_length ts ≤ 256 → not (looks_ipv4 ts) ≡ name_rule ts
unfolding name_rule dotted_length join
name_looks [] h = refl
name_looks (t ∷ ts) h = rw (le-leb (length (join dot (t ∷ ts))) 255 (omega (arith, dotted_join t ts)))

module _ (bs : Bytes) (at n : ℕ) where
  pub looks_other : (n ≡ 4 → ⊥) → false ≡ looks_ipv4 (contents bs at n)
  unfolding looks_ipv4
  looks_other h = rw (length_contents bs at n, ne_eqb n 4 h)

  pub looks_four : n ≡ 4 → looks_ipv4 (contents bs at n) ≡ all octet (contents bs at n)
  unfolding looks_ipv4
  looks_four e = rw (length_contents bs at n, eq-eqb n 4 e)
