-- What the two calls answer, and what that says of the two links.
use Prim.Native.Nat.{ℕ, ◌+◌, ◌*◌, ◌≤◌}
use native.Mathlib.Omega.{arith}
use mathlib.Core.Path.{◌≡◌, refl, sym, ap, ap₂, ◌∙◌}
use mathlib.Core.Bool.{Bool, true, false}
use mathlib.Core.List.{[], ◌∷◌}
use mathlib.Core.Logic.{◌↔◌}
use lib.ListN.{length, take}
use lib.Dec.{eqb}
use borrow.Author.Tests.{eqb-true}
use Rattle.std.specs.Prelude.{Result, Ok, Err}
use Rattle.rules.specs.Bytes.{Bytes, Octets, same}
use Rattle.rules.specs.Result.{Res, refused, ok, given, ◌>>=◌}
use Rattle.rules.specs.Model.{Limits, limits, Cri, Same}
use Rattle.rules.specs.Meaning.{read_absolute}
use Rattle.rules.specs.Text.{uri_text}
use Rattle.rules.specs.Views.{verdict}
use Rattle.rules.specs.Calls.{number_of, length_of, outcome, text_call}
use Rattle.rules.specs.Promises.{shown, base_own, base_relative}
use Rattle.rules.proofs.Tools.{never, and_left, and_right, same_refl}
use Rattle.rules.proofs.Steps.{refused_ok}
use Rattle.rules.proofs.CallNumbers.{told_within, told_done, untouched, BaseRead, is_base, no_base, base_read}
use Rattle.rules.proofs.Absolutes.{absolute_size}
use Rattle.rules.proofs.Proved.{demand3_proved, bound_proved}
use Rattle.refusals.specs.declared.Refusal.{Refusal}
use Rattle.refusals.specs.Answers.{verdict_is}
use Rattle.outcomes.specs.Answers.{outcome_is}
use Rattle.outcomes.proofs.Answers.{Right}
use Rattle.sameness.specs.declared.Compared.{Compared}
use Rattle.sameness.specs.Answers.{SameCri, WroteSame, Done, Answered, CallsDemand3, Judged}

-- ---- bytes compared

same_equal : (s t : Bytes) → same s t ≡ true → s ≡ t
same_equal [] [] e = refl
same_equal [] (d ∷ t) e = never e
same_equal (c ∷ s) [] e = never e
same_equal (c ∷ s) (d ∷ t) e = ap₂ (λ (x : ℕ) (xs : Bytes). x ∷ xs) (eqb-true c d (and_left (eqb c d) (same s t) e)) (same_equal s t (and_right (eqb c d) (same s t) e))

-- where one of two calls is refused, the answer is false
pub first_refused : {m n : Result ℕ Refusal} {x y : Bytes} (r : Refusal) → m ≡ Err r → (false ≡ true) ↔ WroteSame m n x y
first_refused r e = (λ t. never t, λ w. refused_ok _ _ _ (sym (ap outcome_is e) ∙ w.first))

pub second_refused : {m n : Result ℕ Refusal} {x y : Bytes} (r : Refusal) → n ≡ Err r → (false ≡ true) ↔ WroteSame m n x y
second_refused r e = (λ t. never t, λ w. refused_ok _ _ _ (sym (ap outcome_is e) ∙ w.second))

-- where both are done, it is the comparison of what they wrote
pub wrote_both : {m n : Result ℕ Refusal} {i j : ℕ} {x y : Bytes} {r : Bool} → m ≡ Ok i → n ≡ Ok j → r ≡ same (take i x) (take j y)
    → (r ≡ true) ↔ WroteSame m n x y
wrote_both {m} {n} {i} {j} {x} {y} d e f = (
  λ t. record { one = i; other = j; first = ap outcome_is d; second = ap outcome_is e; bytes = same_equal (take i x) (take j y) (sym f ∙ t) },
  λ w.
      let k : ok w.one ≡ ok i = sym w.first ∙ ap outcome_is d in
      let l : ok w.other ≡ ok j = sym w.second ∙ ap outcome_is e in
      let p : w.one ≡ i = cc in
      let q : w.other ≡ j = cc in
      let bytes : take i x ≡ take j y = ap (λ (n : ℕ). take n x) (sym p) ∙ w.bytes ∙ ap (λ (n : ℕ). take n y) q in
      f ∙ ap (λ (s : Bytes). same s (take j y)) bytes ∙ same_refl (take j y),
)

-- ---- one call

-- the number of reading an input as absolute
number_low : (lim : Limits) (bs : Bytes) → number_of (verdict (read_absolute lim bs)) ≤ 8
unfolding read_absolute given ◌>>=◌
number_low lim bs = go (base_read lim bs)
  where
    go : BaseRead lim bs → number_of (verdict (read_absolute lim bs)) ≤ 8
    go (is_base e) = rw e (omega arith)
    go (no_base (base_own h e)) = rw e (omega (arith, h.1))
    go (no_base (base_relative e a)) = rw (e, a) (omega arith)

verdict_ok : {A : Type 0} (x : Res A) → verdict x ≡ ok tt → (a : A) × (x ≡ ok a)
verdict_ok (refused n k) e = refused_ok n k tt e
verdict_ok (ok a) e = (a, refl)

-- a call that is done was handed an absolute input, whose text fits
module _ (bs : Bytes) (n : ℕ) (e : verdict (outcome (text_call limits bs) n) ≡ ok tt) where
  done_read : (c : Cri) × (read_absolute limits bs ≡ ok c)
  unfolding text_call ◌>>=◌
  done_read = go (read_absolute limits bs) refl
    where
      go : (r : Res Cri) → read_absolute limits bs ≡ r → (c : Cri) × (read_absolute limits bs ≡ ok c)
      go (refused k p) d =
          let m = verdict_ok (outcome (text_call limits bs) n) e in
          let w = told_done (text_call limits bs) n m.0 m.1 in
          refused_ok k p w.0 (sym (rw d) ∙ w.1)
      go (ok c) d = (c, d)

  done_fits : (c : Cri) → read_absolute limits bs ≡ ok c → length (uri_text c) ≤ n
  unfolding text_call ◌>>=◌
  done_fits c d =
      let m = verdict_ok (outcome (text_call limits bs) n) e in
      let w = told_done (text_call limits bs) n m.0 m.1 in
      let both : ok (uri_text c) ≡ ok w.0 = sym (rw d) ∙ w.1 in
      let same : uri_text c ≡ w.0 = cc in
      omega (arith, ap length same, w.3)

-- RULES 6.6: a room that is long enough for every accepted input has no part in the verdict
verdict_enough : (bs : Bytes) (n : ℕ) → Octets bs → 3 * limits.bytes + 13 ≤ n → verdict (outcome (text_call limits bs) n) ≡ verdict (read_absolute limits bs)
unfolding text_call outcome ◌>>=◌
verdict_enough bs n h l = go (read_absolute limits bs) refl
  where
    go : (r : Res Cri) → read_absolute limits bs ≡ r → verdict (outcome (text_call limits bs) n) ≡ verdict r
    go (refused k p) d = rw d
    go (ok c) d = ap verdict ((bound_proved limits bs c h d).1 n (omega (arith, absolute_size limits bs c d)))

-- ---- what a call left

module _ {u : Res Bytes} {room left : Bytes} {answer : Res ℕ} (p : Right u room answer left) where
  length_told_lem : length_of answer ≡ length_of (outcome u (length room))
  length_told_lem = ap length_of p.answered

  shown_told : take (length_of answer) left ≡ shown u room
  shown_told = ap₂ (λ (n : ℕ) (s : Bytes). take n s) length_told_lem p.holds

  -- the length written lies inside the room
  pub length_inside : length_of answer ≤ length left
  length_inside = omega (arith, length_told_lem, ap length p.holds, told_within u (length room), (untouched u room).size)

-- ---- both calls

-- the inputs are a and b; the rooms are x and y, and are left as s and t
module _ (a b x y s t : Bytes) (r : Compared) (ha : Octets a) (hb : Octets b) (p : Right (text_call limits a) x (outcome_is r.first) s)
    (q : Right (text_call limits b) y (outcome_is r.second) t) (w : (r.equal ≡ true) ↔ WroteSame r.first r.second s t) where
  pub both_printed : CallsDemand3 a b (length x) (length y) r s t
  both_printed c d ea eb hx hy =
      let z = demand3_proved limits a b c d ha hb ea eb x y hx hy in
      let first : outcome_is r.first ≡ ok (length (uri_text c)) = p.answered ∙ z.first in
      let second : outcome_is r.second ≡ ok (length (uri_text d)) = q.answered ∙ z.second in
      let one : take (length (uri_text c)) s ≡ uri_text c = ap (λ (m : Res ℕ). take (length_of m) s) (sym first) ∙ shown_told p ∙ z.first_text in
      let other : take (length (uri_text d)) t ≡ uri_text d = ap (λ (m : Res ℕ). take (length_of m) t) (sym second) ∙ shown_told q ∙ z.second_text in
      let texts : (uri_text c ≡ uri_text d) ↔ Same c d = (
        λ e. z.same.0 (ap length_of z.first ∙ ap length e ∙ sym (ap length_of z.second), z.first_text ∙ e ∙ sym z.second_text),
        λ e. sym z.first_text ∙ (z.same.1 e).1 ∙ z.second_text,
      ) in
      let wrote : WroteSame r.first r.second s t → uri_text c ≡ uri_text d = λ v.
      let k : ok v.one ≡ ok (length (uri_text c)) = sym v.first ∙ first in
      let l : ok v.other ≡ ok (length (uri_text d)) = sym v.second ∙ second in
      let m : v.one ≡ length (uri_text c) = cc in
      let n : v.other ≡ length (uri_text d) = cc in
      sym one ∙ ap (λ (n : ℕ). take n s) (sym m) ∙ v.bytes ∙ ap (λ (n : ℕ). take n t) n ∙ other in
      record {
        first = first;
        second = second;
        first_text = shown_told p ∙ z.first_text;
        second_text = shown_told q ∙ z.second_text;
        same = (
          λ e. z.same.0 (sym (length_told_lem p) ∙ e.0 ∙ length_told_lem q, sym (shown_told p) ∙ e.1 ∙ shown_told q),
          λ e. (length_told_lem p ∙ (z.same.1 e).0 ∙ sym (length_told_lem q), shown_told p ∙ (z.same.1 e).1 ∙ sym (shown_told q)),
        );
        equal = (
          λ e. texts.0 (wrote (w.0 e)),
          λ e. w.1 (record { one = length (uri_text c); other = length (uri_text d); first = first; second = second; bytes = one ∙ texts.1 e ∙ sym other }),
        );
      }

  -- where both calls are done
  done_equal : Done r.first → Done r.second → (r.equal ≡ true) ↔ SameCri a b
  done_equal m n =
      let i : verdict (outcome (text_call limits a) (length x)) ≡ ok tt = sym (ap verdict p.answered) ∙ m in
      let j : verdict (outcome (text_call limits b) (length y)) ≡ ok tt = sym (ap verdict q.answered) ∙ n in
      let c = done_read a (length x) i in
      let d = done_read b (length y) j in
      let told : (c d : Cri) → read_absolute limits a ≡ ok c → read_absolute limits b ≡ ok d → (r.equal ≡ true) ↔ Same c d =
      λ c d e f. (both_printed c d e f (done_fits a (length x) i c e) (done_fits b (length y) j d f)).equal in (
        λ e. record { one = c.0; other = d.0; first = c.1; second = d.1; same = (told c.0 d.0 c.1 d.1).0 e },
        λ e. (told e.one e.other e.first e.second).1 e.same,
      )

  pub both_answered : Answered a b (length x) (length y) r
  both_answered =
      record {
        first = p.answered;
        second = q.answered;
        equal = (
          λ e. let v = w.0 e in (ap verdict v.first, ap verdict v.second, (done_equal (ap verdict v.first) (ap verdict v.second)).0 e),
          λ e. (done_equal e.0 e.1).1 e.2,
        );
      }

-- with rooms that are long enough for every accepted input, the verdicts are those of reading
pub both_judged : (a b : Bytes) (j k : ℕ) (r : Compared) (v w : Result (Unit {0}) Refusal) → Octets a → Octets b → 3 * limits.bytes + 13 ≤ j → 3 * limits.bytes + 13 ≤ k
    → verdict_is v ≡ verdict (outcome_is r.first) → verdict_is w ≡ verdict (outcome_is r.second) → Answered a b j k r
    → Judged a b (record { first = v; second = w; equal = r.equal })
both_judged a b j k r v w ha hb lj lk dv dw h =
    let one : verdict (outcome_is r.first) ≡ verdict (read_absolute limits a) = ap verdict h.first ∙ verdict_enough a j ha lj in
    let other : verdict (outcome_is r.second) ≡ verdict (read_absolute limits b) = ap verdict h.second ∙ verdict_enough b k hb lk in
    record {
      first = dv ∙ one;
      second = dw ∙ other;
      equal = (λ e. (h.equal.0 e).2, λ e. h.equal.1 (one ∙ ap verdict e.first, other ∙ ap verdict e.second, e));
      first_number = rw (dv ∙ one) (number_low limits a);
      second_number = rw (dw ∙ other) (number_low limits b);
    }
