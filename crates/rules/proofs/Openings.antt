-- The laws of the opening.
use Prim.Native.Nat.{ℕ, zero, suc, ◌-◌, ◌^◌, ◌≤◌, ◌<◌}
use native.Mathlib.Omega.{arith}
use mathlib.Core.Path.{◌≡◌, refl, sym, ap, ap₂, ◌∙◌, subst}
use mathlib.Core.Bool.{Bool, true, false, not, ◌&&◌, ◌||◌}
use mathlib.Core.List.{List, [], ◌∷◌, ◌++◌, append-nil}
use mathlib.Core.Option.{Option, none, some}
use lib.ListN.{length, get_or, drop}
use lib.Dec.{leb, ltb, eqb, lit≤, lit<}
use borrow.Author.Tests.{leb-true, le-leb, ltb-true, eqb-true, ne_eqb}
use Rattle.rules.specs.Bytes.{Bytes, Octets, all, any, concat, big_endian}
use Rattle.rules.specs.Model.{Scheme, number, name, Authority, Opening, discard, discard_all, full}
use Rattle.rules.specs.Head.{Kind, Number, Negative, ByteString, Text, Array, True, Null, Other, code_of, is, Head, kind_at, head_at, head_bytes, major_of, shortest, width}
use Rattle.rules.specs.Rules.{scheme_name, SchemeEntry, schemes, scheme_in, known_scheme}
use Rattle.rules.specs.Reader.{opens, SchemeAt, no_scheme, number_at, name_at, Opened, read_authority, after_scheme, opening_body, read_opening}
use Rattle.rules.specs.Meaning.{said_authority, said_scheme, said_opening}
use Rattle.rules.specs.Encode.{authority_item, scheme_item, or_null, null_item, true_item, with_opening, discard_alone}
use Rattle.rules.specs.Valid.{If, GoodAuthority, GoodScheme, GoodOpening}
use Rattle.rules.proofs.Tools.{never, by_test, and_left, and_right}
use Rattle.rules.proofs.Steps.{Ok, no!, ok!, ok_bind, ok_need, Yes, yes!, yes_bind, yes_need, yes_ok, Stable, same!, stable_bind, stable_need}
use Rattle.rules.proofs.Heads.{small_value, Stands, ok_head, yes_head, head_spells, next_inside, Spelled, spelled, head_stable, Lead, lead}
use Rattle.rules.proofs.Texts.{ok_text_body, FitText, good_64, yes_text_body, spelled_text, text_body_stable}
use Rattle.rules.proofs.Slots.{null_spells, spelled_null, one_item, item_one}
use Rattle.rules.proofs.Authorities.{ok_authority, FitAuthority, yes_authority, fit_authority, authority_stable, cons_spells, first_item}

-- an opening, where the array has n items, of which `left` are left after the opening; the last two are never accepted
pub data Opens : ℕ → Opening Bytes → ℕ → Type 0 where
  empty : Opens 0 (discard 0) 0
  alone : {k : ℕ} → Opens 1 (discard (suc k)) 0
  before : {k left : ℕ} → left ≤ 2 → Opens (suc (suc left)) (discard k) (suc left)
  all! : {left : ℕ} → left ≤ 3 → Opens (suc left) discard_all left
  full! : {s : Option (Scheme Bytes)} {a : Authority Bytes} {left : ℕ} → left ≤ 3 → Opens (suc (suc left)) (full s (some a)) left
  lone : {s : Option (Scheme Bytes)} → Opens 1 (full s none) 0
  missing : {s : Option (Scheme Bytes)} {left : ℕ} → left ≤ 2 → Opens (suc (suc (suc left))) (full s none) (suc left)

-- the items of the opening, in an array of n
abbrev pub open_items : ℕ → Opening Bytes → List Bytes
open_items zero o = []
open_items (suc n) (discard k) = head_bytes Number k ∷ []
open_items (suc n) discard_all = true_item ∷ []
open_items (suc zero) (full s none) = or_null scheme_item s ∷ []
open_items (suc (suc n)) (full s none) = or_null scheme_item s ∷ null_item ∷ []
open_items (suc n) (full s (some a)) = or_null scheme_item s ∷ authority_item a ∷ []

pub with_items : (n left : ℕ) (o : Opening Bytes) (xs : List Bytes) → Opens n o left → length xs ≡ left → (with_opening o xs ≡ open_items n o ++ xs) × (length (with_opening o xs) ≡ n)
unfolding with_opening discard_alone
with_items n left o [] empty e = (refl, refl)
with_items n left o [] alone e = (refl, refl)
with_items n left o [] (before h) e = absurd (omega arith)
with_items n left o [] (all! h) e = (refl, omega arith)
with_items n left o [] (full! h) e = (refl, omega arith)
with_items n left o [] lone e = (refl, refl)
with_items n left o [] (missing h) e = absurd (omega arith)
with_items n left o (x ∷ xs) empty e = absurd (omega arith)
with_items n left o (x ∷ xs) alone e = absurd (omega arith)
with_items n left o (x ∷ xs) (before h) e = (refl, omega arith)
with_items n left o (x ∷ xs) (all! h) e = (refl, omega arith)
with_items n left o (x ∷ xs) (full! h) e = (refl, omega arith)
with_items n left o (x ∷ xs) lone e = absurd (omega arith)
with_items n left o (x ∷ xs) (missing h) e = (refl, omega arith)

-- ---- an opening that is accepted

pub record OpenedAt (bs : Bytes) (at n : ℕ) (o : Opened) : Type 0 where
  pub spells : drop at bs ≡ concat (open_items n (said_opening bs o.opening)) ++ drop o.next bs
  pub opens : Opens n (said_opening bs o.opening) o.left
  pub good : GoodOpening (said_opening bs o.opening)
  pub inside : at ≤ length bs → o.next ≤ length bs

number_opens : (n v : ℕ) → leb (suc n) 4 ≡ true → not (eqb (suc n) 1 && eqb v 0) ≡ true → Opens (suc n) (discard v) (suc n - 1)
number_opens zero zero a b = never b
number_opens zero (suc v) a b = alone
number_opens (suc n) v a b = subst (λ (l : ℕ). Opens (suc (suc n)) (discard v) l) (omega arith) (before (omega (arith, leb-true (suc (suc n)) 4 a)))

true_value : (bs : Bytes) (at : ℕ) → kind_at bs at ≡ True → (head_at bs at).value ≡ 21
true_value bs at e = small_value bs at 0xF5 (subst (λ (k : Kind). Lead k (get_or bs at 0)) e (lead (get_or bs at 0))) refl

true_bytes : head_bytes True 21 ≡ true_item
unfolding head_bytes major_of shortest width big_endian
true_bytes = refl

ok_after_scheme : (bs : Bytes) (at n : ℕ) (s : SchemeAt) (next : ℕ) → Octets bs → n ≤ 4
    → drop at bs ≡ or_null scheme_item (said_scheme bs s) ++ drop next bs → If GoodScheme (said_scheme bs s)
    → Ok (λ o. OpenedAt bs at (suc n) o) (after_scheme bs at (suc n) s next)
unfolding after_scheme
ok_after_scheme bs at zero s next sm m e g = ok_need _ _ _ _ (λ w. never w)
ok_after_scheme bs at (suc n) s next sm m e g =
    ok_need _ _ _ _ (λ w. ok_bind _ _ (ok_authority bs next sm) (λ a q.
    ok! (record {
      spells = cons_spells (or_null scheme_item (said_scheme bs s)) (authority_item (said_authority bs a) ∷ []) _ _ (drop a.next bs) e (one_item (authority_item (said_authority bs a)) _ _ q.spells);
      opens = subst (λ (l : ℕ). Opens (suc (suc n)) (full (said_scheme bs s) (some (said_authority bs a))) l) (two n) (full! (omega arith));
      good = (g, q.good);
      inside = λ i. q.inside;
    })))
  where
    two : (n : ℕ) → n ≡ suc (suc n) - 2
    two n = omega arith

ok_opening_body : (k : Kind) (bs : Bytes) (at n : ℕ) → Octets bs → n ≤ 4 → Stands opens bs at → kind_at bs at ≡ k
    → Ok (λ o. OpenedAt bs at (suc n) o) (opening_body bs at (suc n) (head_at bs at) k)
unfolding opening_body or_null scheme_item
ok_opening_body Number bs at n sm m r e =
    ok_need _ _ _ _ (λ v. ok_need _ _ _ _ (λ c. ok_need _ _ _ _ (λ z.
    ok! (record { spells = one_item (head_bytes Number (head_at bs at).value) _ _ (head_spells bs at sm r Number tt e); opens = number_opens n _ c z; good = leb-true _ _ v; inside = λ i. next_inside bs at r }))))
ok_opening_body Negative bs at n sm m r e =
    ok_need _ _ _ _ (λ v. ok_after_scheme bs at n (number_at (head_at bs at).value) (head_at bs at).next sm m (head_spells bs at sm r Negative tt e) v)
ok_opening_body ByteString bs at n sm m r e = no!
ok_opening_body Text bs at n sm m r e =
    ok_bind _ _ (ok_text_body scheme_name bs at sm r e) (λ next t.
    ok_after_scheme bs at n (name_at (head_at bs at).next (head_at bs at).value) next sm m t.spells t.good)
ok_opening_body Array bs at n sm m r e = no!
ok_opening_body True bs at n sm m r e =
    ok_need _ _ _ _ (λ c.
    ok! (record {
      spells = one_item true_item _ _ (head_spells bs at sm r True tt e ∙ ap (λ (x : Bytes). x ++ drop (head_at bs at).next bs) (ap (head_bytes True) (true_value bs at e) ∙ true_bytes));
      opens = subst (λ (l : ℕ). Opens (suc n) discard_all l) (one n) (all! (omega (arith, leb-true (suc n) 4 c)));
      good = tt;
      inside = λ i. next_inside bs at r;
    }))
  where
    one : (n : ℕ) → n ≡ suc n - 1
    one n = omega arith
ok_opening_body Null bs at n sm m r e =
    ok_after_scheme bs at n no_scheme (head_at bs at).next sm m (null_spells bs at sm r e) tt
ok_opening_body Other bs at n sm m r e = no!

pub ok_opening : (bs : Bytes) (at n : ℕ) → Octets bs → n ≤ 5 → Ok (λ o. OpenedAt bs at n o) (read_opening bs at n)
unfolding read_opening concat head_at
ok_opening bs at zero sm m = ok! (record { spells = refl; opens = empty; good = lit≤ tt; inside = λ h. h })
ok_opening bs at (suc n) sm m = ok_head _ _ _ _ (λ r. ok_opening_body (kind_at bs at) bs at n sm (omega arith) r refl)

-- ---- an opening that was written is accepted where it is good, and what is accepted is the opening

-- numbers, lengths and counts that heads can carry
abbrev pub FitScheme : Scheme Bytes → Type 0
FitScheme (number n) = n < 2 ^ 64
FitScheme (name t) = FitText t

abbrev pub FitOpening : Opening Bytes → Type 0
FitOpening (discard k) = k < 2 ^ 64
FitOpening discard_all = Unit {0}
FitOpening (full s a) = If FitScheme s × If FitAuthority a

pub record OpenedWas (o : Opening Bytes) (n : ℕ) (bs rest : Bytes) (r : Opened) : Type 0 where
  pub says : said_opening bs r.opening ≡ o
  pub left : r.left ≡ n
  pub after : drop r.next bs ≡ rest

no_first : (a b : Bool) → a ≡ false → not (a && b) ≡ true
no_first a b e = rw e

few : (k n left : ℕ) → Opens (suc n) (discard k) left → leb (suc n) 4 ≡ true
few k n left alone = refl
few k n left (before {left = l} h) = le-leb (suc (suc l)) 4 (omega arith)

not_lone : (k n left : ℕ) → Opens (suc n) (discard k) left → not (eqb (suc n) 1 && eqb k 0) ≡ true
not_lone k n left (alone {k = j}) = ap not (ne_eqb (suc j) 0 (omega arith))
not_lone k n left (before {left = l} h) = no_first (eqb (suc (suc l)) 1) (eqb k 0) (ne_eqb (suc (suc l)) 1 (omega arith))

rest_left : (k n left : ℕ) → Opens (suc n) (discard k) left → suc n - 1 ≡ left
rest_left k n left alone = refl
rest_left k n left (before h) = omega arith

yes_number : {G : Type 0} (k n left : ℕ) (bs : Bytes) (at : ℕ) (rest : Bytes) → (G → k ≤ 127) → Opens (suc n) (discard k) left → Spelled Number k bs at rest
    → Yes G (λ r. OpenedWas (discard k) left bs rest r) (opening_body bs at (suc n) (head_at bs at) Number)
unfolding opening_body
yes_number k n left bs at rest good o w =
    yes_need _ _ _ _ (λ g. subst (λ (v : ℕ). leb v 127 ≡ true) (sym w.value) (le-leb k 127 (good g)))
    (λ a. yes_need _ _ _ _ (λ g. few k n left o)
    (λ b. yes_need _ _ _ _ (λ g. subst (λ (v : ℕ). not (eqb (suc n) 1 && eqb v 0) ≡ true) (sym w.value) (not_lone k n left o))
    (λ c. yes! (record { says = ap discard w.value; left = rest_left k n left o; after = w.rest }))))

-- after a scheme, an authority that was written
yes_after_scheme : {G : Type 0} (o : Option (Scheme Bytes)) (a : Authority Bytes) (left : ℕ) (bs : Bytes) (at : ℕ) (rest : Bytes) → FitAuthority a → (G → GoodAuthority a)
    → (s : SchemeAt) (next : ℕ) → said_scheme bs s ≡ o → drop next bs ≡ authority_item a ++ rest
    → Yes G (λ r. OpenedWas (full o (some a)) left bs rest r) (after_scheme bs at (suc (suc left)) s next)
unfolding after_scheme
yes_after_scheme o a left bs at rest f good s next es e =
    yes_need _ _ _ _ (λ g. le-leb 2 (suc (suc left)) (omega arith))
    (λ t. yes_bind _ _ (yes_authority a bs next rest f good e) (λ r q.
    yes! (record { says = ap₂ full es (ap some q.says); left = omega arith; after = q.after })))

-- a scheme that is the only item is refused
no_second : {P : Opened → Type 0} (bs : Bytes) (at : ℕ) (s : SchemeAt) (next : ℕ) → Ok P (after_scheme bs at 1 s next)
unfolding after_scheme
no_second bs at s next = ok_need _ _ _ _ (λ t. never t)

-- and so is null in the authority's place
no_authority_lem : {P : Opened → Type 0} (bs : Bytes) (at count : ℕ) (s : SchemeAt) (next : ℕ) (rest : Bytes) → drop next bs ≡ null_item ++ rest → Ok P (after_scheme bs at count s next)
unfolding after_scheme read_authority code_of head_at
no_authority_lem bs at count s next rest e =
    ok_need _ _ _ _ (λ t. ok_bind {P = λ a. ⊥} _ _ (ok_head _ _ _ _ (λ r. never (subst (λ (k : Kind). is Array k ≡ true) (spelled_null bs next rest e).kind r.kind)))
    (λ a b. absurd b))

-- an opening item of this kind that was written
yes_kind : {G : Type 0} {P : Opened → Type 0} (k : Kind) (v : ℕ) (bs : Bytes) (at n : ℕ) (rest : Bytes) → opens k ≡ true → Spelled k v bs at rest
    → Yes G P (opening_body bs at (suc n) (head_at bs at) k) → Yes G P (read_opening bs at (suc n))
unfolding read_opening
yes_kind {G} {P} k v bs at n rest t w y =
    yes_head _ _ _ _ (w.stands opens t) (subst (λ (x : Kind). Yes G P (opening_body bs at (suc n) (head_at bs at) x)) (sym w.kind) y)

-- a fact of each number of the table is a fact of each known scheme
pub of_schemes : (p : ℕ → Bool) (es : List SchemeEntry) → all (λ (e : SchemeEntry). p e.number) es ≡ true
    → (n : ℕ) → any (λ (e : SchemeEntry). eqb n e.number) es ≡ true → p n ≡ true
unfolding any all
of_schemes p [] a n k = never k
of_schemes p (e ∷ es) a n k =
    by_test (λ t. (t || any (λ (e : SchemeEntry). eqb n e.number) es) ≡ true → p n ≡ true) (eqb n e.number)
    (λ d k. rw (eqb-true n e.number d) (and_left (p e.number) _ a)) (λ d k. of_schemes p es (and_right (p e.number) _ a) n k) k

-- no other number is in the table
pub no_scheme_lem : (n : ℕ) → (n ≡ 0 → ⊥) → (n ≡ 1 → ⊥) → (n ≡ 6 → ⊥) → (n ≡ 7 → ⊥) → (n ≡ 8 → ⊥) → (n ≡ 9 → ⊥) → scheme_in schemes n ≡ none
unfolding scheme_in schemes
no_scheme_lem n a b c d e f = simp (ne_eqb n 0 a, ne_eqb n 1 b, ne_eqb n 6 c, ne_eqb n 7 d, ne_eqb n 8 e, ne_eqb n 9 f)

known_below : (n : ℕ) → known_scheme n ≡ true → n < 256
unfolding known_scheme schemes all
known_below n g = ltb-true n 256 (of_schemes (λ n. ltb n 256) schemes refl n g)

-- a scheme that was written, before what is accepted after it
yes_scheme : {G : Type 0} {P : Opened → Type 0} (o : Option (Scheme Bytes)) (bs : Bytes) (at n : ℕ) (rest : Bytes) → If FitScheme o → (G → If GoodScheme o)
    → drop at bs ≡ or_null scheme_item o ++ rest
    → ((s : SchemeAt) (next : ℕ) → said_scheme bs s ≡ o → drop next bs ≡ rest → Yes G P (after_scheme bs at (suc n) s next))
    → Yes G P (read_opening bs at (suc n))
unfolding or_null scheme_item opening_body code_of
yes_scheme none bs at n rest f good e y =
    let w = spelled_null bs at rest e in
    yes_kind Null 22 bs at n _ refl w (y no_scheme (head_at bs at).next refl w.rest)
yes_scheme (some (number v)) bs at n rest f good e y =
    let w = spelled Negative v bs at rest f e in
    yes_kind Negative v bs at n _ refl w
    (yes_need _ _ _ _ (λ g. subst (λ (v : ℕ). known_scheme v ≡ true) (sym w.value) (good g))
    (λ t. y (number_at (head_at bs at).value) (head_at bs at).next (ap (λ (v : ℕ). some (number v)) w.value) w.rest))
yes_scheme (some (name t)) bs at n rest f good e y =
    let w = spelled_text t bs at rest f e in
    yes_kind Text (length t) bs at n _ refl w
    (yes_bind _ _ (yes_text_body scheme_name t bs at rest w good) (λ next x.
    y (name_at (head_at bs at).next (head_at bs at).value) next (ap (λ (z : Bytes). some (name z)) x.says) x.after))

spelled_true : (bs : Bytes) (at : ℕ) (rest : Bytes) → drop at bs ≡ true_item ++ rest → Spelled True 21 bs at rest
spelled_true bs at rest e = spelled True 21 bs at rest refl (e ∙ ap (λ (x : Bytes). x ++ rest) (sym true_bytes))

pub yes_opening : {G : Type 0} (n left : ℕ) (o : Opening Bytes) (bs : Bytes) (at : ℕ) (rest : Bytes) → Opens n o left → FitOpening o → (G → GoodOpening o)
    → drop at bs ≡ concat (open_items n o) ++ rest → Yes G (λ r. OpenedWas o left bs rest r) (read_opening bs at n)
unfolding read_opening code_of opening_body concat
yes_opening n left o bs at rest empty f good e = yes! (record { says = refl; left = refl; after = e })
yes_opening n left o bs at rest (alone {k = k}) f good e =
    let w = spelled Number (suc k) bs at rest f (item_one (head_bytes Number (suc k)) _ _ e) in
    yes_kind Number (suc k) bs at 0 rest refl w (yes_number (suc k) 0 0 bs at rest good alone w)
yes_opening n left o bs at rest (before {k = k} {left = l} h) f good e =
    let w = spelled Number k bs at rest f (item_one (head_bytes Number k) _ _ e) in
    yes_kind Number k bs at (suc l) rest refl w (yes_number k (suc l) (suc l) bs at rest good (before h) w)
yes_opening n left o bs at rest (all! {left = l} h) f good e =
    let w = spelled_true bs at rest (item_one true_item _ _ e) in
    yes_kind True 21 bs at l rest refl w
    (yes_need _ _ _ _ (λ g. le-leb (suc l) 4 (omega arith)) (λ t. yes! (record { says = refl; left = omega arith; after = w.rest })))
yes_opening n left o bs at rest (full! {s = s} {a = a} {left = l} h) f good e =
    yes_scheme s bs at (suc l) (authority_item a ++ rest) f.0 (λ g. (good g).0)
    (first_item (or_null scheme_item s) (authority_item a ∷ []) _ rest e ∙ ap (λ (x : Bytes). or_null scheme_item s ++ (x ++ rest)) (append-nil (authority_item a)))
    (yes_after_scheme s a l bs at rest f.1 (λ g. (good g).1))
yes_opening n left o bs at rest (lone {s = s}) f good e =
    yes_scheme s bs at 0 rest f.0 (λ g. absurd (good g)) (item_one (or_null scheme_item s) _ _ e) (λ x next d r. yes_ok good (no_second bs at x next))
yes_opening n left o bs at rest (missing {s = s} {left = l} h) f good e =
    yes_scheme s bs at (suc (suc l)) (null_item ++ rest) f.0 (λ g. absurd (good g)) (first_item (or_null scheme_item s) (null_item ∷ []) _ rest e)
    (λ x next d r. yes_ok good (no_authority_lem bs at (suc (suc (suc l))) x next rest r))

-- a good opening fits

fit_scheme : (s : Scheme Bytes) → GoodScheme s → FitScheme s
fit_scheme (number n) g = omega (arith, known_below n g)
fit_scheme (name t) g = good_64 {s = scheme_name} (lit< tt) t g

pub fit_set : {A : Type 0} {P Q : A → Type 0} → ((a : A) → P a → Q a) → (o : Option A) → If P o → If Q o
fit_set f none g = tt
fit_set f (some a) g = f a g

pub fit_opening : (o : Opening Bytes) → GoodOpening o → FitOpening o
fit_opening (discard k) g = omega arith
fit_opening discard_all g = tt
fit_opening (full s none) g = absurd g
fit_opening (full s (some a)) g = (fit_set fit_scheme s g.0, fit_authority a g.1)

-- ---- more bytes at the end

after_scheme_stable : (p q : Bytes) (at n : ℕ) (s : SchemeAt) (next : ℕ) → Octets p → Stable (after_scheme p at n s next) (after_scheme (p ++ q) at n s next)
unfolding after_scheme
after_scheme_stable p q at n s next sm = stable_need _ _ _ _ _ (λ w. stable_bind _ _ _ _ (authority_stable p q next sm) (λ a. same!))

opening_body_stable : (k : Kind) (p q : Bytes) (at n : ℕ) (h : Head) → Octets p → Stable (opening_body p at n h k) (opening_body (p ++ q) at n h k)
unfolding opening_body
opening_body_stable Number p q at n h sm = same!
opening_body_stable Negative p q at n h sm = stable_need _ _ _ _ _ (λ w. after_scheme_stable p q at n _ _ sm)
opening_body_stable ByteString p q at n h sm = same!
opening_body_stable Text p q at n h sm = stable_bind _ _ _ _ (text_body_stable scheme_name p q at h) (λ next. after_scheme_stable p q at n _ next sm)
opening_body_stable Array p q at n h sm = same!
opening_body_stable True p q at n h sm = same!
opening_body_stable Null p q at n h sm = after_scheme_stable p q at n _ _ sm
opening_body_stable Other p q at n h sm = same!

pub opening_stable : (p q : Bytes) (at n : ℕ) → Octets p → Stable (read_opening p at n) (read_opening (p ++ q) at n)
unfolding read_opening
opening_stable p q at zero sm = same!
opening_stable p q at (suc n) sm = stable_bind _ _ _ _ (head_stable _ p q at) (λ h. opening_body_stable h.kind p q at (suc n) h sm)

-- ---- how many items there are

pub opens_left : {n left : ℕ} {o : Opening Bytes} → Opens n o left → left ≤ 3
opens_left empty = lit≤ tt
opens_left alone = lit≤ tt
opens_left (before h) = omega arith
opens_left (all! h) = h
opens_left (full! h) = h
opens_left lone = lit≤ tt
opens_left (missing h) = omega arith

pub opens_count : {n left : ℕ} {o : Opening Bytes} → Opens n o left → n ≤ 5
opens_count empty = lit≤ tt
opens_count alone = lit≤ tt
opens_count (before h) = omega arith
opens_count (all! h) = omega arith
opens_count (full! h) = omega arith
opens_count lone = lit≤ tt
opens_count (missing h) = omega arith

pub opens_of : (o : Opening Bytes) (xs : List Bytes) → length xs ≤ 3 → Opens (length (with_opening o xs)) o (length xs)
unfolding with_opening discard_alone
opens_of (discard zero) [] h = empty
opens_of (discard (suc k)) [] h = alone
opens_of (discard k) (x ∷ xs) h = before {left = length xs} (omega arith)
opens_of discard_all xs h = all! h
opens_of (full s (some a)) xs h = full! h
opens_of (full s none) [] h = lone
opens_of (full s none) (x ∷ xs) h = missing {left = length xs} (omega arith)
