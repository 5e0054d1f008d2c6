-- The laws of path, query and fragment: each may be unset, and what is unset at the end is left off.
use Prim.Native.Nat.{ℕ, zero, suc, ◌-◌, ◌^◌, ◌≤◌, ◌<◌}
use native.Mathlib.Omega.{arith}
use mathlib.Core.Path.{◌≡◌, refl, sym, ap, ap₂, ◌∙◌, subst}
use mathlib.Core.Bool.{Bool, true, not, ◌||◌}
use mathlib.Core.List.{List, [], ◌∷◌, ◌++◌, append_assoc, append-nil, map}
use mathlib.Core.Option.{Option, none, some}
use lib.ListN.{length, get_or, drop, length-map}
use borrow.Author.Tests.{ne_eqb}
use Rattle.rules.specs.Bytes.{Bytes, Each, Octets, within, concat, big_endian}
use Rattle.rules.specs.Head.{Kind, Text, Array, Null, code_of, is, Head, kind_at, head_at, head_bytes, major_of, shortest, width}
use Rattle.rules.specs.Rules.{Sort, fragment_text}
use Rattle.rules.specs.Reader.{contents, Slot, unset, SlotAt, null_body, array_body, read_array, fragment_body, read_fragment, content_at}
use Rattle.rules.specs.Meaning.{said_texts, said_text}
use Rattle.rules.specs.Encode.{text_item, array_item, texts_item, null_item, or_null, tail_items}
use Rattle.rules.specs.Valid.{If, Good, GoodTexts}
use Rattle.rules.proofs.Tools.{never, or_left}
use Rattle.rules.proofs.Steps.{Ok, ok!, ok_bind, ok_if, ok_need, Yes, yes!, yes_bind, yes_then, yes_else, yes_need, Stable, same!, stable_bind, stable_if, stable_need}
use Rattle.rules.proofs.Heads.{is_kind, small_value, Stands, ok_head, yes_head, head_spells, next_inside, Spelled, spelled, head_stable, Lead, lead}
use Rattle.rules.proofs.Texts.{ok_text_body, ok_texts, FitText, yes_text_body, spelled_text, yes_texts, text_body_stable, texts_stable, length_contents}

-- ---- what is written of a slot where `left` items are left, this one among them

abbrev pub written : {A : Type 0} → (A → Bytes) → ℕ → Option A → List Bytes
written f zero o = []
written f (suc n) o = or_null f o ∷ []

-- where none is left it is unset, and the last is set
abbrev pub Last : {A : Type 0} → ℕ → Option A → Type 0
Last zero none = Unit {0}
Last zero (some a) = ⊥
Last (suc zero) none = ⊥
Last (suc (suc n)) none = Unit {0}
Last (suc n) (some a) = Unit {0}

-- ---- null

null_value : (bs : Bytes) (at : ℕ) → kind_at bs at ≡ Null → (head_at bs at).value ≡ 22
null_value bs at e = small_value bs at 0xF6 (subst (λ (k : Kind). Lead k (get_or bs at 0)) e (lead (get_or bs at 0))) refl

null_bytes : head_bytes Null 22 ≡ null_item
unfolding head_bytes major_of shortest width big_endian
null_bytes = refl

pub null_spells : {allowed : Kind → Bool} (bs : Bytes) (at : ℕ) → Octets bs → Stands allowed bs at → kind_at bs at ≡ Null → drop at bs ≡ null_item ++ drop (head_at bs at).next bs
null_spells bs at sm r e =
    head_spells bs at sm r Null tt e ∙ ap (λ (x : Bytes). x ++ drop (head_at bs at).next bs) (ap (head_bytes Null) (null_value bs at e) ∙ null_bytes)

pub spelled_null : (bs : Bytes) (at : ℕ) (rest : Bytes) → drop at bs ≡ null_item ++ rest → Spelled Null 22 bs at rest
spelled_null bs at rest e = spelled Null 22 bs at rest refl (e ∙ ap (λ (x : Bytes). x ++ rest) (sym null_bytes))

-- ---- a slot that is accepted

-- what it says is spelled at its place, and keeps the rules
pub record SlotIs {A : Type 0} (f : A → Bytes) (P : A → Type 0) (bs : Bytes) (at left : ℕ) (o : Option A) (next : ℕ) : Type 0 where
  pub spells : drop at bs ≡ concat (written f left o) ++ drop next bs
  pub last : Last left o
  pub good : If P o
  pub inside : at ≤ length bs → next ≤ length bs

-- one item at the place
pub one_item : (x : Bytes) (l r : Bytes) → l ≡ x ++ r → l ≡ concat (x ∷ []) ++ r
unfolding concat
one_item x l r e = e ∙ ap (λ (y : Bytes). y ++ r) (sym (append-nil x))

-- the one item that was written
pub item_one : (x : Bytes) (l r : Bytes) → l ≡ concat (x ∷ []) ++ r → l ≡ x ++ r
unfolding concat
item_one x l r e = e ∙ ap (λ (y : Bytes). y ++ r) (append-nil x)

ok_null : {A : Type 0} {f : A → Bytes} {P : A → Type 0} {allowed : Kind → Bool} (say : Slot → Option A) → say unset ≡ none
    → (bs : Bytes) (at left : ℕ) → Octets bs → Stands allowed bs at → kind_at bs at ≡ Null
    → Ok (λ p. SlotIs f P bs at (suc left) (say p.slot) p.next) (null_body at left (head_at bs at))
unfolding null_body or_null
ok_null {f = f} {P = P} say u bs at zero sm r e = ok_need _ _ _ _ (λ t. never t)
ok_null {f = f} {P = P} say u bs at (suc left) sm r e = ok_need _ _ _ _ (λ t.
    ok! (rw u (record { spells = one_item null_item _ _ (null_spells bs at sm r e); last = tt; good = tt; inside = λ h. next_inside bs at r })))

ok_array_body : {allowed : Kind → Bool} (s : Sort) (low high : ℕ) (bs : Bytes) (at left : ℕ) → Octets bs → Stands allowed bs at → kind_at bs at ≡ Array
    → Ok (λ p. SlotIs texts_item (GoodTexts s low high) bs at (suc left) (said_texts bs p.slot) p.next) (array_body s low high bs at (head_at bs at))
unfolding array_body texts_item array_item or_null
ok_array_body s low high bs at left sm r e =
    let h : Head = head_at bs at in
    let ts : List Bytes = contents bs h.next h.value in
    let n : length ts ≡ h.value = length_contents bs h.next h.value in
    ok_need _ _ _ _ (λ w. ok_bind _ _ (ok_texts s bs h.next h.value sm) (λ next t.
    ok! (record {
      spells = one_item (texts_item ts) _ _
          (head_spells bs at sm r Array tt e
          ∙ ap₂ (λ (v : ℕ) (xs : Bytes). head_bytes Array v ++ xs) (sym (length-map ts text_item ∙ n)) t.spells
          ∙ sym (append_assoc (head_bytes Array (length (map text_item ts))) (concat (map text_item ts)) (drop next bs)));
      last = tt;
      good = record { count = subst (λ (m : ℕ). within low high m ≡ true) (sym n) w; each = t.good };
      inside = λ i. t.inside (next_inside bs at r);
    })))

pub ok_array : (s : Sort) (low high : ℕ) (bs : Bytes) (at left : ℕ) → Octets bs
    → Ok (λ p. SlotIs texts_item (GoodTexts s low high) bs at left (said_texts bs p.slot) p.next) (read_array s low high bs at left)
unfolding read_array concat head_at
ok_array s low high bs at zero sm = ok! (record { spells = refl; last = tt; good = tt; inside = λ h. h })
ok_array s low high bs at (suc left) sm =
    ok_head _ _ _ _ (λ r. ok_if _ _ _
    (λ y. ok_null (said_texts bs) refl bs at left sm r (is_kind Null _ y))
    (λ n. ok_array_body s low high bs at left sm r (is_kind Array _ (or_left _ _ r.kind n))))

ok_fragment_body : {allowed : Kind → Bool} (bs : Bytes) (at left : ℕ) → Octets bs → Stands allowed bs at → kind_at bs at ≡ Text
    → Ok (λ p. SlotIs text_item (Good fragment_text) bs at (suc left) (said_text bs p.slot) p.next) (fragment_body bs at (head_at bs at))
unfolding fragment_body or_null
ok_fragment_body bs at left sm r e =
    ok_bind _ _ (ok_text_body fragment_text bs at sm r e) (λ next t.
    ok! (record { spells = one_item (text_item (content_at bs at)) _ _ t.spells; last = tt; good = t.good; inside = λ i. omega (arith, t.ends, t.stands.inside) }))

pub ok_fragment : (bs : Bytes) (at left : ℕ) → Octets bs
    → Ok (λ p. SlotIs text_item (Good fragment_text) bs at left (said_text bs p.slot) p.next) (read_fragment bs at left)
unfolding read_fragment concat head_at
ok_fragment bs at zero sm = ok! (record { spells = refl; last = tt; good = tt; inside = λ h. h })
ok_fragment bs at (suc left) sm =
    ok_head _ _ _ _ (λ r. ok_if _ _ _
    (λ y. ok_null (said_text bs) refl bs at left sm r (is_kind Null _ y))
    (λ n. ok_fragment_body bs at left sm r (is_kind Text _ (or_left _ _ r.kind n))))

-- ---- a slot that was written is accepted where it is good, and what is accepted is the slot

-- a count and lengths that heads can carry
abbrev pub FitTexts : List Bytes → Type 0
FitTexts ts = (length ts < 2 ^ 64) × Each FitText ts

pub record SlotWas {A : Type 0} (say : Slot → Option A) (o : Option A) (bs : Bytes) (rest : Bytes) (p : SlotAt) : Type 0 where
  pub says : say p.slot ≡ o
  pub after : drop p.next bs ≡ rest

yes_null : {G A : Type 0} (say : Slot → Option A) → say unset ≡ none → (bs : Bytes) (at left : ℕ) (rest : Bytes) → Spelled Null 22 bs at rest
    → Yes G (λ p. SlotWas say none bs rest p) (null_body at (suc left) (head_at bs at))
unfolding null_body
yes_null say u bs at left rest w = yes_need _ _ _ _ (λ g. ap not (ne_eqb (suc left) 0 (omega arith))) (λ t. yes! (record { says = u; after = w.rest }))

yes_array_body : {G : Type 0} (s : Sort) (low high : ℕ) (ts : List Bytes) (bs : Bytes) (at : ℕ) (rest : Bytes) → Each FitText ts → (G → GoodTexts s low high ts)
    → Spelled Array (length ts) bs at (concat (map text_item ts) ++ rest)
    → Yes G (λ p. SlotWas (said_texts bs) (some ts) bs rest p) (array_body s low high bs at (head_at bs at))
unfolding array_body
yes_array_body s low high ts bs at rest f good w =
    let h : Head = head_at bs at in
    yes_need _ _ _ _ (λ g. subst (λ (m : ℕ). within low high m ≡ true) (sym w.value) (good g).count)
    (λ t. rw w.value (yes_bind _ _ (yes_texts s ts bs h.next rest f (λ g. (good g).each) w.rest) (λ next r.
    yes! (record { says = ap some r.1; after = r.0 }))))

spelled_texts : (ts : List Bytes) (bs : Bytes) (at : ℕ) (rest : Bytes) → length ts < 2 ^ 64 → drop at bs ≡ texts_item ts ++ rest
    → Spelled Array (length ts) bs at (concat (map text_item ts) ++ rest)
unfolding texts_item array_item
spelled_texts ts bs at rest f e =
    spelled Array (length ts) bs at (concat (map text_item ts) ++ rest) f
    (e ∙ append_assoc (head_bytes Array (length (map text_item ts))) (concat (map text_item ts)) rest
    ∙ ap (λ (n : ℕ). head_bytes Array n ++ (concat (map text_item ts) ++ rest)) (length-map ts text_item))

pub yes_array : {G : Type 0} (s : Sort) (low high : ℕ) (o : Option (List Bytes)) (bs : Bytes) (at left : ℕ) (rest : Bytes)
    → Last left o → If FitTexts o → (G → If (GoodTexts s low high) o) → drop at bs ≡ concat (written texts_item left o) ++ rest
    → Yes G (λ p. SlotWas (said_texts bs) o bs rest p) (read_array s low high bs at left)
unfolding read_array concat or_null code_of
yes_array s low high none bs at zero rest l f good e = yes! (record { says = refl; after = e })
yes_array s low high none bs at (suc (suc n)) rest l f good e =
    let w = spelled_null bs at rest (item_one null_item _ _ e) in
    yes_head _ _ _ _ (w.stands (λ k. is Array k || is Null k) refl) (yes_then _ _ _ (subst (λ (k : Kind). is Null k ≡ true) (sym w.kind) refl) (yes_null (said_texts bs) refl bs at n rest w))
yes_array s low high (some ts) bs at (suc n) rest l f good e =
    let w = spelled_texts ts bs at rest f.0 (item_one (texts_item ts) _ _ e) in
    yes_head _ _ _ _ (w.stands (λ k. is Array k || is Null k) refl)
    (yes_else _ _ _ (subst (λ (k : Kind). not (is Null k) ≡ true) (sym w.kind) refl) (yes_array_body s low high ts bs at rest f.1 good w))
yes_array {G = G} s low high none bs at (suc zero) rest l f good e = elim l [ ]
yes_array {G = G} s low high (some ts) bs at zero rest l f good e = elim l [ ]

pub yes_fragment : {G : Type 0} (o : Option Bytes) (bs : Bytes) (at left : ℕ) (rest : Bytes)
    → Last left o → If FitText o → (G → If (Good fragment_text) o) → drop at bs ≡ concat (written text_item left o) ++ rest
    → Yes G (λ p. SlotWas (said_text bs) o bs rest p) (read_fragment bs at left)
unfolding read_fragment concat or_null code_of fragment_body
yes_fragment none bs at zero rest l f good e = yes! (record { says = refl; after = e })
yes_fragment none bs at (suc (suc n)) rest l f good e =
    let w = spelled_null bs at rest (item_one null_item _ _ e) in
    yes_head _ _ _ _ (w.stands (λ k. is Text k || is Null k) refl) (yes_then _ _ _ (subst (λ (k : Kind). is Null k ≡ true) (sym w.kind) refl) (yes_null (said_text bs) refl bs at n rest w))
yes_fragment (some t) bs at (suc n) rest l f good e =
    let w = spelled_text t bs at rest f (item_one (text_item t) _ _ e) in
    yes_head _ _ _ _ (w.stands (λ k. is Text k || is Null k) refl)
    (yes_else _ _ _ (subst (λ (k : Kind). not (is Null k) ≡ true) (sym w.kind) refl)
    (yes_bind _ _ (yes_text_body fragment_text t bs at rest w good) (λ next r. yes! (record { says = ap some r.says; after = r.after }))))
yes_fragment {G = G} none bs at (suc zero) rest l f good e = elim l [ ]
yes_fragment {G = G} (some t) bs at zero rest l f good e = elim l [ ]

-- ---- more bytes at the end

pub array_stable : (s : Sort) (low high : ℕ) (p q : Bytes) (at left : ℕ) → Stable (read_array s low high p at left) (read_array s low high (p ++ q) at left)
unfolding read_array array_body
array_stable s low high p q at zero = same!
array_stable s low high p q at (suc left) =
    stable_bind _ _ _ _ (head_stable _ p q at) (λ h. stable_if _ _ _ _ _ (λ y. same!)
    (λ n. stable_need _ _ _ _ _ (λ w. stable_bind _ _ _ _ (texts_stable s p q h.next h.value) (λ next. same!))))

pub fragment_stable : (p q : Bytes) (at left : ℕ) → Stable (read_fragment p at left) (read_fragment (p ++ q) at left)
unfolding read_fragment fragment_body
fragment_stable p q at zero = same!
fragment_stable p q at (suc left) =
    stable_bind _ _ _ _ (head_stable _ p q at) (λ h. stable_if _ _ _ _ _ (λ y. same!)
    (λ n. stable_bind _ _ _ _ (text_body_stable fragment_text p q at h) (λ next. same!)))

-- ---- path, query and fragment together

module _ (p q : Option (List Bytes)) (f : Option Bytes) where
  abbrev pub three : ℕ → List Bytes
  three left = written texts_item left p ++ (written texts_item (left - 1) q ++ written text_item (left - 2) f)

pub tail_three : (left : ℕ) (p q : Option (List Bytes)) (f : Option Bytes) → left ≤ 3 → Last left p → Last (left - 1) q → Last (left - 2) f
    → (tail_items p q f ≡ three p q f left) × (length (tail_items p q f) ≡ left)
unfolding tail_items or_null
tail_three zero none none none h a b c = (refl, refl)
tail_three (suc zero) (some p) none none h a b c = (refl, refl)
tail_three (suc (suc zero)) p (some q) none h a b c = (refl, refl)
tail_three (suc (suc (suc zero))) p q (some f) h a b c = (refl, refl)
tail_three (suc (suc (suc (suc n)))) p q f h a b c = absurd (omega arith)
tail_three zero none none (some f) h a b c = elim c [ ]
tail_three zero none (some q) f h a b c = elim b [ ]
tail_three zero (some p) q f h a b c = elim a [ ]
tail_three (suc zero) none q f h a b c = elim a [ ]
tail_three (suc zero) (some p) none (some f) h a b c = elim c [ ]
tail_three (suc zero) (some p) (some q) f h a b c = elim b [ ]
tail_three (suc (suc zero)) p none f h a b c = elim b [ ]
tail_three (suc (suc zero)) p (some q) (some f) h a b c = elim c [ ]
tail_three (suc (suc (suc zero))) p q none h a b c = elim c [ ]
