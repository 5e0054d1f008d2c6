-- The steps of reading a head, as the code takes them, and what an accepted head says.
use Prim.Native.Nat.{ℕ, ◌+◌, ◌^◌, ◌≤◌, ◌<◌}
use native.Mathlib.Omega.{arith}
use native.Mathlib.Decide.{dec_le}
use native.Mathlib.Nat.{pow-le-pow_right}
use mathlib.Core.Path.{◌≡◌, refl, sym, ap, ap₂, ◌∙◌, subst, fun_ext}
use mathlib.Core.Bool.{Bool, true, false}
use lib.ListN.{length, get_or}
use lib.Dec.{ltb, lit<}
use borrow.Author.Tests.{lt-ltb, le-ltb, le-leb, lt-leb, eq-eqb, ne_eqb}
use Rattle.rules.specs.Bytes.{Bytes, Octets, part, number_from}
use Rattle.rules.specs.Result.{Res, refused, CUT, FORM, HEAD}
use Rattle.rules.specs.Head.{Kind, Number, Negative, ByteString, Text, Array, True, Null, Other, Head, width, shortest, value_from, kind_at, info_at, width_at, value_at, head_at, read_head, Fits}
use Rattle.rules.specs.Reader.{span_at}
use Rattle.rules.specs.Standing.{ItemStands}
use Rattle.rules.proofs.Tools.{tests, cond_split, cond_yes, cond_no, length_part, part_cons, octets_part, never}
use Rattle.rules.proofs.Steps.{need_yes, need_no, ok_at}
use Rattle.rules.proofs.Heads.{Lead, lead, Stands, head_ok, small_value}
use Rattle.cbor.specs.Heads.{accepted, span_is, least_of, if_shortest, read_argument}
use Rattle.cbor.proofs.BigEndian.{number_below}

-- ---- the shortest head

-- a number below 24 stands in the first byte
pub width_small : (i : ℕ) → i < 24 → width i ≡ 0
unfolding width
width_small i h = cond_yes (ltb i 24) 0 _ (lt-ltb i 24 h)

pub shortest_small : (v : ℕ) → v < 24 → shortest v ≡ v
unfolding shortest
shortest_small v h = cond_yes (ltb v 24) v _ (lt-ltb v 24 h)

-- the head information of a head with w bytes after the first
abbrev pub Sized : ℕ → ℕ → Type 0
Sized i w = (24 ≤ i) × (i < 28) × (width i ≡ w)

-- the numbers whose shortest head has 1, 2, 4 and 8 bytes after the first
module _ (v : ℕ) where
  pub shortest_1 : 24 ≤ v → v < 256 → shortest v ≡ 24
  unfolding shortest
  shortest_1 l h = simp (le-ltb v 24 l, lt-ltb v 256 h)

  pub shortest_2 : 256 ≤ v → v < 65536 → shortest v ≡ 25
  unfolding shortest
  shortest_2 l h = simp (le-ltb v 24 (omega arith), le-ltb v 256 l, lt-ltb v 65536 h)

  pub shortest_4 : 65536 ≤ v → v < 4294967296 → shortest v ≡ 26
  unfolding shortest
  shortest_4 l h = simp (le-ltb v 24 (omega arith), le-ltb v 256 (omega arith), le-ltb v 65536 l, lt-ltb v 4294967296 h)

  pub shortest_8 : 4294967296 ≤ v → shortest v ≡ 27
  unfolding shortest
  shortest_8 l = simp (le-ltb v 24 (omega arith), le-ltb v 256 (omega arith), le-ltb v 65536 (omega arith), le-ltb v 4294967296 l)

-- smaller numbers have smaller head information
module _ (v : ℕ) where
  pub under_1 : v < 24 → shortest v < 24
  under_1 h = omega (arith, shortest_small v h)

  pub under_2 : v < 256 → shortest v < 25
  unfolding shortest
  under_2 h = cond_split (λ (i : ℕ). i < 25) (ltb v 24) (λ t. omega tests) (λ f. rw (lt-ltb v 256 h) (omega arith))

  pub under_4 : v < 65536 → shortest v < 26
  unfolding shortest
  under_4 h =
      cond_split (λ (i : ℕ). i < 26) (ltb v 24) (λ t. omega tests)
      (λ f. cond_split (λ (i : ℕ). i < 26) (ltb v 256) (λ t. omega arith) (λ g. rw (lt-ltb v 65536 h) (omega arith)))

  pub under_8 : v < 4294967296 → shortest v < 27
  unfolding shortest
  under_8 h =
      cond_split (λ (i : ℕ). i < 27) (ltb v 24) (λ t. omega tests)
      (λ f. cond_split (λ (i : ℕ). i < 27) (ltb v 256) (λ t. omega arith)
      (λ g. cond_split (λ (i : ℕ). i < 27) (ltb v 65536) (λ t. omega arith) (λ e. rw (lt-ltb v 4294967296 h) (omega arith))))

-- head information 24 to 27, case by case
cases : (P : ℕ → Type 0) → P 24 → P 25 → P 26 → P 27 → (i : ℕ) → 24 ≤ i → i < 28 → P i
cases P a b c d i l h =
    elim (dec_le i 24) [
      | yes m ↦ let e : 24 ≡ i = omega arith in subst P e a
      | no m ↦ elim (dec_le i 25) [
        | yes n ↦ let e : 25 ≡ i = omega arith in subst P e b
        | no n ↦ elim (dec_le i 26) [ yes o ↦ let e : 26 ≡ i = omega arith in subst P e c | no o ↦ let e : 27 ≡ i = omega arith in subst P e d ]
      ]
    ]

-- the shortest head of a number of that many bytes has this head information, or is shorter
abbrev Least : ℕ → Type 0
Least i = (v : ℕ) → v < 256 ^ width i → (least_of i ≤ v → shortest v ≡ i) × (v < least_of i → shortest v < i)

pub least : (i : ℕ) → 24 ≤ i → i < 28 → Least i
unfolding width least_of
least = cases Least (λ v h. (λ l. shortest_1 v l h, under_1 v)) (λ v h. (λ l. shortest_2 v l h, under_2 v)) (λ v h. (λ l. shortest_4 v l h, under_4 v)) (λ v h. (shortest_8 v, under_8 v))

pub width_most : (i : ℕ) → i < 28 → width i ≤ 8
unfolding width
width_most i h = cond_split (λ (w : ℕ). w ≤ 8) (ltb i 24) (λ t. omega arith) (λ f. pow-le-pow_right {n = 2} (lit< tt) {j = 3} (omega arith))

-- ---- after the kind, by the head information

module _ (k : Kind) (i : ℕ) (bs : Bytes) (at : ℕ) where
  pub argument_small : i < 24 → at < length bs → accepted k i (at + 1) ≡ read_argument k i bs at
  unfolding read_argument if_shortest
  argument_small h l =
      let w : width i ≡ 0 = width_small i h in
      let v : value_from i (part bs (at + 1) (width i)) ≡ i = cond_yes (ltb i 24) i _ (lt-ltb i 24 h) in
      let n : at + 1 ≡ at + 1 + width i = omega arith in
      ap₂ (accepted k) (sym v) n
      ∙ need_yes _ _ _ _ (eq-eqb _ _ (ap shortest v ∙ shortest_small i h))
      ∙ need_yes _ _ _ _ (le-leb (at + 1 + width i) (length bs) (omega arith))
      ∙ need_yes _ _ _ _ (lt-ltb i 28 (omega arith))

  pub argument_reserved : 28 ≤ i → refused HEAD at ≡ read_argument k i bs at
  unfolding read_argument
  argument_reserved h = need_no _ _ _ _ (le-ltb i 28 h)

  pub argument_cut : (w : ℕ) → Sized i w → length bs < at + 1 + w → refused CUT at ≡ read_argument k i bs at
  unfolding read_argument
  argument_cut w z l =
      need_no _ _ _ _ (lt-leb (at + 1 + width i) (length bs) (omega (arith, z.2))) ∙ need_yes _ _ _ _ (lt-ltb i 28 z.1)

  pub argument_sized : (w v : ℕ) → Sized i w → at + 1 + w ≤ length bs → v ≡ number_from 0 (part bs (at + 1) w)
      → if_shortest k v i (at + 1 + w) at ≡ read_argument k i bs at
  unfolding read_argument
  argument_sized w v z l e =
      let value : v ≡ value_from i (part bs (at + 1) (width i)) =
      e ∙ ap (λ (n : ℕ). number_from 0 (part bs (at + 1) n)) (sym z.2) ∙ sym (cond_no (ltb i 24) i _ (le-ltb i 24 z.0)) in
      ap₂ (λ (x n : ℕ). if_shortest k x i (at + 1 + n) at) value (sym z.2)
      ∙ need_yes _ _ _ _ (le-leb (at + 1 + width i) (length bs) (omega (arith, z.2)))
      ∙ need_yes _ _ _ _ (lt-ltb i 28 z.1)

-- a number that stands after the first byte, by the least one that needs as many bytes
module _ (k : Kind) (i : ℕ) (bs : Bytes) (at v : ℕ) (o : Octets bs) (l : 24 ≤ i) (h : i < 28) (f : at + 1 + width i ≤ length bs) (e : v ≡ number_from 0 (part bs (at + 1) (width i))) where
  small : v < 256 ^ width i
  small =
      let b = number_below (part bs (at + 1) (width i)) (octets_part bs (at + 1) (width i) o) in
      omega (arith, e, b, ap (λ (n : ℕ). 256 ^ n) (length_part bs (at + 1) (width i) f))

  pub argument_less : v < least_of i → refused HEAD at ≡ read_argument k i bs at
  unfolding if_shortest
  argument_less m = need_no _ _ _ _ (ne_eqb (shortest v) i (λ z. omega (arith, z, (least i l h v small).1 m))) ∙ argument_sized k i bs at (width i) v (l, h, refl) f e

  pub argument_enough : least_of i ≤ v → accepted k v (at + 1 + width i) ≡ read_argument k i bs at
  unfolding if_shortest
  argument_enough m = need_yes _ _ _ _ (eq-eqb _ _ ((least i l h v small).0 m)) ∙ argument_sized k i bs at (width i) v (l, h, refl) f e

-- ---- the first byte

module _ (allowed : Kind → Bool) (bs : Bytes) (at : ℕ) where
  pub head_missing : length bs ≤ at → refused CUT at ≡ read_head allowed bs at
  unfolding read_head
  head_missing h = need_no _ _ _ _ (le-ltb at (length bs) h)

  pub head_not_allowed : (k : Kind) → at < length bs → k ≡ kind_at bs at → allowed k ≡ false → refused FORM at ≡ read_head allowed bs at
  unfolding read_head
  head_not_allowed k h e a = need_no _ _ _ _ (ap allowed (sym e) ∙ a) ∙ need_yes _ _ _ _ (lt-ltb at (length bs) h)

  pub head_argument : (k : Kind) → at < length bs → k ≡ kind_at bs at → allowed k ≡ true → read_argument k (info_at bs at) bs at ≡ read_head allowed bs at
  unfolding read_head head_at read_argument if_shortest
  head_argument k h e a =
      ap (λ (j : Kind). read_argument j (info_at bs at) bs at) e
      ∙ need_yes _ _ _ _ (ap allowed (sym e) ∙ a)
      ∙ need_yes _ _ _ _ (lt-ltb at (length bs) h)

-- ---- an accepted head

-- what an accepted head says of its number and of the position after it
pub record Accepted (allowed : Kind → Bool) (bs : Bytes) (at : ℕ) (k : Kind) (v next : ℕ) : Type 0 where
  pub stands : Stands allowed bs at
  pub head : record { kind = k; value = v; next = next } ≡ head_at bs at
  pub may : allowed k ≡ true
  pub after : at < next
  pub inside : next ≤ length bs

pub head_accepted : {allowed : Kind → Bool} {bs : Bytes} {at : ℕ} {k : Kind} {v next : ℕ} → accepted k v next ≡ read_head allowed bs at → Accepted allowed bs at k v next
unfolding head_at
head_accepted {allowed} {bs} {at} {k} {v} {next} e =
    let o = ok_at (head_ok allowed bs at) (sym e) in
    let n : next ≡ at + 1 + width_at bs at = ap (λ (h : Head). h.next) o.0 in
    record {
      stands = o.1;
      head = o.0;
      may = ap (λ (h : Head). allowed h.kind) o.0 ∙ o.1.kind;
      after = omega arith;
      inside = omega (arith, o.1.inside);
    }

-- no head is of a kind that is not allowed
pub head_never : {A : Type 0} {allowed : Kind → Bool} {bs : Bytes} {at : ℕ} {k : Kind} {v next : ℕ} → Accepted allowed bs at k v next → allowed k ≡ false → A
head_never a f = never (sym f ∙ a.may)

value_below : (bs : Bytes) (at : ℕ) → Octets bs → info_at bs at < 28 → at + 1 + width_at bs at ≤ length bs → value_at bs at < 2 ^ 64
value_below bs at o i h =
    let xs : Bytes = part bs (at + 1) (width_at bs at) in
    let m : 256 ^ length xs ≤ 256 ^ 8 =
    pow-le-pow_right (lit< tt) {i = length xs} {j = 8} (omega (arith, length_part bs (at + 1) (width_at bs at) h, width_most (info_at bs at) i)) in
    cond_split (λ (x : ℕ). x < 2 ^ 64) (ltb (info_at bs at) 24) (λ t. omega tests)
    (λ f. omega (arith, m, number_below xs (octets_part bs (at + 1) (width_at bs at) o)))

fits_at : (k : Kind) (bs : Bytes) (at : ℕ) → kind_at bs at ≡ k → (k ≡ Other → ⊥) → value_at bs at < 2 ^ 64 → Fits k (head_at bs at).value
unfolding head_at
fits_at Number bs at e n h = h
fits_at Negative bs at e n h = h
fits_at ByteString bs at e n h = h
fits_at Text bs at e n h = h
fits_at Array bs at e n h = h
fits_at True bs at e n h = small_value bs at 0xF5 (subst (λ (k : Kind). Lead k (get_or bs at 0)) e (lead (get_or bs at 0))) refl
fits_at Null bs at e n h = small_value bs at 0xF6 (subst (λ (k : Kind). Lead k (get_or bs at 0)) e (lead (get_or bs at 0))) refl
fits_at Other bs at e n h = absurd (n refl)

-- the number of an accepted head is below 2^64, 21 of true and 22 of null
pub head_fits : (allowed : Kind → Bool) (bs : Bytes) (at : ℕ) {k : Kind} {v next : ℕ} → Octets bs → allowed Other ≡ false
    → accepted k v next ≡ read_head allowed bs at → Fits k v
unfolding head_at
head_fits allowed bs at {k} {v} {next} o f e =
    let a : Accepted allowed bs at k v next = head_accepted e in
    let s = a.stands in
    subst (Fits k) (sym (ap (λ (h : Head). h.value) a.head))
    (fits_at k bs at (sym (ap (λ (h : Head). h.kind) a.head)) (λ q. head_never a (ap allowed q ∙ f)) (value_below bs at o s.info s.inside))

-- ---- an item that stands at a position

module _ (bs : Bytes) (at : ℕ) where
  pub item_head : ItemStands bs at → at + 1 + width_at bs at ≤ length bs
  unfolding head_at
  item_head i = omega (arith, i.inside)

  pub span_small : info_at bs at < 24 → span_is (record { start = at + 1; length = info_at bs at }) ≡ span_at bs at
  unfolding head_at
  span_small h = λ i. record { start = start i; length = value i }
    where
      start : at + 1 ≡ at + 1 + width_at bs at
      start = omega (arith, width_small (info_at bs at) h)

      value : info_at bs at ≡ value_at bs at
      value = sym (cond_yes (ltb (info_at bs at) 24) (info_at bs at) _ (lt-ltb (info_at bs at) 24 h))

  pub span_sized : (w v : ℕ) → 24 ≤ info_at bs at → w ≡ width_at bs at → v ≡ number_from 0 (part bs (at + 1) w)
      → span_is (record { start = at + 1 + w; length = v }) ≡ span_at bs at
  unfolding head_at
  span_sized w v h e f = λ i. record { start = at + 1 + e i; length = value i }
    where
      value : v ≡ value_at bs at
      value =
          f ∙ ap (λ (n : ℕ). number_from 0 (part bs (at + 1) n)) e
          ∙ sym (cond_no (ltb (info_at bs at) 24) (info_at bs at) _ (le-ltb (info_at bs at) 24 h))

  -- a length of one byte
  pub span_byte : info_at bs at ≡ 24 → at + 1 < length bs → span_is (record { start = at + 1 + 1; length = get_or bs (at + 1) 0 }) ≡ span_at bs at
  unfolding width number_from
  span_byte e h = span_sized 1 (get_or bs (at + 1) 0) (omega arith) (sym (ap width e)) value
    where
      value : get_or bs (at + 1) 0 ≡ number_from 0 (part bs (at + 1) 1)
      value = rw (part_cons bs (at + 1) 1 (at + 2) 0 h refl (omega arith)) (omega arith)

  pub width_byte : info_at bs at ≡ 24 → 1 ≡ width_at bs at
  unfolding width
  width_byte e = sym (ap width e)

-- ---- for callers

-- an answer that is known says what the call answers; f is what an answer says, such as `answer_is head_is`
pub answered : {A : Type 0} {m : Res Head} (f : A → Res Head) {r x : A} → f r ≡ m → r ≡ x → f x ≡ m
answered f e g = ap f (sym g) ∙ e

-- two tests of kinds that agree on each kind
pub same_kinds : (p q : Kind → Bool) → p Number ≡ q Number → p Negative ≡ q Negative → p ByteString ≡ q ByteString → p Text ≡ q Text
    → p Array ≡ q Array → p True ≡ q True → p Null ≡ q Null → p Other ≡ q Other → p ≡ q
same_kinds p q a b c d e f g h = fun_ext each
  where
    each : (k : Kind) → p k ≡ q k
    each Number = a
    each Negative = b
    each ByteString = c
    each Text = d
    each Array = e
    each True = f
    each Null = g
    each Other = h
