-- The readers of the rules, step by step, as the code takes them.
use Prim.Native.Nat.{ℕ, suc, ◌-◌, ◌<◌, ◌≤◌}
use native.Mathlib.Omega.{arith}
use mathlib.Core.Path.{◌≡◌, refl, sym, ap, ◌∙◌}
use mathlib.Core.Logic.{◌⊎◌, inl, inr}
use mathlib.Core.Bool.{Bool, true, false, ◌&&◌, ◌||◌}
use mathlib.Core.Option.{none}
use lib.ListN.{length}
use lib.Dec.{leb, eqb}
use borrow.Author.Tests.{lt-leb, le-ltb, lt-ltb, eq-eqb, ne_eqb}
use Rattle.std.specs.Prelude.{Result, Ok, Err}
use Rattle.std.specs.Result.{IsErrAnd}
use Rattle.rules.specs.Bytes.{Bytes, Octets, within}
use Rattle.rules.specs.Result.{Res, refused, ok, CUT, FORM, ◌>>=◌, when◌then◌else◌}
use Rattle.rules.specs.Head.{Kind, Number, ByteString, Text, Array, Null, code_of, is, Head, head_at, read_head}
use Rattle.rules.specs.Rules.{Sort}
use Rattle.rules.specs.Reader.{read_text, read_row, unset, SlotAt, null_body, array_body, read_array, fragment_body, read_fragment, Names, read_nothing, port_body, read_port, label_body, read_names, discard_at, opens, Opened, opening_body, read_opening}
use Rattle.rules.specs.Standing.{RowAt}
use Rattle.rules.proofs.Tools.{by_test}
use Rattle.rules.proofs.Steps.{need_yes, need_no, bind_ok, bind_refused, if_yes, ok_at}
use Rattle.rules.proofs.Heads.{is_kind}
use Rattle.rules.proofs.Authorities.{ok_label_body, ok_names, labels_row}
use Rattle.cbor.specs.declared.Kinds.{Kinds}
use Rattle.cbor.specs.declared.Kind.{Kind as CodeKind}
use Rattle.cbor.specs.declared.Head.{Head as CodeHead}
use Rattle.cbor.specs.Heads.{kind_is, allows, head_is}
use Rattle.cbor.proofs.Heads.{same_kinds, head_accepted}
use Rattle.refusals.specs.declared.Refusal.{Refusal}
use Rattle.refusals.specs.Answers.{refusal_is}
use Rattle.reader.specs.declared.First.{First}
use Rattle.reader.specs.declared.First.TheVariants as FirstV
use Rattle.reader.specs.Answers.{first_is}

-- some items are left
some_left : (left : ℕ) → 0 < left → suc (left - 1) ≡ left
some_left left h = omega arith

-- ---- the kinds that are allowed at a place: a head that the code read is one that the rules read

abbrev kinds : Bool → Bool → Bool → Bool → Bool → Bool → Bool → Kinds
kinds a b c d e f g = record { number = a; negative = b; byte_string = c; text = d; array = e; yes = f; null = g }

module _ (bs : Bytes) (at : ℕ) {x : Res Head} where
  pub text : x ≡ read_head (allows (kinds false false false true false false false)) bs at → x ≡ read_head (is Text) bs at
  unfolding code_of
  text e = e ∙ ap (λ p. read_head p bs at) (same_kinds _ _ refl refl refl refl refl refl refl refl)

  pub array : x ≡ read_head (allows (kinds false false false false true false false)) bs at → x ≡ read_head (is Array) bs at
  unfolding code_of
  array e = e ∙ ap (λ p. read_head p bs at) (same_kinds _ _ refl refl refl refl refl refl refl refl)

  pub number : x ≡ read_head (allows (kinds true false false false false false false)) bs at → x ≡ read_head (is Number) bs at
  unfolding code_of
  number e = e ∙ ap (λ p. read_head p bs at) (same_kinds _ _ refl refl refl refl refl refl refl refl)

  pub array_or_null : x ≡ read_head (allows (kinds false false false false true false true)) bs at → x ≡ read_head (λ k. is Array k || is Null k) bs at
  unfolding code_of
  array_or_null e = e ∙ ap (λ p. read_head p bs at) (same_kinds _ _ refl refl refl refl refl refl refl refl)

  pub text_or_null : x ≡ read_head (allows (kinds false false false true false false true)) bs at → x ≡ read_head (λ k. is Text k || is Null k) bs at
  unfolding code_of
  text_or_null e = e ∙ ap (λ p. read_head p bs at) (same_kinds _ _ refl refl refl refl refl refl refl refl)

  pub text_or_number : x ≡ read_head (allows (kinds true false false true false false false)) bs at → x ≡ read_head (λ k. is Text k || is Number k) bs at
  unfolding code_of
  text_or_number e = e ∙ ap (λ p. read_head p bs at) (same_kinds _ _ refl refl refl refl refl refl refl refl)

  pub address_or_label : x ≡ read_head (allows (kinds false false true true false false false)) bs at → x ≡ read_head (λ k. is ByteString k || is Text k) bs at
  unfolding code_of
  address_or_label e = e ∙ ap (λ p. read_head p bs at) (same_kinds _ _ refl refl refl refl refl refl refl refl)

  pub openings : x ≡ read_head (allows (kinds true true false true false true true)) bs at → x ≡ read_head opens bs at
  unfolding code_of
  openings e = e ∙ ap (λ p. read_head p bs at) (same_kinds _ _ refl refl refl refl refl refl refl refl)

-- ---- texts

module _ (s : Sort) (bs : Bytes) (at : ℕ) where
  pub row_none : (left : ℕ) → left ≡ 0 → ok at ≡ read_row s bs at left
  unfolding read_row
  row_none left e = ap (read_row s bs at) (sym e)

  pub row_more : (left : ℕ) → 0 < left → (read_text s bs at >>= (λ next. read_row s bs next (left - 1))) ≡ read_row s bs at left
  unfolding read_row
  row_more left h = ap (read_row s bs at) (some_left left h)

  pub row_next : (next left further : ℕ) → 0 < left → further ≡ left - 1 → ok next ≡ read_text s bs at → read_row s bs next further ≡ read_row s bs at left
  row_next next left further h f e = ap (read_row s bs next) f ∙ bind_ok _ (λ next. read_row s bs next (left - 1)) _ e ∙ row_more left h

-- ---- path, query, fragment

module _ (s : Sort) (low high : ℕ) (bs : Bytes) (at left : ℕ) where
  pub array_none : left ≡ 0 → ok (record { slot = unset; next = at }) ≡ read_array s low high bs at left
  unfolding read_array
  array_none e = ap (read_array s low high bs at) (sym e)

  pub array_more : 0 < left
      → (read_head (λ k. is Array k || is Null k) bs at >>= (λ h. when is Null h.kind then null_body at (left - 1) h else array_body s low high bs at h)) ≡ read_array s low high bs at left
  unfolding read_array
  array_more h = ap (read_array s low high bs at) (some_left left h)

module _ (bs : Bytes) (at left : ℕ) where
  pub fragment_none : left ≡ 0 → ok (record { slot = unset; next = at }) ≡ read_fragment bs at left
  unfolding read_fragment
  fragment_none e = ap (read_fragment bs at) (sym e)

  pub fragment_more : 0 < left
      → (read_head (λ k. is Text k || is Null k) bs at >>= (λ h. when is Null h.kind then null_body at (left - 1) h else fragment_body bs at h)) ≡ read_fragment bs at left
  unfolding read_fragment
  fragment_more h = ap (read_fragment bs at) (some_left left h)

-- ---- authority

module _ (bs : Bytes) (at left : ℕ) where
  pub nothing_left : left ≡ 0 → ok at ≡ read_nothing bs at left
  unfolding read_nothing
  nothing_left e = ap (read_nothing bs at) (sym e)

  module _ (h : 0 < left) where
    pub nothing_cut : length bs ≤ at → refused CUT at ≡ read_nothing bs at left
    unfolding read_nothing read_head
    nothing_cut l = bind_refused _ _ _ _ (need_no _ _ _ _ (le-ltb at (length bs) l)) ∙ ap (read_nothing bs at) (some_left left h)

    pub nothing_more : at < length bs → refused FORM at ≡ read_nothing bs at left
    unfolding read_nothing read_head
    nothing_more l = bind_refused _ _ _ _ (need_no _ _ _ _ refl ∙ need_yes _ _ _ _ (lt-ltb at (length bs) l)) ∙ ap (read_nothing bs at) (some_left left h)

  pub port_none : left ≡ 0 → ok (record { count = 0; port = none; next = at }) ≡ read_port bs at left
  unfolding read_port
  port_none e = ap (read_port bs at) (sym e)

  pub port_more : 0 < left → (read_head (is Number) bs at >>= port_body bs at (left - 1) 0) ≡ read_port bs at left
  unfolding read_port
  port_more h = ap (read_port bs at) (some_left left h)

  pub names_none : (count : ℕ) → left ≡ 0 → ok (record { count = count; port = none; next = at }) ≡ read_names bs at left count
  unfolding read_names
  names_none count e = ap (λ n. read_names bs at n count) (sym e)

  pub names_more : (count : ℕ) → 0 < left
      → (read_head (λ k. is Text k || is Number k) bs at
      >>= (λ h. when is Text h.kind then (label_body count bs at h >>= λ next. read_names bs next (left - 1) (suc count)) else port_body bs at (left - 1) count h))
      ≡ read_names bs at left count
  unfolding read_names
  names_more count h = ap (λ n. read_names bs at n count) (some_left left h)

  pub names_next : (count next further seen : ℕ) → 0 < left → further ≡ left - 1 → seen ≡ suc count → (h : Head) → is Text h.kind ≡ true → ok h ≡ read_head (λ k. is Text k || is Number k) bs at
      → ok next ≡ label_body count bs at h → read_names bs next further seen ≡ read_names bs at left count
  names_next count next further seen l f g h k e b =
      ap (λ n. read_names bs next n seen) f
      ∙ ap (read_names bs next (left - 1)) g
      ∙ bind_ok _ (λ next. read_names bs next (left - 1) (suc count)) _ b
      ∙ if_yes _ _ _ k
      ∙ bind_ok _ _ _ e
      ∙ names_more count l

-- labels that were accepted stand one after the other
module _ (bs : Bytes) (at : ℕ) (octets : Octets bs) (p : Kind → Bool) (h : CodeHead) (head : ok (head_is h) ≡ read_head p bs at) (kind : is Text (head_is h).kind ≡ true)
    (after left : ℕ) (first : ok after ≡ label_body 0 bs at (head_is h)) (r : Names) (more : ok r ≡ read_names bs after left 1) where
  pub labels_stand : RowAt bs at r.count
  unfolding head_at
  labels_stand =
      let a = head_accepted head in
      let k = ap (λ (h : Head). h.kind) (sym a.head) ∙ is_kind Text (head_is h).kind kind in
      let t = (ok_at (ok_label_body 0 bs at octets a.stands k) (ap (label_body 0 bs at) (sym a.head) ∙ sym first)).1 in
      labels_row bs at after left r t (ok_at (ok_names bs after left 1 octets) (sym more))

-- ---- numbers

-- a number outside its range
pub outside : (low high n : ℕ) → (n < low) ⊎ ((low ≤ n) × (high < n)) → within low high n ≡ false
outside low high n (inl h) = ap (λ t. t && leb n high) (lt-leb low n h)
outside low high n (inr h) = by_test (λ t. (t && leb n high) ≡ false) (leb low n) (λ y. lt-leb n high h.1) (λ y. refl)

-- two numbers that are not both these
pub not_both : (a b c d : ℕ) → ((a ≡ b) × (c ≡ d → ⊥)) ⊎ (a ≡ b → ⊥) → (eqb a b && eqb c d) ≡ false
not_both a b c d (inl h) = rw (eq-eqb a b h.0, ne_eqb c d h.1)
not_both a b c d (inr h) = rw (ne_eqb a b h)

-- ---- the opening

module _ (bs : Bytes) (at count : ℕ) where
  pub opening_none : count ≡ 0 → ok (record { opening = discard_at 0; next = at; left = 0 }) ≡ read_opening bs at count
  unfolding read_opening
  opening_none e = ap (read_opening bs at) (sym e)

  pub opening_more : 0 < count → (read_head opens bs at >>= (λ h. opening_body bs at count h h.kind)) ≡ read_opening bs at count
  unfolding read_opening
  opening_more h = ap (λ n. read_head opens bs at >>= (λ h. opening_body bs at n h h.kind)) (sym (some_left count h)) ∙ ap (read_opening bs at) (some_left count h)

  -- the rest of an opening whose head has been read
  pub opening_read : (h : CodeHead) {k : CodeKind} → h.kind ≡ k → ok (head_is h) ≡ read_head (allows (kinds true true false true false true true)) bs at → 0 < count
      → opening_body bs at count (head_is h) (kind_is k) ≡ read_opening bs at count
  opening_read h {k} e r c = ap (λ k. opening_body bs at count (head_is h) (kind_is k)) (sym e) ∙ bind_ok _ _ _ (openings bs at r) ∙ opening_more c

  -- a first item that is refused
  pub first_left : (x : Refusal) {m : Res Opened} (r : Result (First × ℕ) Refusal) → IsErrAnd r (λ e. e ≡ x) → refusal_is x ≡ m → first_is bs at count r ≡ m
  first_left x (Ok (FirstV.Discard o, next)) h e = absurd h
  first_left x (Ok (FirstV.Scheme s, next)) h e = absurd h
  first_left x (Err y) h e = ap refusal_is h ∙ e
