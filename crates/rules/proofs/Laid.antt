-- Where the items of an accepted input stand, each as the encoding of what it says.
use Prim.Native.Nat.{ℕ, zero, suc, ◌+◌, ◌-◌, ◌≤◌, ◌<◌}
use native.Mathlib.Omega.{arith}
use mathlib.Core.Path.{◌≡◌, refl, sym, ap, ◌∙◌, subst}
use mathlib.Core.Bool.{Bool, true, not}
use mathlib.Core.List.{List, [], ◌++◌, append_assoc}
use mathlib.Core.Option.{none}
use lib.ListN.{length, drop, length-drop, length-append, length-map}
use lib.Dec.{eqb}
use borrow.Author.Tests.{leb-true, lt-ltb}
use Rattle.rules.specs.Bytes.{Bytes, Octets, part, concat, big_endian}
use Rattle.rules.specs.Result.{Res}
use Rattle.rules.specs.Model.{Limits}
use Rattle.rules.specs.Head.{Kind, Number, Negative, ByteString, Text, Array, True, Null, Other, Head, kind_at, head_at, head_bytes, shortest, width, head_length}
use Rattle.rules.specs.Rules.{Sort, segment, parameter, fragment_text, scheme_name}
use Rattle.rules.specs.Reader.{end_at, contents, read_row, Slot, unset, set, null_body, array_body, read_array, fragment_body, read_fragment, address_host, labels_host, read_authority, SchemeAt, OpeningAt, discard_at, discard_all_at, full_at, opens, after_scheme, opening_body, read_opening, read, content_at}
use Rattle.rules.specs.Meaning.{said_scheme, said_opening}
use Rattle.rules.specs.Encode.{text_item, array_item, texts_item, null_item, or_null, scheme_item}
use Rattle.rules.specs.Resolve.{as_base}
use Rattle.rules.specs.Views.{Piece, of_reference, of_base, authority_span, chosen, authority_view}
use Rattle.rules.specs.Standing.{RowAt}
use Rattle.rules.specs.Laid.{Between, texts, TextsLaid, tail_start, TailLaid, OpeningLaid, Ordered, PathLaid, Laid}
use Rattle.rules.proofs.Tools.{never, or_left}
use Rattle.rules.proofs.Steps.{Ok, no!, ok!, ok_any, ok_both, ok_bind, ok_then, ok_map, ok_need, ok_if}
use Rattle.rules.proofs.Heads.{is_kind, Known, Stands, ok_head, head_spells, next_inside}
use Rattle.rules.proofs.Texts.{TextAt, TextsAt, ok_text_body, ok_text, ok_texts, length_contents}
use Rattle.rules.proofs.Slots.{null_spells}
use Rattle.rules.proofs.Authorities.{ok_authority}
use Rattle.rules.proofs.Openings.{open_items, ok_opening, opens_left}

-- ---- bytes between two positions

pub between : {bs w : Bytes} {from to : ℕ} → from ≤ length bs → to ≤ length bs → drop from bs ≡ w ++ drop to bs → Between bs from to w
between {bs} {w} {from} {to} h k e =
    record { bytes = e; ends = omega (arith, length-drop from bs, length-drop to bs, ap length e, length-append w (drop to bs)); inside = k }

pub between_none : {bs : Bytes} {at : ℕ} → at ≤ length bs → Between bs at at []
between_none h = record { bytes = refl; ends = omega arith; inside = h }

pub between_then : {bs v w : Bytes} {i j k : ℕ} → Between bs i j v → Between bs j k w → Between bs i k (v ++ w)
between_then {bs} {v} {w} {i} {j} {k} p q = record {
  bytes = p.bytes ∙ ap (λ (l : Bytes). v ++ l) q.bytes ∙ sym (append_assoc v w (drop k bs));
  ends = omega (arith, length-append v w, p.ends, q.ends);
  inside = q.inside;
}

-- the same bytes, said in another way
pub between_as : {bs v w : Bytes} {i j : ℕ} → v ≡ w → Between bs i j v → Between bs i j w
between_as {bs} {i = i} {j = j} e p = subst (λ (w : Bytes). Between bs i j w) e p

-- the same positions
pub between_at : {bs w : Bytes} {i j i' j' : ℕ} → i ≡ i' → j ≡ j' → Between bs i j w → Between bs i' j' w
between_at {bs} {w} {i} {j} {i'} {j'} d e p = subst (λ (k : ℕ). Between bs k j' w) d (subst (λ (k : ℕ). Between bs i k w) e p)

-- ---- heads

pub head_length_lem : (k : Kind) (v : ℕ) → length (head_bytes k v) ≡ head_length v
unfolding head_bytes
head_length_lem k v = refl

head_between : {allowed : Kind → Bool} (bs : Bytes) (at : ℕ) → Octets bs → Stands allowed bs at → (k : Kind) → Known k → kind_at bs at ≡ k
    → Between bs at (head_at bs at).next (head_bytes k (head_at bs at).value)
head_between bs at sm r k n e = between (omega (arith, r.inside)) (next_inside bs at r) (head_spells bs at sm r k n e)

-- ---- texts in a row

pub laid_items : (bs : Bytes) (at n : ℕ) → TextsLaid bs at n → RowAt bs at n
laid_items bs at zero h = tt
laid_items bs at (suc n) h = (h.0.stands, laid_items bs (end_at bs at) n h.1)

texts_laid_lem : (s : Sort) (bs : Bytes) (at n : ℕ) → Octets bs → Ok (λ next. TextsLaid bs at n) (read_row s bs at n)
unfolding read_row head_at
texts_laid_lem s bs at zero sm = ok! tt
texts_laid_lem s bs at (suc n) sm =
    ok_bind _ _ (ok_text s bs at sm) (λ mid t. ok_map (texts_laid_lem s bs mid n sm) (λ next r. (
      record { stands = t.stands; bytes = between (omega (arith, t.stands.inside)) t.stands.inside (t.spells ∙ ap (λ (m : ℕ). text_item (content_at bs at) ++ drop m bs) t.ends) },
      subst (λ (m : ℕ). TextsLaid bs m n) t.ends r,
    )))

-- ---- path, query, fragment, where `left` items are left, this one among them

-- left off, or null
data Unset (bs : Bytes) (at left next : ℕ) : Type 0 where
  left_off : left ≡ 0 → next ≡ at → Unset bs at left next
  null : 2 ≤ left → Between bs at next null_item → Unset bs at left next

record SetTexts (bs : Bytes) (at left first n next : ℕ) : Type 0 where
  pub there : 1 ≤ left
  pub start : at + head_length n ≡ first
  pub each : TextsLaid bs first n
  pub row : Between bs first next (texts (contents bs first n))
  pub item : Between bs at next (texts_item (contents bs first n))

record SetText (bs : Bytes) (at left first n next : ℕ) : Type 0 where
  pub there : 1 ≤ left
  pub start : at + head_length n ≡ first
  pub item : Between bs at next (text_item (part bs first n))

abbrev ArrayLaid : Bytes → ℕ → ℕ → Slot → ℕ → Type 0
ArrayLaid bs at left unset next = Unset bs at left next
ArrayLaid bs at left (set first n) next = SetTexts bs at left first n next

abbrev FragmentLaid : Bytes → ℕ → ℕ → Slot → ℕ → Type 0
FragmentLaid bs at left unset next = Unset bs at left next
FragmentLaid bs at left (set first n) next = SetText bs at left first n next

null_laid : {allowed : Kind → Bool} (bs : Bytes) (at left : ℕ) → Octets bs → Stands allowed bs at → kind_at bs at ≡ Null → not (eqb left 0) ≡ true
    → Unset bs at (suc left) (head_at bs at).next
null_laid bs at zero sm r e t = never t
null_laid bs at (suc left) sm r e t = null (omega arith) (between (omega (arith, r.inside)) (next_inside bs at r) (null_spells bs at sm r e))

set_texts : {allowed : Kind → Bool} (s : Sort) (bs : Bytes) (at left next : ℕ) → Octets bs → Stands allowed bs at → kind_at bs at ≡ Array
    → TextsAt s bs (head_at bs at).next (head_at bs at).value next → TextsLaid bs (head_at bs at).next (head_at bs at).value
    → SetTexts bs at (suc left) (head_at bs at).next (head_at bs at).value next
unfolding texts_item array_item
set_texts s bs at left next sm r e t each =
    let h : Head = head_at bs at in
    let ts : List Bytes = contents bs h.next h.value in
    let b = head_between bs at sm r Array tt e in
    let row : Between bs h.next next (texts ts) = between b.inside (t.inside b.inside) t.spells in
    record {
      there = omega arith;
      start = omega (arith, b.ends, head_length_lem Array h.value);
      each = each;
      row = row;
      item = between_as (ap (λ (v : ℕ). head_bytes Array v ++ texts ts) (sym (length-map ts text_item ∙ length_contents bs h.next h.value))) (between_then b row);
    }

array_laid : (s : Sort) (low high : ℕ) (bs : Bytes) (at left : ℕ) → Octets bs → Ok (λ p. ArrayLaid bs at left p.slot p.next) (read_array s low high bs at left)
unfolding read_array null_body array_body head_at
array_laid s low high bs at zero sm = ok! (left_off refl refl)
array_laid s low high bs at (suc left) sm =
    let h : Head = head_at bs at in
    ok_head _ _ _ _ (λ r. ok_if _ _ _
    (λ y. ok_need _ _ _ _ (λ t. ok! (null_laid bs at left sm r (is_kind Null _ y) t)))
    (λ n. ok_need _ _ _ _ (λ w. ok_bind _ _ (ok_both (ok_texts s bs h.next h.value sm) (texts_laid_lem s bs h.next h.value sm)) (λ next t.
    ok! (set_texts s bs at left next sm r (is_kind Array _ (or_left _ _ r.kind n)) t.0 t.1)))))

set_text : {allowed : Kind → Bool} (s : Sort) (bs : Bytes) (at left next : ℕ) → Octets bs → Stands allowed bs at → kind_at bs at ≡ Text
    → TextAt s bs at next → SetText bs at (suc left) (head_at bs at).next (head_at bs at).value next
set_text s bs at left next sm r e t =
    record {
      there = omega arith;
      start = (head_between bs at sm r Text tt e).ends;
      item = between (omega (arith, r.inside)) (omega (arith, t.ends, t.stands.inside)) t.spells;
    }

fragment_laid_lem : (bs : Bytes) (at left : ℕ) → Octets bs → Ok (λ p. FragmentLaid bs at left p.slot p.next) (read_fragment bs at left)
unfolding read_fragment null_body fragment_body head_at
fragment_laid_lem bs at zero sm = ok! (left_off refl refl)
fragment_laid_lem bs at (suc left) sm =
    ok_head _ _ _ _ (λ r. ok_if _ _ _
    (λ y. ok_need _ _ _ _ (λ t. ok! (null_laid bs at left sm r (is_kind Null _ y) t)))
    (λ n. ok_bind _ _ (ok_text_body fragment_text bs at sm r (is_kind Text _ (or_left _ _ r.kind n))) (λ next t.
    ok! (set_text fragment_text bs at left next sm r (is_kind Text _ (or_left _ _ r.kind n)) t))))

-- ---- query and fragment together

-- query and fragment start at a position
pub record TailAt (bs : Bytes) (at : ℕ) (q f : Slot) : Type 0 where
  pub laid : TailLaid bs q f
  pub start : tail_start (length bs) q f ≡ at

tail_laid : (bs : Bytes) (at left : ℕ) (q : Slot) (mid : ℕ) (f : Slot) (end : ℕ) → 1 ≤ at → left ≤ 3 → ArrayLaid bs at (left - 1) q mid → FragmentLaid bs mid (left - 2) f end
    → end ≡ length bs → TailAt bs at q f
tail_laid bs at left unset mid unset end h few (left_off a b) (left_off c d) e =
    let start : length bs ≡ at = omega arith in
    record { laid = record { query = between_none (omega arith); fragment = between_none (omega arith); query_head = tt; fragment_head = tt }; start = start }
tail_laid bs at left unset mid unset end h few (left_off a b) (null c d) e = absurd (omega arith)
tail_laid bs at left unset mid unset end h few (null a b) (left_off c d) e = absurd (omega arith)
tail_laid bs at left unset mid unset end h few (null a b) (null c d) e = absurd (omega arith)
tail_laid bs at left unset mid (set f n) end h few (left_off a b) t e = absurd (omega (arith, t.there))
tail_laid bs at left unset mid (set f n) end h few (null a b) t e =
    let m : mid ≡ f - head_length n = omega (arith, t.start) in
    let s : at ≡ f - head_length n - 1 = omega (arith, t.start, b.ends) in
    record {
      laid = record {
        query = between_at s m b;
        fragment = between_at m e t.item;
        query_head = tt;
        fragment_head = omega (arith, t.start, b.ends);
      };
      start = sym s;
    }
tail_laid bs at left (set q k) mid unset end h few p (null c d) e = absurd (omega arith)
tail_laid bs at left (set q k) mid unset end h few p (left_off c d) e =
    let s : at ≡ q - head_length k = omega (arith, p.start) in
    record {
      laid = record {
        query = between_at s (omega arith) p.item;
        fragment = between_none (omega arith);
        query_head = omega (arith, p.start);
        fragment_head = tt;
      };
      start = sym s;
    }
tail_laid bs at left (set q k) mid (set f n) end h few p t e =
    let s : at ≡ q - head_length k = omega (arith, p.start) in
    let m : mid ≡ f - head_length n = omega (arith, t.start) in
    record {
      laid = record {
        query = between_at s m p.item;
        fragment = between_at m e t.item;
        query_head = omega (arith, p.start);
        fragment_head = omega (arith, t.start, p.item.ends);
      };
      start = sym s;
    }

-- ---- the opening, after the outer array's head

-- an authority stands where it was looked for
authority_at : (bs : Bytes) (at : ℕ) → Ok (λ a. a.at ≡ at) (read_authority bs at)
unfolding read_authority address_host labels_host
authority_at bs at =
    ok_bind _ _ (ok_any _) (λ a _. ok_need _ _ _ _ (λ w. ok_bind _ _ (ok_any _) (λ h _. ok_if _ _ _
    (λ y. ok_bind _ _ (ok_any _) (λ next _. ok_bind _ _ (ok_any _) (λ p _. ok_need _ _ _ _ (λ r. ok! refl))))
    (λ n. ok_need _ _ _ _ (λ l. ok_bind _ _ (ok_any _) (λ c _. ok_bind _ _ (ok_any _) (λ p _. ok! refl)))))))

full_laid : (bs : Bytes) (at count : ℕ) (s : SchemeAt) (next : ℕ) → Octets bs → Between bs 1 next (or_null scheme_item (said_scheme bs s))
    → Ok (λ o. OpeningLaid bs o.opening) (after_scheme bs at count s next)
unfolding after_scheme
full_laid bs at count s next sm b =
    ok_need _ _ _ _ (λ w. ok_bind _ _ (ok_both (authority_at bs next) (ok_authority bs next sm)) (λ a q.
    ok! (record {
      scheme = between_at refl (sym q.0) b;
      authority = between_at (sym q.0) refl (between b.inside q.1.inside q.1.spells);
    })))

kind_laid : (k : Kind) (bs : Bytes) (count : ℕ) → Octets bs → Stands opens bs 1 → kind_at bs 1 ≡ k
    → Ok (λ o. OpeningLaid bs o.opening) (opening_body bs 1 count (head_at bs 1) k)
unfolding opening_body or_null scheme_item
kind_laid Number bs count sm r e = ok_need _ _ _ _ (λ v. ok_need _ _ _ _ (λ c. ok_need _ _ _ _ (λ z. ok! tt)))
kind_laid Negative bs count sm r e = ok_need _ _ _ _ (λ v. full_laid bs 1 count _ _ sm (head_between bs 1 sm r Negative tt e))
kind_laid ByteString bs count sm r e = no!
kind_laid Text bs count sm r e =
    ok_bind _ _ (ok_text_body scheme_name bs 1 sm r e) (λ next t.
    full_laid bs 1 count _ next sm (set_text scheme_name bs 1 0 next sm r e t).item)
kind_laid Array bs count sm r e = no!
kind_laid True bs count sm r e = ok_need _ _ _ _ (λ c. ok! tt)
kind_laid Null bs count sm r e = full_laid bs 1 count _ _ sm (between (omega (arith, r.inside)) (next_inside bs 1 r) (null_spells bs 1 sm r e))
kind_laid Other bs count sm r e = no!

opening_laid_lem : (bs : Bytes) (count : ℕ) → Octets bs → Ok (λ o. OpeningLaid bs o.opening) (read_opening bs 1 count)
unfolding read_opening head_at
opening_laid_lem bs zero sm = ok! tt
opening_laid_lem bs (suc n) sm = ok_head _ _ _ _ (λ r. kind_laid (kind_at bs 1) bs (suc n) sm r refl)

-- ---- the whole

path_laid : (bs : Bytes) (at left : ℕ) (p : Slot) (next end : ℕ) → end ≡ next → ArrayLaid bs at left p next → PathLaid bs p end
path_laid bs at left unset next end e h = tt
path_laid bs at left (set first n) next end e h = record { each = h.each; row = between_at refl (sym e) h.row }

-- the position after it: not before it, and inside where it is inside

pub record Onward (bs : Bytes) (at next : ℕ) : Type 0 where
  pub after : at ≤ next
  pub inside : at ≤ length bs → next ≤ length bs

unset_onward : (bs : Bytes) (at left next : ℕ) → Unset bs at left next → Onward bs at next
unset_onward bs at left next (left_off a b) = record { after = omega arith; inside = λ h. omega arith }
unset_onward bs at left next (null a b) = record { after = omega (arith, b.ends); inside = λ h. b.inside }

array_onward : (bs : Bytes) (at left : ℕ) (p : Slot) (next : ℕ) → ArrayLaid bs at left p next → Onward bs at next
array_onward bs at left unset next u = unset_onward bs at left next u
array_onward bs at left (set first n) next h = record { after = omega (arith, h.item.ends); inside = λ i. h.item.inside }

fragment_onward : (bs : Bytes) (at left : ℕ) (p : Slot) (next : ℕ) → FragmentLaid bs at left p next → Onward bs at next
fragment_onward bs at left unset next u = unset_onward bs at left next u
fragment_onward bs at left (set first n) next h = record { after = omega (arith, h.item.ends); inside = λ i. h.item.inside }

-- what stands from a first position on up to the end of the input
tail_at : (bs : Bytes) (left : ℕ) (at : ℕ) (p : Slot) (p' : ℕ) (q : Slot) (q' : ℕ) (f : Slot) (f' : ℕ) → 1 ≤ at → at ≤ length bs → left ≤ 3
    → ArrayLaid bs at left p p' → ArrayLaid bs p' (left - 1) q q' → FragmentLaid bs q' (left - 2) f f' → length bs ≤ f' → TailAt bs p' q f
tail_at bs left at p p' q q' f f' h k few pa qa fa e =
    let a = array_onward bs at left p p' pa in
    let b = array_onward bs p' (left - 1) q q' qa in
    let c = fragment_onward bs q' (left - 2) f f' fa in
    tail_laid bs p' left q q' f f' (omega (arith, a.after)) few qa fa (omega (arith, c.inside (b.inside (a.inside k))))

-- a head of a number below 24 is one byte
pub head_one : (v : ℕ) → v < 24 → head_length v ≡ 1
unfolding head_bytes shortest width big_endian
head_one v h = simp (lt-ltb v 24 h)

pub laid : (lim : Limits) (bs : Bytes) → Octets bs → Ok (λ f. Laid bs f) (read lim bs)
unfolding read
laid lim bs sm =
    ok_need _ _ _ _ (λ size. ok_head _ _ _ _ (λ r. ok_need _ _ _ _ (λ n.
    let b = head_between bs 0 sm r Array tt (is_kind Array (kind_at bs 0) r.kind) in
    let few : (head_at bs 0).value ≤ 5 = leb-true _ _ n in
    let one : (head_at bs 0).next ≡ 1 = omega (arith, b.ends, head_length_lem Array (head_at bs 0).value, head_one (head_at bs 0).value (omega arith)) in
    rw one
    (ok_bind _ _ (ok_both (ok_opening bs 1 (head_at bs 0).value sm few) (opening_laid_lem bs (head_at bs 0).value sm)) (λ o oa.
    ok_bind _ _ (array_laid segment 0 lim.segments bs o.next o.left sm) (λ p pa.
    ok_bind _ _ (array_laid parameter 1 16 bs p.next (o.left - 1) sm) (λ q qa.
    ok_bind _ _ (fragment_laid_lem bs q.next (o.left - 2) sm) (λ f fa.
    ok_need _ _ _ _ (λ e.
    let at : Between bs 1 o.next (concat (open_items (head_at bs 0).value (said_opening bs o.opening))) = between (omega (arith, b.inside, one)) (oa.0.inside (omega (arith, b.inside, one))) oa.0.spells in
    let t : TailAt bs p.next q.slot f.slot = tail_at bs o.left o.next p.slot p.next q.slot q.next f.slot f.next (omega (arith, at.ends)) at.inside (opens_left oa.0.opens) pa qa fa (leb-true _ _ e) in
    ok! (record { opening = oa.1; path = path_laid bs o.next o.left p.slot p.next _ t.start pa; tail = t.laid }))))))))))

-- ---- what that says of an authority

pub ordered : (bs : Bytes) (o : OpeningAt) → OpeningLaid bs o → Ordered o
ordered bs (discard_at k) h = tt
ordered bs discard_all_at h = tt
ordered bs (full_at s a) h = (omega (arith, h.scheme.ends), omega (arith, h.authority.ends))

-- a part of one of two inputs lies inside it
abbrev pub PieceStands : Bytes → Bytes → Piece → Type 0
PieceStands base ref (of_reference s) = s.start + s.length ≤ length ref
PieceStands base ref (of_base s) = s.start + s.length ≤ length base

chosen_inside : (base ref : Bytes) (b r : OpeningAt) → OpeningLaid base b → OpeningLaid ref r → PieceStands base ref (chosen (authority_span b) (authority_span r))
chosen_inside base ref b r k h = own r h
  where
    other : (b : OpeningAt) → OpeningLaid base b → PieceStands base ref (chosen (authority_span b) none)
    other (discard_at n) k = omega arith
    other discard_all_at k = omega arith
    other (full_at s a) k = omega (arith, k.authority.ends, k.authority.inside)

    own : (r : OpeningAt) → OpeningLaid ref r → PieceStands base ref (chosen (authority_span b) (authority_span r))
    own (discard_at n) h = other b k
    own discard_all_at h = other b k
    own (full_at s a) h = omega (arith, h.authority.ends, h.authority.inside)

-- a refusal of the base
ok_base : {A : Type 0} {P : A → Type 0} {m : Res A} → Ok P m → Ok P (as_base m)
ok_base no! = no!
ok_base (ok! p) = ok! p

-- the view of an authority lies inside
pub authority_inside : (lim : Limits) (base ref : Bytes) → Octets base → Octets ref → Ok (λ p. PieceStands base ref p) (authority_view lim base ref)
unfolding authority_view
authority_inside lim base ref sb sr =
    ok_bind _ _ (ok_base (laid lim base sb)) (λ b hb. ok_then _ _ (ok_bind _ _ (laid lim ref sr) (λ r hr.
    ok! (chosen_inside base ref b.opening r.opening hb.opening hr.opening))))
