-- The laws of the parts that a result is made of.
use Prim.Native.Nat.{ℕ, zero, suc, ◌+◌, ◌-◌, ◌≤◌, ◌<◌}
use native.Mathlib.Omega.{arith}
use mathlib.Core.Path.{◌≡◌, refl, sym, ap, ap₂, ◌∙◌, subst}
use mathlib.Core.Bool.{Bool, true, false, cond}
use mathlib.Core.List.{List, [], ◌++◌, append-nil}
use mathlib.Core.Option.{Option, none, some, get_or}
use lib.ListN.{length, take, length-append}
use Rattle.std.specs.Prelude as P
use Rattle.std.specs.Prelude.{Some, None, is_some}
use Rattle.rules.specs.Bytes.{Bytes, concat}
use Rattle.rules.specs.Model.{Scheme as RulesScheme, Authority, Opening, full, normal_path, limits}
use Rattle.rules.specs.Reader.{end_at, spans, contents, Slot, unset, set, AuthorityAt, SchemeAt, OpeningAt}
use Rattle.rules.specs.Meaning.{said_texts, said_text, said_authority, said_scheme}
use Rattle.rules.specs.Encode.{or_null, scheme_item, authority_item}
use Rattle.rules.specs.Resolve.{or}
use Rattle.rules.specs.Standing.{RowAt}
use Rattle.rules.specs.Laid.{Between, FullLaid, texts, TextsLaid, RowLaid, query_item, fragment_item}
use Rattle.rules.proofs.Tools.{by_test, never, take_at_drop}
use Rattle.rules.proofs.Texts.{length_contents}
use Rattle.rules.proofs.Laid.{between_none, between_then, between_as, between_at, laid_items}
use Rattle.rules.proofs.RowLengths.{texts_count, texts_append, normal_short, normal_long}
use Rattle.cbor_rows.specs.Rows.{nth_at}
use Rattle.cbor_rows.proofs.Rows.{take_contents}
use Rattle.cbor.specs.declared.Span.{Span}
use Rattle.cbor_rows.specs.declared.Row.{Row}
use Rattle.reader.specs.declared.Scheme.{Scheme}
use Rattle.reader.specs.declared.Scheme.TheVariants as SchemeV
use Rattle.reader.specs.Answers.{slot_of, scheme_of}
use Rattle.resolver_parts.specs.declared.Both.{Both}
use Rattle.resolver_parts.specs.declared.RowSpan.{RowSpan}
use Rattle.resolver_parts.specs.declared.Counted.{Counted}
use Rattle.resolver_parts.specs.Parts.{SpanIs, both_of, BothIs, RowIs, row_texts, Small, PathIs, keeps_query, takes_query, further_items, further_of, TailIs}

-- ---- parts

pub span_is_lem : {bs w : Bytes} {i j : ℕ} → Between bs i j w → (s : Span) → s ≡ record { start = i; length = j - i } → SpanIs bs s w
span_is_lem {bs} {w} {i} {j} p s e =
    let at : i ≡ s.start = sym (ap (λ (s : Span). s.start) e) in
    let n : s.length ≡ j - i = ap (λ (s : Span). s.length) e in
    between_at at (omega (arith, p.ends)) p

-- no bytes
abbrev pub nowhere : Span
nowhere = record { start = 0; length = 0 }

pub span_none : {bs : Bytes} → SpanIs bs nowhere []
span_none = between_none (omega arith)

pub both_is : {base ref v w : Bytes} (b : Both) → SpanIs base b.base v → SpanIs ref b.reference w → BothIs base ref b (v ++ w)
unfolding both_of
both_is {base} {ref} {v} {w} b p q =
    record {
      inside = record { of_base = p.inside; of_reference = q.inside };
      bytes = ap₂ (λ (x y : Bytes). x ++ y)
          (take_at_drop base b.base.start b.base.length v _ (omega (arith, p.ends)) p.bytes)
          (take_at_drop ref b.reference.start b.reference.length w _ (omega (arith, q.ends)) q.bytes);
    }

pub both_none : {base ref : Bytes} → BothIs base ref (record { base = nowhere; reference = nowhere }) []
both_none = both_is _ span_none span_none

pub both_as : {base ref v w : Bytes} {b : Both} → v ≡ w → BothIs base ref b v → BothIs base ref b w
both_as e p = record { inside = p.inside; bytes = p.bytes ∙ e }

-- ---- rows of texts

pub row_none : {bs : Bytes} → RowIs bs (record { span = nowhere; count = 0 }) []
unfolding contents spans concat
row_none = record { each = tt; says = refl; bytes = span_none }

-- the same texts, said in another way
pub row_as : {bs : Bytes} {r : RowSpan} {ts us : List Bytes} → ts ≡ us → RowIs bs r ts → RowIs bs r us
row_as {bs} {r} e p = subst (RowIs bs r) e p

pub row_length : {bs : Bytes} {r : RowSpan} {ts : List Bytes} → RowIs bs r ts → length (texts ts) ≡ r.span.length
row_length p = omega (arith, p.bytes.ends)

-- the first texts of a row, and where they end
first_texts : (bs : Bytes) (at count n : ℕ) → n ≤ count → at ≤ length bs → TextsLaid bs at count → TextsLaid bs at n × Between bs at (nth_at bs at n) (texts (contents bs at n))
unfolding nth_at contents spans concat
first_texts bs at count zero h k t = (tt, between_none k)
first_texts bs at zero (suc n) h k t = absurd (omega arith)
first_texts bs at (suc count) (suc n) h k t =
    let r = first_texts bs (end_at bs at) count n (omega arith) t.0.bytes.inside t.1 in
    ((t.0, r.0), between_then t.0.bytes r.1)

pub row_count : {bs : Bytes} {r : RowSpan} {ts : List Bytes} → RowIs bs r ts → length ts ≡ r.count
row_count {bs} {r} p = ap length (sym p.says) ∙ length_contents bs r.span.start r.count

pub row_small : {bs : Bytes} {r : RowSpan} {ts : List Bytes} → RowIs bs r ts → length bs ≤ limits.bytes → Small r
row_small {ts = ts} p h = record { bytes = omega (arith, p.bytes.inside); texts = omega (arith, p.bytes.inside, row_length p, row_count p, texts_count ts) }

-- the row of a path
pub row_laid : {bs : Bytes} {at n end : ℕ} {span : Span} → span ≡ record { start = at; length = end - at } → RowLaid bs at n end
    → RowIs bs (record { span = span; count = n }) (contents bs at n)
row_laid {bs} {at} {n} {end} {span} e p =
    subst (λ (s : Span). RowIs bs (record { span = s; count = n }) (contents bs at n)) (sym e)
    (record { each = p.each; says = refl; bytes = span_is_lem p.row _ refl })

-- ---- the first texts of a row: k of them go

module _ (bs : Bytes) (row : RowSpan) (k : ℕ) (p : RowIs bs row (row_texts bs row)) where
  pub row_all : k ≡ 0 → RowIs bs row (take (row.count - k) (row_texts bs row))
  row_all e =
      let n : row.count ≡ row.count - k = omega arith in
      row_as (sym (take_contents bs row.span.start row.count row.count (omega arith)) ∙ ap (λ (n : ℕ). take n (row_texts bs row)) n) p

  first : TextsLaid bs row.span.start (row.count - k) × Between bs row.span.start (nth_at bs row.span.start (row.count - k)) (texts (contents bs row.span.start (row.count - k)))
  first = first_texts bs row.span.start row.count (row.count - k) (omega arith) (omega (arith, p.bytes.inside)) p.each

  pub first_stand : RowAt bs row.span.start (row.count - k)
  first_stand = laid_items bs row.span.start (row.count - k) first.0

  pub first_ends : row.span.start ≤ nth_at bs row.span.start (row.count - k)
  first_ends = omega (arith, first.1.ends)

  pub row_first : (span : Span) → span ≡ record { start = row.span.start; length = nth_at bs row.span.start (row.count - k) - row.span.start }
      → RowIs bs (record { span = span; count = row.count - k }) (take (row.count - k) (row_texts bs row))
  row_first span e =
      row_as (sym (take_contents bs row.span.start row.count (row.count - k) (omega arith)))
      (row_laid e (record { each = first.0; row = first.1 }))

-- ---- two rows

pub path_as : {base ref : Bytes} {p : Counted} {ts us : List Bytes} → ts ≡ us → PathIs base ref p ts → PathIs base ref p us
path_as {base} {ref} {p} e h = subst (PathIs base ref p) e h

module _ (old new : RowSpan) (base ref : Bytes) (ts us : List Bytes) (p : RowIs base old ts) (q : RowIs ref new us) where
  size : length (texts (ts ++ us)) ≡ old.span.length + new.span.length
  size = ap length (texts_append ts us) ∙ length-append (texts ts) (texts us) ∙ omega (arith, row_length p, row_length q)

  pub joined_short : old.span.length + new.span.length < 2
      → PathIs base ref (record { both = record { base = nowhere; reference = nowhere }; count = 0 }) (normal_path (ts ++ us))
  unfolding concat
  joined_short h = path_as (sym (normal_short (ts ++ us) (omega (arith, size)))) (record { both = both_none; count = refl })

  pub joined_long : 2 ≤ old.span.length + new.span.length
      → PathIs base ref (record { both = record { base = old.span; reference = new.span }; count = old.count + new.count }) (normal_path (ts ++ us))
  joined_long h =
      path_as (sym (normal_long (ts ++ us) (omega (arith, size))))
      (record {
        both = both_as (sym (texts_append ts us)) (both_is _ p.bytes q.bytes);
        count = omega (arith, length-append ts us, row_count p, row_count q);
      })

-- ---- query and fragment

-- the result's query
abbrev pub new_query : Bytes → Bytes → Slot → OpeningAt → Slot → Slot → Option (List Bytes)
new_query base ref old o p q = or (said_texts ref q) (cond (keeps_query o p) (said_texts base old) none)

module _ (base ref : Bytes) where
  own : (old : Slot) (o : OpeningAt) (p q : Slot) → takes_query old o p q ≡ false → new_query base ref old o p q ≡ said_texts ref q
  own old o p (set at n) e = refl
  own unset o p unset e = by_test (λ (t : Bool). cond {A = Option (List Bytes)} t none none ≡ none) (keeps_query o p) (λ _. refl) (λ _. refl)
  own (set at n) o p unset e = rw e

  further : (q : P.Option Row) (f : Slot) → further_of (is_some q) f ≡ further_items (said_texts ref (slot_of q)) (said_text ref f)
  further q (set at n) = refl
  further None unset = refl
  further (Some r) unset = refl

  pub own_query : (old : Slot) (o : OpeningAt) (p : Slot) (q : P.Option Row) (f : Slot) (t : Counted) → takes_query old o p (slot_of q) ≡ false → SpanIs base t.both.base []
      → SpanIs ref t.both.reference (query_item (said_texts ref (slot_of q)) (said_text ref f) ++ fragment_item (said_text ref f)) → t.count ≡ further_of (is_some q) f
      → TailIs base ref t (new_query base ref old o p (slot_of q)) (said_text ref f)
  own_query old o p q f t e a b n =
      subst (λ (q : Option (List Bytes)). TailIs base ref t q (said_text ref f)) (sym (own old o p (slot_of q) e))
      (record { both = both_is t.both a b; count = n ∙ further q f })

  old_further : (ts : List Bytes) (f : Slot) → further_of true f ≡ further_items (some ts) (said_text ref f)
  old_further ts (set at n) = refl
  old_further ts unset = refl

  pub old_query : (old g : Slot) (o : OpeningAt) (p q f : Slot) (t : Counted) → takes_query old o p q ≡ true
      → SpanIs base t.both.base (query_item (said_texts base old) (said_text base g)) → SpanIs ref t.both.reference (fragment_item (said_text ref f))
      → t.count ≡ further_of true f → TailIs base ref t (new_query base ref old o p q) (said_text ref f)
  old_query old g o p (set at n) f t e a b m = never e
  old_query unset g o p unset f t e a b m = never e
  old_query (set at n) g o p unset f t e a b m =
      rw e (record { both = both_is t.both a b; count = m ∙ old_further (contents base at n) f })

-- ---- scheme and authority

-- both the base's
pub front_old : {base ref : Bytes} (s : RulesScheme Bytes) (a : Authority Bytes) {at next : ℕ} (b : Span) → b ≡ record { start = 1; length = next - 1 }
    → Between base 1 at (scheme_item s) → Between base at next (authority_item a)
    → BothIs base ref (record { base = b; reference = nowhere }) (scheme_item s ++ authority_item a)
front_old s a b e p q = both_as (append-nil _) (both_is _ (span_is_lem (between_then p q) b e) span_none)

-- both the reference's
pub front_own : {base ref : Bytes} (s : RulesScheme Bytes) (t : Scheme) (a : AuthorityAt) (b : Span) → b ≡ record { start = 1; length = a.next - 1 }
    → FullLaid ref (scheme_of (Some t)) a
    → BothIs base ref (record { base = nowhere; reference = b }) (scheme_item (get_or (said_scheme ref (scheme_of (Some t))) s) ++ authority_item (said_authority ref a))
unfolding or_null
front_own s (SchemeV.Number n) a b e p = both_is _ span_none (span_is_lem (between_then p.scheme p.authority) b e)
front_own s (SchemeV.Name n) a b e p = both_is _ span_none (span_is_lem (between_then p.scheme p.authority) b e)

-- what stands at an opening, by what it says
pub full_laid : {bs : Bytes} {x : SchemeAt} {y : AuthorityAt} {s : RulesScheme Bytes} {a : Authority Bytes}
    → ◌≡◌ {A = Opening Bytes} (full (said_scheme bs x) (some (said_authority bs y))) (full (some s) (some a)) → FullLaid bs x y
    → Between bs 1 y.at (scheme_item s) × Between bs y.at y.next (authority_item a)
unfolding or_null
full_laid {bs} {x} {y} {s} {a} e p =
    let d : said_scheme bs x ≡ some s = cc in
    let f : said_authority bs y ≡ a = cc in
    (between_as (ap (or_null scheme_item) d) p.scheme, between_as (ap authority_item f) p.authority)
