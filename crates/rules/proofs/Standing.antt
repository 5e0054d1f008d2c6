-- What an accepted input says of positions: it is not too long, every text and address lies inside the bytes, and each count is within its limit.
use Prim.Native.Nat.{ℕ, zero, suc, ◌+◌, ◌-◌, ◌≤◌}
use native.Mathlib.Omega.{arith}
use mathlib.Core.Path.{◌≡◌, refl, subst}
use mathlib.Core.Bool.{Bool, true}
use mathlib.Core.List.{List, [], ◌∷◌, ◌++◌}
use mathlib.Core.Option.{some}
use lib.ListN.{length, get_elem?}
use lib.Dec.{lit≤}
use borrow.Author.Tests.{leb-true, le-leb}
use Rattle.rules.specs.Bytes.{Bytes, Octets, all}
use Rattle.rules.specs.Model.{Span, Limits, elements}
use Rattle.rules.specs.Head.{Kind, Number, Negative, ByteString, Text, Array, True, Null, Other, head_at, kind_at}
use Rattle.rules.specs.Rules.{Sort, segment, parameter, fragment_text, scheme_name}
use Rattle.rules.specs.Reader.{span_at, end_at, spans, Slot, unset, set, null_body, array_body, read_array, fragment_body, read_fragment, HostAt, address_at, labels_at, address_host, labels_host, read_authority, SchemeAt, no_scheme, number_at, name_at, OpeningAt, discard_at, discard_all_at, full_at, opens, after_scheme, opening_body, read_opening, Found, read}
use Rattle.rules.specs.Meaning.{span, scheme_span, host_spans, opening_spans, text_spans, text_span, components}
use Rattle.rules.specs.Writing.{labels_of, host_texts, scheme_texts, where_set, opening_texts, opening_labels, all_texts, counted, inside, Lie}
use Rattle.rules.specs.Views.{segment_view}
use Rattle.rules.specs.Standing.{RowAt, BytesStand, SchemeStands, HostStands, OpeningStands, TextsStand, TextStands, FoundStands}
use Rattle.rules.proofs.Tools.{and_left, and_right, and_both, or_left, within_high}
use Rattle.rules.proofs.Steps.{none_some, Ok, no!, ok!, ok_any, ok_bind, ok_map, ok_need, ok_if, ok_given}
use Rattle.rules.proofs.Heads.{is_kind, Stands, ok_head}
use Rattle.rules.proofs.Texts.{ok_content, ok_text_body, ok_texts, length_spans}
use Rattle.rules.proofs.Authorities.{ok_label_body, ok_names, labels_row, ok_port}

-- it is not too long
pub read_size : (lim : Limits) (bs : Bytes) → Ok (λ f. length bs ≤ lim.bytes) (read lim bs)
unfolding read
read_size lim bs = ok_need _ _ _ _ (λ s. ok_map (ok_any _) (λ f _. leb-true _ _ s))

-- ---- path, query, fragment

array_stands : (s : Sort) (low high : ℕ) (bs : Bytes) (at left : ℕ) → Octets bs → Ok (λ p. TextsStand high bs p.slot) (read_array s low high bs at left)
unfolding read_array null_body array_body
array_stands s low high bs at zero sm = ok! tt
array_stands s low high bs at (suc left) sm =
    ok_head _ _ _ _ (λ r. ok_if _ _ _
    (λ y. ok_need _ _ _ _ (λ t. ok! tt))
    (λ n. ok_need _ _ _ _ (λ w. ok_bind _ _ (ok_texts s bs (head_at bs at).next (head_at bs at).value sm) (λ next t.
    ok! (record { count = within_high low high _ w; each = t.stand })))))

fragment_stands : (bs : Bytes) (at left : ℕ) → Octets bs → Ok (λ p. TextStands bs p.slot) (read_fragment bs at left)
unfolding read_fragment null_body fragment_body head_at
fragment_stands bs at zero sm = ok! tt
fragment_stands bs at (suc left) sm =
    ok_head _ _ _ _ (λ r. ok_if _ _ _
    (λ y. ok_need _ _ _ _ (λ t. ok! tt))
    (λ n. ok_bind _ _ (ok_text_body fragment_text bs at sm r (is_kind Text _ (or_left _ _ r.kind n))) (λ next t.
    ok! t.stands.inside)))

-- ---- the opening

labels_stand : {allowed : Kind → Bool} (bs : Bytes) (start at left : ℕ) → Octets bs → Stands allowed bs at → kind_at bs at ≡ Text
    → Ok (λ a. HostStands bs a.host) (labels_host bs start at left (head_at bs at))
unfolding labels_host
labels_stand bs start at left sm r e =
    ok_bind _ _ (ok_label_body 0 bs at sm r e) (λ mid t. ok_bind _ _ (ok_names bs mid left 1 sm) (λ p q. ok_need _ _ _ _ (λ w.
    ok! (record { count = q.most (lit≤ tt); each = labels_row bs at mid left p t.1 q }))))

address_stands : (bs : Bytes) (start at left : ℕ) → Octets bs → Ok (λ a. HostStands bs a.host) (address_host bs start at left (head_at bs at))
unfolding address_host
address_stands bs start at left sm =
    ok_need _ _ _ _ (λ w. ok_content _ _ _ _ (λ l. ok_bind _ _ (ok_port bs (end_at bs at) left sm) (λ p q. ok! l)))

authority_stands : (bs : Bytes) (at : ℕ) → Octets bs → Ok (λ a. HostStands bs a.host) (read_authority bs at)
unfolding read_authority head_at
authority_stands bs at sm =
    ok_head _ _ _ _ (λ r. ok_need _ _ _ _ (λ w. ok_head _ _ _ _ (λ r'. ok_if _ _ _
    (λ y. labels_stand bs at (head_at bs at).next ((head_at bs at).value - 1) sm r' (is_kind Text _ y))
    (λ n. address_stands bs at (head_at bs at).next ((head_at bs at).value - 1) sm))))

scheme_stands : (bs : Bytes) (at count : ℕ) (s : SchemeAt) (next : ℕ) → Octets bs → SchemeStands bs s
    → Ok (λ o. OpeningStands bs o.opening) (after_scheme bs at count s next)
unfolding after_scheme
scheme_stands bs at count s next sm h = ok_need _ _ _ _ (λ w. ok_bind _ _ (authority_stands bs next sm) (λ a q. ok! (h, q)))

kind_stands : (k : Kind) (bs : Bytes) (at count : ℕ) → Octets bs → Stands opens bs at → kind_at bs at ≡ k
    → Ok (λ o. OpeningStands bs o.opening) (opening_body bs at count (head_at bs at) k)
unfolding opening_body
kind_stands Number bs at count sm r e = ok_need _ _ _ _ (λ v. ok_need _ _ _ _ (λ c. ok_need _ _ _ _ (λ z. ok! tt)))
kind_stands Negative bs at count sm r e = ok_need _ _ _ _ (λ v. scheme_stands bs at count _ _ sm tt)
kind_stands ByteString bs at count sm r e = no!
kind_stands Text bs at count sm r e =
    ok_bind _ _ (ok_text_body scheme_name bs at sm r e) (λ next t. scheme_stands bs at count _ next sm t.stands.inside)
kind_stands Array bs at count sm r e = no!
kind_stands True bs at count sm r e = ok_need _ _ _ _ (λ c. ok! tt)
kind_stands Null bs at count sm r e = scheme_stands bs at count _ _ sm tt
kind_stands Other bs at count sm r e = no!

opening_stands : (bs : Bytes) (at count : ℕ) → Octets bs → Ok (λ o. OpeningStands bs o.opening) (read_opening bs at count)
unfolding read_opening head_at
opening_stands bs at zero sm = ok! tt
opening_stands bs at (suc n) sm = ok_head _ _ _ _ (λ r. kind_stands (kind_at bs at) bs at (suc n) sm r refl)

-- ---- the whole

pub stands : (lim : Limits) (bs : Bytes) → Octets bs → Ok (λ f. FoundStands lim bs f) (read lim bs)
unfolding read
stands lim bs sm =
    ok_need _ _ _ _ (λ size. ok_head _ _ _ _ (λ r. ok_need _ _ _ _ (λ n.
    ok_bind _ _ (opening_stands bs _ _ sm) (λ o ho.
    ok_bind _ _ (array_stands segment 0 lim.segments bs _ _ sm) (λ p hp.
    ok_bind _ _ (array_stands parameter 1 16 bs _ _ sm) (λ q hq.
    ok_bind _ _ (fragment_stands bs _ _ sm) (λ f hf.
    ok_need _ _ _ _ (λ e. ok! (record { opening = ho; path = hp; query = hq; fragment = hf })))))))))

-- ---- what that says of the spans

-- a span that is one of n items lies inside
span_inside : (bs : Bytes) (at n : ℕ) → RowAt bs at n → (i : ℕ) (s : Span) → get_elem? (spans bs at n) i ≡ some s → s.start + s.length ≤ length bs
unfolding spans
span_inside bs at zero h i s e = none_some s e
span_inside bs at (suc n) h zero s e = let d : span_at bs at ≡ s = cc in subst (λ (s : Span). s.start + s.length ≤ length bs) d h.0.inside
span_inside bs at (suc n) h (suc i) s e = span_inside bs (end_at bs at) n h.1 i s e

text_inside : (most : ℕ) (bs : Bytes) (p : Slot) → TextsStand most bs p → (i : ℕ) (s : Span) → get_elem? (elements (text_spans bs p)) i ≡ some s → s.start + s.length ≤ length bs
text_inside most bs unset h i s e = none_some s e
text_inside most bs (set at n) h i s e = span_inside bs at n h.each i s e

-- the view of a segment lies inside
pub segment_inside : (lim : Limits) (bs : Bytes) (n : ℕ) → Octets bs → Ok (λ s. s.start + s.length ≤ length bs) (segment_view lim bs n)
unfolding segment_view components
segment_inside lim bs n sm = ok_bind _ _ (stands lim bs sm) (λ f h. ok_given _ _ _ (λ s e. text_inside lim.segments bs f.path h.path n s e))

-- spans that lie inside
pub none_lie : (bs : Bytes) → Lie bs []
unfolding all
none_lie bs = refl

one_inside : (bs : Bytes) (at n : ℕ) → BytesStand bs at n → Lie bs (span at n ∷ [])
unfolding all inside
one_inside bs at n h = and_both _ _ (le-leb _ _ h) refl

pub both_lie : (bs : Bytes) (xs ys : List Span) → Lie bs xs → Lie bs ys → Lie bs (xs ++ ys)
unfolding all
both_lie bs [] ys h k = k
both_lie bs (x ∷ xs) ys h k = and_both (inside bs x) _ (and_left (inside bs x) _ h) (both_lie bs xs ys (and_right (inside bs x) _ h) k)

spans_inside : (bs : Bytes) (at n : ℕ) → RowAt bs at n → Lie bs (spans bs at n)
unfolding spans all inside
spans_inside bs at zero h = refl
spans_inside bs at (suc n) h = and_both _ _ (le-leb _ _ h.0.inside) (spans_inside bs (end_at bs at) n h.1)

scheme_inside : (bs : Bytes) (s : SchemeAt) → SchemeStands bs s → Lie bs (where_set scheme_texts (scheme_span s))
scheme_inside bs no_scheme h = none_lie bs
scheme_inside bs (number_at n) h = none_lie bs
scheme_inside bs (name_at at n) h = one_inside bs at n h

host_inside : (bs : Bytes) (a : HostAt) → HostStands bs a → Lie bs (host_texts (host_spans bs a))
host_inside bs (address_at at n) h = one_inside bs at n h
host_inside bs (labels_at at n) h = spans_inside bs at n h.each

opening_inside : (bs : Bytes) (o : OpeningAt) → OpeningStands bs o → Lie bs (opening_texts (opening_spans bs o))
opening_inside bs (discard_at k) h = none_lie bs
opening_inside bs discard_all_at h = none_lie bs
opening_inside bs (full_at s a) h = both_lie bs _ _ (scheme_inside bs s h.0) (host_inside bs a.host h.1)

texts_inside : (most : ℕ) (bs : Bytes) (p : Slot) → TextsStand most bs p → Lie bs (elements (text_spans bs p))
texts_inside most bs unset h = none_lie bs
texts_inside most bs (set at n) h = spans_inside bs at n h.each

fragment_inside : (bs : Bytes) (p : Slot) → TextStands bs p → Lie bs (where_set (λ t. t ∷ []) (text_span p))
fragment_inside bs unset h = none_lie bs
fragment_inside bs (set at n) h = one_inside bs at n h

-- every text and address of the components lies inside
pub all_inside : (lim : Limits) (bs : Bytes) (f : Found) → FoundStands lim bs f → Lie bs (all_texts (components bs f))
unfolding components
all_inside lim bs f h =
    both_lie bs _ _
    (both_lie bs _ _
    (both_lie bs _ _ (opening_inside bs f.opening h.opening) (texts_inside lim.segments bs f.path h.path))
    (texts_inside 16 bs f.query h.query))
    (fragment_inside bs f.fragment h.fragment)

labels_few : (bs : Bytes) (o : OpeningAt) → OpeningStands bs o → length (opening_labels (opening_spans bs o)) ≤ 8
labels_few bs (discard_at k) h = lit≤ tt
labels_few bs discard_all_at h = lit≤ tt
labels_few bs (full_at s a) h = host_few a.host h.1
  where
    host_few : (a : HostAt) → HostStands bs a → length (labels_of (host_spans bs a)) ≤ 8
    host_few (address_at at n) h = lit≤ tt
    host_few (labels_at at n) h = omega (arith, length_spans bs at n, h.count)

texts_few : (most : ℕ) (bs : Bytes) (p : Slot) → TextsStand most bs p → length (elements (text_spans bs p)) ≤ most
texts_few most bs unset h = omega arith
texts_few most bs (set at n) h = omega (arith, length_spans bs at n, h.count)

-- there are at most as many labels, segments and parameters as components may have
pub all_counted : (lim : Limits) (bs : Bytes) (f : Found) → FoundStands lim bs f → counted lim (components bs f) ≡ true
unfolding counted components
all_counted lim bs f h =
    and_both _ _ (le-leb _ _ (labels_few bs f.opening h.opening))
    (and_both _ _ (le-leb _ _ (texts_few lim.segments bs f.path h.path)) (le-leb _ _ (texts_few 16 bs f.query h.query)))
