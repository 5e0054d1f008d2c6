-- What the structs and the array say undoes how they are laid out.
use Prim.Native.Nat.{ℕ, zero, suc, ◌+◌, ◌-◌, ◌*◌, ◌≤◌, ◌<◌}
use native.Mathlib.Nat.{add-zero}
use native.Mathlib.Omega.{arith}
use mathlib.Core.Path.{◌≡◌, refl, sym, ap, ap₂, ◌∙◌}
use mathlib.Core.List.{List, [], ◌∷◌, ◌++◌, append_assoc}
use mathlib.Core.Option.{Option, none, some}
use lib.ListN.{length, get_or, get_elem?, drop, length-append}
use lib.Seq.{drop_at, get_or-drop, drop-drop}
use Rattle.std.specs.Prelude as P
use Rattle.std.specs.Prelude.{Some, None}
use Rattle.rules.specs.Code.{option_laid}
use Rattle.rules.specs.Model as Model
use Rattle.rules.specs.Model.{elements}
use Rattle.rules.specs.Writing.{labels_of, opening_labels}
use Rattle.rules.specs.Meaning.{text_span}
use Rattle.cbor.specs.declared.Span.{Span}
use Rattle.reader.specs.Answers.{port_of, text_of}
use Rattle.components.specs.declared.Opening.{Opening}
use Rattle.components.specs.declared.Opening.TheVariants as OpeningV
use Rattle.components.specs.declared.Host.{Host}
use Rattle.components.specs.declared.Host.TheVariants as HostV
use Rattle.components.specs.Content.{numbered_span, spans_of, scheme_of, host_of, opening_of, texts_of, fragment_of, labels_in, label_count, text_count, components_of}
use Rattle.components.specs.Layout.{scheme_laid, host_laid, opening_laid, texts_laid, fragment_laid, components_laid, span_numbers, text_numbers}
use Rattle.components.proofs.Filling.{length_numbers}

-- a port is laid out as the reader has it
pub port_laid_lem : (p : P.Option ℕ) → p ≡ option_laid (λ n. n) (port_of p)
port_laid_lem None = refl
port_laid_lem (Some n) = refl

-- and so is where a fragment stands
pub fragment_laid_lem : (t : P.Option Span) → t ≡ fragment_laid (text_span (text_of t))
fragment_laid_lem None = refl
fragment_laid_lem (Some t) = refl

-- and what it says is the port
port_said : (p : Option ℕ) → port_of (option_laid (λ n. n) p) ≡ p
port_said none = refl
port_said (some n) = refl

-- numbers say the spans that they are of
spans_said : (ts : List Model.Span) (xs : List ℕ) → spans_of (length ts) (span_numbers ts ++ xs) ≡ ts
unfolding spans_of span_numbers
spans_said [] xs = refl
spans_said (t ∷ ts) xs = ap (λ (l : List Model.Span). t ∷ l) (spans_said ts xs)

scheme_back : (s : Option (Model.Scheme Model.Span)) → scheme_of (option_laid scheme_laid s) ≡ s
scheme_back none = refl
scheme_back (some (Model.number n)) = refl
scheme_back (some (Model.name t)) = refl

host_said : (h : Model.Host Model.Span) (xs : List ℕ) → host_of (span_numbers (labels_of h) ++ xs) (host_laid h) ≡ h
host_said (Model.address a) xs = refl
host_said (Model.labels ts) xs = ap Model.labels (spans_said ts xs)

opening_said : (o : Model.Opening Model.Span) (xs : List ℕ) → opening_of (span_numbers (opening_labels o) ++ xs) (opening_laid o) ≡ o
opening_said (Model.discard k) xs = refl
opening_said Model.discard_all xs = refl
opening_said (Model.full s none) xs = λ i. Model.full (scheme_back s i) none
opening_said (Model.full s (some a)) xs = λ i. Model.full (scheme_back s i) (some (record { host = host_said a.host xs i; port = port_said a.port i }))

texts_said : (ts : Option (List Model.Span)) (xs : List ℕ) → texts_of (span_numbers (elements ts) ++ xs) (texts_laid ts) ≡ ts
texts_said none xs = refl
texts_said (some ts) xs = ap some (spans_said ts xs)

fragment_said : (t : Option Model.Span) → fragment_of (fragment_laid t) ≡ t
fragment_said none = refl
fragment_said (some t) = refl

-- ---- the texts that stand in the array

-- as many spans as were asked for
pub length_spans_of : (n : ℕ) (xs : List ℕ) → length (spans_of n xs) ≡ n
unfolding spans_of
length_spans_of zero xs = refl
length_spans_of (suc n) xs = ap suc (length_spans_of n (drop 2 xs))

-- the counts are those of what is said, whatever the numbers
pub labels_counted : (xs : List ℕ) (o : Opening) → length (opening_labels (opening_of xs o)) ≡ label_count o
labels_counted xs (OpeningV.Discard k) = refl
labels_counted xs OpeningV.DiscardAll = refl
labels_counted xs (OpeningV.Full s None) = refl
labels_counted xs (OpeningV.Full s (Some a)) = of a.host
  where
    of : (h : Host) → length (labels_of (host_of xs h)) ≡ labels_in h
    of (HostV.Address a) = refl
    of (HostV.Labels n) = length_spans_of n xs

pub texts_counted : (xs : List ℕ) (t : P.Option ℕ) → length (elements (texts_of xs t)) ≡ text_count t
texts_counted xs None = refl
texts_counted xs (Some n) = length_spans_of n xs

-- and so of what is laid out
labels_laid : (o : Model.Opening Model.Span) → length (opening_labels o) ≡ label_count (opening_laid o)
labels_laid o = ap (λ o. length (opening_labels o)) (sym (opening_said o [])) ∙ labels_counted (span_numbers (opening_labels o) ++ []) (opening_laid o)

pub texts_laid_lem : (ts : Option (List Model.Span)) → length (elements ts) ≡ text_count (texts_laid ts)
texts_laid_lem ts = ap (λ ts. length (elements ts)) (sym (texts_said ts [])) ∙ texts_counted (span_numbers (elements ts) ++ []) (texts_laid ts)

-- the numbers of a reference, and what stood behind them, say its components
pub components_said : (c : Model.Components) (xs : List ℕ) → components_of (text_numbers c ++ xs) (components_laid c) ≡ c
components_said c xs =
    let ls : List ℕ = span_numbers (opening_labels c.opening) in
    let ps : List ℕ = span_numbers (elements c.path) in
    let qs : List ℕ = span_numbers (elements c.query) in
    let n : ℕ = 2 * label_count (opening_laid c.opening) in
    let m : ℕ = 2 * text_count (texts_laid c.path) in
    let all : text_numbers c ++ xs ≡ ls ++ (ps ++ (qs ++ xs)) = append_assoc ls (ps ++ qs) xs ∙ ap (λ (r : List ℕ). ls ++ r) (append_assoc ps qs xs) in
    let nl : length ls ≡ n = omega (arith, length_numbers (opening_labels c.opening), labels_laid c.opening) in
    let np : length ps ≡ m = omega (arith, length_numbers (elements c.path), texts_laid_lem c.path) in
    let path : drop n (text_numbers c ++ xs) ≡ ps ++ (qs ++ xs) = ap (drop n) all ∙ drop_at ls (ps ++ (qs ++ xs)) n nl in
    let query : drop (n + m) (text_numbers c ++ xs) ≡ qs ++ xs =
    ap (drop (n + m)) (all ∙ sym (append_assoc ls ps (qs ++ xs))) ∙ drop_at (ls ++ ps) (qs ++ xs) (n + m) (length-append ls ps ∙ ap₂ (λ (n m : ℕ). n + m) nl np) in
    λ i. record {
      opening = (ap (λ (l : List ℕ). opening_of l (opening_laid c.opening)) all ∙ opening_said c.opening (ps ++ (qs ++ xs))) i;
      path = (ap (λ (l : List ℕ). texts_of l (texts_laid c.path)) path ∙ texts_said c.path (qs ++ xs)) i;
      query = (ap (λ (l : List ℕ). texts_of l (texts_laid c.query)) query ∙ texts_said c.query xs) i;
      fragment = fragment_said c.fragment i;
    }

-- the first of n spans from a place on, and those after it
pub spans_next : (xs : List ℕ) (i n : ℕ) → 0 < n
    → spans_of n (drop i xs) ≡ record { start = get_or xs i 0; length = get_or xs (i + 1) 0 } ∷ spans_of (n - 1) (drop (i + 2) xs)
unfolding spans_of
spans_next xs i zero h = absurd (omega arith)
spans_next xs i (suc n) h =
    let less : suc n - 1 ≡ n = omega arith in
    ap₂ ◌∷◌ (λ k. record { start = (get_or-drop i xs 0 0 ∙ ap (λ (j : ℕ). get_or xs j 0) (add-zero i)) k; length = get_or-drop i xs 1 0 k })
    (ap (spans_of n) (drop-drop 2 i xs) ∙ ap (λ (m : ℕ). spans_of m (drop (i + 2) xs)) (sym less))

pub spans_end : (xs : List ℕ) (i n : ℕ) → n ≤ 0 → spans_of n (drop i xs) ≡ []
unfolding spans_of
spans_end xs i zero h = refl
spans_end xs i (suc n) h = absurd (omega arith)

-- the i-th of n texts, before which there are k others, is text k + i of the array
pub text_numbered : (xs : List ℕ) (k n i : ℕ) → i < n → get_elem? (spans_of n (drop (2 * k) xs)) i ≡ some (numbered_span xs (k + i))
text_numbered xs k n zero h =
    ap (λ (ts : List Model.Span). get_elem? ts 0) (spans_next xs (2 * k) n h) ∙ ap (λ (m : ℕ). some (numbered_span xs m)) (sym (add-zero k))
text_numbered xs k n (suc i) h =
    let next : 2 * k + 2 ≡ 2 * (k + 1) = omega arith in
    let place : k + 1 + i ≡ k + suc i = omega arith in
    ap (λ (ts : List Model.Span). get_elem? ts (suc i)) (spans_next xs (2 * k) n (omega arith))
    ∙ ap (λ (m : ℕ). get_elem? (spans_of (n - 1) (drop m xs)) i) next
    ∙ text_numbered xs (k + 1) (n - 1) i (omega arith)
    ∙ ap (λ (m : ℕ). some (numbered_span xs m)) place
