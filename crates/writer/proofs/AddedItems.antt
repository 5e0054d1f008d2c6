-- The items of an encoding as they are added, and the texts in them.
use Prim.Native.Nat.{ℕ, zero, suc, ◌+◌, ◌≤◌, ◌<◌}
use native.Mathlib.Omega.{arith}
use mathlib.Core.Path.{◌≡◌, refl, sym, ap, ap₂, ◌∙◌}
use mathlib.Core.Bool.{Bool, true, false, ◌&&◌}
use mathlib.Core.List.{List, [], ◌∷◌, ◌++◌, append_assoc, append-nil, map}
use mathlib.Core.Option
use mathlib.Core.Option.{Option, none, some}
use lib.ListN.{length, drop, length-append, length-map}
use lib.Dec.{leb, lit≤}
use borrow.Author.Tests.{leb-true, le-leb, lt-leb}
use Rattle.rules.specs.Bytes.{Bytes, all, concat}
use Rattle.rules.specs.Result.{ok}
use Rattle.rules.specs.Head.{Kind, Number, Array, head_bytes}
use Rattle.rules.specs.Model.{Authority, Host, map_host, Opening, discard, discard_all, full, Span, Components, elements, limits, most_labels, most_parameters}
use Rattle.rules.specs.Reader.{taken}
use Rattle.rules.specs.Encode.{text_item, array_item, texts_item, null_item, or_null, tail_items, port_items, host_items, authority_item, discard_alone, with_opening}
use Rattle.rules.specs.Writing.{where_set, opening_texts, all_texts, counted, inside}
use Rattle.rules.proofs.Tools.{and_left, and_right, length_part, concat_append}
use Rattle.components.specs.declared.Components as Given
use Rattle.components.specs.declared.Host as GivenHost
use Rattle.components.specs.declared.Host.TheVariants as HostV
use Rattle.components.specs.Content.{spans_of, host_of, labels_in, label_count, text_count, path_place, query_place, components_of}
use Rattle.components.proofs.Content.{length_spans_of, labels_counted, texts_counted}
use Rattle.writer.specs.Added.{added}
use Rattle.writer.proofs.Added.{added_none, added_as}
use Rattle.writer.specs.AddedItems.{one_text, tail_texts, string_item, text_items, authority_items, discard_items, opening_items, fragment_items}

-- an item by itself
pub one_item : (x : Bytes) → x ≡ concat (x ∷ [])
unfolding concat
one_item x = sym (append-nil x)

-- ---- spans

pub lies : (lent : Bytes) (s : Span) → s.start + s.length ≤ length lent → inside lent s ≡ true
unfolding inside
lies lent s h = le-leb (s.start + s.length) (length lent) h

pub lies_not : (lent : Bytes) (s : Span) → length lent < s.start + s.length → inside lent s ≡ false
unfolding inside
lies_not lent s h = lt-leb (s.start + s.length) (length lent) h

pub lying : (lent : Bytes) (s : Span) → inside lent s ≡ true → s.start + s.length ≤ length lent
unfolding inside
lying lent s e = leb-true (s.start + s.length) (length lent) e

pub length_taken : (lent : Bytes) (s : Span) → inside lent s ≡ true → length (taken lent s) ≡ s.length
length_taken lent s e = length_part lent s.start s.length (lying lent s e)

and_true : (a : Bool) → (a && true) ≡ a
and_true true = refl
and_true false = refl

and_assoc : (a b c : Bool) → ((a && b) && c) ≡ (a && (b && c))
and_assoc true b c = refl
and_assoc false b c = refl

-- texts lie inside exactly where those of two parts do
pub all_append : {A : Type 0} (p : A → Bool) (xs ys : List A) → (all p xs && all p ys) ≡ all p (xs ++ ys)
unfolding all
all_append p [] ys = refl
all_append p (x ∷ xs) ys = and_assoc (p x) (all p xs) (all p ys) ∙ ap (λ t. p x && t) (all_append p xs ys)

pub both_made : (lent : Bytes) (ss ts : List Span) (w bs : Bytes) → added (all (inside lent) ss && all (inside lent) ts) w bs ≡ added (all (inside lent) (ss ++ ts)) w bs
both_made lent ss ts w bs = ap (λ t. added t w bs) (all_append (inside lent) ss ts)

-- one text
one_inside : (lent : Bytes) (s : Span) → inside lent s ≡ all (inside lent) (one_text s)
unfolding all
one_inside lent s = sym (and_true (inside lent s))

-- ---- texts

-- a text or a byte string, with its length as its span has it
pub string_made : (k : Kind) (lent : Bytes) (s : Span) (bs : Bytes)
    → added (inside lent s) (head_bytes k s.length ++ taken lent s) bs ≡ added (all (inside lent) (one_text s)) (string_item k (taken lent s)) bs
unfolding string_item
string_made k lent s bs =
    added_as (inside lent s) bs (λ e. ap (λ (n : ℕ). head_bytes k n ++ taken lent s) (sym (length_taken lent s e)))
    ∙ ap (λ t. added t (string_item k (taken lent s)) bs) (one_inside lent s)

-- an array of n texts
pub texts_made : (t : Bool) (lent : Bytes) (n : ℕ) (xs : List ℕ) (bs : Bytes)
    → added t (head_bytes Array n ++ text_items lent (spans_of n xs)) bs ≡ added t (texts_item (map (taken lent) (spans_of n xs))) bs
unfolding text_items texts_item array_item
texts_made t lent n xs bs =
    let ts : List Span = spans_of n xs in
    let us : List Bytes = map (taken lent) ts in
    ap (λ (m : ℕ). added t (head_bytes Array m ++ concat (map text_item us)) bs) (sym (length-map us text_item ∙ length-map ts (taken lent) ∙ length_spans_of n xs))

-- ---- authority

-- at most one item for a port
pub port_most : {r : ℕ} (p : Option ℕ) → r ≡ length (port_items p) → r ≤ 1
unfolding port_items
port_most none e = omega arith
port_most (some n) e = omega arith

-- n labels are n items
pub labels_many : (lent : Bytes) (n : ℕ) (xs : List ℕ) → n ≡ length (host_items (map_host (taken lent) (host_of xs (HostV.Labels n))))
unfolding host_items
labels_many lent n xs =
    let ts : List Span = spans_of n xs in
    let us : List Bytes = map (taken lent) ts in
    sym (length-map us text_item ∙ length-map ts (taken lent) ∙ length_spans_of n xs)

-- how many items a host has at most
pub host_most : (h : GivenHost.Host) (lent : Bytes) (xs : List ℕ) → length (host_items (map_host (taken lent) (host_of xs h))) ≤ labels_in h + 1
unfolding host_items
host_most (HostV.Address a) lent xs = lit≤ tt
host_most (HostV.Labels n) lent xs = omega (arith, labels_many lent n xs)

-- the array of a host and a port
pub authority_made : (t : Bool) (h : Host Bytes) (p : Option ℕ) (n m : ℕ) (bs : Bytes) → n ≡ length (host_items h) → m ≡ length (port_items p)
    → added (t && true) (head_bytes Array (n + m) ++ (concat (host_items h) ++ concat (port_items p))) bs ≡ added t (authority_item (record { host = h; port = p })) bs
unfolding authority_item array_item
authority_made t h p n m bs e d =
    ap₂ (λ (t : Bool) (w : Bytes). added t w bs) (and_true t)
    (ap (λ (k : ℕ). head_bytes Array k ++ (concat (host_items h) ++ concat (port_items p))) (omega (arith, e, d, length-append (host_items h) (port_items p)))
    ∙ ap (λ (v : Bytes). head_bytes Array (length (host_items h ++ port_items p)) ++ v) (sym (concat_append (host_items h) (port_items p))))

-- ---- opening

pub discard_further : (k n : ℕ) → 0 < n → 1 ≡ length (discard_items k n)
unfolding discard_items
discard_further k zero h = absurd (omega arith)
discard_further k (suc n) h = refl

pub discard_some : (k n : ℕ) → n ≤ 0 → 0 < k → 1 ≡ length (discard_items k n)
unfolding discard_items discard_alone
discard_some k (suc n) h l = absurd (omega arith)
discard_some zero zero h l = absurd (omega arith)
discard_some (suc k) zero h l = refl

pub discard_none : (k n : ℕ) → n ≤ 0 → k ≤ 0 → 0 ≡ length (discard_items k n)
unfolding discard_items discard_alone
discard_none k (suc n) h l = absurd (omega arith)
discard_none zero zero h l = refl
discard_none (suc k) zero h l = absurd (omega arith)

pub no_discard : (k n : ℕ) → length (discard_items k n) ≡ 0 → [] ≡ concat (discard_items k n)
unfolding discard_items discard_alone concat
no_discard zero zero e = refl
no_discard (suc k) zero e = absurd (omega arith)
no_discard k (suc n) e = absurd (omega arith)

pub a_discard : (k n : ℕ) → (length (discard_items k n) ≡ 0 → ⊥) → head_bytes Number k ≡ concat (discard_items k n)
unfolding discard_items discard_alone
a_discard zero zero e = absurd (e refl)
a_discard (suc k) zero e = one_item _
a_discard k (suc n) e = one_item _

-- how many items there are at most
pub authority_most : (a : Option (Authority Bytes)) (n : ℕ) → length (authority_items a n) ≤ 1
unfolding authority_items
authority_most none zero = lit≤ tt
authority_most none (suc n) = lit≤ tt
authority_most (some a) n = lit≤ tt

pub opening_most : (o : Opening Bytes) (n : ℕ) → length (opening_items o n) ≤ 2
unfolding opening_items discard_items discard_alone
opening_most (discard zero) zero = lit≤ tt
opening_most (discard (suc k)) zero = lit≤ tt
opening_most (discard k) (suc n) = lit≤ tt
opening_most discard_all n = lit≤ tt
opening_most (full s a) n = omega (arith, authority_most a n)

pub tail_most : (p q : Option (List Bytes)) (f : Option Bytes) → length (tail_items p q f) ≤ 3
unfolding tail_items
tail_most p q (some f) = lit≤ tt
tail_most p (some q) none = lit≤ tt
tail_most (some p) none none = lit≤ tt
tail_most none none none = lit≤ tt

-- no authority before further items is null
pub null_authority : (n : ℕ) → (n ≡ 0 → ⊥) → authority_items none n ≡ null_item ∷ []
unfolding authority_items
null_authority zero h = absurd (h refl)
null_authority (suc n) h = refl

pub no_authority_lem : (n : ℕ) → n ≡ 0 → authority_items none n ≡ []
unfolding authority_items
no_authority_lem zero h = refl
no_authority_lem (suc n) h = absurd (omega arith)

-- an opening before these other items
pub with_opening_lem : (o : Opening Bytes) (xs : List Bytes) → with_opening o xs ≡ opening_items o (length xs) ++ xs
unfolding with_opening opening_items authority_items discard_items discard_alone
with_opening_lem (discard zero) [] = refl
with_opening_lem (discard (suc k)) [] = refl
with_opening_lem (discard k) (x ∷ xs) = refl
with_opening_lem discard_all xs = refl
with_opening_lem (full s none) [] = refl
with_opening_lem (full s none) (x ∷ xs) = refl
with_opening_lem (full s (some a)) xs = refl

-- ---- path, query, fragment

-- the items after the path
abbrev after_path : Bytes → Option (List Span) → Option Span → List Bytes
after_path lent q (some f) = or_null texts_item (Option.map (map (taken lent)) q) ∷ text_item (taken lent f) ∷ []
after_path lent (some q) none = texts_item (map (taken lent) q) ∷ []
after_path lent none none = []

-- path, query and fragment of components, with their bytes
abbrev tail : Bytes → Option (List Span) → Option (List Span) → Option Span → List Bytes
tail lent p q f = tail_items (Option.map (map (taken lent)) p) (Option.map (map (taken lent)) q) (Option.map (taken lent) f)

module _ (lent : Bytes) where
  abbrev lie : List Span → Bool
  lie = all (inside lent)

  tail_inside : (ps qs fs : List Span) → (lie ps && (lie qs && lie fs)) ≡ lie (ps ++ qs ++ fs)
  tail_inside ps qs fs = sym (and_assoc (lie ps) (lie qs) (lie fs)) ∙ ap (λ t. t && lie fs) (all_append (inside lent) ps qs) ∙ all_append (inside lent) (ps ++ qs) fs

  tail_split : (p q : Option (List Span)) (f : Option Span) → (length (tail lent p q f) ≡ 0 → ⊥)
      → or_null texts_item (Option.map (map (taken lent)) p) ++ concat (after_path lent q f) ≡ concat (tail lent p q f)
  unfolding tail_items or_null concat
  tail_split p q (some f) n = refl
  tail_split p (some q) none n = refl
  tail_split (some p) none none n = refl
  tail_split none none none n = absurd (n refl)

  after_split : (p q : Option (List Span)) (f : Option Span) → (length (tail lent p q f) ≡ 0 → ⊥) → (length (tail lent p q f) ≡ 1 → ⊥)
      → or_null texts_item (Option.map (map (taken lent)) q) ++ concat (fragment_items (Option.map (taken lent) f)) ≡ concat (after_path lent q f)
  unfolding tail_items or_null fragment_items concat
  after_split p q (some f) n e = refl
  after_split p (some q) none n e = refl
  after_split (some p) none none n e = absurd (e refl)
  after_split none none none n e = absurd (n refl)

  -- none is set
  pub tail_none : (p q : Option (List Span)) (f : Option Span) (bs : Bytes) → length (tail lent p q f) ≡ 0
      → ok bs ≡ added (lie (elements p ++ elements q ++ where_set one_text f)) (concat (tail lent p q f)) bs
  unfolding all tail_items concat
  tail_none p q (some f) bs e = absurd (omega arith)
  tail_none p (some q) none bs e = absurd (omega arith)
  tail_none (some p) none none bs e = absurd (omega arith)
  tail_none none none none bs e = added_none bs

  -- the path, and those after it
  pub tail_made : (p q : Option (List Span)) (f : Option Span) (bs : Bytes) → (length (tail lent p q f) ≡ 0 → ⊥)
      → added (lie (elements p) && (lie (elements q) && lie (where_set one_text f))) (or_null texts_item (Option.map (map (taken lent)) p) ++ concat (after_path lent q f)) bs
      ≡ added (lie (elements p ++ elements q ++ where_set one_text f)) (concat (tail lent p q f)) bs
  tail_made p q f bs n = ap₂ (λ (t : Bool) (w : Bytes). added t w bs) (tail_inside (elements p) (elements q) (where_set one_text f)) (tail_split p q f n)

  -- none is set after the path
  pub after_none : (p q : Option (List Span)) (f : Option Span) (bs : Bytes) → length (tail lent p q f) ≡ 1
      → ok bs ≡ added (lie (elements q) && lie (where_set one_text f)) (concat (after_path lent q f)) bs
  unfolding all tail_items concat
  after_none p q (some f) bs e = absurd (omega arith)
  after_none p (some q) none bs e = absurd (omega arith)
  after_none (some p) none none bs e = added_none bs
  after_none none none none bs e = absurd (omega arith)

  -- the query, and the fragment where it is set
  pub after_made : (p q : Option (List Span)) (f : Option Span) (bs : Bytes) → (length (tail lent p q f) ≡ 0 → ⊥) → (length (tail lent p q f) ≡ 1 → ⊥)
      → added (lie (elements q) && lie (where_set one_text f)) (or_null texts_item (Option.map (map (taken lent)) q) ++ concat (fragment_items (Option.map (taken lent) f))) bs
      ≡ added (lie (elements q) && lie (where_set one_text f)) (concat (after_path lent q f)) bs
  after_made p q f bs n e = ap (λ w. added (lie (elements q) && lie (where_set one_text f)) w bs) (after_split p q f n e)

-- ---- the whole

encode_said : (o : Opening Bytes) (xs : List Bytes) (n m : ℕ) → m ≡ length xs → n ≡ length (opening_items o m)
    → head_bytes Array (n + m) ++ (concat (opening_items o m) ++ concat xs) ≡ array_item (with_opening o xs)
unfolding array_item
encode_said o xs n m e d =
    let ys : List Bytes = opening_items o m in
    ap (λ (v : Bytes). head_bytes Array (n + m) ++ v) (sym (concat_append ys xs))
    ∙ ap (λ (k : ℕ). head_bytes Array k ++ concat (ys ++ xs)) (omega (arith, d, e, length-append ys xs))
    ∙ ap array_item (ap (λ (k : ℕ). opening_items o k ++ xs) e ∙ sym (with_opening_lem o xs))

-- the array of an opening and the items after it
pub reference_made : (lent : Bytes) (c : Components) (o : Opening Bytes) (xs : List Bytes) (n m : ℕ) (bs : Bytes) → m ≡ length xs → n ≡ length (opening_items o m)
    → added (all (inside lent) (opening_texts c.opening) && all (inside lent) (tail_texts c)) (head_bytes Array (n + m) ++ (concat (opening_items o m) ++ concat xs)) bs
    ≡ added (all (inside lent) (all_texts c)) (array_item (with_opening o xs)) bs
reference_made lent c o xs n m bs e d =
    let os = opening_texts c.opening in
    let ps = elements c.path in
    let qs = elements c.query in
    let fs = where_set one_text c.fragment in
    ap₂ (λ (t : Bool) (w : Bytes). added t w bs)
    (all_append (inside lent) os (tail_texts c) ∙ ap (all (inside lent)) (sym (append_assoc os (ps ++ qs) fs) ∙ ap (λ (r : List Span). r ++ fs) (sym (append_assoc os ps qs))))
    (encode_said o xs n m e d)

-- ---- RULES 9.2: counts

-- what the array says does not count
pub counted_by : (xs : List ℕ) (c : Given.Components)
    → counted limits (components_of xs c) ≡ (leb (label_count c.opening) most_labels && (leb (text_count c.path) limits.segments && leb (text_count c.query) most_parameters))
unfolding counted
counted_by xs c = rw (labels_counted xs c.opening, texts_counted (drop (path_place c) xs) c.path, texts_counted (drop (query_place c) xs) c.query) refl

-- no count is over its size
pub counted_each : (xs : List ℕ) (c : Given.Components) → counted limits (components_of xs c) ≡ true
    → (label_count c.opening ≤ most_labels) × (text_count c.path ≤ limits.segments) × (text_count c.query ≤ most_parameters)
counted_each xs c e =
    let l = leb (label_count c.opening) most_labels in
    let p = leb (text_count c.path) limits.segments in
    let q = leb (text_count c.query) most_parameters in
    let each = sym (counted_by xs c) ∙ e in
    let rest = and_right l (p && q) each in
    (leb-true _ _ (and_left l (p && q) each), leb-true _ _ (and_left p q rest), leb-true _ _ (and_right p q rest))
