-- The laws of the reader, for any limits:
--   canonical:  what is accepted says a valid reference, whose encoding is the bytes read;
--   complete:   the encoding of a valid reference is accepted, and says that reference;
--   says:       where the encoding of a reference is accepted, it says that reference;
--   prefix:     a refusal other than CUT stands, whatever follows; an accepted input with bytes after it is TAIL at the first of them.
use Prim.Native.Nat.{ℕ, suc, ◌+◌, ◌-◌, ◌^◌, ◌≤◌, ◌<◌}
use native.Mathlib.Omega.{arith}
use mathlib.Core.Path.{◌≡◌, refl, sym, ap, ap₂, ◌∙◌, subst}
use mathlib.Core.List.{List, [], ◌∷◌, ◌++◌, map, append_assoc, append-nil}
use mathlib.Core.Option
use mathlib.Core.Option.{Option, none, some}
use lib.ListN.{length, drop, length-drop, length-append, drop_of_length-le}
use lib.Dec.{lit≤, lit<}
use borrow.Author.Tests.{leb-true, le-leb, lt-leb}
use Rattle.rules.specs.Bytes.{Bytes, Octets, concat}
use Rattle.rules.specs.Result.{Res, refused, ok, TAIL}
use Rattle.rules.specs.Model.{Opening, full, Reference, Limits, map_scheme, map_host, map_opening}
use Rattle.rules.specs.Head.{Array, code_of, is, Head, kind_at, head_at, head_bytes}
use Rattle.rules.specs.Rules.{Sort, segment, parameter, fragment_text}
use Rattle.rules.specs.Reader.{taken, contents, SlotAt, SchemeAt, no_scheme, number_at, name_at, Slot, unset, set, HostAt, address_at, labels_at, OpeningAt, discard_at, discard_all_at, full_at, Opened, Found, read}
use Rattle.rules.specs.Meaning.{scheme_span, host_spans, opening_spans, text_spans, text_span, components, meaning, read_reference, said_texts, said_text, said_host, said_scheme, said_opening, said}
use Rattle.rules.specs.Encode.{text_item, texts_item, array_item, tail_items, with_opening, encode}
use Rattle.rules.specs.Valid.{If, Good, GoodTexts, Valid}
use Rattle.rules.proofs.Tools.{within_high, each_map, concat_append}
use Rattle.rules.proofs.Steps.{Ok, ok!, ok_bind, ok_need, Yes, yes!, yes_bind, yes_need, yes_use, ok_yes, Kept, kept_bind, kept_need, kept_last, kept_both, kept_refused, kept_accepted, bind_ok}
use Rattle.rules.proofs.Heads.{is_kind, Stands, ok_head, yes_head, head_ok, head_spells, next_inside, head_stable}
use Rattle.rules.proofs.Texts.{FitText, good_64}
use Rattle.rules.proofs.Slots.{Last, written, SlotIs, ok_array, ok_fragment, FitTexts, yes_array, yes_fragment, array_stable, fragment_stable, three, tail_three}
use Rattle.rules.proofs.Authorities.{same_authority, spelled_array}
use Rattle.rules.proofs.Openings.{Opens, open_items, with_items, OpenedAt, ok_opening, FitOpening, yes_opening, fit_set, fit_opening, opening_stable, opens_left, opens_count, opens_of}

-- a reference is its four parts
pub same_reference : {o o' : Opening Bytes} {p p' q q' : Option (List Bytes)} {f f' : Option Bytes} → o ≡ o' → p ≡ p' → q ≡ q' → f ≡ f'
    → ◌≡◌ {A = Reference} (record { opening = o; path = p; query = q; fragment = f }) (record { opening = o'; path = p'; query = q'; fragment = f' })
same_reference a b c d = λ i. record { opening = a i; path = b i; query = c i; fragment = d i }

-- ---- canonical

link : (xs ys : List Bytes) (l₀ l₁ l₂ : Bytes) → l₀ ≡ concat xs ++ l₁ → l₁ ≡ concat ys ++ l₂ → l₀ ≡ concat (xs ++ ys) ++ l₂
link xs ys l₀ l₁ l₂ a b =
    a ∙ ap (λ (l : Bytes). concat xs ++ l) b ∙ sym (append_assoc (concat xs) (concat ys) l₂) ∙ ap (λ (l : Bytes). l ++ l₂) (sym (concat_append xs ys))

-- four rows of items, one after the other
chain : (xs ys zs ws : List Bytes) (l₀ l₁ l₂ l₃ l₄ : Bytes) → l₀ ≡ concat xs ++ l₁ → l₁ ≡ concat ys ++ l₂ → l₂ ≡ concat zs ++ l₃ → l₃ ≡ concat ws ++ l₄
    → l₀ ≡ concat (xs ++ (ys ++ (zs ++ ws))) ++ l₄
chain xs ys zs ws l₀ l₁ l₂ l₃ l₄ a b c d = link xs _ l₀ l₁ l₄ a (link ys _ l₁ l₂ l₄ b (link zs ws l₂ l₃ l₄ c d))

all_said : (lim : Limits) (bs : Bytes) (o : Opened) (p q f : SlotAt)
    → Octets bs → length bs ≤ lim.bytes → Stands (is Array) bs 0 → OpenedAt bs (head_at bs 0).next (head_at bs 0).value o
    → SlotIs texts_item (GoodTexts segment 0 lim.segments) bs o.next o.left (said_texts bs p.slot) p.next
    → SlotIs texts_item (GoodTexts parameter 1 16) bs p.next (o.left - 1) (said_texts bs q.slot) q.next
    → SlotIs text_item (Good fragment_text) bs q.next (o.left - 2) (said_text bs f.slot) f.next
    → length bs ≤ f.next
    → (encode (said bs o.opening p.slot q.slot f.slot) ≡ bs) × Valid lim (said bs o.opening p.slot q.slot f.slot)
unfolding encode array_item
all_said lim bs o p q f sm size r oa pa qa fa end =
    let h : Head = head_at bs 0 in
    let s : Reference = said bs o.opening p.slot q.slot f.slot in
    let left : ℕ = o.left in
    let t = tail_three left s.path s.query s.fragment (opens_left oa.opens) pa.last qa.last fa.last in
    let items : List Bytes = tail_items s.path s.query s.fragment in
    let rest : List Bytes = three s.path s.query s.fragment left in
    let w = with_items h.value left s.opening items oa.opens t.1 in
    let every : List Bytes = open_items h.value s.opening ++ rest in
    let enc : encode s ≡ head_bytes Array h.value ++ concat every =
    ap₂ (λ (n : ℕ) (xs : List Bytes). head_bytes Array n ++ concat xs) w.1 (w.0 ∙ ap (λ (xs : List Bytes). open_items h.value s.opening ++ xs) t.0) in
    let inside : drop h.next bs ≡ concat every =
    chain (open_items h.value s.opening) (written texts_item left s.path) (written texts_item (left - 1) s.query) (written text_item (left - 2) s.fragment)
    _ _ _ _ (drop f.next bs) oa.spells pa.spells qa.spells fa.spells
    ∙ ap (λ (l : Bytes). concat every ++ l) (drop_of_length-le bs end) ∙ append-nil (concat every) in
    let same : encode s ≡ bs = enc ∙ sym (head_spells bs 0 sm r Array tt (is_kind Array (kind_at bs 0) r.kind) ∙ ap (λ (l : Bytes). head_bytes Array h.value ++ l) inside) in
    (same, record { opening = oa.good; path = pa.good; query = qa.good; fragment = fa.good; size = omega (arith, ap length same, size) })

texts_said : (bs : Bytes) (p : Slot) → Option.map (map (taken bs)) (text_spans bs p) ≡ said_texts bs p
unfolding contents
texts_said bs unset = refl
texts_said bs (set at n) = refl

text_said : (bs : Bytes) (p : Slot) → Option.map (taken bs) (text_span p) ≡ said_text bs p
text_said bs unset = refl
text_said bs (set at n) = refl

scheme_said : (bs : Bytes) (s : SchemeAt) → Option.map (map_scheme (taken bs)) (scheme_span s) ≡ said_scheme bs s
scheme_said bs no_scheme = refl
scheme_said bs (number_at n) = refl
scheme_said bs (name_at at n) = refl

host_said : (bs : Bytes) (h : HostAt) → map_host (taken bs) (host_spans bs h) ≡ said_host bs h
unfolding contents
host_said bs (address_at at n) = refl
host_said bs (labels_at at n) = refl

opening_said : (bs : Bytes) (o : OpeningAt) → map_opening (taken bs) (opening_spans bs o) ≡ said_opening bs o
opening_said bs (discard_at k) = refl
opening_said bs discard_all_at = refl
opening_said bs (full_at s a) = ap₂ full (scheme_said bs s) (ap some (same_authority (host_said bs a.host) refl))

pub meaning_said : (bs : Bytes) (o : OpeningAt) (p q f : Slot) → meaning bs (record { opening = o; path = p; query = q; fragment = f }) ≡ said bs o p q f
unfolding meaning components
meaning_said bs o p q f = same_reference (opening_said bs o) (texts_said bs p) (texts_said bs q) (text_said bs f)

canonical_found : (lim : Limits) (bs : Bytes) → Octets bs → Ok (λ f. (encode (meaning bs f) ≡ bs) × Valid lim (meaning bs f)) (read lim bs)
unfolding read
canonical_found lim bs sm =
    ok_need _ _ _ _ (λ size. ok_head _ _ _ _ (λ r. ok_need _ _ _ _ (λ n.
    ok_bind _ _ (ok_opening bs (head_at bs 0).next (head_at bs 0).value sm (leb-true _ _ n)) (λ o oa.
    ok_bind _ _ (ok_array segment 0 lim.segments bs o.next o.left sm) (λ p pa.
    ok_bind _ _ (ok_array parameter 1 16 bs p.next (o.left - 1) sm) (λ q qa.
    ok_bind _ _ (ok_fragment bs q.next (o.left - 2) sm) (λ f fa.
    ok_need _ _ _ _ (λ e. ok! (rw (meaning_said bs o.opening p.slot q.slot f.slot) (all_said lim bs o p q f sm (leb-true _ _ size) r oa pa qa fa (leb-true _ _ e)))))))))))

pub canonical : (lim : Limits) (bs : Bytes) → Octets bs → Ok (λ r. (encode r ≡ bs) × Valid lim r) (read_reference lim bs)
unfolding read_reference
canonical lim bs sm = ok_bind _ _ (canonical_found lim bs sm) (λ f h. ok! h)

-- ---- complete, says

-- numbers, lengths and counts that heads can carry
pub record Fit (r : Reference) : Type 0 where
  pub opening : FitOpening r.opening
  pub path : If FitTexts r.path
  pub query : If FitTexts r.query
  pub fragment : If FitText r.fragment

fit_texts : (s : Sort) (low high : ℕ) → s.high < 2 ^ 64 → high < 2 ^ 64 → (ts : List Bytes) → GoodTexts s low high ts → FitTexts ts
fit_texts s low high f f' ts g = (omega (arith, within_high low high (length ts) g.count), each_map (good_64 f) ts g.each)

pub fit_valid : (lim : Limits) → lim.segments < 2 ^ 64 → (r : Reference) → Valid lim r → Fit r
fit_valid lim small r v =
    record {
      opening = fit_opening r.opening v.opening;
      path = fit_set (fit_texts segment 0 lim.segments (lit< tt) small) r.path v.path;
      query = fit_set (fit_texts parameter 1 16 (lit< tt) (lit< tt)) r.query v.query;
      fragment = fit_set (good_64 {s = fragment_text} (lit< tt)) r.fragment v.fragment;
    }

last_many : {A : Type 0} (n : ℕ) (o : Option A) → Last (suc (suc n)) o
last_many n none = tt
last_many n (some a) = tt

-- how many items path, query and fragment are
pub tail_last : (p q : Option (List Bytes)) (f : Option Bytes)
    → (length (tail_items p q f) ≤ 3) × Last (length (tail_items p q f)) p × Last (length (tail_items p q f) - 1) q × Last (length (tail_items p q f) - 2) f
unfolding tail_items
tail_last p q (some f) = (lit≤ tt, last_many 1 p, last_many 0 q, tt)
tail_last p (some q) none = (lit≤ tt, last_many 0 p, tt, tt)
tail_last (some p) none none = (lit≤ tt, tt, tt, tt)
tail_last none none none = (lit≤ tt, tt, tt, tt)

-- the first row of several
unlink : (xs ys : List Bytes) (l r : Bytes) → l ≡ concat (xs ++ ys) ++ r → l ≡ concat xs ++ (concat ys ++ r)
unlink xs ys l r e = e ∙ ap (λ (m : Bytes). m ++ r) (concat_append xs ys) ∙ append_assoc (concat xs) (concat ys) r

-- the encoding is accepted where the reference is valid, and says the reference where it is accepted
module _ {G : Type 0} (lim : Limits) (r : Reference) (fit : Fit r) (good : G → Valid lim r) where
  abbrev items : List Bytes
  items = tail_items r.path r.query r.fragment

  abbrev every : List Bytes
  every = with_opening r.opening items

  abbrev count : ℕ
  count = length items

  encoding_read : Yes G (λ f. meaning (encode r) f ≡ r) (read lim (encode r))
  unfolding read encode code_of
  encoding_read =
      let bs : Bytes = encode r in
      let h : Head = head_at bs 0 in
      let l = tail_last r.path r.query r.fragment in
      let os : Opens (length every) r.opening count = opens_of r.opening items l.0 in
      let few : length every ≤ 5 = opens_count os in
      let t = tail_three count r.path r.query r.fragment l.0 l.1 l.2 l.3 in
      let w = with_items (length every) count r.opening items os refl in
      let ps : List Bytes = written texts_item count r.path in
      let qs : List Bytes = written texts_item (count - 1) r.query in
      let fs : List Bytes = written text_item (count - 2) r.fragment in
      let a = spelled_array every bs 0 [] (omega arith) (sym (append-nil bs)) in
      let e : drop h.next bs ≡ concat (open_items (length every) r.opening ++ (ps ++ (qs ++ fs))) ++ [] =
      a.rest ∙ ap (λ (xs : List Bytes). concat xs ++ []) (w.0 ∙ ap (λ (xs : List Bytes). open_items (length every) r.opening ++ xs) t.0) in
      yes_need _ _ _ _ (λ g. le-leb _ _ (good g).size)
      (λ t. yes_head _ _ _ _ (a.stands (is Array) refl)
      (yes_need _ _ _ _ (λ g. le-leb h.value 5 (omega (arith, a.value)))
      (λ t. rw a.value
      (yes_bind _ _ (yes_opening (length every) count r.opening bs h.next (concat (ps ++ (qs ++ fs)) ++ []) os fit.opening (λ g. (good g).opening) (unlink _ (ps ++ (qs ++ fs)) _ [] e)) (λ o oa.
      rw oa.left
      (yes_bind _ _ (yes_array segment 0 lim.segments r.path bs o.next count (concat (qs ++ fs) ++ []) l.1 fit.path (λ g. (good g).path) (unlink ps (qs ++ fs) _ [] oa.after)) (λ p pa.
      yes_bind _ _ (yes_array parameter 1 16 r.query bs p.next (count - 1) (concat fs ++ []) l.2 fit.query (λ g. (good g).query) (unlink qs fs _ [] pa.after)) (λ q qa.
      yes_bind _ _ (yes_fragment r.fragment bs q.next (count - 2) [] l.3 fit.fragment (λ g. (good g).fragment) qa.after) (λ f fa.
      yes_need _ _ _ _ (λ g. le-leb (length bs) f.next (omega (arith, length-drop f.next bs, ap length fa.after)))
      (λ t. yes! (meaning_said bs o.opening p.slot q.slot f.slot ∙ same_reference oa.says pa.says qa.says fa.says)))))))))))

pub complete : (lim : Limits) → lim.segments < 2 ^ 64 → (r : Reference) → Valid lim r → read_reference lim (encode r) ≡ ok r
unfolding read_reference
complete lim small r v =
    let y = yes_use (encoding_read lim r (fit_valid lim small r v) (λ g. v)) in
    sym (bind_ok _ _ y.0 (sym y.1)) ∙ ap ok y.2

pub says : (lim : Limits) (r : Reference) → Fit r → Ok (λ f. meaning (encode r) f ≡ r) (read lim (encode r))
says lim r fit = ok_yes (encoding_read {G = ⊥} lim r fit (λ g. absurd g))

-- ---- prefix

-- what the longer input gets where the shorter is accepted
abbrev pub Tailed : Bytes → Res Found → Type 0
Tailed p r = r ≡ refused TAIL (length p)

prefix : (lim : Limits) (p : Bytes) (b : ℕ) (q : Bytes) → Octets p → length (p ++ (b ∷ q)) ≤ lim.bytes
    → Kept (Tailed p) (read lim p) (read lim (p ++ (b ∷ q)))
unfolding read
prefix lim p b q sm size =
    let more : length (p ++ (b ∷ q)) ≡ length p + suc (length q) = length-append p (b ∷ q) in
    kept_both _ _ _ _ _ _ (le-leb (length p) lim.bytes (omega (arith, more))) (le-leb _ _ size)
    (kept_bind _ _ _ _ (head_ok _ p 0) (head_stable _ p (b ∷ q) 0) (λ a ha. kept_need _ _ _ _ _ (λ w.
    kept_bind _ _ _ _ (ok_opening p a.next a.value sm (leb-true _ _ w)) (opening_stable p (b ∷ q) a.next a.value sm) (λ o oa.
    kept_bind _ _ _ _ (ok_array segment 0 lim.segments p o.next o.left sm) (array_stable segment 0 lim.segments p (b ∷ q) o.next o.left) (λ x xa.
    kept_bind _ _ _ _ (ok_array parameter 1 16 p x.next (o.left - 1) sm) (array_stable parameter 1 16 p (b ∷ q) x.next (o.left - 1)) (λ y ya.
    kept_bind _ _ _ _ (ok_fragment p y.next (o.left - 2) sm) (fragment_stable p (b ∷ q) y.next (o.left - 2)) (λ z za.
    let here : a.next ≤ length p = subst (λ (h : Head). h.next ≤ length p) (sym ha.0) (next_inside p 0 ha.1) in
    let end : z.next ≤ length p = za.inside (ya.inside (xa.inside (oa.inside here))) in
    kept_last _ _ _ _ _ _ (lt-leb (length (p ++ (b ∷ q))) z.next (omega (arith, more)))
    (λ t. let e : z.next ≡ length p = omega (arith, leb-true (length p) z.next t) in ap (refused TAIL) e))))))))

pub prefix_refused : (lim : Limits) (p : Bytes) (q : Bytes) → Octets p → length (p ++ q) ≤ lim.bytes → (n k : ℕ) → (n ≡ 1 → ⊥)
    → read lim p ≡ refused n k → read lim (p ++ q) ≡ refused n k
prefix_refused lim p [] sm size n k d e = ap (read lim) (append-nil p) ∙ e
prefix_refused lim p (b ∷ q) sm size n k d e = kept_refused n k (prefix lim p b q sm size) e d

pub prefix_accepted : (lim : Limits) (p : Bytes) (b : ℕ) (q : Bytes) → Octets p → length (p ++ (b ∷ q)) ≤ lim.bytes → (f : Found)
    → read lim p ≡ ok f → read lim (p ++ (b ∷ q)) ≡ refused TAIL (length p)
prefix_accepted lim p b q sm size f e = kept_accepted f (prefix lim p b q sm size) e
