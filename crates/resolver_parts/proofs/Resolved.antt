-- The result of resolving in the terms of the parts.
use Prim.Native.Nat.{ℕ, zero, suc, ◌-◌}
use native.Mathlib.Omega.{arith}
use mathlib.Core.Path.{◌≡◌, refl, sym, ap, ◌∙◌, subst}
use mathlib.Core.Bool.{cond}
use mathlib.Core.List.{List, [], ◌++◌, append-nil}
use mathlib.Core.Option.{Option, none, some, get_or}
use lib.ListN.{length, take}
use lib.Seq.{take-length}
use Rattle.rules.specs.Bytes.{Bytes}
use Rattle.rules.specs.Model.{Scheme, Authority, full, Reference, Cri, elements, absolute, normal_path, normal}
use Rattle.rules.specs.Reader.{Slot, unset, set, OpeningAt, discard_at, discard_all_at, full_at, Found}
use Rattle.rules.specs.Meaning.{meaning, said_texts, said_text, said_opening, said}
use Rattle.rules.specs.Resolve.{start, discarded, appended, or, unless_set, opening_scheme, opening_authority, copied, resolve}
use Rattle.rules.proofs.Reading.{meaning_said}
use Rattle.rules.proofs.Absolutes.{absolute_is}
use Rattle.resolver_parts.specs.declared.Parts.{Parts}
use Rattle.resolver_parts.specs.Parts.{BothIs, front_items, kept, PathIs, keeps_query, TailIs, PartsAre}
use Rattle.resolver_parts.proofs.ResultParts.{new_query}

-- ---- what resolving gives

-- the base's fragment never stays
no_fragment : {A B : Type 0} (q : Option A) (f : Option B) → or f (unless_set q none) ≡ f
no_fragment q (some f) = refl
no_fragment none none = refl
no_fragment (some q) none = refl

same_cri : {s s' : Scheme Bytes} {a a' : Authority Bytes} {p p' : List Bytes} {q q' : Option (List Bytes)} {f f' : Option Bytes} → s ≡ s' → a ≡ a' → p ≡ p' → q ≡ q' → f ≡ f'
    → ◌≡◌ {A = Cri} (record { scheme = s; authority = a; path = p; query = q; fragment = f }) (record { scheme = s'; authority = a'; path = p'; query = q'; fragment = f' })
same_cri a b c d e = λ i. record { scheme = a i; authority = b i; path = c i; query = d i; fragment = e i }

-- the path, where nothing is appended
alone : (ts us : List Bytes) → ts ≡ us → normal_path ts ≡ normal_path (us ++ [])
alone ts us e = ap normal_path (e ∙ sym (append-nil us))

all : (ts : List Bytes) → ts ≡ take (length ts - 0) ts
all ts = let n : length ts ≡ length ts - 0 = omega arith in sym (take-length ts) ∙ ap (λ (n : ℕ). take n ts) n

module _ (b : Cri) (ref : Bytes) where
  -- each part of the result, by what stands at the reference's positions
  abbrev pub result : OpeningAt → Slot → Slot → Slot → Cri
  result o p q f = record {
    scheme = get_or (opening_scheme (said_opening ref o)) b.scheme;
    authority = get_or (opening_authority (said_opening ref o)) b.authority;
    path = normal_path (kept o (normal_path b.path) ++ elements (said_texts ref p));
    query = or (said_texts ref q) (cond (keeps_query o p) b.query none);
    fragment = said_text ref f;
  }

  pub resolve_is : (o : OpeningAt) (p q f : Slot) → resolve b (said ref o p q f) ≡ result o p q f
  unfolding resolve start discarded appended copied normal kept
  resolve_is (discard_at zero) unset q f = same_cri refl refl (alone (normal_path b.path) _ (all (normal_path b.path))) refl (no_fragment (said_texts ref q) (said_text ref f))
  resolve_is (discard_at zero) (set at n) q f = same_cri refl refl (ap (λ (l : List Bytes). normal_path (l ++ elements (said_texts ref (set at n)))) (all (normal_path b.path))) refl (no_fragment (said_texts ref q) (said_text ref f))
  resolve_is (discard_at (suc k)) unset q f = same_cri refl refl (alone _ _ refl) refl (no_fragment (said_texts ref q) (said_text ref f))
  resolve_is (discard_at (suc k)) (set at n) q f = same_cri refl refl refl refl (no_fragment (said_texts ref q) (said_text ref f))
  resolve_is discard_all_at unset q f = same_cri refl refl refl refl (no_fragment (said_texts ref q) (said_text ref f))
  resolve_is discard_all_at (set at n) q f = same_cri refl refl refl refl (no_fragment (said_texts ref q) (said_text ref f))
  resolve_is (full_at s a) unset q f = same_cri refl refl refl refl (no_fragment (said_texts ref q) (said_text ref f))
  resolve_is (full_at s a) (set at n) q f = same_cri refl refl refl refl (no_fragment (said_texts ref q) (said_text ref f))

-- the parts of a result, by what stands at the positions of both inputs
pub parts_are : (base ref : Bytes) (b f : Found) (c : Cri) (p : Parts) → absolute (meaning base b) ≡ some c
    → ((s : Scheme Bytes) (a : Authority Bytes) → said_opening base b.opening ≡ full (some s) (some a) → BothIs base ref p.front (front_items (said_opening ref f.opening) s a))
    → PathIs base ref p.path (normal_path (kept f.opening (normal_path (elements (said_texts base b.path))) ++ elements (said_texts ref f.path)))
    → TailIs base ref p.tail (new_query base ref b.query f.opening f.path f.query) (said_text ref f.fragment)
    → PartsAre base ref p (resolve c (meaning ref f))
parts_are base ref b f c p e front path tail =
    let is = absolute_is (meaning base b) c e in
    let m : said base b.opening b.path b.query b.fragment ≡ meaning base b = sym (meaning_said base b.opening b.path b.query b.fragment) in
    let segments : elements (said_texts base b.path) ≡ c.path = ap (λ (r : Reference). elements r.path) m ∙ is.path in
    let query : said_texts base b.query ≡ c.query = ap (λ (r : Reference). r.query) m ∙ is.query in
    subst (PartsAre base ref p) (sym (ap (resolve c) (meaning_said ref f.opening f.path f.query f.fragment) ∙ resolve_is c ref f.opening f.path f.query f.fragment))
    (record {
      front = front c.scheme c.authority (ap (λ (r : Reference). r.opening) m ∙ is.opening);
      path = subst (λ (ts : List Bytes). PathIs base ref p.path (normal_path (kept f.opening (normal_path ts) ++ elements (said_texts ref f.path)))) segments path;
      tail = subst (λ (q : Option (List Bytes)). TailIs base ref p.tail (or (said_texts ref f.query) (cond (keeps_query f.opening f.path) q none)) (said_text ref f.fragment)) query tail;
    })
