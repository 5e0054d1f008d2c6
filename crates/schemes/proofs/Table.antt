-- The table's entries: by the id that a match found, and what they say.
use Rattle.std.specs.Prelude as P
use Rattle.std.specs.Prelude.{Some, None}
use Prim.Native.Nat.{ℕ, ◌+◌, ◌≤◌, ◌<◌}
use native.Mathlib.Omega.{arith}
use mathlib.Core.Path.{◌≡◌, refl, sym, ap, ◌∙◌, subst}
use mathlib.Core.Bool.{true, false, not, cond, ◌||◌, or-true}
use mathlib.Core.List.{List, [], ◌∷◌}
use mathlib.Core.Option.{Option, none, some, map}
use lib.IntN.{ℤ, pos, negsuc}
use lib.ListN.{length}
use lib.Dec.{eqb, leb, ltb}
use borrow.Author.Tests.{ltb-true, leb-true, ne_eqb}
use mir.Syntax.{w64}
use mir.Val.{SFits, to_z, of_z}
use mir.Facts.{to_z-of_z}
use Rattle.rules.specs.Bytes.{Bytes, Each, within, all, any, same}
use Rattle.rules.specs.Model.{number}
use Rattle.rules.specs.Rules.{SchemeEntry, schemes, scheme_in, known_scheme}
use Rattle.rules.specs.Valid.{If}
use Rattle.rules.specs.Text.{entry_name}
use Rattle.rules.proofs.Tools.{by_test, and_left, and_right, each_map, each_all}
use Rattle.rules.proofs.Steps.{none_some}
use Rattle.rules.proofs.Openings.{no_scheme_lem}
use Rattle.rules.proofs.OptionsBack.{entry_in, default_port_lem}
use Rattle.put.specs.Wrote.{Wrote}
use Rattle.put.proofs.Wrote.{wrote_none}
use Rattle.schemes.specs.declared.Entry.{Entry}
use Rattle.schemes.specs.Schemes.{scheme_id, entry_of, EntryIs}
use Rattle.schemes.specs.Schemes.{known_id, default_port, same_name, known_name}
use Rattle.schemes.proofs.Schemes.{id_read}

-- ---- a match on an id, which the code holds as `of_z w64 z`

pub entry_at : {z : ℤ} {k : ℕ} (r : P.Option Entry) → SFits w64 z → of_z w64 z ≡ k → EntryIs (entry_of (to_z w64 k)) r → EntryIs (entry_of z) r
entry_at r f e h = subst (λ (m : Option SchemeEntry). EntryIs m r) (ap entry_of (sym (ap (to_z w64) e) ∙ to_z-of_z {w = w64} f)) h

-- no other id has an entry
abbrev Other : ℤ → ℕ → Type 0
Other z k = of_z w64 z ≡ of_z w64 (negsuc k) → ⊥

pub no_entry : (z : ℤ) → Other z 0 → Other z 1 → Other z 6 → Other z 7 → Other z 8 → Other z 9 → entry_of z ≡ none
no_entry (pos n) a b c d e f = refl
no_entry (negsuc n) a b c d e f =
    let no : (k : ℕ) → Other (negsuc n) k → n ≡ k → ⊥ = λ k o h. o (ap (λ (n : ℕ). of_z w64 (negsuc n)) h) in
    no_scheme_lem n (no 0 a) (no 1 b) (no 6 c) (no 7 d) (no 8 e) (no 9 f)

-- the entry of a number is that of its id; a number that no id carries has none
pub id_entry : (n : ℕ) (z : ℤ) → scheme_id n ≡ Some z → entry_of (to_z w64 (of_z w64 z)) ≡ scheme_in schemes n
id_entry n z e = ap entry_of (id_read n z e)

pub too_large_entry : (n : ℕ) → scheme_id n ≡ None → scheme_in schemes n ≡ none
too_large_entry n e = no_scheme_lem n (no 0 refl) (no 1 refl) (no 6 refl) (no 7 refl) (no 8 refl) (no 9 refl)
  where
    no : (k : ℕ) → scheme_id k ≡ Some (negsuc k) → n ≡ k → ⊥
    no k h q = let x : scheme_id n ≡ scheme_id k = ap scheme_id q in let z : ◌≡◌ {A = ℕ} 0 1 = cc in omega arith

-- ---- what an entry says

-- a name has 1 to 16 bytes
abbrev Sized : SchemeEntry → Type 0
Sized e = (1 ≤ length e.name) × (length e.name ≤ 16)

each_sized : Each Sized schemes
unfolding schemes all
each_sized = each_map of schemes (each_all (λ (e : SchemeEntry). within 1 16 (length e.name)) schemes refl)
  where
    of : (e : SchemeEntry) → within 1 16 (length e.name) ≡ true → Sized e
    of e h =
        let n = length e.name in
        (leb-true 1 n (and_left (leb 1 n) _ h), leb-true n 16 (and_right (leb 1 n) _ h))

entry_sized : (n : ℕ) → If Sized (scheme_in schemes n)
entry_sized n = entry_in Sized schemes n each_sized

pub name_most : (n : ℕ) → 0 + length (entry_name (scheme_in schemes n)) ≤ 16
name_most n = most (scheme_in schemes n) (entry_sized n)
  where
    most : (m : Option SchemeEntry) → If Sized m → 0 + length (entry_name m) ≤ 16
    most none h = omega arith
    most (some e) h = omega (arith, h.1)

-- a number is in the table if its name is not empty
known_in : (es : List SchemeEntry) → Each Sized es → (n : ℕ)
    → not (eqb (length (entry_name (scheme_in es n))) 0) ≡ any (λ (e : SchemeEntry). eqb n e.number) es
unfolding scheme_in any
known_in [] h n = refl
known_in (e ∷ es) h n =
    let rest = any (λ (e : SchemeEntry). eqb n e.number) es in
    by_test (λ t. not (eqb (length (entry_name (cond t (some e) (scheme_in es n)))) 0) ≡ (t || rest)) (eqb n e.number)
    (λ t. ap not (ne_eqb (length e.name) 0 (λ q. omega (arith, h.0.0)))) (λ f. known_in es h.1 n)

pub known_entry : (z : ℤ) → not (eqb (length (entry_name (entry_of z))) 0) ≡ known_id z
unfolding known_scheme
known_entry (pos n) = refl
known_entry (negsuc n) = known_in schemes each_sized n

pub known_id_lem : (n : ℕ) (z : ℤ) → scheme_id n ≡ Some z → known_id (to_z w64 (of_z w64 z)) ≡ known_scheme n
known_id_lem n z e = ap known_id (id_read n z e)

pub too_large_unknown : (n : ℕ) → scheme_id n ≡ None → known_scheme n ≡ false
too_large_unknown n e = sym (known_entry (negsuc n)) ∙ rw (too_large_entry n e)

-- of what the code says of an entry
entry_there : (m : Option SchemeEntry) (r : P.Option Entry) → If Sized m → EntryIs m r → P.is_some r ≡ not (eqb (length (entry_name m)) 0)
entry_there none None s h = refl
entry_there none (Some r) s h = absurd h
entry_there (some e) None s h = absurd h
entry_there (some e) (Some r) s h = ap not (sym (ne_eqb (length e.name) 0 (λ q. omega (arith, s.0))))

pub entry_known : (z : ℤ) (r : P.Option Entry) → EntryIs (entry_of z) r → P.is_some r ≡ known_id z
entry_known z r h = entry_there (entry_of z) r (sized z) h ∙ known_entry z
  where
    sized : (z : ℤ) → If Sized (entry_of z)
    sized (pos n) = tt
    sized (negsuc n) = entry_sized n

pub no_entry_is : (m : Option SchemeEntry) {r : P.Option Entry} → EntryIs m r → r ≡ None → m ≡ none
no_entry_is none h e = refl
no_entry_is (some x) {r} h e = absurd (rw e at h)

pub port_is : (m : Option SchemeEntry) {r : P.Option Entry} (x : Entry) → EntryIs m r → r ≡ Some x → some x.port ≡ map (λ (e : SchemeEntry). e.port) m
port_is none x h e = absurd (rw e at h)
port_is (some m) x h e = ap some (rw e at h).1

-- a default port has 16 bits
pub default_most : (n d : ℕ) → default_port n ≡ some d → d ≤ 65535
unfolding default_port
default_most n d e = of (scheme_in schemes n) refl e
  where
    of : (m : Option SchemeEntry) → scheme_in schemes n ≡ m → map (λ (e : SchemeEntry). e.port) m ≡ some d
        → d ≤ 65535
    of none i e = none_some d e
    of (some x) i e = let k : x.port ≡ d = cc in omega (arith, default_port_lem (number n) x i)

-- ---- names

module _ (t : Bytes) where
  pub name_found : (es : List SchemeEntry) (n : ℕ) → same_name t (scheme_in es n) ≡ true
      → true ≡ any (λ (e : SchemeEntry). same t e.name) es
  unfolding scheme_in any
  name_found [] n h = sym h
  name_found (e ∷ es) n h =
      let all = any (λ (e : SchemeEntry). same t e.name) (e ∷ es) in
      by_test (λ q. same_name t (cond q (some e) (scheme_in es n)) ≡ true → true ≡ all) (eqb n e.number)
      (λ q h. rw h) (λ q h. rw (sym (name_found es n h), or-true)) h

  pub no_name_found : ((k : ℕ) → k < 10 → same_name t (scheme_in schemes k) ≡ false) → false ≡ known_name t
  unfolding known_name schemes scheme_in any
  no_name_found h =
      let no : (k : ℕ) → ltb k 10 ≡ true → same_name t (scheme_in schemes k) ≡ false = λ k l. h k (ltb-true k 10 l) in
      simp (no 0 refl, no 1 refl, no 6 refl, no 7 refl, no 8 refl, no 9 refl)
