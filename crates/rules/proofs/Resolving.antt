-- The laws of resolving: each step keeps the rules, so the result of what was read is valid where it fits.
use Prim.Native.Nat.{ℕ, zero, suc, ◌-◌}
use mathlib.Core.Path.{◌≡◌, refl, ap, ◌∙◌}
use mathlib.Core.Bool.{true}
use mathlib.Core.List.{List, [], ◌∷◌, append-nil}
use mathlib.Core.Option.{Option, none, some, get_or}
use lib.ListN.{length}
use Rattle.rules.specs.Bytes.{Bytes, Each}
use Rattle.rules.specs.Result.{ok, need, ◌>>=◌, ◌>>◌, RESULT}
use Rattle.rules.specs.Model.{Scheme, Authority, Opening, discard, discard_all, full, Reference, Limits, Cri, elements, reference, normal_path, normal}
use Rattle.rules.specs.Rules.{segment, parameter, fragment_text}
use Rattle.rules.specs.Meaning.{read_reference, read_absolute}
use Rattle.rules.specs.Encode.{encode}
use Rattle.rules.specs.Valid.{If, Good, GoodTexts, GoodAuthority, GoodScheme, GoodOpening, Valid}
use Rattle.rules.specs.Resolve.{start, cleared, discarded, appended, or, unless_set, opening_scheme, opening_authority, copied, resolve, fits}
use Rattle.rules.specs.Calls.{resolve_call}
use Rattle.rules.specs.Promises.{unfragmented}
use Rattle.rules.proofs.Tools.{each_append, each_take}
use Rattle.rules.proofs.Absolutes.{with_path, GoodCri}

-- ---- references that change nothing but the fragment, that set an empty path, or that are absolute

normal_twice : (ts : List Bytes) → normal_path (normal_path ts) ≡ normal_path ts
unfolding normal_path
normal_twice [] = refl
normal_twice ([] ∷ []) = refl
normal_twice ([] ∷ (u ∷ ts)) = refl
normal_twice ((b ∷ t) ∷ ts) = refl

-- the path of a result is normal already
result_normal : (b : Cri) (r : Reference) → normal_path (resolve b r).path ≡ (resolve b r).path
unfolding resolve normal
result_normal b r = simp normal_twice

-- what the reference 80 says
abbrev pub nothing : Reference
nothing = record { opening = discard 0; path = none; query = none; fragment = none }

pub resolve_nothing : (b : Cri) → resolve b nothing
    ≡ record { scheme = b.scheme; authority = b.authority; path = normal_path b.path; query = b.query; fragment = none }
unfolding resolve start discarded appended copied normal
resolve_nothing b =
    ap (λ (p : List Bytes). record { scheme = b.scheme; authority = b.authority; path = p; query = b.query; fragment = none }) (normal_twice b.path)

pub resolve_empty : (b : Cri) → resolve b (record { opening = discard 0; path = some []; query = none; fragment = none }) ≡ cleared b (normal_path b.path)
unfolding resolve start discarded appended copied normal
resolve_empty b = ap (cleared b) (ap normal_path (append-nil (normal_path b.path)) ∙ normal_twice b.path)

pub resolve_again : (b : Cri) (r : Reference) → resolve (resolve b r) nothing ≡ unfragmented (resolve b r)
resolve_again b r = resolve_nothing (resolve b r) ∙ rw (result_normal b r)

-- an absolute reference replaces all of the base
pub resolve_absolute : (b c : Cri) (p : Option (List Bytes)) → elements p ≡ c.path → resolve b (with_path c p) ≡ normal c
unfolding resolve start discarded appended copied normal
resolve_absolute b c p e = rw (← e) (go p c.query c.fragment)
  where
    go : (p q : Option (List Bytes)) (f : Option Bytes)
        → resolve b (record { opening = full (some c.scheme) (some c.authority); path = p; query = q; fragment = f })
        ≡ record { scheme = c.scheme; authority = c.authority; path = normal_path (elements p); query = q; fragment = f }
    go none none none = refl
    go none none (some f) = refl
    go none (some q) none = refl
    go none (some q) (some f) = refl
    go (some p) none none = refl
    go (some p) none (some f) = refl
    go (some p) (some q) none = refl
    go (some p) (some q) (some f) = refl

-- ---- each step keeps the rules

pub normal_each : (P : Bytes → Type 0) (ts : List Bytes) → Each P ts → Each P (normal_path ts)
unfolding normal_path
normal_each P [] h = tt
normal_each P ([] ∷ []) h = tt
normal_each P ([] ∷ (u ∷ ts)) h = h
normal_each P ((b ∷ t) ∷ ts) h = h

good_start : (c : Cri) → GoodCri c → GoodCri (start c)
unfolding start
good_start c g = record { scheme = g.scheme; authority = g.authority; path = normal_each (Good segment) c.path g.path; query = g.query; fragment = tt }

good_cleared : (c : Cri) (p : List Bytes) → GoodCri c → Each (Good segment) p → GoodCri (cleared c p)
good_cleared c p g h = record { scheme = g.scheme; authority = g.authority; path = h; query = tt; fragment = tt }

good_discarded : (o : Opening Bytes) (c : Cri) → GoodCri c → GoodCri (discarded o c)
unfolding discarded
good_discarded (discard zero) c g = g
good_discarded (discard (suc k)) c g = good_cleared c _ g (each_take _ (length c.path - suc k) c.path g.path)
good_discarded discard_all c g = good_cleared c [] g tt
good_discarded (full s a) c g = good_cleared c [] g tt

good_appended : (n : ℕ) (p : Option (List Bytes)) (c : Cri) → If (GoodTexts segment 0 n) p → GoodCri c → GoodCri (appended p c)
unfolding appended
good_appended n none c h g = g
good_appended n (some ts) c h g = good_cleared c _ g (each_append _ c.path ts g.path h.each)

opening_scheme_lem : (o : Opening Bytes) (s : Scheme Bytes) → GoodOpening o → GoodScheme s → GoodScheme (get_or (opening_scheme o) s)
opening_scheme_lem (discard k) s h g = g
opening_scheme_lem discard_all s h g = g
opening_scheme_lem (full none none) s h g = g
opening_scheme_lem (full none (some a)) s h g = g
opening_scheme_lem (full (some t) none) s h g = absurd h
opening_scheme_lem (full (some t) (some a)) s h g = h.0

opening_authority_lem : (o : Opening Bytes) (a : Authority Bytes) → GoodOpening o → GoodAuthority a → GoodAuthority (get_or (opening_authority o) a)
opening_authority_lem (discard k) a h g = g
opening_authority_lem discard_all a h g = g
opening_authority_lem (full s none) a h g = g
opening_authority_lem (full s (some b)) a h g = h.1

good_or : {A : Type 0} (P : A → Type 0) (a b : Option A) → If P a → If P b → If P (or a b)
good_or P none b h g = g
good_or P (some a) b h g = h

good_unless : {A B : Type 0} (P : B → Type 0) (a : Option A) (b : Option B) → If P b → If P (unless_set a b)
good_unless P none b g = g
good_unless P (some a) b g = tt

good_copied : (lim : Limits) (r : Reference) (c : Cri) → Valid lim r → GoodCri c → GoodCri (copied r c)
unfolding copied
good_copied lim r c v g =
    record {
      scheme = opening_scheme_lem r.opening c.scheme v.opening g.scheme;
      authority = opening_authority_lem r.opening c.authority v.opening g.authority;
      path = g.path;
      query = good_or (GoodTexts parameter 1 16) r.query c.query v.query g.query;
      fragment = good_or (Good fragment_text) r.fragment (unless_set r.query c.fragment) v.fragment (good_unless (Good fragment_text) r.query c.fragment g.fragment);
    }

good_normal : (c : Cri) → GoodCri c → GoodCri (normal c)
unfolding normal
good_normal c g = record { scheme = g.scheme; authority = g.authority; path = normal_each (Good segment) c.path g.path; query = g.query; fragment = g.fragment }

pub good_resolve : (lim : Limits) (b : Cri) (r : Reference) → GoodCri b → Valid lim r → GoodCri (resolve b r)
unfolding resolve
good_resolve lim b r g v =
    good_normal _ (good_copied lim r _ v (good_appended lim.segments r.path _ v.path (good_discarded r.opening _ (good_start b g))))

-- ---- the refusals of a resolved CRI

pub resolved_is : (lim : Limits) (base ref : Bytes) (b : Cri) (r : Reference) → read_absolute lim base ≡ ok b → read_reference lim ref ≡ ok r
    → resolve_call lim base ref ≡ (need (fits lim (resolve b r)) RESULT 0 >> ok (encode (reference (resolve b r))))
unfolding resolve_call ◌>>=◌
resolved_is lim base ref b r e f = rw (e, f)

pub resolve_writes : (lim : Limits) (base ref : Bytes) (b : Cri) (r : Reference) (c : Cri) → read_absolute lim base ≡ ok b → read_reference lim ref ≡ ok r
    → resolve b r ≡ c → fits lim c ≡ true → resolve_call lim base ref ≡ ok (encode (reference c))
unfolding need ◌>>◌
resolve_writes lim base ref b r c eb er e f = rw (resolved_is lim base ref b r eb er, e, f)
