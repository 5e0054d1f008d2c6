-- RULES 5: resolving a reference against a base, step by step.
use Rattle.std.specs.Prelude.{zero, suc, ◌-◌, Bool, ◌&&◌, List, [], ◌++◌, length, take, leb}
use Rattle.std.proofs.Math.Option.{Option, none, some, get_or}
use Rattle.rules.specs.Bytes.{Bytes}
use Rattle.rules.specs.Result.{Res, refused, ok, BASE}
use Rattle.rules.specs.Model.{Scheme, Authority, Opening, discard, discard_all, full, Reference, Limits, Cri, reference, normal_path, normal}
use Rattle.rules.specs.Encode.{encode}

-- 5.0 The base loses its fragment, and a path of one empty segment becomes no path.
unfoldable pub start : Cri → Cri
start b =
    record { scheme = b.scheme; authority = b.authority; path = normal_path b.path; query = b.query; fragment = none }

-- the CRI with this path, query and fragment unset
abbrev pub cleared : Cri → List Bytes → Cri
cleared c p = record { scheme = c.scheme; authority = c.authority; path = p; query = none; fragment = none }

-- 5.1 Discard true: path empty, query and fragment unset. Discard k: the last k segments go, or all if there are fewer;
-- if k is not 0, query and fragment are unset. With a scheme or authority, discard counts as true.
unfoldable pub discarded : Opening Bytes → Cri → Cri
discarded (discard zero) c = c
discarded (discard (suc k)) c = cleared c (take (length c.path - suc k) c.path)
discarded discard_all c = cleared c []
discarded (full s a) c = cleared c []

-- 5.2 A set path is appended, and query and fragment are unset, also when it is the empty array.
unfoldable pub appended : Option (List Bytes) → Cri → Cri
appended none c = c
appended (some ts) c = cleared c (c.path ++ ts)

-- what the first sets, or else the second
abbrev pub or : {A : Type 0} → Option A → Option A → Option A
or none b = b
or (some a) b = some a

-- the second, unless the first is set
abbrev pub unless_set : {A B : Type 0} → Option A → Option B → Option B
unless_set none b = b
unless_set (some a) b = none

-- the scheme that a reference brings
abbrev pub opening_scheme : Opening Bytes → Option (Scheme Bytes)
opening_scheme (discard k) = none
opening_scheme discard_all = none
opening_scheme (full s a) = s

-- the authority that a reference brings
abbrev pub opening_authority : Opening Bytes → Option (Authority Bytes)
opening_authority (discard k) = none
opening_authority discard_all = none
opening_authority (full s a) = a

-- 5.3 Scheme, authority, query and fragment are copied where the reference sets them; a copied query unsets an older fragment.
unfoldable pub copied : Reference → Cri → Cri
copied r c =
    record {
      scheme = get_or (opening_scheme r.opening) c.scheme;
      authority = get_or (opening_authority r.opening) c.authority;
      path = c.path;
      query = or r.query c.query;
      fragment = or r.fragment (unless_set r.query c.fragment);
    }

-- 5.4 In the result a path of one empty segment becomes no path. `reference` writes an empty path as unset.
unfoldable pub resolve : Cri → Reference → Cri
resolve base r = normal (copied r (appended r.path (discarded r.opening (start base))))

-- ---- the bytes of the resolved CRI, or the refusal

-- a refusal of the base
abbrev pub as_base : {A : Type 0} → Res A → Res A
as_base (refused n k) = refused BASE k
as_base (ok a) = ok a

-- 5.5 RESULT: over the segments or the bytes that a CRI may have
unfoldable pub fits : Limits → Cri → Bool
fits lim c = leb (length c.path) lim.segments && leb (length (encode (reference c))) lim.bytes
