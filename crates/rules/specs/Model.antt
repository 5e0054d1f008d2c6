-- RULES 1: what a CRI reference says.
use Rattle.std.specs.Prelude.{ℕ, ◌≡◌, List, [], ◌∷◌, map}
use Rattle.std.proofs.Math.Option
use Rattle.std.proofs.Math.Option.{Option, none, some}
use Rattle.rules.specs.Bytes.{Bytes}

-- The parts of a reference. A text or an address is given as an A: as its bytes, or as where they stand in an input.

-- RULES 1.6, 1.7: a number or a text
pub data Scheme (A : Type 0) : Type 0 where
  number : ℕ → Scheme A
  name : A → Scheme A

-- RULES 1.8: an address or labels, then a port, or none
pub data Host (A : Type 0) : Type 0 where
  address : A → Host A
  labels : List A → Host A

-- 1.8: the host and its port
pub record Authority (A : Type 0) : Type 0 where
  pub host : Host A
  pub port : Option ℕ

-- RULES 1.2, 1.3: a discard, which is a number or true; or a scheme, or none, with an authority. Components (RULES 9) may
-- lack the authority too; the reader refuses what is written from those.
pub data Opening (A : Type 0) : Type 0 where
  discard : ℕ → Opening A
  discard_all : Opening A
  full : Option (Scheme A) → Option (Authority A) → Opening A

-- RULES 1.4: null, or an item left off at the end, is none; an empty path array is some []
pub record Parts (A : Type 0) : Type 0 where
  pub opening : Opening A
  pub path : Option (List A)
  pub query : Option (List A)
  pub fragment : Option A

-- where a text or an address stands in lent bytes
pub record Span : Type 0 where
  pub start : ℕ
  pub length : ℕ

-- each text and address as its bytes
abbrev pub Reference : Type 0
Reference = Parts Bytes

-- each text and address as a span
abbrev pub Components : Type 0
Components = Parts Span

-- the same parts, each text or address given in another way

-- of a scheme
abbrev pub map_scheme : {A B : Type 0} → (A → B) → Scheme A → Scheme B
map_scheme f (number n) = number n
map_scheme f (name t) = name (f t)

-- of a host
abbrev pub map_host : {A B : Type 0} → (A → B) → Host A → Host B
map_host f (address a) = address (f a)
map_host f (labels ts) = labels (map f ts)

-- of an authority
abbrev pub map_authority : {A B : Type 0} → (A → B) → Authority A → Authority B
map_authority f a = record { host = map_host f a.host; port = a.port }

-- of an opening
abbrev pub map_opening : {A B : Type 0} → (A → B) → Opening A → Opening B
map_opening f (discard k) = discard k
map_opening f discard_all = discard_all
map_opening f (full s a) = full (Option.map (map_scheme f) s) (Option.map (map_authority f) a)

-- of the whole
abbrev pub map_parts : {A B : Type 0} → (A → B) → Parts A → Parts B
map_parts f r =
    record {
      opening = map_opening f r.opening;
      path = Option.map (map f) r.path;
      query = Option.map (map f) r.query;
      fragment = Option.map f r.fragment;
    }

-- RULES 2.1, 2.2: the two sizes that may grow are an argument of every definition that needs them
pub record Limits : Type 0 where
  pub bytes : ℕ
  pub segments : ℕ

-- the sizes in force
abbrev pub limits : Limits
limits = record { bytes = 4096; segments = 160 }

-- 2.3: how many parameters a query may have
abbrev pub most_parameters : ℕ
most_parameters = 16

-- 2.5: how many labels an authority may have
abbrev pub most_labels : ℕ
most_labels = 8

-- ---- absolute CRIs

-- what an absolute reference says; a path that is unset and one that is the empty array are both []
pub record Cri : Type 0 where
  pub scheme : Scheme Bytes
  pub authority : Authority Bytes
  pub path : List Bytes
  pub query : Option (List Bytes)
  pub fragment : Option Bytes

-- the elements of what is set
abbrev pub elements : {A : Type 0} → Option (List A) → List A
elements none = []
elements (some ts) = ts

-- RULES 1.12: scheme and authority both present and not null
unfoldable pub absolute : Reference → Option Cri
absolute r = opened_as r.opening
  where
    opened_as : Opening Bytes → Option Cri
    opened_as (discard k) = none
    opened_as discard_all = none
    opened_as (full none a) = none
    opened_as (full (some s) none) = none
    opened_as (full (some s) (some a)) =
        some (record { scheme = s; authority = a; path = elements r.path; query = r.query; fragment = r.fragment })

-- RULES 5.4: an empty path is written as unset
abbrev pub set_path : List Bytes → Option (List Bytes)
set_path [] = none
set_path (t ∷ ts) = some (t ∷ ts)

-- the reference that a CRI is written as
unfoldable pub reference : Cri → Reference
reference c =
    record { opening = full (some c.scheme) (some c.authority); path = set_path c.path; query = c.query; fragment = c.fragment }

-- RULES 5.0, 5.4, 6.1, 8.4: a path of one empty segment counts as no path
unfoldable pub normal_path : List Bytes → List Bytes
normal_path [] = []
normal_path ([] ∷ []) = []
normal_path ([] ∷ (u ∷ ts)) = [] ∷ u ∷ ts
normal_path ((b ∷ t) ∷ ts) = (b ∷ t) ∷ ts

-- the CRI with its path in that form
unfoldable pub normal : Cri → Cri
normal c =
    record { scheme = c.scheme; authority = c.authority; path = normal_path c.path; query = c.query; fragment = c.fragment }

-- ---- RULES 8: when two CRIs are the same

-- the six things compared
pub record Same (a b : Cri) : Type 0 where
  -- 8.1: the number, or the text's bytes; a number and a text are never the same
  pub scheme : a.scheme ≡ b.scheme
  -- 8.2: the address's bytes, or the labels in order; an address and labels are never the same
  pub host : a.authority.host ≡ b.authority.host
  -- 8.3: unset, or its number; a default port written differs from one left off
  pub port : a.authority.port ≡ b.authority.port
  -- 8.4: the segments in order; unset, an empty array and one empty segment are all no path
  pub path : normal_path a.path ≡ normal_path b.path
  -- 8.5: unset, or the parameters in order
  pub query : a.query ≡ b.query
  -- 8.6: unset, or its bytes; unset and empty differ
  pub fragment : a.fragment ≡ b.fragment
