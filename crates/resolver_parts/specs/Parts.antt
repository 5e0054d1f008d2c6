-- The result of resolving, as parts of the two inputs: what the code's values say.
use Rattle.std.specs.Prelude.{ℕ, zero, suc, ◌+◌, ◌-◌, ◌≤◌, ◌≡◌, Bool, true, false, List, [], ◌++◌, length, take}
use Rattle.std.proofs.Math.Option.{Option, none, some, get_or}
use Rattle.rules.specs.Bytes.{Bytes}
use Rattle.rules.specs.Model.{Scheme, Authority, Opening, Cri, limits}
use Rattle.rules.specs.Reader.{taken, contents, Slot, unset, set, OpeningAt, discard_at, discard_all_at, full_at, Found}
use Rattle.rules.specs.Encode.{scheme_item, authority_item}
use Rattle.rules.specs.Resolve.{opening_scheme, opening_authority}
use Rattle.rules.specs.Laid.{Between, Laid, texts, TextsLaid, query_item, fragment_item}
use Rattle.cbor.specs.declared.Span.{Span}
use Rattle.cbor.specs.Heads.{span_is}
use Rattle.resolver_parts.specs.declared.Both.{Both}
use Rattle.resolver_parts.specs.declared.RowSpan.{RowSpan}
use Rattle.resolver_parts.specs.declared.Counted.{Counted}
use Rattle.resolver_parts.specs.declared.Parts.{Parts}

-- ---- parts of an input, and of both

-- where everything stands in an input that is no longer than the reader accepts
pub record Accepted (bs : Bytes) (f : Found) : Type 0 where
  pub laid : Laid bs f
  pub size : length bs ≤ limits.bytes

-- at a span stand these bytes
abbrev pub SpanIs : Bytes → Span → Bytes → Type 0
SpanIs bs s w = Between bs s.start (s.start + s.length) w

-- the bytes of a part of the base, and then of one of the reference
unfoldable pub both_of : Bytes → Bytes → Both → Bytes
both_of base ref b = taken base (span_is b.base) ++ taken ref (span_is b.reference)

-- both lie inside
pub record BothInside (base ref : Bytes) (b : Both) : Type 0 where
  pub of_base : b.base.start + b.base.length ≤ length base
  pub of_reference : b.reference.start + b.reference.length ≤ length ref

-- both lie inside, and are these bytes
pub record BothIs (base ref : Bytes) (b : Both) (w : Bytes) : Type 0 where
  pub inside : BothInside base ref b
  pub bytes : both_of base ref b ≡ w

-- ---- scheme and authority

-- RULES 5.3: each of the two where the reference's opening brings it, else the base's
abbrev pub front_items : Opening Bytes → Scheme Bytes → Authority Bytes → Bytes
front_items o s a = scheme_item (get_or (opening_scheme o) s) ++ authority_item (get_or (opening_authority o) a)

-- ---- path

-- the texts of a row
abbrev pub row_texts : Bytes → RowSpan → List Bytes
row_texts bs row = contents bs row.span.start row.count

-- the texts of a row are these
pub record RowIs (bs : Bytes) (row : RowSpan) (ts : List Bytes) : Type 0 where
  pub each : TextsLaid bs row.span.start row.count
  pub says : row_texts bs row ≡ ts
  pub bytes : SpanIs bs row.span (texts ts)

-- a row of no more than an input's bytes
pub record Small (row : RowSpan) : Type 0 where
  pub bytes : row.span.length ≤ limits.bytes
  pub texts : row.count ≤ limits.bytes

-- RULES 5.1: what an opening leaves of the base's path
unfoldable pub kept : OpeningAt → List Bytes → List Bytes
kept (discard_at k) ts = take (length ts - k) ts
kept discard_all_at ts = []
kept (full_at s a) ts = []

-- the texts of a path, one after the other, and their count
pub record PathIs (base ref : Bytes) (p : Counted) (ts : List Bytes) : Type 0 where
  pub both : BothIs base ref p.both (texts ts)
  pub count : p.count ≡ length ts

-- ---- query and fragment

-- RULES 5.1, 5.2: the base's query stays where nothing is discarded and no path is set
abbrev pub keeps_query : OpeningAt → Slot → Bool
keeps_query (discard_at zero) unset = true
keeps_query (discard_at zero) (set at n) = false
keeps_query (discard_at (suc k)) p = false
keeps_query discard_all_at p = false
keeps_query (full_at s a) p = false

-- RULES 5.3: the base's query is the result's
abbrev pub takes_query : Slot → OpeningAt → Slot → Slot → Bool
takes_query old o p (set at n) = false
takes_query unset o p unset = false
takes_query (set at n) o p unset = keeps_query o p

-- how many items a query and a fragment are
abbrev pub further_items : Option (List Bytes) → Option Bytes → ℕ
further_items q (some f) = 2
further_items (some q) none = 1
further_items none none = 0

-- the same, where there is a query or none, by the fragment's place
abbrev pub further_of : Bool → Slot → ℕ
further_of q (set at n) = 2
further_of true unset = 1
further_of false unset = 0

-- query and fragment, and how many items they are
pub record TailIs (base ref : Bytes) (t : Counted) (q : Option (List Bytes)) (f : Option Bytes) : Type 0 where
  pub both : BothIs base ref t.both (query_item q f ++ fragment_item f)
  pub count : t.count ≡ further_items q f

-- ---- the whole

-- they are those of a CRI
pub record PartsAre (base ref : Bytes) (p : Parts) (c : Cri) : Type 0 where
  pub front : BothIs base ref p.front (scheme_item c.scheme ++ authority_item c.authority)
  pub path : PathIs base ref p.path c.path
  pub tail : TailIs base ref p.tail c.query c.fragment
