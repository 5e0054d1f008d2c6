-- Which bytes of the input are the encoding of an item.
use Rattle.std.specs.Prelude.{ℕ, zero, suc, ◌+◌, ◌-◌, ◌≤◌, ◌<◌, ◌≡◌, List, [], ◌++◌, map, length, drop}
use Rattle.std.proofs.Math.Option.{Option, none, some}
use Rattle.rules.specs.Bytes.{Bytes, concat}
use Rattle.rules.specs.Head.{head_length}
use Rattle.rules.specs.Reader.{end_at, content_at, contents, Slot, unset, set}
use Rattle.rules.specs.Reader.{AuthorityAt, SchemeAt, OpeningAt, discard_at, discard_all_at, full_at, Found}
use Rattle.rules.specs.Meaning.{said_texts, said_text, said_authority, said_scheme}
use Rattle.rules.specs.Encode.{text_item, texts_item, null_item, or_null, authority_item, scheme_item}
use Rattle.rules.specs.Standing.{ItemStands}

-- from one position up to the other stand the bytes w
pub record Between (bs : Bytes) (from to : ℕ) (w : Bytes) : Type 0 where
  pub bytes : drop from bs ≡ w ++ drop to bs
  pub ends : from + length w ≡ to
  pub inside : to ≤ length bs

-- ---- texts in a row

-- texts, one after the other, as they are written
abbrev pub texts : List Bytes → Bytes
texts ts = concat (map text_item ts)

-- a text stands at a position, as it is written
pub record TextLaid (bs : Bytes) (at : ℕ) : Type 0 where
  pub stands : ItemStands bs at
  pub bytes : Between bs at (end_at bs at) (text_item (content_at bs at))

-- n texts, one after the other
abbrev pub TextsLaid : Bytes → ℕ → ℕ → Type 0
TextsLaid bs at zero = Unit {0}
TextsLaid bs at (suc n) = TextLaid bs at × TextsLaid bs (end_at bs at) n

-- ---- query and fragment, which end the input

-- the query's item before a fragment: null where it is unset and something follows, and left off where nothing does
abbrev pub query_item : Option (List Bytes) → Option Bytes → Bytes
query_item (some q) f = texts_item q
query_item none (some f) = null_item
query_item none none = []

-- the fragment's item, left off where it is unset
abbrev pub fragment_item : Option Bytes → Bytes
fragment_item none = []
fragment_item (some f) = text_item f

-- where the fragment's item starts; the end, where it is left off
abbrev pub fragment_start : ℕ → Slot → ℕ
fragment_start end unset = end
fragment_start end (set at n) = at - head_length n

-- where the query's item starts; the end, where it is left off
abbrev pub tail_start : ℕ → Slot → Slot → ℕ
tail_start end (set at n) f = at - head_length n
tail_start end unset unset = end
tail_start end unset (set at n) = at - head_length n - 1

-- a head stands before the position, and something before that
abbrev pub Headed : Slot → Type 0
Headed unset = Unit {0}
Headed (set at n) = head_length n < at

-- query and fragment stand at the end, as they are written
pub record TailLaid (bs : Bytes) (q f : Slot) : Type 0 where
  pub query : Between bs (tail_start (length bs) q f) (fragment_start (length bs) f)
      (query_item (said_texts bs q) (said_text bs f))
  pub fragment : Between bs (fragment_start (length bs) f) (length bs) (fragment_item (said_text bs f))
  pub query_head : Headed q
  pub fragment_head : Headed f

-- ---- the opening, after the outer array's head

-- scheme and authority
pub record FullLaid (bs : Bytes) (s : SchemeAt) (a : AuthorityAt) : Type 0 where
  pub scheme : Between bs 1 a.at (or_null scheme_item (said_scheme bs s))
  pub authority : Between bs a.at a.next (authority_item (said_authority bs a))

-- scheme and authority, where the opening has them
abbrev pub OpeningLaid : Bytes → OpeningAt → Type 0
OpeningLaid bs (discard_at k) = Unit {0}
OpeningLaid bs discard_all_at = Unit {0}
OpeningLaid bs (full_at s a) = FullLaid bs s a

-- the authority stands after the outer array's head, and does not end before it starts
abbrev pub Ordered : OpeningAt → Type 0
Ordered (discard_at k) = Unit {0}
Ordered discard_all_at = Unit {0}
Ordered (full_at s a) = (1 ≤ a.at) × (a.at ≤ a.next)

-- ---- the whole

-- the texts of a path, which end where the tail starts
pub record RowLaid (bs : Bytes) (at n end : ℕ) : Type 0 where
  pub each : TextsLaid bs at n
  pub row : Between bs at end (texts (contents bs at n))

-- the same, where the path is set
abbrev pub PathLaid : Bytes → Slot → ℕ → Type 0
PathLaid bs unset end = Unit {0}
PathLaid bs (set at n) end = RowLaid bs at n end

-- all that the reader found
pub record Laid (bs : Bytes) (f : Found) : Type 0 where
  pub opening : OpeningLaid bs f.opening
  pub path : PathLaid bs f.path (tail_start (length bs) f.query f.fragment)
  pub tail : TailLaid bs f.query f.fragment
