-- What lies inside the input: an item that stands at a position, and what the reader found.
use Rattle.std.specs.Prelude.{ℕ, zero, suc, ◌+◌, ◌≤◌, ◌<◌, length}
use Rattle.rules.specs.Bytes.{Bytes}
use Rattle.rules.specs.Model.{Limits, most_labels, most_parameters}
use Rattle.rules.specs.Head.{info_at}
use Rattle.rules.specs.Reader.{end_at, Slot, unset, set, HostAt, address_at, labels_at}
use Rattle.rules.specs.Reader.{SchemeAt, no_scheme, number_at, name_at}
use Rattle.rules.specs.Reader.{OpeningAt, discard_at, discard_all_at, full_at, Found}

-- an item stands at a position, whole
pub record ItemStands (bs : Bytes) (at : ℕ) : Type 0 where
  pub info : info_at bs at < 28
  pub inside : end_at bs at ≤ length bs

-- n items, one after the other: what a walk over items that were accepted asks
abbrev pub RowAt : Bytes → ℕ → ℕ → Type 0
RowAt bs at zero = Unit {0}
RowAt bs at (suc n) = ItemStands bs at × RowAt bs (end_at bs at) n

-- at most `most` items, one after the other
pub record RowWithin (most : ℕ) (bs : Bytes) (at n : ℕ) : Type 0 where
  pub count : n ≤ most
  pub each : RowAt bs at n

-- n bytes from a position on
abbrev pub BytesStand : Bytes → ℕ → ℕ → Type 0
BytesStand bs at n = at + n ≤ length bs

-- the text of a scheme, where it has one
abbrev pub SchemeStands : Bytes → SchemeAt → Type 0
SchemeStands bs no_scheme = Unit {0}
SchemeStands bs (number_at n) = Unit {0}
SchemeStands bs (name_at at n) = BytesStand bs at n

-- an address, or as many labels as there may be
abbrev pub HostStands : Bytes → HostAt → Type 0
HostStands bs (address_at at n) = BytesStand bs at n
HostStands bs (labels_at at n) = RowWithin most_labels bs at n

-- scheme and host, where the opening has them
abbrev pub OpeningStands : Bytes → OpeningAt → Type 0
OpeningStands bs (discard_at k) = Unit {0}
OpeningStands bs discard_all_at = Unit {0}
OpeningStands bs (full_at s a) = SchemeStands bs s × HostStands bs a.host

-- at most `most` texts of a path or query, where it is set
abbrev pub TextsStand : ℕ → Bytes → Slot → Type 0
TextsStand most bs unset = Unit {0}
TextsStand most bs (set at n) = RowWithin most bs at n

-- the text of a fragment, where it is set
abbrev pub TextStands : Bytes → Slot → Type 0
TextStands bs unset = Unit {0}
TextStands bs (set at n) = BytesStand bs at n

-- all that the reader found
pub record FoundStands (lim : Limits) (bs : Bytes) (f : Found) : Type 0 where
  pub opening : OpeningStands bs f.opening
  pub path : TextsStand lim.segments bs f.path
  pub query : TextsStand most_parameters bs f.query
  pub fragment : TextStands bs f.fragment
