-- Where the items of a row stand.
use Rattle.std.specs.Prelude.{ℕ, zero, suc, ◌+◌, ◌≤◌, length}
use Rattle.rules.specs.Bytes.{Bytes}
use Rattle.rules.specs.Model.{Span}
use Rattle.rules.specs.Reader.{end_at}

-- the position of the n-th item, from 0, of those that stand in a row from a position on; after n of them, the position after them
unfoldable pub nth_at : Bytes → ℕ → ℕ → ℕ
nth_at bs at zero = at
nth_at bs at (suc n) = nth_at bs (end_at bs at) n

-- a span lies inside the bytes
abbrev pub SpanInside : Bytes → Span → Type 0
SpanInside bs span = span.start + span.length ≤ length bs
