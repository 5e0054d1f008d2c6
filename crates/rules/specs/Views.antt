-- RULES 10: views, which are parts of the lent inputs.
use Rattle.std.specs.Prelude.{ℕ, ◌-◌}
use Rattle.std.proofs.Math.Option.{Option, none, some}
use Rattle.std.proofs.Math.ListN.{get_elem?}
use Rattle.rules.specs.Bytes.{Bytes}
use Rattle.rules.specs.Result.{Res, refused, ok, given, ◌>>=◌, ◌>>◌, BASE, NONE}
use Rattle.rules.specs.Model.{Span, Limits, absolute, elements}
use Rattle.rules.specs.Reader.{OpeningAt, discard_at, discard_all_at, full_at, read}
use Rattle.rules.specs.Meaning.{components, meaning}
use Rattle.rules.specs.Resolve.{as_base}

-- 10.1: the n-th path segment: 1 to 7, then 18
unfoldable pub segment_view : Limits → Bytes → ℕ → Res Span
segment_view lim bs n = do
  f ← read lim bs
  given (get_elem? (elements (components bs f).path) n) NONE 0

-- a part of one of the two lent inputs
pub data Piece : Type 0 where
  of_reference : Span → Piece
  of_base : Span → Piece

-- the empty part at the start
abbrev pub nowhere : Span
nowhere = record { start = 0; length = 0 }

-- an authority's whole encoded item
abbrev pub authority_span : OpeningAt → Option Span
authority_span (discard_at k) = none
authority_span discard_all_at = none
authority_span (full_at s a) = some (record { start = a.at; length = a.next - a.at })

-- of the base's and the reference's: the reference's own where it brings one, else the base's, which an absolute base always has
abbrev pub chosen : Option Span → Option Span → Piece
chosen b (some s) = of_reference s
chosen (some s) none = of_base s
chosen none none = of_reference nowhere

-- 10.2: 8 for the base, then 1 to 7 for the reference
unfoldable pub authority_view : Limits → Bytes → Bytes → Res Piece
authority_view lim base ref = do
  b ← as_base (read lim base)
  given (absolute (meaning base b)) BASE 0
  r ← read lim ref
  ok (chosen (authority_span b.opening) (authority_span r.opening))

-- 10.3: a view that can't be given is the empty part at the start of the reference
abbrev pub segment_shown : Res Span → Span
segment_shown (refused n k) = nowhere
segment_shown (ok s) = s

-- the same of a part of one of two inputs
abbrev pub piece_shown : Res Piece → Piece
piece_shown (refused n k) = of_reference nowhere
piece_shown (ok p) = p

-- 10.3: a second call tells whether it is given, or the refusal
abbrev pub verdict : {A : Type 0} → Res A → Res (Unit {0})
verdict (refused n k) = refused n k
verdict (ok a) = ok tt
