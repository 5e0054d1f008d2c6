-- The spans of items that stand in a row lie inside the input.
use Prim.Native.Nat.{ℕ, zero, suc}
use mathlib.Core.Path.{◌≡◌, subst}
use mathlib.Core.List.{List, ◌∷◌}
use Rattle.std.specs.Prelude.{All}
use Rattle.std.proofs.lemmas.List.Elements.{All-nil, All-cons, All-head, All-rest}
use Rattle.rules.specs.Bytes.{Bytes}
use Rattle.rules.specs.Model.{Span}
use Rattle.rules.specs.Reader.{span_at, end_at, spans}
use Rattle.rules.specs.Standing.{RowAt}
use Rattle.cbor_rows.specs.Rows.{SpanInside}

pub inside_row : (bs : Bytes) (at n : ℕ) → RowAt bs at n → All (SpanInside bs) (spans bs at n)
unfolding spans
inside_row bs at zero h = All-nil (SpanInside bs)
inside_row bs at (suc n) h = All-cons (SpanInside bs) (span_at bs at) (spans bs (end_at bs at) n) h.0.inside (inside_row bs (end_at bs at) n h.1)

-- the first of them, and the others
module _ (bs : Bytes) (span : Span) (others left : List Span) (e : left ≡ span ∷ others) (h : All (SpanInside bs) left) where
  pub first_inside : SpanInside bs span
  first_inside = All-head (SpanInside bs) span others (subst (All (SpanInside bs)) e h)

  pub others_inside : All (SpanInside bs) others
  others_inside = All-rest (SpanInside bs) span others left e h
