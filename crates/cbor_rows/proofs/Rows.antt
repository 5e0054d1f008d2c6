-- The items of a row: the first n of them, the n-th, and the position after them.
use Prim.Native.Nat.{ℕ, zero, suc, ◌≤◌, ◌<◌}
use native.Mathlib.Omega.{arith}
use mathlib.Core.Path.{◌≡◌, refl, ap}
use mathlib.Core.List.{List, ◌∷◌}
use mathlib.Core.Option.{none, some}
use lib.ListN.{take, get_elem?}
use Rattle.rules.specs.Bytes.{Bytes}
use Rattle.rules.specs.Reader.{span_at, end_at, spans, contents, content_at}
use Rattle.rules.specs.Standing.{ItemStands, RowAt}
use Rattle.cbor_rows.specs.Rows.{nth_at}

-- the first of them
pub first_items : (bs : Bytes) (at count n : ℕ) → n ≤ count → RowAt bs at count → RowAt bs at n
first_items bs at count zero h i = tt
first_items bs at zero (suc n) h i = absurd (omega arith)
first_items bs at (suc count) (suc n) h i = (i.0, first_items bs (end_at bs at) count n (omega arith) i.1)

-- the contents of the first of them
pub take_contents : (bs : Bytes) (at count n : ℕ) → n ≤ count → take n (contents bs at count) ≡ contents bs at n
unfolding contents spans
take_contents bs at count zero h = refl
take_contents bs at zero (suc n) h = absurd (omega arith)
take_contents bs at (suc count) (suc n) h = ap (λ (ts : List Bytes). content_at bs at ∷ ts) (take_contents bs (end_at bs at) count n (omega arith))

-- the n-th of more than n items
pub nth_stands : (bs : Bytes) (at n : ℕ) → RowAt bs at (suc n) → ItemStands bs (nth_at bs at n)
unfolding nth_at
nth_stands bs at zero i = i.0
nth_stands bs at (suc n) i = nth_stands bs (end_at bs at) n i.1

-- its span
pub nth_span : (bs : Bytes) (at count n : ℕ) → n < count → get_elem? (spans bs at count) n ≡ some (span_at bs (nth_at bs at n))
unfolding spans nth_at
nth_span bs at zero n h = absurd (omega arith)
nth_span bs at (suc count) zero h = refl
nth_span bs at (suc count) (suc n) h = nth_span bs (end_at bs at) count n (omega arith)

-- there is none beyond them
pub no_span : (bs : Bytes) (at count n : ℕ) → count ≤ n → get_elem? (spans bs at count) n ≡ none
unfolding spans
no_span bs at zero n h = refl
no_span bs at (suc count) zero h = absurd (omega arith)
no_span bs at (suc count) (suc n) h = no_span bs (end_at bs at) count n (omega arith)
