-- A walk over items that puts where they stand into a room of numbers.
use Prim.Native.Nat.{ℕ, suc, ◌+◌, ◌-◌, ◌*◌, ◌≤◌, ◌<◌}
use native.Mathlib.Omega.{arith}
use mathlib.Core.Path.{◌≡◌, refl, sym, ap, subst}
use mathlib.Core.List.{List, [], ◌∷◌, ◌++◌}
use lib.ListN.{length, set}
use Rattle.rules.specs.Bytes.{Bytes}
use Rattle.rules.specs.Model.{Span, elements, limits, most_labels, most_parameters}
use Rattle.rules.specs.Reader.{Slot, unset, Found, span_at, end_at, spans}
use Rattle.rules.specs.Reader as Reader
use Rattle.rules.specs.Meaning.{text_spans}
use Rattle.rules.specs.Standing.{ItemStands, RowAt, TextsStand, FoundStands}
use Rattle.rules.proofs.Texts.{length_spans}
use Rattle.put.specs.Wrote.{Wrote}
use Rattle.put.proofs.Wrote.{Left, Next}
use Rattle.put.proofs.Turns.{turn_next, turns_done}
use Rattle.cbor.specs.declared.Span as Code
use Rattle.cbor.specs.Heads.{span_is}
use Rattle.components.specs.Content.{most_numbers}
use Rattle.components.specs.Layout.{span_numbers, TextsAt}

-- two numbers for each span
pub length_numbers : (ts : List Span) → length (span_numbers ts) ≡ 2 * length ts
unfolding span_numbers
length_numbers [] = refl
length_numbers (t ∷ ts) = omega (arith, length_numbers ts)

-- those of a path, a query or labels
abbrev pub texts_at : Bytes → Slot → List ℕ
texts_at bs t = span_numbers (elements (text_spans bs t))

-- at most twice as many as there may be texts
texts_size : (most : ℕ) (bs : Bytes) (t : Slot) → TextsStand most bs t → length (texts_at bs t) ≤ 2 * most
unfolding span_numbers
texts_size most bs unset h = omega arith
texts_size most bs (Reader.set at n) h = omega (arith, length_numbers (spans bs at n), length_spans bs at n, h.count)

pub texts_at_lem : (most : ℕ) (bs : Bytes) (t : Slot) → TextsStand most bs t → TextsAt bs t
texts_at_lem most bs unset h = tt
texts_at_lem most bs (Reader.set at n) h = h.each

-- the labels, which stand at l, the segments and the parameters that were found have room in the array
pub found_size : (bs : Bytes) (l : Slot) (f : Found) → TextsStand most_labels bs l → FoundStands limits bs f
    → length (texts_at bs l) + length (texts_at bs f.path) + length (texts_at bs f.query) ≤ most_numbers
found_size bs l f h g =
    omega (arith, texts_size most_labels bs l h, texts_size limits.segments bs f.path g.path, texts_size most_parameters bs f.query g.query)

-- the numbers of the first span, and then of the others
each : (t : Span) (ts : List Span) → span_numbers (t ∷ ts) ≡ (t.start ∷ t.length ∷ []) ++ span_numbers ts
unfolding span_numbers
each t ts = refl

none : span_numbers [] ≡ []
unfolding span_numbers
none = refl

pub numbers_next : {t : Span} {left others : List Span} {room room₀ w₀ : List ℕ} {o at : ℕ} → left ≡ t ∷ others → Left room o (span_numbers left) room₀ at w₀
    → Next room o (t.start ∷ t.length ∷ []) (span_numbers others) room₀ at w₀
numbers_next e l = turn_next span_numbers span_numbers (λ t. t.start ∷ t.length ∷ []) each e l

pub numbers_done : {left : List Span} {room room₀ w₀ : List ℕ} {o at : ℕ} → left ≡ [] → Left room o (span_numbers left) room₀ at w₀ → Wrote room₀ at w₀ room o
numbers_done e l = turns_done span_numbers none e l
