-- The items of a result.
use Prim.Native.Nat.{ℕ, zero, suc, ◌+◌, ◌≤◌, ◌<◌}
use native.Mathlib.Omega.{arith}
use mathlib.Core.Path.{◌≡◌, refl, ap, ◌∙◌}
use mathlib.Core.List.{List, [], ◌∷◌, ◌++◌, append_assoc, append-nil, map}
use mathlib.Core.Option.{Option, none, some}
use lib.ListN.{length, length-map}
use Rattle.rules.specs.Bytes.{Bytes, concat, big_endian}
use Rattle.rules.specs.Model.{set_path}
use Rattle.rules.specs.Head.{Array, Null, head_bytes, major_of, shortest, width}
use Rattle.rules.specs.Encode.{text_item, array_item, texts_item, null_item, or_null, tail_items}
use Rattle.rules.specs.Laid.{texts, query_item, fragment_item}
use Rattle.cbor_heads.proofs.ShortestHead.{head_most}
use Rattle.resolver_parts.specs.Parts.{further_items}
use Rattle.resolver_parts.specs.Written.{path_head, path_items}

-- an array of texts before other bytes
texts_then : (ts : List Bytes) (w : Bytes) → texts_item ts ++ w ≡ head_bytes Array (length ts) ++ (texts ts ++ w)
unfolding texts_item array_item
texts_then ts w =
    append_assoc (head_bytes Array (length (map text_item ts))) (texts ts) w ∙ ap (λ (n : ℕ). head_bytes Array n ++ (texts ts ++ w)) (length-map ts text_item)

-- path, query and fragment
pub tail_bytes : (p : List Bytes) (q : Option (List Bytes)) (f : Option Bytes)
    → concat (tail_items (set_path p) q f) ≡ path_head (length p) (further_items q f) ++ (texts p ++ (query_item q f ++ fragment_item f))
unfolding tail_items concat or_null path_head
tail_bytes [] (some q) (some f) = ap (λ (l : Bytes). null_item ++ (texts_item q ++ l)) (append-nil (text_item f))
tail_bytes [] none (some f) = ap (λ (l : Bytes). null_item ++ (null_item ++ l)) (append-nil (text_item f))
tail_bytes [] (some q) none = refl
tail_bytes [] none none = refl
tail_bytes (t ∷ p) (some q) (some f) = ap (λ (l : Bytes). texts_item (t ∷ p) ++ (texts_item q ++ l)) (append-nil (text_item f)) ∙ texts_then (t ∷ p) _
tail_bytes (t ∷ p) none (some f) = ap (λ (l : Bytes). texts_item (t ∷ p) ++ (null_item ++ l)) (append-nil (text_item f)) ∙ texts_then (t ∷ p) _
tail_bytes (t ∷ p) (some q) none = texts_then (t ∷ p) _
tail_bytes (t ∷ p) none none = texts_then (t ∷ p) _

pub tail_count : (p : List Bytes) (q : Option (List Bytes)) (f : Option Bytes) → length (tail_items (set_path p) q f) ≡ path_items (length p) (further_items q f) + further_items q f
unfolding tail_items path_items
tail_count [] q (some f) = refl
tail_count [] (some q) none = refl
tail_count [] none none = refl
tail_count (t ∷ p) q (some f) = refl
tail_count (t ∷ p) (some q) none = refl
tail_count (t ∷ p) none none = refl

-- ---- what stands before the segments, by how many there are and how many items follow

pub items_path : (n k : ℕ) → 0 < n → 1 ≡ path_items n k
unfolding path_items
items_path zero k h = absurd (omega arith)
items_path (suc n) k h = refl

pub items_null : (n k : ℕ) → n ≤ 0 → 0 < k → 1 ≡ path_items n k
unfolding path_items
items_null (suc n) k h j = absurd (omega arith)
items_null zero zero h j = absurd (omega arith)
items_null zero (suc k) h j = refl

pub items_none : (n k : ℕ) → n ≤ 0 → k ≤ 0 → 0 ≡ path_items n k
unfolding path_items
items_none (suc n) k h j = absurd (omega arith)
items_none zero zero h j = refl
items_none zero (suc k) h j = absurd (omega arith)

pub items_most : (n k : ℕ) → path_items n k ≤ 1
unfolding path_items
items_most (suc n) k = omega arith
items_most zero zero = omega arith
items_most zero (suc k) = omega arith

pub head_path : (n k : ℕ) → 0 < n → head_bytes Array n ≡ path_head n k
unfolding path_head
head_path zero k h = absurd (omega arith)
head_path (suc n) k h = refl

pub head_null : (n k : ℕ) → n ≤ 0 → 0 < k → head_bytes Null 22 ≡ path_head n k
unfolding path_head head_bytes major_of shortest width big_endian
head_null (suc n) k h j = absurd (omega arith)
head_null zero zero h j = absurd (omega arith)
head_null zero (suc k) h j = refl

pub head_none : (n k : ℕ) → n ≤ 0 → k ≤ 0 → [] ≡ path_head n k
unfolding path_head
head_none (suc n) k h j = absurd (omega arith)
head_none zero zero h j = refl
head_none zero (suc k) h j = absurd (omega arith)

pub null_length : (n k : ℕ) → n ≤ 0 → 0 < k → 1 ≡ length (path_head n k)
unfolding path_head
null_length (suc n) k h j = absurd (omega arith)
null_length zero zero h j = absurd (omega arith)
null_length zero (suc k) h j = refl

pub head_most_path : (n k : ℕ) → length (path_head n k) ≤ 9
unfolding path_head
head_most_path (suc n) k = head_most Array (suc n)
head_most_path zero zero = omega arith
head_most_path zero (suc k) = omega arith
