-- A loop that adds texts: the i-th of n texts, and those after it.
use Prim.Native.Nat.{ℕ, ◌+◌, ◌-◌, ◌*◌, ◌≤◌, ◌<◌}
use native.Mathlib.Omega.{arith}
use mathlib.Core.Path.{◌≡◌, sym, ap, ap₂, ◌∙◌}
use mathlib.Core.Bool.{Bool, ◌&&◌}
use mathlib.Core.List.{List, ◌∷◌, ◌++◌}
use lib.ListN.{length, take, drop, get_or}
use Rattle.std.proofs.lemmas.List.{length-drop, take_all}
use Rattle.rules.specs.Bytes.{Bytes, all, concat}
use Rattle.rules.specs.Head.{Text}
use Rattle.rules.specs.Model.{Span}
use Rattle.rules.specs.Reader.{taken}
use Rattle.rules.specs.Encode.{text_item}
use Rattle.rules.specs.Result.{Res, ok}
use Rattle.rules.specs.Writing.{inside}
use Rattle.components.specs.Content.{spans_of, most_numbers}
use Rattle.components.proofs.Content.{spans_next, spans_end}
use Rattle.writer.specs.Added.{added}
use Rattle.writer.specs.AddedItems.{one_text, string_item, text_items}
use Rattle.writer.proofs.Added.{added_none}
use Rattle.writer.proofs.AddedItems.{all_append}

-- texts are added
abbrev pub texts_added : Bytes → List Span → Bytes → Res Bytes
texts_added lent ts bs = added (all (inside lent) ts) (text_items lent ts) bs

-- of n texts those from the i-th on
abbrev pub texts_from : List ℕ → ℕ → ℕ → List Span
texts_from xs n i = spans_of (n - i) (drop (2 * i) xs)

module _ (lent : Bytes) (xs : List ℕ) (n i : ℕ) where
  -- the i-th
  abbrev pub text_at : Span
  text_at = record { start = get_or xs (2 * i) 0; length = get_or xs (2 * i + 1) 0 }

  pub texts_split : i < n → (bs : Bytes)
      → added (all (inside lent) (one_text text_at) && all (inside lent) (texts_from xs n (i + 1))) (string_item Text (taken lent text_at) ++ text_items lent (texts_from xs n (i + 1))) bs
      ≡ texts_added lent (texts_from xs n i) bs
  unfolding text_items text_item string_item concat
  texts_split h bs =
      let next : texts_from xs n i ≡ text_at ∷ texts_from xs n (i + 1) =
      spans_next xs (2 * i) (n - i) (omega arith) ∙ ap₂ (λ (m j : ℕ). text_at ∷ spans_of m (drop j xs)) (omega arith) (omega arith) in
      ap (λ (t : Bool). added t (text_items lent (text_at ∷ texts_from xs n (i + 1))) bs) (all_append (inside lent) (one_text text_at) (texts_from xs n (i + 1)))
      ∙ ap (λ ts. texts_added lent ts bs) (sym next)

  pub texts_end : n ≤ i → (bs : Bytes) → ok bs ≡ texts_added lent (texts_from xs n i) bs
  unfolding all text_items concat
  texts_end h bs = added_none bs ∙ ap (λ ts. texts_added lent ts bs) (sym (spans_end xs (2 * i) (n - i) (omega arith)))

-- a slice of the array to its end
pub array_from : (k : ℕ) (xs : List ℕ) → length xs ≡ most_numbers → take (most_numbers - k) (drop k xs) ≡ drop k xs
array_from k xs e = take_all (most_numbers - k) (drop k xs) (omega (arith, length-drop k xs, e))
