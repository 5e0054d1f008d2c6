-- Items and texts in a row, as they are written: how long they are.
use Prim.Native.Nat.{◌+◌, ◌≤◌, ◌<◌}
use native.Mathlib.Omega.{arith}
use mathlib.Core.Path.{◌≡◌, refl, ap, ◌∙◌}
use mathlib.Core.List.{List, [], ◌∷◌, ◌++◌, map, map-append}
use lib.ListN.{length, length-append}
use Rattle.rules.specs.Bytes.{Bytes, concat}
use Rattle.rules.specs.Model.{normal_path}
use Rattle.rules.specs.Head.{Text, Array, head_bytes}
use Rattle.rules.specs.Encode.{text_item, array_item}
use Rattle.rules.specs.Laid.{texts}
use Rattle.rules.proofs.Tools.{concat_append}
use Rattle.rules.proofs.Heads.{head_some}
use Rattle.rules.proofs.Laid.{head_one}

-- ---- items

pub text_length : (t : Bytes) → length t + 1 ≤ length (text_item t)
unfolding text_item
text_length t = rw (length-append (head_bytes Text (length t)) t) (omega (arith, head_some Text (length t)))

pub array_length : (xs : List Bytes) → length (concat xs) + 1 ≤ length (array_item xs)
unfolding array_item
array_length xs = rw (length-append (head_bytes Array (length xs)) (concat xs)) (omega (arith, head_some Array (length xs)))

-- ---- texts in a row

texts_cons : (t : Bytes) (ts : List Bytes) → length (texts (t ∷ ts)) ≡ length (text_item t) + length (texts ts)
unfolding concat
texts_cons t ts = length-append (text_item t) (texts ts)

-- each text has a byte at least
pub texts_count : (ts : List Bytes) → length ts ≤ length (texts ts)
unfolding concat
texts_count [] = omega arith
texts_count (t ∷ ts) = omega (arith, texts_cons t ts, text_length t, texts_count ts)

empty_length : length (texts ([] ∷ [])) ≡ 1
unfolding concat text_item
empty_length = length-append (head_bytes Text 0 ++ []) [] ∙ omega (arith, length-append (head_bytes Text 0) [], head_one 0 (omega arith))

-- one empty text is the only row of one byte
pub normal_short : (ts : List Bytes) → length (texts ts) < 2 → normal_path ts ≡ []
unfolding normal_path
normal_short [] h = refl
normal_short ([] ∷ []) h = refl
normal_short ([] ∷ (u ∷ ts)) h = absurd (omega (arith, texts_count ([] ∷ u ∷ ts)))
normal_short ((b ∷ t) ∷ ts) h = absurd (omega (arith, texts_cons (b ∷ t) ts, text_length (b ∷ t)))

pub normal_long : (ts : List Bytes) → 2 ≤ length (texts ts) → normal_path ts ≡ ts
unfolding normal_path concat
normal_long [] h = absurd (omega arith)
normal_long ([] ∷ []) h = absurd (omega (arith, empty_length))
normal_long ([] ∷ (u ∷ ts)) h = refl
normal_long ((b ∷ t) ∷ ts) h = refl

pub texts_append : (ts us : List Bytes) → texts (ts ++ us) ≡ texts ts ++ texts us
texts_append ts us = ap concat (map-append text_item ts us) ∙ concat_append (map text_item ts) (map text_item us)
