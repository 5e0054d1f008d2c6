-- A text escaped byte by byte.
use Prim.Native.Nat.{ℕ, ◌+◌, ◌<◌, ◌≤◌}
use mathlib.Core.Path.{◌≡◌, refl, ap, ◌∙◌}
use mathlib.Core.Bool.{true}
use mathlib.Core.List.{[], ◌∷◌, ◌++◌}
use lib.ListN.{length, get_or, take}
use Rattle.std.specs.List.{flat_map, sum_by}
use Rattle.std.proofs.lemmas.List.{append-nil, take_more}
use Rattle.std.proofs.lemmas.List.Concat.{flat_map-append, length-flat_map}
use Rattle.std.proofs.lemmas.List.Folds.{length-flat_map-take}
use Rattle.rules.specs.Bytes.{Bytes, all}
use Rattle.rules.specs.Text.{Class, bare, escape_byte, escape}
use Rattle.rules.proofs.Tools.{and_left, and_right}

module _ (k : Class) where
  pub escape_none : escape k [] ≡ []
  unfolding escape
  escape_none = refl

  -- the bytes one after the other, each escaped
  pub escape_each : (bs : Bytes) → escape k bs ≡ flat_map (escape_byte k) bs
  unfolding escape
  escape_each [] = refl
  escape_each (b ∷ bs) = ap (λ (l : Bytes). escape_byte k b ++ l) (escape_each bs)

  -- the first n bytes, and the one after them
  pub escape_more : (bs : Bytes) (n : ℕ) → n < length bs → escape k (take (n + 1) bs) ≡ escape k (take n bs) ++ escape_byte k (get_or bs n 0)
  escape_more bs n h =
      escape_each (take (n + 1) bs) ∙ ap (flat_map (escape_byte k)) (take_more bs n 0 h)
      ∙ flat_map-append (escape_byte k) (take n bs) (get_or bs n 0 ∷ [])
      ∙ rw (append-nil, ← escape_each (take n bs)) refl

  pub escape_room : (bs : Bytes) (n : ℕ) → n < length bs → length (escape k (take n bs)) + length (escape_byte k (get_or bs n 0)) ≤ length (escape k bs)
  escape_room bs n h = rw (escape_each (take n bs), escape_each bs) (length-flat_map-take (escape_byte k) bs n 0 h)

  pub escape_sum : (bs : Bytes) → length (escape k bs) ≡ sum_by (λ b. length (escape_byte k b)) bs
  escape_sum bs = ap length (escape_each bs) ∙ length-flat_map (escape_byte k) bs

  byte_bare : (b : ℕ) → bare k b ≡ true → escape_byte k b ≡ b ∷ []
  unfolding escape_byte
  byte_bare b e = rw e

  -- a text that stands bare is its own escaped text
  pub escape_bare : (bs : Bytes) → all (bare k) bs ≡ true → escape k bs ≡ bs
  unfolding escape all
  escape_bare [] e = refl
  escape_bare (b ∷ bs) e = rw (byte_bare b (and_left (bare k b) _ e), escape_bare bs (and_right (bare k b) _ e))
