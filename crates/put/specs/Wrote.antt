-- What a piece of a writer leaves.
use Rattle.std.specs.Prelude.{◌≡◌, ℕ, ◌+◌, length}
use Rattle.std.proofs.lemmas.List.Edits.{sets}
use Rattle.rules.specs.Bytes.{Bytes}

-- `after` is `before` with the bytes w stored from `at` on, and `next` is the place after them
pub record Wrote (before : Bytes) (at : ℕ) (w after : Bytes) (next : ℕ) : Type 0 where
  pub bytes : after ≡ sets before at w
  pub place : next ≡ at + length w
