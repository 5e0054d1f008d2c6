-- Words as lower-case hex has them.
use Rattle.std.proofs.Common.{◌≡◌, ℕ, ◌+◌, ◌<◌, ◌++◌, length, get_or, drop, add-one, drop-cons}
use Rattle.rules.specs.Bytes.{Bytes}
use Rattle.tool_input.specs.Plain.{plain_byte, plain}

pub plain_next : (w : Bytes) (i : ℕ) → i < length w → plain (drop i w) ≡ plain_byte (get_or w i 0) ++ plain (drop (i + 1) w)
unfolding plain
plain_next w i h = rw (add-one, drop-cons w i 0)
