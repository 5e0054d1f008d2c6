-- What is known of an address in an accepted input.
use Rattle.std.specs.Prelude.{ℕ, ◌+◌, ◌≤◌, ◌≡◌, true, length}
use Rattle.rules.specs.Bytes.{Bytes}
use Rattle.rules.specs.Rules.{address_size}

-- RULES 2.6: an address of n bytes, 4 or 16, stands at a position
abbrev pub AddressAt : Bytes → ℕ → ℕ → Type 0
AddressAt bs at n = (at + n ≤ length bs) × (address_size n ≡ true)
