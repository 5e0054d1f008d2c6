-- A numeral digit by digit, the highest first.
use Rattle.std.specs.Prelude.{ℕ, zero, suc, ◌/◌, ◌%◌, ◌^◌, cond, [], ◌∷◌, ◌++◌, ltb}
use Rattle.rules.specs.Bytes.{Bytes}
use Rattle.rules.specs.Numeral.{digit_byte}

-- the digit of n at a scale, a power of the base, where n reaches it
unfoldable pub digit_at : ℕ → ℕ → ℕ → Bytes
digit_at base scale n = cond (ltb n scale) [] (digit_byte (n / scale % base) ∷ [])

-- the digits of n at the scales base ^ f, .., base, and the last
unfoldable pub scaled : ℕ → ℕ → ℕ → Bytes
scaled base zero n = digit_byte (n % base) ∷ []
scaled base (suc f) n = digit_at base (base ^ suc f) n ++ scaled base f n
