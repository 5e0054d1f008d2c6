-- What waits to be written.
use Rattle.std.specs.Prelude.{ℕ, ◌/◌, ◌%◌, cond, List, [], ◌∷◌, ◌++◌, length, ltb}
use Rattle.std.specs.List.{fold, flat_map}
use Rattle.io.specs.Digits.{hex_digit_ascii}

-- the bytes that wait after one more: where there is no place, those before it are written
unfoldable pub after_byte : List ℕ → ℕ → List ℕ
after_byte waiting b = cond (ltb (length waiting) 65536) (waiting ++ b ∷ []) (b ∷ [])

-- the bytes that wait after a text
unfoldable pub after : List ℕ → List ℕ → List ℕ
after waiting text = fold after_byte waiting text

-- a byte as two hex digits
unfoldable pub pair_of : ℕ → List ℕ
pair_of b = hex_digit_ascii (b / 16) ∷ hex_digit_ascii (b % 16) ∷ []

-- bytes in hex
unfoldable pub hex_of : List ℕ → List ℕ
hex_of s = flat_map pair_of s
