-- What people type as hex: upper or lower case, with blanks anywhere.
use Rattle.std.specs.Prelude.{Result, Ok, Err, ℕ, ◌+◌, Bool, cond, ◌||◌, [], ◌∷◌, ◌++◌, length, eqb, ltb}
use Rattle.rules.specs.Bytes.{Bytes, within}
use Rattle.words.specs.declared.HexError.{HexError}
use Rattle.words.specs.declared.HexError.TheVariants as HexErrorV
use Rattle.words.specs.Words.{hex_of}

-- a space, a tab or the end of a line
unfoldable pub is_blank : ℕ → Bool
is_blank c = eqb c 0x20 || within 0x09 0x0D c

-- "a" to "f" of "A" to "F", and any other byte as it is
unfoldable pub lower_case : ℕ → ℕ
lower_case c = cond (within 0x41 0x46 c) (c + 0x20) c

-- nothing of a blank
unfoldable pub plain_byte : ℕ → Bytes
plain_byte c = cond (is_blank c) [] (lower_case c ∷ [])

unfoldable pub plain : Bytes → Bytes
plain [] = []
plain (c ∷ cs) = plain_byte c ++ plain cs

-- what a word says in a room of this length: blanks alone say no bytes; a word longer than the scratch is not looked at
unfoldable pub typed_of : Bytes → ℕ → ℕ → Result ℕ HexError
typed_of w scratch room = cond (ltb scratch (length w)) (Err HexErrorV.TooLong) (cond (eqb (length (plain w)) 0) (Ok 0) (hex_of (plain w) room))
