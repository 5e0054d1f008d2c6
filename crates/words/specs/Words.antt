-- What words say: bytes in lower-case hex, and decimal numbers.
use Rattle.std.specs.Prelude.{ℕ, ◌+◌, ◌*◌, ◌-◌, ◌/◌, ◌%◌, ◌^◌, Bool, cond, ◌&&◌, Option, Some, None, ok_or, Result, Ok, Err, [], ◌∷◌, length, get_or, ltb, eqb}
use Rattle.std.specs.List.{list_all, fold}
use Rattle.std.proofs.lemmas.List.Edits.{sets}
use Rattle.rules.specs.Bytes.{Bytes, within}
use Rattle.words.specs.declared.NumberError.{NumberError}
use Rattle.words.specs.declared.NumberError.TheVariants as NumberErrorV
use Rattle.words.specs.declared.HexError.{HexError}
use Rattle.words.specs.declared.HexError.TheVariants as HexErrorV

-- the value of a digit, "0" to "9" and "a" to "f"; 16 for any other byte
unfoldable pub value_of : ℕ → ℕ
value_of c = cond (within 0x30 0x39 c) (c - 0x30) (cond (within 0x61 0x66 c) (c - 0x57) 16)

-- the value of a digit of this base, at most 16
unfoldable pub digit : ℕ → ℕ → Option ℕ
digit base c = cond (ltb (value_of c) base) (Some (value_of c)) None

-- each byte is a digit of this base
unfoldable pub are_digits : ℕ → Bytes → Bool
are_digits base w = list_all (λ c. ltb (value_of c) base) w

-- digits of this base, one or more
unfoldable pub some_digits : ℕ → Bytes → Bool
some_digits base w = ltb 0 (length w) && are_digits base w

-- the digits, read as one decimal number
unfoldable pub decimal_value : Bytes → ℕ
decimal_value w = fold (λ v c. v * 10 + value_of c) 0 w

-- the bytes that pairs of hex digits say; a last digit without a second is left out
unfoldable pub pair_bytes : Bytes → Bytes
pair_bytes [] = []
pair_bytes (a ∷ []) = []
pair_bytes (a ∷ b ∷ w) = (value_of a * 16 + value_of b) ∷ pair_bytes w

-- a number, where 64 bits hold it
unfoldable pub if_fits : ℕ → Option ℕ
if_fits v = cond (ltb v (2 ^ 64)) (Some v) None

-- the number that a word says: one or more decimal digits
unfoldable pub number_of : Bytes → Result ℕ NumberError
number_of w = cond (some_digits 10 w) (ok_or (if_fits (decimal_value w)) NumberErrorV.TooLarge) (Err NumberErrorV.NotDecimal)

-- how many bytes a word of hex digits says in a room of this length
unfoldable pub if_held : ℕ → ℕ → Result ℕ HexError
if_held digits room = cond (eqb (digits % 2) 1) (Err HexErrorV.Odd) (cond (ltb room (digits / 2)) (Err HexErrorV.TooLong) (Ok (digits / 2)))

-- the word "-"
unfoldable pub is_dash : Bytes → Bool
is_dash w = eqb (length w) 1 && eqb (get_or w 0 0) 0x2D

-- how many bytes a word says in a room of this length: "-" says none, and hex digits, one or more, those of their pairs
unfoldable pub hex_of : Bytes → ℕ → Result ℕ HexError
hex_of w room = cond (is_dash w) (Ok 0) (cond (some_digits 16 w) (if_held (length w) room) (Err HexErrorV.NotHex))

-- the room after the call: the bytes stand at its start, or nothing has changed
abbrev pub room_after : Result ℕ HexError → Bytes → Bytes → Bytes
room_after (Ok n) w room = sets room 0 (pair_bytes w)
room_after (Err e) w room = room
