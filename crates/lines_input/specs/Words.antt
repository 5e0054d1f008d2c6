-- The words of a request: before each word of what is left of a line stands a space.
use Rattle.std.specs.Prelude.{ℕ, ◌^◌, not, cond, Result, Ok, Err, length, take, drop, leb, ltb, eqb}
use Rattle.std.specs.List.{prefix_len}
use Rattle.rules.specs.Bytes.{Bytes}
use Rattle.words.specs.declared.NumberError.{NumberError}
use Rattle.words.specs.declared.HexError.{HexError}
use Rattle.words.specs.Words.{hex_of, number_of}
use Rattle.lines_input.specs.declared.Fault.{Fault}
use Rattle.lines_input.specs.declared.Fault.TheVariants as FaultV

-- how many bytes stand before the first space
unfoldable pub word_end : Bytes → ℕ
word_end s = prefix_len (λ b. not (eqb b 0x20)) s

-- the next word, which is not empty
unfoldable pub word_of : Bytes → Result Bytes Fault
word_of left = cond (eqb (length left) 0) (Err FaultV.Missing) (cond (eqb (word_end (drop 1 left)) 0) (Err FaultV.Empty) (Ok (take (word_end (drop 1 left)) (drop 1 left))))

-- what is left after the next word; an empty word is not taken
unfoldable pub left_of : Bytes → Bytes
left_of left = cond (eqb (word_end (drop 1 left)) 0) left (drop (word_end (drop 1 left)) (drop 1 left))

-- how many bytes, or what is wrong with the word
abbrev pub as_bytes : Result ℕ HexError → Result ℕ Fault
as_bytes (Ok n) = Ok n
as_bytes (Err e) = Err (FaultV.Hex e)

-- how many bytes the next word says in a room of this length
abbrev pub bytes_in : Result Bytes Fault → ℕ → Result ℕ Fault
bytes_in (Ok w) room = as_bytes (hex_of w room)
bytes_in (Err e) room = Err e

-- a number, or what is wrong with it
abbrev pub as_number : Result ℕ NumberError → Result ℕ Fault
as_number (Ok n) = Ok n
as_number (Err e) = Err (FaultV.Number e)

-- the number that the next word says
abbrev pub number_in : Result Bytes Fault → Result ℕ Fault
number_in (Ok w) = as_number (number_of w)
number_in (Err e) = Err e

-- a number of 16 bits
abbrev pub port_in : Result ℕ Fault → Result ℕ Fault
port_in (Ok n) = cond (ltb n (2 ^ 16)) (Ok n) (Err FaultV.PortTooLarge)
port_in (Err e) = Err e

-- how much is lent of a room of this length
abbrev pub lent_in : Result ℕ Fault → ℕ → Result ℕ Fault
lent_in (Ok n) room = cond (leb n room) (Ok n) (Err FaultV.RoomTooLarge)
lent_in (Err e) room = Err e
