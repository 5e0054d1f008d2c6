-- What the functions of this crate answer, in the terms of the rules.
use Rattle.std.specs.Prelude.{ℕ, ◌≤◌, ◌≡◌, Bool, false, cond, length, get_or, drop, ◌-◌, ltb, eqb}
use Rattle.rules.specs.Bytes.{Bytes, within}
use Rattle.rules.specs.Utf8.{utf8}

abbrev pub is_ascii : ℕ → Bool
is_ascii b = ltb b 0x80

-- the least second byte after the lead byte b of a character of two bytes or more
unfoldable pub second_low : ℕ → ℕ
second_low b = cond (eqb b 0xE0) 0xA0 (cond (eqb b 0xF0) 0x90 0x80)

-- the largest one
unfoldable pub second_high : ℕ → ℕ
second_high b = cond (eqb b 0xED) 0x9F (cond (eqb b 0xF4) 0x8F 0xBF)

-- the second byte may follow the lead byte
unfoldable pub follows : ℕ → ℕ → Bool
follows lead second = within (second_low lead) (second_high lead) second

-- the text is UTF-8 where what is left of it is
pub record Passed (text rest : Bytes) : Type 0 where
  pub shorter : length rest ≤ length text
  pub same : utf8 text ≡ utf8 rest

-- the rest is the end of the text, and is judged as the whole is
pub record Suffix (text rest : Bytes) : Type 0 where
  pub passed : Passed text rest
  pub at_end : rest ≡ drop (length text - length rest) text

-- where the text begins with a byte that is not ASCII, it begins with no character
abbrev pub NoMultibyte : Bytes → Type 0
NoMultibyte text = 0x80 ≤ get_or text 0 0 → utf8 text ≡ false
