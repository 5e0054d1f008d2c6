-- The rules of each sort of text, of all labels together, and the table of schemes.
use Rattle.std.specs.Prelude.{ℕ, ◌+◌, ◌*◌, Bool, true, false, ◌&&◌, ◌||◌, not, cond, List, [], ◌∷◌, length, leb, eqb}
use Rattle.std.proofs.Math.Option.{Option, none, some}
use Rattle.rules.specs.Bytes.{Bytes, ascii, dot, within, all, any, member, same, join}

-- a sort of text: how many bytes it may have, and its rule
pub record Sort : Type 0 where
  pub low : ℕ
  pub high : ℕ
  pub rule : Bytes → Bool

-- no rule
abbrev pub free : Bytes → Bool
free t = true

-- ---- RULES 1.6: the scheme numbers known here, their names and default ports

-- a row of the table
pub record SchemeEntry : Type 0 where
  pub number : ℕ
  pub name : Bytes
  pub port : ℕ

-- number, name, default port
abbrev pub entry : ℕ → Bytes → ℕ → SchemeEntry
entry n t p = record { number = n; name = t; port = p }

-- the table
unfoldable pub schemes : List SchemeEntry
schemes =
    entry 0 (ascii "coap") 5683
    ∷ entry 1 (ascii "coaps") 5684
    ∷ entry 6 (ascii "coap+tcp") 5683
    ∷ entry 7 (ascii "coaps+tcp") 5684
    ∷ entry 8 (ascii "coap+ws") 80
    ∷ entry 9 (ascii "coaps+ws") 443
    ∷ []

-- the entry of a number
unfoldable pub scheme_in : List SchemeEntry → ℕ → Option SchemeEntry
scheme_in [] n = none
scheme_in (e ∷ es) n = cond (eqb n e.number) (some e) (scheme_in es n)

-- the number is in the table
unfoldable pub known_scheme : ℕ → Bool
known_scheme n = any (λ (e : SchemeEntry). eqb n e.number) schemes

-- ---- RULES 1.7: a scheme given as text

-- a to z
abbrev pub lower : ℕ → Bool
lower b = within 0x61 0x7A b

-- A to Z
abbrev pub upper : ℕ → Bool
upper b = within 0x41 0x5A b

-- 0 to 9
abbrev pub digit : ℕ → Bool
digit b = within 0x30 0x39 b

-- lower-case letters, digits, "+", "." or "-"
unfoldable pub scheme_byte : ℕ → Bool
scheme_byte b = lower b || digit b || member b (ascii "+.-")

-- the first is a lower-case letter
unfoldable pub starts_lower : Bytes → Bool
starts_lower [] = false
starts_lower (b ∷ bs) = lower b

-- a lower-case letter, then lower-case letters, digits, "+", "." or "-"; none of the six names
unfoldable pub scheme_rule : Bytes → Bool
scheme_rule t = starts_lower t && (all scheme_byte t && all (λ (e : SchemeEntry). not (same t e.name)) schemes)

-- ---- RULES 1.9, 1.10: labels and segments

-- a label holds no ".", no A to Z, no "[" and no "]"
unfoldable pub label_byte : ℕ → Bool
label_byte b = not (eqb b dot) && (not (upper b) && not (member b (ascii "[]")))

-- every byte of a label
unfoldable pub label_rule : Bytes → Bool
label_rule t = all label_byte t

-- a decimal 0 to 255 without leading zeros
unfoldable pub octet : Bytes → Bool
octet [] = false
octet (a ∷ []) = digit a
octet (a ∷ b ∷ []) = within 0x31 0x39 a && digit b
octet (a ∷ b ∷ c ∷ []) = within 0x31 0x39 a && (digit b && (digit c && leb (a * 100 + b * 10 + c) (0x30 * 111 + 255)))
octet (a ∷ b ∷ c ∷ d ∷ r) = false

-- four labels that would print as an IPv4 address
unfoldable pub looks_ipv4 : List Bytes → Bool
looks_ipv4 ts = eqb (length ts) 4 && all octet ts

-- 2.5 and 1.9: together with their dots at most 255, and no IPv4 look
unfoldable pub name_rule : List Bytes → Bool
name_rule ts = leb (length (join dot ts)) 255 && not (looks_ipv4 ts)

-- a path segment is never "." or ".."
unfoldable pub segment_rule : Bytes → Bool
segment_rule t = not (same t (ascii ".")) && not (same t (ascii ".."))

-- ---- RULES 2.2 to 2.5, 2.7: the sizes of each sort

-- 2.7
abbrev pub scheme_name : Sort
scheme_name = record { low = 1; high = 16; rule = scheme_rule }

-- 2.5
abbrev pub label : Sort
label = record { low = 1; high = 63; rule = label_rule }

-- 2.2
abbrev pub segment : Sort
segment = record { low = 0; high = 255; rule = segment_rule }

-- 2.3
abbrev pub parameter : Sort
parameter = record { low = 0; high = 255; rule = free }

-- 2.4
abbrev pub fragment_text : Sort
fragment_text = record { low = 0; high = 255; rule = free }

-- 2.6: an address has 4 or 16 bytes
abbrev pub address_size : ℕ → Bool
address_size n = eqb n 4 || eqb n 16
