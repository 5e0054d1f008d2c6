-- RULES 6.7: a text read as an address. Whatever it is, it is taken apart as the text of an address, and then compared with the text of that one.
use Rattle.std.specs.Prelude.{ℕ, ◌+◌, ◌-◌, ◌/◌, ◌%◌, Bool, cond, ◌&&◌, length, drop, replicate}
use mathlib.Core.List.{List, [], ◌∷◌, ◌++◌, map, tail}
use Rattle.std.proofs.Math.Option.{Option, none, some}
use Rattle.rules.specs.Bytes.{Bytes, byte, dot, colon, all, member, same, filled, starts, upto, split}
use Rattle.rules.specs.Rules.{address_size}
use Rattle.rules.specs.Numeral.{value}
use Rattle.rules.specs.Address.{mapped_start, left_bracket, right_bracket, address_text}

-- ---- the address that a text is taken for

-- two bytes of each group
unfoldable pub ungroup : List ℕ → Bytes
ungroup [] = []
ungroup (g ∷ gs) = g / 256 ∷ g % 256 ∷ ungroup gs

-- the texts before the first empty one
unfoldable pub heads : List Bytes → List Bytes
heads [] = []
heads (p ∷ ps) = cond (filled p) (p ∷ heads ps) []

-- the texts after the first empty one
unfoldable pub rests : List Bytes → List Bytes
rests [] = []
rests (p ∷ ps) = cond (filled p) (rests ps) ps

-- those that are not empty
unfoldable pub fulls : List Bytes → List Bytes
fulls [] = []
fulls (p ∷ ps) = cond (filled p) (p ∷ fulls ps) (fulls ps)

-- groups in hex
abbrev pub values : List Bytes → List ℕ
values ps = map (value 16) ps

-- eight groups: those on the left, zeros, those on the right
unfoldable pub spread : List Bytes → List Bytes → List ℕ
spread l r = values l ++ (replicate (8 - (length l + length r)) 0 ++ values r)

-- hex groups, zeros at the first "::"
unfoldable pub hex_bytes : Bytes → Bytes
hex_bytes t = let ps : List Bytes = split colon t in ungroup (spread (heads ps) (fulls (rests ps)))

-- dotted decimal
unfoldable pub dotted_bytes : Bytes → Bytes
dotted_bytes t = map (value 10) (split dot t)

-- a text with a dot is that of an IPv4-mapped address, whose decimals stand after "::ffff:"
unfoldable pub ipv6_bytes : Bytes → Bytes
ipv6_bytes t = cond (member dot t) (mapped_start ++ dotted_bytes (drop 7 t)) (hex_bytes t)

-- IPv6 stands in brackets
unfoldable pub address_bytes : Bytes → Bytes
address_bytes t = cond (starts left_bracket t) (ipv6_bytes (upto right_bracket (tail t))) (dotted_bytes t)

-- ---- 6.7

-- 2.6: the numbers are an address
unfoldable pub is_address : Bytes → Bool
is_address a = address_size (length a) && all byte a

-- the address whose text this is
unfoldable pub read_address : Bytes → Option Bytes
read_address t = let a : Bytes = address_bytes t in cond (is_address a && same (address_text a) t) (some a) none
