-- The text of an address, in the pieces that the code writes.
use Prim.Native.Nat.{ℕ, ◌+◌, ◌*◌, ◌≤◌}
use native.Mathlib.Omega.{arith}
use mathlib.Core.Path.{◌≡◌, refl, ap}
use mathlib.Core.List.{[], ◌∷◌, ◌++◌, map}
use lib.ListN.{length, get_or, drop, length-append}
use Rattle.rules.specs.Bytes.{Bytes, Octets, dot, concat, join}
use Rattle.rules.specs.Numeral.{decimal}
use Rattle.rules.specs.Address.{ipv4_text}
use Rattle.rules.proofs.Numerals.{decimal_length}
use Rattle.rules.proofs.TextBound.{ipv4_length}
use Rattle.put.specs.Joined.{further}
use Rattle.put.proofs.Joined.{joined}

-- the first byte, and the others each after a "."
pub ipv4_pieces : (bs : Bytes) → length bs ≡ 4 → ipv4_text bs ≡ decimal (get_or bs 0 0) ++ further dot decimal (drop 1 bs)
unfolding ipv4_text
ipv4_pieces [] e = absurd (omega arith)
ipv4_pieces (b ∷ bs) e = joined dot decimal b bs

-- the digits of all bytes
abbrev pub digits : Bytes → Bytes
digits bs = concat (map decimal bs)

pub digits_none : digits [] ≡ []
unfolding concat
digits_none = refl

pub digits_step : (b : ℕ) (bs : Bytes) → digits (b ∷ bs) ≡ decimal b ++ digits bs
unfolding concat
digits_step b bs = refl

pub digits_most : (bs : Bytes) → length (digits bs) ≤ 5 * length bs
digits_most [] = omega (arith, ap length digits_none)
digits_most (b ∷ bs) = omega (arith, ap length (digits_step b bs), length-append (decimal b) (digits bs), decimal_length b, digits_most bs)

-- how long it is
pub ipv4_lengths : (bs : Bytes) → length bs ≡ 4 → length (ipv4_text bs) ≡ length (digits bs) + 3
unfolding ipv4_text join concat
ipv4_lengths (a ∷ b ∷ c ∷ d ∷ []) e = simp length-append (omega arith)
ipv4_lengths [] e = absurd (omega arith)
ipv4_lengths (a ∷ []) e = absurd (omega arith)
ipv4_lengths (a ∷ b ∷ []) e = absurd (omega arith)
ipv4_lengths (a ∷ b ∷ c ∷ []) e = absurd (omega arith)
ipv4_lengths (a ∷ b ∷ c ∷ d ∷ x ∷ bs) e = absurd (omega arith)

-- how long it is at most
pub ipv4_fits : (bs : Bytes) → length bs ≡ 4 → Octets bs → length (ipv4_text bs) ≤ 15
unfolding ipv4_text
ipv4_fits bs e o = omega (arith, ipv4_length bs o)
