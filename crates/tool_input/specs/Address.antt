-- What a word says as an address: IPv6 with a colon, dotted with a dot, else hex.
use Rattle.std.specs.Prelude.{ℕ, ◌≡◌, ◌-◌, ◌⊎◌, Bool, cond, ◌&&◌, Result, Ok, Err, length, get_or, take, drop, eqb, leb}
use Rattle.std.specs.List.{list_any}
use Rattle.std.specs.Net.Addr.{ipv4_octets, ipv6_octets}
use Rattle.std.specs.Net.Grammar.{IsIpv4Text, IsIpv6Text}
use Rattle.std.specs.declared.net.ipv4_addr.Ipv4Addr.{Ipv4Addr}
use Rattle.std.specs.declared.net.ipv6_addr.Ipv6Addr.{Ipv6Addr}
use Rattle.std.proofs.lemmas.List.Edits.{sets}
use Rattle.rules.specs.Bytes.{Bytes}
use Rattle.words.specs.declared.HexError.{HexError}
use Rattle.tool_input.specs.declared.address.AddressError.{AddressError}
use Rattle.tool_input.specs.declared.address.AddressError.TheVariants as AddressErrorV

-- the word has this byte
unfoldable pub has : ℕ → Bytes → Bool
has c w = list_any (λ b. eqb b c) w

-- the word begins with "[" and ends with "]"
unfoldable pub is_bracketed : Bytes → Bool
is_bracketed w = leb 2 (length w) && (eqb (get_or w 0 0) 0x5B && eqb (get_or w (length w - 1) 0) 0x5D)

-- what stands in brackets, if the word has them
unfoldable pub without_brackets : Bytes → Bytes
without_brackets w = cond (is_bracketed w) (drop 1 (take (length w - 1) w)) w

-- the 16 bytes of the IPv6 address that the text writes (RFC 4291, section 2.2), or a refusal where it writes none
abbrev pub ReadsIpv6 : Bytes → Bytes → Result ℕ AddressError → Bytes → Type 0
ReadsIpv6 text room r after =
    ((a : Ipv6Addr) × IsIpv6Text text a × (r ≡ Ok 16) × (after ≡ ipv6_octets a))
    ⊎ (((a : Ipv6Addr) → ¬ (IsIpv6Text text a)) × (r ≡ Err AddressErrorV.NotIpv6) × (after ≡ room))

-- the same at the start of a room that may be longer
abbrev pub PutsIpv6 : Bytes → Bytes → Result ℕ AddressError → Bytes → Type 0
PutsIpv6 text room r after =
    ((a : Ipv6Addr) × IsIpv6Text text a × (r ≡ Ok 16) × (after ≡ sets room 0 (ipv6_octets a)))
    ⊎ (((a : Ipv6Addr) → ¬ (IsIpv6Text text a)) × (r ≡ Err AddressErrorV.NotIpv6) × (after ≡ room))

-- the 4 bytes of the dotted address that the text writes, at the start of the room, or a refusal where it writes none
abbrev pub ReadsDotted : Bytes → Bytes → Result ℕ AddressError → Bytes → Type 0
ReadsDotted text room r after =
    ((a : Ipv4Addr) × IsIpv4Text text a × (r ≡ Ok 4) × (after ≡ sets room 0 (ipv4_octets a)))
    ⊎ (((a : Ipv4Addr) → ¬ (IsIpv4Text text a)) × (r ≡ Err AddressErrorV.NotDotted) × (after ≡ room))

-- the outcome of hex, as that of an address
abbrev pub as_address : Result ℕ HexError → Result ℕ AddressError
as_address (Ok n) = Ok n
as_address (Err e) = Err (AddressErrorV.Hex e)
