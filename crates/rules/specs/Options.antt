-- RULES 7: the CoAP options of a request for a CRI (RFC 7252, section 3.1).
use Rattle.std.specs.Prelude.{ℕ, zero, suc, ◌+◌, ◌*◌, ◌-◌, ◌/◌, ◌%◌, ◌≤◌, cond, ◌&&◌, List, [], ◌∷◌, ◌++◌, map, length, take, drop, leb, ltb, eqb}
use Rattle.std.proofs.Math.Option.{Option, none, some, get_or, bind as ◌>>=◌}
use Rattle.rules.specs.Bytes.{Bytes, Each, Octets, dot, same, join}
use Rattle.rules.specs.Model.{Scheme, number, name, Host, address, labels, Cri, elements, normal_path}
use Rattle.rules.specs.Rules.{SchemeEntry, schemes, scheme_in}
use Rattle.rules.specs.Address.{address_text}

-- an option: its number and its value
pub record CoapOption : Type 0 where
  pub number : ℕ
  pub value : Bytes

-- the option of a number and a value
abbrev pub option : ℕ → Bytes → CoapOption
option n v = record { number = n; value = v }

-- 7.1 Uri-Host (3): the joined labels, or the host's URI form if the address differs from the destination's
unfoldable pub uri_host : Host Bytes → Bytes → List CoapOption
uri_host (labels ls) to_address = option 3 (join dot ls) ∷ []
uri_host (address a) to_address = cond (same a to_address) [] (option 3 (address_text a) ∷ [])

-- 7.2: big-endian without leading zero bytes, so port 0 has no bytes
unfoldable pub port_bytes : ℕ → Bytes
port_bytes p = cond (eqb p 0) [] (cond (ltb p 256) (p ∷ []) (p / 256 ∷ p % 256 ∷ []))

-- 7.2 Uri-Port (7): if the CRI's port, or else the scheme's default, differs from the destination's
unfoldable pub uri_port : ℕ → ℕ → List CoapOption
uri_port port to_port = cond (eqb port to_port) [] (option 7 (port_bytes port) ∷ [])

-- 7.3, 7.4: Uri-Path (11) for each segment, none for a path of one empty segment; Uri-Query (15) for each parameter
unfoldable pub options : Cri → SchemeEntry → Bytes → ℕ → List CoapOption
options c s to_address to_port =
    uri_host c.authority.host to_address
    ++ uri_port (get_or c.authority.port s.port) to_port
    ++ map (option 11) (normal_path c.path)
    ++ map (option 15) (elements c.query)

-- ---- 7.6: the coding

-- a delta or a length below 13 stands in its nibble; else 13 and one byte more, or 14 and two
unfoldable pub nibble : ℕ → ℕ
nibble n = cond (ltb n 13) n (cond (ltb n 269) 13 14)

-- the bytes that follow the nibbles
unfoldable pub extension : ℕ → Bytes
extension n = cond (ltb n 13) [] (cond (ltb n 269) ((n - 13) ∷ []) ((n - 269) / 256 ∷ (n - 269) % 256 ∷ []))

-- an option whose number is `delta` over the one before
unfoldable pub option_bytes : ℕ → Bytes → Bytes
option_bytes delta value =
    (nibble delta * 16 + nibble (length value)) ∷ (extension delta ++ extension (length value) ++ value)

-- each option's number is given by its difference from the one before
unfoldable pub options_from : ℕ → List CoapOption → Bytes
options_from before [] = []
options_from before (o ∷ os) = option_bytes (o.number - before) o.value ++ options_from o.number os

-- the scheme's entry, if it is one of the six
abbrev pub coap_scheme : Scheme Bytes → Option SchemeEntry
coap_scheme (number n) = scheme_in schemes n
coap_scheme (name t) = none

-- ---- 7.7: the coding, read back; none is a fault

-- a number that was read, and the bytes after it
pub record Extended : Type 0 where
  pub number : ℕ
  pub rest : Bytes

-- n is read, and these bytes are left
abbrev pub reads : ℕ → Bytes → Option Extended
reads n bs = some (record { number = n; rest = bs })

-- one byte more, the number less 13; a cut extension is a fault
unfoldable pub one_byte_more : Bytes → Option Extended
one_byte_more [] = none
one_byte_more (a ∷ bs) = reads (a + 13) bs

-- two bytes more, the number less 269, the highest byte first
unfoldable pub two_bytes_more : Bytes → Option Extended
two_bytes_more [] = none
two_bytes_more (a ∷ []) = none
two_bytes_more (a ∷ b ∷ bs) = reads (a * 256 + b + 269) bs

-- what a nibble says with the bytes after it: below 13 itself; 13 has one byte more, 14 has two, and 15 is a fault
unfoldable pub extended : ℕ → Bytes → Option Extended
extended n bs = cond (ltb n 13) (reads n bs) (cond (eqb n 13) (one_byte_more bs) (cond (eqb n 14) (two_bytes_more bs) none))

-- an option that was read, and the bytes after it
pub record OptionAt : Type 0 where
  pub option : CoapOption
  pub rest : Bytes

-- the option of number n whose value is the first `size` bytes; a number over 65535 and a cut value are faults
unfoldable pub option_at : ℕ → ℕ → Bytes → Option OptionAt
option_at n size bs =
    cond (leb n 65535 && leb size (length bs)) (some (record { option = option n (take size bs); rest = drop size bs })) none

-- the option whose first byte is b, after one with the number `before`: the delta's extension comes first, then the length's
unfoldable pub read_option : ℕ → ℕ → Bytes → Option OptionAt
read_option before b bs = do
  delta ← extended (b / 16) bs
  size ← extended (b % 16) delta.rest
  option_at (before + delta.number) size.number size.rest

-- at most n options, up to the end of the bytes
unfoldable pub read_options_from : ℕ → ℕ → Bytes → Option (List CoapOption)
read_options_from zero before [] = some []
read_options_from zero before (b ∷ bs) = none
read_options_from (suc n) before [] = some []
read_options_from (suc n) before (b ∷ bs) = do
  o ← read_option before b bs
  os ← read_options_from n o.option.number o.rest
  some (o.option ∷ os)

-- the options that bytes code; each takes one byte at least
unfoldable pub read_options : Bytes → Option (List CoapOption)
read_options bs = read_options_from (length bs) 0 bs

-- the numbers never fall, from `before` on
abbrev pub Rising : ℕ → List CoapOption → Type 0
Rising before [] = Unit {0}
Rising before (o ∷ os) = (before ≤ o.number) × Rising o.number os

-- a number of 16 bits, and a value that is made of bytes and whose length two extension bytes can give: 65535 + 269 at most
pub record GoodOption (o : CoapOption) : Type 0 where
  pub number : o.number ≤ 65535
  pub size : length o.value ≤ 65804
  pub octets : Octets o.value

-- options that 7.6 can code
pub record Codable (os : List CoapOption) : Type 0 where
  pub rising : Rising 0 os
  pub each : Each GoodOption os
