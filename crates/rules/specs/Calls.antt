-- RULES 3: what each public call answers: a refusal with its number and place, or what it gives; and every byte of the room that it writes into.
use Rattle.std.specs.Prelude.{ℕ, Bool, true, false, cond, ◌++◌, length, drop, ltb}
use Rattle.std.proofs.Math.Option.{Option, none, some}
use Rattle.rules.specs.Bytes.{Bytes, all}
use Rattle.rules.specs.Result.{Res, refused, ok, need, given, ◌>>=◌, ◌>>◌, LIMIT, RESULT, ROOM, COAP, DEST}
use Rattle.rules.specs.Model.{Limits, Components, map_parts, reference}
use Rattle.rules.specs.Rules.{address_size}
use Rattle.rules.specs.Reader.{taken, read}
use Rattle.rules.specs.Meaning.{components, read_reference, read_absolute}
use Rattle.rules.specs.Encode.{encode}
use Rattle.rules.specs.Resolve.{as_base, resolve, fits}
use Rattle.rules.specs.Text.{uri_text}
use Rattle.rules.specs.Options.{options, options_from, coap_scheme}
use Rattle.rules.specs.Writing.{all_texts, counted, inside, placeless}

-- ---- 3.1: an answer in numbers

-- a done call has the number 0
abbrev pub number_of : {A : Type 0} → Res A → ℕ
number_of (refused n k) = n
number_of (ok a) = 0

-- and the place 0
abbrev pub place_of : {A : Type 0} → Res A → ℕ
place_of (refused n k) = k
place_of (ok a) = 0

-- a refused call has the length 0
abbrev pub length_of : Res ℕ → ℕ
length_of (refused n k) = 0
length_of (ok m) = m

-- ---- a call whose output is to be written into a room

-- 3.1, 3.7: the answer for a room of n bytes: a refusal, or the length written
unfoldable pub outcome : Res Bytes → ℕ → Res ℕ
outcome (refused m k) n = refused m k
outcome (ok w) n = cond (ltb n (length w)) (refused ROOM 0) (ok (length w))

-- 3.1: the room after the call: untouched by a refusal, and past the length written
unfoldable pub after : Res Bytes → Bytes → Bytes
after (refused m k) room = room
after (ok w) room = cond (ltb (length room) (length w)) room (w ++ drop (length w) room)

-- ---- the calls, and the output of those that write: 3.8 has the places; 10 comes last, in `outcome`

-- 9.5: 1 to 7, or the components
unfoldable pub read_call : Limits → Bytes → Res Components
read_call lim bs = read lim bs >>= λ f. ok (components bs f)

-- 3.3: 8 for the base, then the reference's 1 to 7, then 9
unfoldable pub resolve_call : Limits → Bytes → Bytes → Res Bytes
resolve_call lim base ref = do
  b ← as_base (read_absolute lim base)
  r ← read_reference lim ref
  need (fits lim (resolve b r)) RESULT 0
  ok (encode (reference (resolve b r)))

-- 3.4: 1 to 7, then 8 if not absolute
unfoldable pub text_call : Limits → Bytes → Res Bytes
text_call lim bs = read_absolute lim bs >>= λ c. ok (uri_text c)

-- it is not set
abbrev pub absent : {A : Type 0} → Option A → Bool
absent none = true
absent (some a) = false

-- 3.5: 12, then 1 to 7, then 8 if not absolute, then 11
unfoldable pub options_call : Limits → Bytes → Bytes → ℕ → Res Bytes
options_call lim bs to_address to_port = do
  need (address_size (length to_address)) DEST 0
  c ← read_absolute lim bs
  s ← given (coap_scheme c.scheme) COAP 0
  need (absent c.fragment) COAP 0
  ok (options_from 0 (options c s to_address to_port))

-- 9.2: 4; 9.3: then the number that the reader has for the encoding
unfoldable pub write_call : Limits → Components → Bytes → Res Bytes
write_call lim c lent = do
  need (counted lim c) LIMIT 0
  need (all (inside lent) (all_texts c)) LIMIT 0
  placeless (read lim (encode (map_parts (taken lent) c)))
  ok (encode (map_parts (taken lent) c))
