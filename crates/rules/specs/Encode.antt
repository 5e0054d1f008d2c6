-- RULES 1.1 to 1.8: the transfer form of a reference. RULES 9.3 has it written from components too.
use Rattle.std.specs.Prelude.{ℕ, zero, suc, List, [], ◌∷◌, ◌++◌, map, length}
use Rattle.std.proofs.Math.Option.{Option, none, some}
use Rattle.rules.specs.Bytes.{Bytes, concat}
use Rattle.rules.specs.Head.{head_bytes, Number, Negative, ByteString, Text, Array}
use Rattle.rules.specs.Model.{Scheme, number, name, Host, address, labels, Authority, Opening, discard, discard_all, full, Reference}

-- a text
unfoldable pub text_item : Bytes → Bytes
text_item t = head_bytes Text (length t) ++ t

-- an array of items that are written already
unfoldable pub array_item : List Bytes → Bytes
array_item xs = head_bytes Array (length xs) ++ concat xs

-- an array of texts
unfoldable pub texts_item : List Bytes → Bytes
texts_item ts = array_item (map text_item ts)

-- null
abbrev pub null_item : Bytes
null_item = 0xF6 ∷ []

-- true
abbrev pub true_item : Bytes
true_item = 0xF5 ∷ []

-- the item, or null where it is unset
unfoldable pub or_null : {A : Type 0} → (A → Bytes) → Option A → Bytes
or_null f none = null_item
or_null f (some a) = f a

-- 1.4, 1.5: path, query and fragment; what is unset at the end is left off
unfoldable pub tail_items : Option (List Bytes) → Option (List Bytes) → Option Bytes → List Bytes
tail_items p q (some f) = or_null texts_item p ∷ or_null texts_item q ∷ text_item f ∷ []
tail_items p (some q) none = or_null texts_item p ∷ texts_item q ∷ []
tail_items (some p) none none = texts_item p ∷ []
tail_items none none none = []

-- 1.8: an address or labels, then a port, or none
unfoldable pub port_items : Option ℕ → List Bytes
port_items none = []
port_items (some p) = head_bytes Number p ∷ []

-- 1.8: the items of a host
unfoldable pub host_items : Host Bytes → List Bytes
host_items (address a) = (head_bytes ByteString (length a) ++ a) ∷ []
host_items (labels ts) = map text_item ts

-- 1.8: the array of both
unfoldable pub authority_item : Authority Bytes → Bytes
authority_item a = array_item (host_items a.host ++ port_items a.port)

-- 1.6: a scheme number n is carried as the negative integer -1 - n
unfoldable pub scheme_item : Scheme Bytes → Bytes
scheme_item (number n) = head_bytes Negative n
scheme_item (name t) = text_item t

-- 1.5: the array holding only 0 is written as the empty array
unfoldable pub discard_alone : ℕ → List Bytes
discard_alone zero = []
discard_alone (suc k) = head_bytes Number (suc k) ∷ []

-- 1.2, 1.3 and 9.3: the opening before these other items; no scheme is written as null, a missing authority as null where something follows
unfoldable pub with_opening : Opening Bytes → List Bytes → List Bytes
with_opening (discard k) [] = discard_alone k
with_opening (discard k) (x ∷ xs) = head_bytes Number k ∷ x ∷ xs
with_opening discard_all xs = true_item ∷ xs
with_opening (full s none) [] = or_null scheme_item s ∷ []
with_opening (full s none) (x ∷ xs) = or_null scheme_item s ∷ null_item ∷ x ∷ xs
with_opening (full s (some a)) xs = or_null scheme_item s ∷ authority_item a ∷ xs

-- 1.1: the whole
unfoldable pub encode : Reference → Bytes
encode r = array_item (with_opening r.opening (tail_items r.path r.query r.fragment))
