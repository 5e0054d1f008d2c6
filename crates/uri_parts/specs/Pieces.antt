-- The parts of a URI text, and what is known of where they stand in an accepted input.
use Rattle.std.specs.Prelude.{ℕ, ◌^◌, ◌<◌, List, [], ◌∷◌, length}
use Rattle.std.proofs.Math.Option.{Option, none, some, map}
use Rattle.rules.specs.Bytes.{Bytes, colon, slash, question, hash}
use Rattle.rules.specs.Model.{Scheme, Host, elements}
use Rattle.rules.specs.Reader.{Slot, unset, set, HostAt, address_at, labels_at}
use Rattle.rules.specs.Numeral.{decimal}
use Rattle.rules.specs.Text.{Fragment, escape, marked, scheme_text, host_text, path_text, query_text}
use Rattle.rules.specs.Standing.{RowAt}
use Rattle.addresses.specs.AddressAt.{AddressAt}

-- ---- RULES 6.1: the parts

-- the scheme's name; nothing where there is no scheme
unfoldable pub scheme_piece : Option (Scheme Bytes) → Bytes
scheme_piece none = []
scheme_piece (some s) = scheme_text s

-- the second "/" of "://", and the host
abbrev pub host_piece : Host Bytes → Bytes
host_piece h = slash ∷ host_text h

-- ":" and decimal port if present
abbrev pub port_piece : Option ℕ → Bytes
port_piece p = marked colon (map decimal p)

-- "/" and the segments joined by "/"
abbrev pub path_piece : Option (List Bytes) → Bytes
path_piece p = slash ∷ path_text (elements p)

-- "?" and parameters joined by "&" if a query is set
abbrev pub query_piece : Option (List Bytes) → Bytes
query_piece q = marked question (map query_text q)

-- "#" and the fragment if set
abbrev pub fragment_piece : Option Bytes → Bytes
fragment_piece f = marked hash (map (escape Fragment) f)

-- ---- what is known of the positions

-- an address, or labels
abbrev pub HostPrints : Bytes → HostAt → Type 0
HostPrints bs (address_at at n) = AddressAt bs at n
HostPrints bs (labels_at at n) = RowAt bs at n

-- segments or parameters
abbrev pub TextsPrint : Bytes → Slot → Type 0
TextsPrint bs unset = Unit {0}
TextsPrint bs (set at n) = RowAt bs at n

-- its length is a number of the machine
abbrev pub Short : Bytes → Type 0
Short w = length w < 2 ^ 64
