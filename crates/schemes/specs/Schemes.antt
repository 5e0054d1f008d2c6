-- RULES 1.6: a scheme number n is carried as the negative integer -1 - n, which is `negsuc n`. What the code says of
-- the table's entries.
use Rattle.std.specs.Prelude as P
use Rattle.std.specs.Prelude.{Some, None, ℕ, ◌+◌, ◌≤◌, ◌^◌, ◌≡◌, Bool, false, cond, ℤ, pos, negsuc, length, ltb}
use Rattle.std.proofs.Math.Option.{Option, none, some, map}
use Rattle.rules.specs.Bytes.{Bytes, any, same}
use Rattle.rules.specs.Rules.{SchemeEntry, schemes, scheme_in, known_scheme}
use Rattle.schemes.specs.declared.Entry.{Entry}

-- ---- scheme ids

-- an integer below 0
abbrev pub Below : ℤ → Type 0
Below (pos n) = ⊥
Below (negsuc n) = Unit {0}

-- the integer that carries a scheme number, if 64 bits hold it
abbrev pub scheme_id : ℕ → P.Option ℤ
scheme_id n = cond (ltb n (2 ^ 63)) (Some (negsuc n)) None

-- the scheme number that an integer carries
abbrev pub scheme_number : ℤ → P.Option ℕ
scheme_number (pos n) = None
scheme_number (negsuc n) = Some n

-- ---- the table

-- the entry of the number that an integer carries
abbrev pub entry_of : ℤ → Option SchemeEntry
entry_of (pos n) = none
entry_of (negsuc n) = scheme_in schemes n

-- what the code says of an entry: its name and its default port
abbrev pub EntryIs : Option SchemeEntry → P.Option Entry → Type 0
EntryIs none None = Unit {0}
EntryIs none (Some r) = ⊥
EntryIs (some e) None = ⊥
EntryIs (some e) (Some r) = (r.name.now ≡ e.name) × (r.port ≡ e.port)

-- ---- what is asked of it

-- the integer carries a number of the table
abbrev pub known_id : ℤ → Bool
known_id (pos n) = false
known_id (negsuc n) = known_scheme n

-- RULES 1.6: the default port of a scheme number
unfoldable pub default_port : ℕ → Option ℕ
default_port n = map (λ (e : SchemeEntry). e.port) (scheme_in schemes n)

-- the text is the name of an entry
abbrev pub same_name : Bytes → Option SchemeEntry → Bool
same_name t none = false
same_name t (some e) = same t e.name

-- the text is a name of the table
unfoldable pub known_name : Bytes → Bool
known_name t = any (λ (e : SchemeEntry). same t e.name) schemes
