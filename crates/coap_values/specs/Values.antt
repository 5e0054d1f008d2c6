-- The values of a request's options, what is known of where they stand in an accepted input, and what the code's answers say of them.
use Rattle.std.specs.Prelude.{ℕ, ◌≤◌, ◌<◌, ◌≡◌, cond, List, ◌∷◌, map, length, eqb, IfSome}
use Rattle.std.specs.Prelude as Code
use Rattle.std.specs.Borrow.{Bor}
use Rattle.std.proofs.Math.Option.{Option, none, some}
use Rattle.rules.specs.Bytes.{Bytes, part, dot, same, join}
use Rattle.rules.specs.Model.{Host, address, labels}
use Rattle.rules.specs.Address.{address_text}
use Rattle.rules.specs.Options.{port_bytes}
use Rattle.rules.specs.Code.{option_is}
use Rattle.rules.specs.Reader.{contents, Slot, unset, set, HostAt, address_at, labels_at}
use Rattle.rules.specs.Standing.{RowAt}
use Rattle.addresses.specs.AddressAt.{AddressAt}
use Rattle.coap_coding.specs.Coded.{Small, AllSmall}

-- ---- the values of options that a request has at most once; none where it has no such option

-- RULES 7.1: the joined labels, or the host's URI form if the address differs from the destination's
unfoldable pub host_value : Host Bytes → Bytes → Option Bytes
host_value (labels ls) to_address = some (join dot ls)
host_value (address a) to_address = cond (same a to_address) none (some (address_text a))

-- RULES 7.2: a port that differs from the destination's
unfoldable pub port_value : ℕ → ℕ → Option Bytes
port_value port to_port = cond (eqb port to_port) none (some (port_bytes port))

-- ---- what is known of the positions

-- an address of 4 or 16 bytes, or labels, and at most 255 bytes in the option's value
abbrev pub HostAsks : Bytes → HostAt → Type 0
HostAsks bs (address_at at n) = AddressAt bs at n × (length (address_text (part bs at n)) ≤ 255)
HostAsks bs (labels_at at n) = RowAt bs at n × (length (join dot (contents bs at n)) ≤ 255)

-- segments or parameters
abbrev pub TextsAsk : Bytes → Slot → Type 0
TextsAsk bs unset = Unit {0}
TextsAsk bs (set at n) = RowAt bs at n × AllSmall (contents bs at n)

-- ---- what the answers say

-- the value, where there is one
abbrev pub value_is : Code.Option (Bor Bytes) → Option Bytes
value_is = option_is (λ (b : Bor Bytes). b.now)

-- its length needs one byte after its nibble at most
abbrev pub SmallValue : Code.Option (Bor Bytes) → Type 0
SmallValue v = IfSome v (λ (b : Bor Bytes). Small (length b.now))

-- the value that was made as the first bytes of a room, by its length
abbrev pub value_in : Bytes → Code.Option ℕ → Option Bytes
value_in room = option_is (part room 0)

-- it lies in the room
abbrev pub Inside : Bytes → Code.Option ℕ → Type 0
Inside room made = IfSome made (λ (n : ℕ). n ≤ length room)

-- the room holds the value v at its start
pub record Valued (room : Bytes) (made : Code.Option ℕ) (v : Option Bytes) : Type 0 where
  pub says : value_in room made ≡ v
  pub inside : Inside room made
  pub small : IfSome made (λ (n : ℕ). Small n)

-- the texts ts stand in a row
pub record RowOf (bs : Bytes) (at n : ℕ) (ts : List Bytes) : Type 0 where
  pub says : contents bs at n ≡ ts
  pub stand : RowAt bs at n
  pub small : AllSmall (contents bs at n)
