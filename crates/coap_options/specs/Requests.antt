-- The options of what was read, piece by piece as they are written, and what is known of where they stand in an accepted input.
use Rattle.std.specs.Prelude.{ℕ, ◌-◌, ◌≤◌, ◌<◌, ◌≡◌, Bool, cond, [], ◌++◌, map, length}
use Rattle.std.proofs.Math.Option.{Option, none, some, get_or}
use Rattle.rules.specs.Bytes.{Bytes}
use Rattle.rules.specs.Result.{Res, refused, ok, BASE, COAP}
use Rattle.rules.specs.Model.{limits, elements, normal_path}
use Rattle.rules.specs.Reader.{contents, Slot, unset, set, HostAt, address_at, labels_at, AuthorityAt, no_scheme, number_at, name_at, OpeningAt, discard_at, discard_all_at, full_at, Found}
use Rattle.rules.specs.Meaning.{said_texts, said_host}
use Rattle.rules.specs.Valid.{GoodPort}
use Rattle.rules.specs.Options.{option, uri_host, uri_port, option_bytes, options_from}
use Rattle.rules.specs.Standing.{RowAt}
use Rattle.coap_coding.specs.Coded.{Small, AllSmall, coded}
use Rattle.schemes.specs.Schemes.{default_port}
use Rattle.coap_values.specs.Values.{HostAsks, TextsAsk, value_is, SmallValue}
use Rattle.coap_options.specs.declared.Request.{Request}
use Rattle.coap_options.specs.declared.Deltas.{Deltas}

-- ---- RULES 3.5, 7: what the call answers, by what was found

-- 7: the options of a request that has this host, port, path and query
unfoldable pub options_at : Bytes → HostAt → ℕ → Slot → Slot → Bytes → ℕ → Bytes
options_at bs host port path query to_address to_port =
    options_from 0
    (uri_host (said_host bs host) to_address
    ++ uri_port port to_port
    ++ map (option 11) (normal_path (elements (said_texts bs path)))
    ++ map (option 15) (elements (said_texts bs query)))

-- 3.5: 11 where there is no default port, which the six schemes have, or a fragment is set
unfoldable pub default_answer : Option ℕ → Slot → (ℕ → Bytes) → Res Bytes
default_answer none fragment w = refused COAP 0
default_answer (some d) (set at n) w = refused COAP 0
default_answer (some d) unset w = ok (w d)

-- 7.2: the port, or else the default
abbrev pub number_answer : Bytes → ℕ → AuthorityAt → Found → Bytes → ℕ → Res Bytes
number_answer bs n a f to_address to_port =
    default_answer (default_port n) f.fragment (λ (d : ℕ). options_at bs a.host (get_or a.port d) f.path f.query to_address to_port)

-- 3.5: 8 where it is not absolute, 11 where the scheme is a text
abbrev pub opening_answer : Bytes → OpeningAt → Found → Bytes → ℕ → Res Bytes
opening_answer bs (discard_at k) f to_address to_port = refused BASE 0
opening_answer bs discard_all_at f to_address to_port = refused BASE 0
opening_answer bs (full_at no_scheme a) f to_address to_port = refused BASE 0
opening_answer bs (full_at (number_at n) a) f to_address to_port = number_answer bs n a f to_address to_port
opening_answer bs (full_at (name_at at n) a) f to_address to_port = refused COAP 0

-- ---- what is known of the positions

-- a host of labels has one
abbrev pub HasLabel : HostAt → Type 0
HasLabel (address_at at n) = Unit {0}
HasLabel (labels_at at n) = 0 < n

-- of host and port
abbrev pub AuthorityAsks : Bytes → AuthorityAt → Type 0
AuthorityAsks bs a = (HostAsks bs a.host × HasLabel a.host) × GoodPort a.port

-- where there are any
abbrev pub OpeningAsks : Bytes → OpeningAt → Type 0
OpeningAsks bs (discard_at k) = Unit {0}
OpeningAsks bs discard_all_at = Unit {0}
OpeningAsks bs (full_at s a) = AuthorityAsks bs a

-- and of the whole
pub record Asks (bs : Bytes) (f : Found) : Type 0 where
  pub size : length bs ≤ limits.bytes
  pub opening : OpeningAsks bs f.opening
  pub path : TextsAsk bs f.path
  pub query : TextsAsk bs f.query

-- ---- RULES 7.6: the coding, piece by piece

-- an option, if it is set
abbrev pub value_coded : ℕ → Option Bytes → Bytes
value_coded delta none = []
value_coded delta (some v) = option_bytes delta v

-- the number of the last option: this one, if there is an option of it, else the one before
abbrev pub number_after : ℕ → ℕ → Bool → ℕ
number_after before number any = cond any number before

-- the difference of each number from the one before, where Uri-Host is set or not (h), Uri-Port is (p), and there are segments or none (s)
pub record DeltasAre (h p s : Bool) (d : Deltas) : Type 0 where
  pub port : d.port ≡ 7 - number_after 0 3 h
  pub path : d.path ≡ 11 - number_after (number_after 0 3 h) 7 p
  pub query : d.query ≡ 15 - number_after (number_after (number_after 0 3 h) 7 p) 11 s

-- the two values, and the texts of an input
abbrev pub pieces_at : Bytes → Request → Deltas → Bytes
pieces_at bs r d =
    value_coded 3 (value_is r.host)
    ++ (value_coded d.port (value_is r.port)
    ++ (coded d.path (contents bs r.path.at r.path.count)
    ++ coded d.query (contents bs r.query.at r.query.count)))

-- what is known of a request's values and texts
pub record Stands (bs : Bytes) (r : Request) : Type 0 where
  pub host : SmallValue r.host
  pub port : SmallValue r.port
  pub path : RowAt bs r.path.at r.path.count × AllSmall (contents bs r.path.at r.path.count)
  pub query : RowAt bs r.query.at r.query.count × AllSmall (contents bs r.query.at r.query.count)

-- each needs one byte after its nibble at most
pub record DeltasSmall (d : Deltas) : Type 0 where
  pub port : Small d.port
  pub path : Small d.path
  pub query : Small d.query
