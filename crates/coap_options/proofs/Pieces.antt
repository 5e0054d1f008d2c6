-- The pieces that are written are the coding of the options, and how long they are.
use Prim.Native.Nat.{ℕ, ◌+◌, ◌-◌, ◌≤◌}
use native.Mathlib.Nat.{sub_self}
use native.Mathlib.Omega.{arith}
use Rattle.std.specs.Prelude as Code
use Rattle.std.specs.Prelude.{is_some}
use Rattle.std.specs.Borrow.{Bor}
use mathlib.Core.Path.{◌≡◌, refl, sym, ap, ◌∙◌}
use mathlib.Core.Bool.{Bool, true, false, cond}
use mathlib.Core.List.{List, [], ◌∷◌, ◌++◌, map, append_assoc, append-nil}
use mathlib.Core.Option.{Option, none, some}
use lib.ListN.{length, length-append}
use lib.Dec.{ltb, eqb}
use borrow.Author.Tests.{lt-ltb}
use Rattle.rules.specs.Bytes.{Bytes, same}
use Rattle.rules.specs.Model.{Host, address, labels, elements, normal_path}
use Rattle.rules.specs.Address.{address_text}
use Rattle.rules.specs.Options.{CoapOption, option, uri_host, port_bytes, uri_port, option_bytes, options_from}
use Rattle.rules.specs.Reader.{contents, Slot, HostAt}
use Rattle.rules.specs.Meaning.{said_texts, said_host}
use Rattle.rules.proofs.Tools.{by_test}
use Rattle.rules.proofs.Texts.{length_contents}
use Rattle.coap_coding.specs.Coded.{Small, coded}
use Rattle.coap_coding.proofs.Coded.{option_most}
use Rattle.coap_values.specs.Values.{host_value, port_value, value_is, SmallValue, RowOf}
use Rattle.coap_options.specs.Requests.{options_at, value_coded, number_after, DeltasAre, pieces_at, Stands, DeltasSmall}
use Rattle.coap_options.specs.declared.Request.{Request}
use Rattle.coap_options.specs.declared.Deltas.{Deltas}

-- ---- the numbers

after_most : (r b n : ℕ) (t : Bool) → r ≡ number_after b n t → b ≤ n → r ≤ n
after_most r b n true e h = omega arith
after_most r b n false e h = omega arith

pub numbers_most : (x y z : Bool) (a b c : ℕ) → a ≡ number_after 0 3 x → b ≡ number_after a 7 y → c ≡ number_after b 11 z → (a ≤ 7) × (b ≤ 11) × (c ≤ 15)
numbers_most x y z a b c i j k =
    let l : a ≤ 3 = after_most a 0 3 x i (omega arith) in
    let m : b ≤ 7 = after_most b a 7 y j (omega arith) in
    let n : c ≤ 11 = after_most c b 11 z k (omega arith) in
    (omega arith, omega arith, omega arith)

pub deltas_are : {h p s x y z : Bool} {a b c : ℕ} → x ≡ h → a ≡ number_after 0 3 x → y ≡ p → b ≡ number_after a 7 y → z ≡ s → c ≡ number_after b 11 z
    → DeltasAre h p s (record { port = 7 - a; path = 11 - b; query = 15 - c })
deltas_are i j k l m n = record { port = cc; path = cc; query = cc }

deltas_small : {h p s : Bool} {d : Deltas} → DeltasAre h p s d → DeltasSmall d
deltas_small i = record { port = omega arith; path = omega arith; query = omega arith }

-- ---- an option that is set or not

pub value_most : (d : ℕ) (v : Code.Option (Bor Bytes)) → Small d → SmallValue v → length (value_coded d (value_is v)) ≤ 271
value_most d Code.None s t = omega arith
value_most d (Code.Some v) s t = omega (arith, option_most d v.now s t)

-- ---- all of them

pub pieces_sum : (bs : Bytes) (r : Request) (d : Deltas)
    → length (pieces_at bs r d)
    ≡ length (value_coded 3 (value_is r.host)) + length (value_coded d.port (value_is r.port)) + length (coded d.path (contents bs r.path.at r.path.count)) + length (coded d.query (contents bs r.query.at r.query.count))
pieces_sum bs r d =
    let h : Bytes = value_coded 3 (value_is r.host) in
    let p : Bytes = value_coded d.port (value_is r.port) in
    let s : Bytes = coded d.path (contents bs r.path.at r.path.count) in
    let q : Bytes = coded d.query (contents bs r.query.at r.query.count) in
    omega (arith, length-append h (p ++ (s ++ q)), length-append p (s ++ q), length-append s q)

-- a value as an option of a number, if it is set
abbrev one : ℕ → Option Bytes → List CoapOption
one n none = []
one n (some v) = option n v ∷ []

-- whether it is set
abbrev present : Option Bytes → Bool
present none = false
present (some v) = true

-- whether there is a text
abbrev any_text : List Bytes → Bool
any_text ts = ltb 0 (length ts)

-- before other options
one_from : (b n : ℕ) (v : Option Bytes) (os : List CoapOption) → value_coded (n - b) v ++ options_from (number_after b n (present v)) os ≡ options_from b (one n v ++ os)
unfolding options_from
one_from b n none os = refl
one_from b n (some v) os = refl

same_from : (n : ℕ) (ts : List Bytes) (os : List CoapOption) → coded 0 ts ++ options_from n os ≡ options_from n (map (option n) ts ++ os)
unfolding options_from coded
same_from n [] os = refl
same_from n (t ∷ ts) os = append_assoc (option_bytes 0 t) (coded 0 ts) (options_from n os) ∙ rw (sub_self n, same_from n ts os)

texts_from : (b n : ℕ) (ts : List Bytes) (os : List CoapOption) → coded (n - b) ts ++ options_from (number_after b n (any_text ts)) os ≡ options_from b (map (option n) ts ++ os)
unfolding options_from coded
texts_from b n [] os = refl
texts_from b n (t ∷ ts) os =
    rw (lt-ltb 0 (length (t ∷ ts)) (omega arith)) (append_assoc (option_bytes (n - b) t) (coded 0 ts) (options_from n os) ∙ rw (same_from n ts os))

-- the four sorts of options
all_from : (h p : Option Bytes) (ss qs : List Bytes) → let a = number_after 0 3 (present h) in let b = number_after a 7 (present p) in let c = number_after b 11 (any_text ss) in
    value_coded 3 h ++ (value_coded (7 - a) p ++ (coded (11 - b) ss ++ coded (15 - c) qs))
    ≡ options_from 0 (one 3 h ++ one 7 p ++ map (option 11) ss ++ map (option 15) qs)
unfolding options_from
all_from h p ss qs =
    let a : ℕ = number_after 0 3 (present h) in
    let b : ℕ = number_after a 7 (present p) in
    let c : ℕ = number_after b 11 (any_text ss) in
    let S : List CoapOption = map (option 11) ss in
    let Q : List CoapOption = map (option 15) qs in
    let query : coded (15 - c) qs ≡ options_from c Q = sym (append-nil (coded (15 - c) qs)) ∙ texts_from c 15 qs [] ∙ ap (options_from c) (append-nil Q) in
    let path : coded (11 - b) ss ++ coded (15 - c) qs ≡ options_from b (S ++ Q) = rw query (texts_from b 11 ss Q) in
    let port : value_coded (7 - a) p ++ (coded (11 - b) ss ++ coded (15 - c) qs) ≡ options_from a (one 7 p ++ (S ++ Q)) = rw path (one_from a 7 p (S ++ Q)) in
    rw port (one_from 0 3 h (one 7 p ++ (S ++ Q)))
    ∙ ap (options_from 0) (sym (append_assoc (one 3 h) (one 7 p) (S ++ Q)) ∙ sym (append_assoc (one 3 h ++ one 7 p) S Q))

host_one : (h : Host Bytes) (to_address : Bytes) → one 3 (host_value h to_address) ≡ uri_host h to_address
unfolding host_value uri_host
host_one (labels ls) to_address = refl
host_one (address a) to_address = by_test (λ t. one 3 (cond t none (some (address_text a))) ≡ cond t [] (option 3 (address_text a) ∷ [])) (same a to_address) (λ e. refl) (λ e. refl)

port_one : (p to_port : ℕ) → one 7 (port_value p to_port) ≡ uri_port p to_port
unfolding port_value uri_port
port_one p to_port = by_test (λ t. one 7 (cond t none (some (port_bytes p))) ≡ cond t [] (option 7 (port_bytes p) ∷ [])) (eqb p to_port) (λ e. refl) (λ e. refl)

set_present : (v : Code.Option (Bor Bytes)) → is_some v ≡ present (value_is v)
set_present Code.None = refl
set_present (Code.Some v) = refl

-- ---- a request whose values and texts were found

-- what measuring and writing it ask, and that its pieces are w
pub record Known (bs : Bytes) (r : Request) (d : Deltas) (w : Bytes) : Type 0 where
  pub stands : Stands bs r
  pub small : DeltasSmall d
  pub pieces : pieces_at bs r d ≡ w

module _ (bs : Bytes) (r : Request) (d : Deltas) (is : DeltasAre (is_some r.host) (is_some r.port) (ltb 0 r.path.count) d) where
  pieces_from : let S = contents bs r.path.at r.path.count in let Q = contents bs r.query.at r.query.count in
      pieces_at bs r d ≡ options_from 0 (one 3 (value_is r.host) ++ one 7 (value_is r.port) ++ map (option 11) S ++ map (option 15) Q)
  pieces_from =
      let n : r.path.count ≡ length (contents bs r.path.at r.path.count) = sym (length_contents bs r.path.at r.path.count) in
      rw (is.port, is.path, is.query, set_present r.host, set_present r.port, ap (ltb 0) n)
      (all_from (value_is r.host) (value_is r.port) (contents bs r.path.at r.path.count) (contents bs r.query.at r.query.count))

  module _ (host : HostAt) (port : ℕ) (path query : Slot) (to_address : Bytes) (to_port : ℕ)
      (h : value_is r.host ≡ host_value (said_host bs host) to_address) (h' : SmallValue r.host)
      (p : value_is r.port ≡ port_value port to_port) (p' : SmallValue r.port)
      (s : RowOf bs r.path.at r.path.count (normal_path (elements (said_texts bs path)))) (q : RowOf bs r.query.at r.query.count (elements (said_texts bs query))) where
    pieces_are : pieces_at bs r d ≡ options_at bs host port path query to_address to_port
    unfolding options_at
    pieces_are = pieces_from ∙ rw (h, p, s.says, q.says, host_one (said_host bs host) to_address, port_one port to_port)

    pub known : Known bs r d (options_at bs host port path query to_address to_port)
    known =
        record {
          stands = record { host = h'; port = p'; path = (s.stand, s.small); query = (q.stand, q.small) };
          small = deltas_small is;
          pieces = pieces_are;
        }
