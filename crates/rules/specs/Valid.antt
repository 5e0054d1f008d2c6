-- References that keep the rules and the sizes, said of what they hold and not of how they are read.
use Rattle.std.specs.Prelude.{ℕ, ◌≤◌, ◌≡◌, true, List, length}
use Rattle.std.proofs.Math.Option.{Option, none, some}
use Rattle.rules.specs.Bytes.{Bytes, Each, Octets, within}
use Rattle.rules.specs.Model.{Scheme, number, name, Host, address, labels, Authority, Opening, discard, discard_all, full, Reference, Limits, most_labels, most_parameters}
use Rattle.rules.specs.Utf8.{utf8}
use Rattle.rules.specs.Rules.{Sort, scheme_name, label, segment, parameter, fragment_text, known_scheme, name_rule, address_size}
use Rattle.rules.specs.Encode.{encode}

-- a statement of what is set
abbrev pub If : {A : Type 0} → (A → Type 0) → Option A → Type 0
If P none = Unit {0}
If P (some a) = P a

-- a text that keeps its sort's size and rule, and is UTF-8
pub record Good (s : Sort) (t : Bytes) : Type 0 where
  pub size : within s.low s.high (length t) ≡ true
  pub encoded : utf8 t ≡ true
  pub rule : s.rule t ≡ true

-- low to high texts of a sort
pub record GoodTexts (s : Sort) (low high : ℕ) (ts : List Bytes) : Type 0 where
  pub count : within low high (length ts) ≡ true
  pub each : Each (Good s) ts

-- 2.6: an address of 4 or 16 bytes
pub record GoodAddress (a : Bytes) : Type 0 where
  pub size : address_size (length a) ≡ true
  pub octets : Octets a

-- From here on l is the sort of labels: `label`, or that of a rule which was amended (Amended).

-- 2.5: 1 to `most_labels` labels, and the rules over all of them
pub record LabelsBy (l : Sort) (ts : List Bytes) : Type 0 where
  pub texts : GoodTexts l 1 most_labels ts
  pub name : name_rule ts ≡ true

-- 1.8: an address or labels
abbrev pub HostBy : Sort → Host Bytes → Type 0
HostBy l (address a) = GoodAddress a
HostBy l (labels ts) = LabelsBy l ts

-- 2.6: a port up to 65535, or none
abbrev pub GoodPort : Option ℕ → Type 0
GoodPort = If (λ p. p ≤ 65535)

-- 1.8, 2.6: a host, and a port up to 65535
pub record AuthorityBy (l : Sort) (a : Authority Bytes) : Type 0 where
  pub host : HostBy l a.host
  pub port : GoodPort a.port

-- 1.6, 1.7: a number of the table, or a text
abbrev pub GoodScheme : Scheme Bytes → Type 0
GoodScheme (number n) = known_scheme n ≡ true
GoodScheme (name t) = Good scheme_name t

-- 1.2, 1.3: a discard up to 127; beside a scheme, or none, an authority is required
abbrev pub OpeningBy : Sort → Opening Bytes → Type 0
OpeningBy l (discard k) = k ≤ 127
OpeningBy l discard_all = Unit {0}
OpeningBy l (full s none) = ⊥
OpeningBy l (full s (some a)) = If GoodScheme s × AuthorityBy l a

-- a reference that keeps the rules, and whose encoding is not too long
pub record ValidBy (l : Sort) (lim : Limits) (r : Reference) : Type 0 where
  pub opening : OpeningBy l r.opening
  pub path : If (GoodTexts segment 0 lim.segments) r.path
  pub query : If (GoodTexts parameter 1 most_parameters) r.query
  pub fragment : If (Good fragment_text) r.fragment
  pub size : length (encode r) ≤ lim.bytes

-- ---- the rules in force

-- labels
abbrev pub GoodLabels : List Bytes → Type 0
GoodLabels = LabelsBy label

-- a host
abbrev pub GoodHost : Host Bytes → Type 0
GoodHost = HostBy label

-- an authority
abbrev pub GoodAuthority : Authority Bytes → Type 0
GoodAuthority = AuthorityBy label

-- an opening
abbrev pub GoodOpening : Opening Bytes → Type 0
GoodOpening = OpeningBy label

-- a reference
abbrev pub Valid : Limits → Reference → Type 0
Valid = ValidBy label
