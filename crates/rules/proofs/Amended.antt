-- What the amended rule on labels takes away.
use Prim.Native.Nat.{ℕ}
use mathlib.Core.Path.{◌≡◌, refl}
use mathlib.Core.Bool.{true, ◌&&◌, not}
use mathlib.Core.List.{List, [], ◌∷◌}
use mathlib.Core.Option.{none, some}
use lib.Dec.{eqb}
use Rattle.rules.specs.Bytes.{Bytes, dot, Each, all}
use Rattle.rules.specs.Model.{Host, address, labels, Opening, discard, discard_all, full, Reference, Limits}
use Rattle.rules.specs.Rules.{upper, label_byte, label_rule, label}
use Rattle.rules.specs.Valid.{Good, HostBy, OpeningBy, GoodHost, GoodOpening, Valid}
use Rattle.rules.specs.Writing.{labels_of, opening_labels}
use Rattle.rules.specs.Amended.{earlier_byte, earlier_label, EarlierValid, no_bracket, NoBrackets}
use Rattle.rules.proofs.Tools.{by_test, and_left, and_right}

-- of one byte
byte_both : (b : ℕ) → label_byte b ≡ (earlier_byte b && no_bracket b)
unfolding label_byte earlier_byte
byte_both b = by_test (λ t. (not t && (not (upper b) && no_bracket b)) ≡ ((not t && not (upper b)) && no_bracket b)) (eqb b dot) (λ _. refl) (λ _. refl)

-- of a text
text_earlier : (t : Bytes) → label_rule t ≡ true → (all earlier_byte t ≡ true) × (all no_bracket t ≡ true)
unfolding label_rule all
text_earlier [] e = (refl, refl)
text_earlier (b ∷ t) e =
    let first : (earlier_byte b && no_bracket b) ≡ true = rw (byte_both b) at (and_left (label_byte b) (all label_byte t) e) in
    let rest = text_earlier t (and_right (label_byte b) (all label_byte t) e) in
    (rw (and_left (earlier_byte b) (no_bracket b) first, rest.0), rw (and_right (earlier_byte b) (no_bracket b) first, rest.1))

text_later : (t : Bytes) → all earlier_byte t ≡ true → all no_bracket t ≡ true → label_rule t ≡ true
unfolding label_rule all
text_later [] e f = refl
text_later (b ∷ t) e f =
    rw (
      byte_both b,
      and_left (earlier_byte b) (all earlier_byte t) e,
      and_left (no_bracket b) (all no_bracket t) f,
      text_later t (and_right (earlier_byte b) (all earlier_byte t) e) (and_right (no_bracket b) (all no_bracket t) f),
    )

-- of labels
texts_earlier : (ts : List Bytes) → Each (Good label) ts → Each (Good earlier_label) ts × Each (λ t. all no_bracket t ≡ true) ts
texts_earlier [] g = (tt, tt)
texts_earlier (t ∷ ts) g =
    let one = text_earlier t g.0.rule in
    let rest = texts_earlier ts g.1 in
    ((record { size = g.0.size; encoded = g.0.encoded; rule = one.0 }, rest.0), (one.1, rest.1))

texts_later : (ts : List Bytes) → Each (Good earlier_label) ts → Each (λ t. all no_bracket t ≡ true) ts → Each (Good label) ts
texts_later [] g h = tt
texts_later (t ∷ ts) g h =
    (record { size = g.0.size; encoded = g.0.encoded; rule = text_later t g.0.rule h.0 }, texts_later ts g.1 h.1)

-- of a host
host_earlier : (h : Host Bytes) → GoodHost h → HostBy earlier_label h × Each (λ t. all no_bracket t ≡ true) (labels_of h)
host_earlier (address a) g = (g, tt)
host_earlier (labels ts) g =
    let both = texts_earlier ts g.texts.each in
    (record { texts = record { count = g.texts.count; each = both.0 }; name = g.name }, both.1)

host_later : (h : Host Bytes) → HostBy earlier_label h → Each (λ t. all no_bracket t ≡ true) (labels_of h) → GoodHost h
host_later (address a) g n = g
host_later (labels ts) g n =
    record { texts = record { count = g.texts.count; each = texts_later ts g.texts.each n }; name = g.name }

-- of an opening
opening_earlier : (o : Opening Bytes) → GoodOpening o → OpeningBy earlier_label o × Each (λ t. all no_bracket t ≡ true) (opening_labels o)
opening_earlier (discard k) g = (g, tt)
opening_earlier discard_all g = (tt, tt)
opening_earlier (full s none) g = absurd g
opening_earlier (full s (some a)) g =
    let both = host_earlier a.host g.1.host in
    ((g.0, record { host = both.0; port = g.1.port }), both.1)

opening_later : (o : Opening Bytes) → OpeningBy earlier_label o → Each (λ t. all no_bracket t ≡ true) (opening_labels o) → GoodOpening o
opening_later (discard k) g n = g
opening_later discard_all g n = tt
opening_later (full s none) g n = absurd g
opening_later (full s (some a)) g n = (g.0, record { host = host_later a.host g.1.host n; port = g.1.port })

-- of a reference
pub valid_earlier : (lim : Limits) (r : Reference) → Valid lim r → EarlierValid lim r × NoBrackets r
valid_earlier lim r v =
    let both = opening_earlier r.opening v.opening in
    (record { opening = both.0; path = v.path; query = v.query; fragment = v.fragment; size = v.size }, both.1)

pub earlier_valid : (lim : Limits) (r : Reference) → EarlierValid lim r → NoBrackets r → Valid lim r
earlier_valid lim r v n =
    record { opening = opening_later r.opening v.opening n; path = v.path; query = v.query; fragment = v.fragment; size = v.size }
