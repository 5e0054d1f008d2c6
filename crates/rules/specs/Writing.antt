-- RULES 9: what writing from components asks of them.
use Rattle.std.specs.Prelude.{◌+◌, ◌^◌, ◌<◌, ◌≡◌, Bool, true, ◌&&◌, List, [], ◌∷◌, ◌++◌, length, leb}
use Rattle.std.proofs.Math.Option.{Option, none, some}
use Rattle.rules.specs.Bytes.{Bytes, all}
use Rattle.rules.specs.Result.{Res, refused, ok}
use Rattle.rules.specs.Model.{Scheme, number, name, Host, address, labels, Opening, discard, discard_all, full, Parts, Span, Components, Limits, elements, most_labels, most_parameters}
use Rattle.rules.specs.Valid.{If}

-- ---- the texts and addresses of the parts of a reference

-- the labels of a host
abbrev pub labels_of : {A : Type 0} → Host A → List A
labels_of (address a) = []
labels_of (labels ts) = ts

-- the address or the labels of a host
abbrev pub host_texts : {A : Type 0} → Host A → List A
host_texts (address a) = a ∷ []
host_texts (labels ts) = ts

-- the text of a scheme, where it has one
abbrev pub scheme_texts : {A : Type 0} → Scheme A → List A
scheme_texts (number n) = []
scheme_texts (name t) = t ∷ []

-- the same of what may be unset
abbrev pub where_set : {A B : Type 0} → (A → List B) → Option A → List B
where_set f none = []
where_set f (some a) = f a

-- the texts and addresses of an opening
abbrev pub opening_texts : {A : Type 0} → Opening A → List A
opening_texts (discard k) = []
opening_texts discard_all = []
opening_texts (full s a) = where_set scheme_texts s ++ where_set (λ a. host_texts a.host) a

-- the labels of an opening
abbrev pub opening_labels : {A : Type 0} → Opening A → List A
opening_labels (discard k) = []
opening_labels discard_all = []
opening_labels (full s a) = where_set (λ a. labels_of a.host) a

-- every text and address
abbrev pub all_texts : {A : Type 0} → Parts A → List A
all_texts c = opening_texts c.opening ++ elements c.path ++ elements c.query ++ where_set (λ t. t ∷ []) c.fragment

-- ---- writing

-- 9.1: discard, port and scheme number are 64 bits wide

-- of a scheme
abbrev pub SizedScheme : {A : Type 0} → Scheme A → Type 0
SizedScheme (number n) = n < 2 ^ 64
SizedScheme (name t) = Unit {0}

-- of an opening
abbrev pub SizedOpening : {A : Type 0} → Opening A → Type 0
SizedOpening (discard k) = k < 2 ^ 64
SizedOpening discard_all = Unit {0}
SizedOpening (full s a) = If SizedScheme s × If (λ a. If (λ p. p < 2 ^ 64) a.port) a

-- of components
abbrev pub Sized : Components → Type 0
Sized c = SizedOpening c.opening

-- 9.2: no count is over its size
unfoldable pub counted : Limits → Components → Bool
counted lim c =
    leb (length (opening_labels c.opening)) most_labels
    && (leb (length (elements c.path)) lim.segments && leb (length (elements c.query)) most_parameters)

-- 9.2: a span lies inside the lent bytes
unfoldable pub inside : Bytes → Span → Bool
inside lent s = leb (s.start + s.length) (length lent)

-- these spans do
abbrev pub Lie : Bytes → List Span → Type 0
Lie lent ts = all (inside lent) ts ≡ true

-- a refusal of bytes that the call made up itself has no place in an input
abbrev pub placeless : {A : Type 0} → Res A → Res A
placeless (refused n k) = refused n 0
placeless (ok a) = ok a
