-- The items of an encoding (rules, specs/Encode) as they are added one after the other, and the texts in them.
use Rattle.std.specs.Prelude.{ℕ, zero, suc, List, [], ◌∷◌, ◌++◌, map, length}
use Rattle.std.proofs.Math.Option.{Option, none, some}
use Rattle.rules.specs.Bytes.{Bytes, concat}
use Rattle.rules.specs.Head.{Kind, Number, head_bytes}
use Rattle.rules.specs.Model.{Authority, Opening, discard, discard_all, full, Span, Parts, Reference, map_parts, elements}
use Rattle.rules.specs.Reader.{taken}
use Rattle.rules.specs.Encode.{text_item, null_item, true_item, or_null, authority_item, scheme_item, discard_alone, tail_items}
use Rattle.rules.specs.Writing.{where_set}
use Rattle.components.specs.declared.Components.{Components}
use Rattle.components.specs.Content.{components_of}

-- ---- the texts and addresses of items

-- one
abbrev pub one_text : {A : Type 0} → A → List A
one_text t = t ∷ []

-- those of a path, a query and a fragment
abbrev pub tail_texts : {A : Type 0} → Parts A → List A
tail_texts c = elements c.path ++ elements c.query ++ where_set one_text c.fragment

-- ---- items

-- the reference that components and their spans say, with the bytes
abbrev pub said_by : Bytes → List ℕ → Components → Reference
said_by lent xs c = map_parts (taken lent) (components_of xs c)

-- its items after the opening
abbrev pub tail_of : Reference → List Bytes
tail_of r = tail_items r.path r.query r.fragment

-- a text or a byte string
unfoldable pub string_item : Kind → Bytes → Bytes
string_item k t = head_bytes k (length t) ++ t

-- texts, one after the other
unfoldable pub text_items : Bytes → List Span → Bytes
text_items lent ts = concat (map text_item (map (taken lent) ts))

-- 9.3: an authority before n further items
unfoldable pub authority_items : Option (Authority Bytes) → ℕ → List Bytes
authority_items none zero = []
authority_items none (suc n) = null_item ∷ []
authority_items (some a) n = authority_item a ∷ []

-- 1.5: a discard before n further items
unfoldable pub discard_items : ℕ → ℕ → List Bytes
discard_items k zero = discard_alone k
discard_items k (suc n) = head_bytes Number k ∷ []

-- 1.2, 1.3, 9.3: an opening before n further items
unfoldable pub opening_items : Opening Bytes → ℕ → List Bytes
opening_items (discard k) n = discard_items k n
opening_items discard_all n = true_item ∷ []
opening_items (full s a) n = or_null scheme_item s ∷ authority_items a n

-- 1.5: a fragment at the end
unfoldable pub fragment_items : Option Bytes → List Bytes
fragment_items none = []
fragment_items (some f) = text_item f ∷ []
