-- What the answers on heads say, in the terms of the rules.
use Rattle.std.specs.Prelude.{ℕ, ◌+◌, Bool, false, cond, length, leb, ltb, eqb}
use Rattle.rules.specs.Bytes.{Bytes, part}
use Rattle.rules.specs.Result.{Res, refused, ok, need, ◌>>◌, CUT, HEAD}
use Rattle.rules.specs.Head as H
use Rattle.rules.specs.Model as Model
use Rattle.cbor.specs.declared.Kind.{Kind}
use Rattle.cbor.specs.declared.Kind.TheVariants as KindV
use Rattle.cbor.specs.declared.Kinds.{Kinds}
use Rattle.cbor.specs.declared.Head.{Head}
use Rattle.cbor.specs.declared.Span.{Span}

abbrev pub kind_is : Kind → H.Kind
kind_is KindV.Number = H.Number
kind_is KindV.Negative = H.Negative
kind_is KindV.ByteString = H.ByteString
kind_is KindV.Text = H.Text
kind_is KindV.Array = H.Array
kind_is KindV.True = H.True
kind_is KindV.Null = H.Null
kind_is KindV.Other = H.Other

-- the kinds that are allowed, as a test
abbrev pub allows : Kinds → H.Kind → Bool
allows a H.Number = a.number
allows a H.Negative = a.negative
allows a H.ByteString = a.byte_string
allows a H.Text = a.text
allows a H.Array = a.array
allows a H.True = a.yes
allows a H.Null = a.null
allows a H.Other = false

-- a head of this kind and number, and the position after it
abbrev pub accepted : H.Kind → ℕ → ℕ → Res H.Head
accepted k v next = ok (record { kind = k; value = v; next = next })

-- what was read of a head
abbrev pub head_is : Head → H.Head
head_is h = record { kind = kind_is h.kind; value = h.value; next = h.next }

-- where content stands
abbrev pub span_is : Span → Model.Span
span_is s = record { start = s.start; length = s.length }

-- the least number that needs a head with the head information i, 24 to 27
unfoldable pub least_of : ℕ → ℕ
least_of i = cond (eqb i 24) 24 (cond (eqb i 25) 256 (cond (eqb i 26) 65536 4294967296))

-- the last step of `read_head`: the head information i is that of the shortest head
unfoldable pub if_shortest : H.Kind → ℕ → ℕ → ℕ → ℕ → Res H.Head
if_shortest k v i next at = do
  need (eqb (H.shortest v) i) HEAD at
  accepted k v next

-- the steps of `read_head` after the kind, for the head information i
unfoldable pub read_argument : H.Kind → ℕ → Bytes → ℕ → Res H.Head
read_argument k i bs at = do
  need (ltb i 28) HEAD at
  need (leb (at + 1 + H.width i) (length bs)) CUT at
  if_shortest k (H.value_from i (part bs (at + 1) (H.width i))) i (at + 1 + H.width i) at
