-- RULES 4: reading. Items from left to right, on positions in the bytes; the first item with a fault decides.
-- Each step touches the bytes only through `read_head` and `read_content`.
use Rattle.std.specs.Prelude.{ℕ, zero, suc, ◌+◌, ◌-◌, Bool, false, ◌&&◌, ◌||◌, not, List, [], ◌∷◌, map, length, ltb, leb, eqb}
use Rattle.std.proofs.Math.Option.{Option, none, some}
use Rattle.rules.specs.Bytes.{Bytes, part, within}
use Rattle.rules.specs.Result.{Res, refused, ok, need, ◌>>=◌, ◌>>◌, when◌then◌else◌, CUT, FORM, LIMIT, TEXT, RULE, TAIL}
use Rattle.rules.specs.Model.{Span, Limits, most_labels, most_parameters}
use Rattle.rules.specs.Utf8.{utf8}
use Rattle.rules.specs.Head.{Kind, Number, Negative, ByteString, Text, Array, True, Null, Other, is, Head, head_at, read_head}
use Rattle.rules.specs.Rules.{Sort, segment, parameter, fragment_text, label, scheme_name, known_scheme, name_rule, address_size}

-- ---- texts

-- the content of the item at a position, whose head has been read
unfoldable pub read_content : Bytes → ℕ → Head → Res Bytes
read_content bs at h = do
  need (leb (h.next + h.value) (length bs)) CUT at
  ok (part bs h.next h.value)

-- 4.3: a text, whose head has been read: its length, content cut, UTF-8, then its rule; the position after it
unfoldable pub text_body : Sort → Bytes → ℕ → Head → Res ℕ
text_body s bs at h = do
  need (within s.low s.high h.value) LIMIT at
  t ← read_content bs at h
  need (utf8 t) TEXT at
  need (s.rule t) RULE at
  ok (h.next + h.value)

-- a text of a sort at a position
unfoldable pub read_text : Sort → Bytes → ℕ → Res ℕ
read_text s bs at = do
  h ← read_head (is Text) bs at
  text_body s bs at h

-- n texts, one after the other; the position after them
unfoldable pub read_row : Sort → Bytes → ℕ → ℕ → Res ℕ
read_row s bs at zero = ok at
read_row s bs at (suc n) = do
  next ← read_text s bs at
  read_row s bs next n

-- ---- what stands at a position, if an item does

-- the span of its content
abbrev pub span_at : Bytes → ℕ → Span
span_at bs at = record { start = (head_at bs at).next; length = (head_at bs at).value }

-- where the item at a position ends
abbrev pub end_at : Bytes → ℕ → ℕ
end_at bs at = (head_at bs at).next + (head_at bs at).value

-- the spans of n items, one after the other
unfoldable pub spans : Bytes → ℕ → ℕ → List Span
spans bs at zero = []
spans bs at (suc n) = span_at bs at ∷ spans bs (end_at bs at) n

-- the bytes of a span
abbrev pub taken : Bytes → Span → Bytes
taken bs s = part bs s.start s.length

-- the content of the item that stands at a position
abbrev pub content_at : Bytes → ℕ → Bytes
content_at bs at = taken bs (span_at bs at)

-- the contents of n items, one after the other
unfoldable pub contents : Bytes → ℕ → ℕ → List Bytes
contents bs at n = map (taken bs) (spans bs at n)

-- ---- path, query, fragment

-- unset; or set, with the position of the first of its texts and their count (of a fragment: the position of its bytes and their count)
pub data Slot : Type 0 where
  unset : Slot
  set : ℕ → ℕ → Slot

-- a slot, and the position after its item
pub record SlotAt : Type 0 where
  pub slot : Slot
  pub next : ℕ

-- 4.6: null means unset, and is never the last item: `left` items stand after it
unfoldable pub null_body : ℕ → ℕ → Head → Res SlotAt
null_body at left h = do
  need (not (eqb left 0)) FORM at
  ok (record { slot = unset; next = h.next })

-- 2.2, 2.3: an array of low to high texts, whose head has been read
unfoldable pub array_body : Sort → ℕ → ℕ → Bytes → ℕ → Head → Res SlotAt
array_body s low high bs at h = do
  need (within low high h.value) LIMIT at
  next ← read_row s bs h.next h.value
  ok (record { slot = set h.next h.value; next = next })

-- an array of low to high texts, or null, or nothing where no item is left
unfoldable pub read_array : Sort → ℕ → ℕ → Bytes → ℕ → ℕ → Res SlotAt
read_array s low high bs at zero = ok (record { slot = unset; next = at })
read_array s low high bs at (suc left) = do
  h ← read_head (λ k. is Array k || is Null k) bs at
  when is Null h.kind then null_body at left h else array_body s low high bs at h

-- a fragment, whose head has been read
unfoldable pub fragment_body : Bytes → ℕ → Head → Res SlotAt
fragment_body bs at h = do
  next ← text_body fragment_text bs at h
  ok (record { slot = set h.next h.value; next = next })

-- a text, or null, or nothing where no item is left
unfoldable pub read_fragment : Bytes → ℕ → ℕ → Res SlotAt
read_fragment bs at zero = ok (record { slot = unset; next = at })
read_fragment bs at (suc left) = do
  h ← read_head (λ k. is Text k || is Null k) bs at
  when is Null h.kind then null_body at left h else fragment_body bs at h

-- ---- authority

-- the position of an address's bytes and their count; or of the first label, and the count of labels
pub data HostAt : Type 0 where
  address_at : ℕ → ℕ → HostAt
  labels_at : ℕ → ℕ → HostAt

-- its first byte, its host and port, and the position after it
pub record AuthorityAt : Type 0 where
  pub at : ℕ
  pub host : HostAt
  pub port : Option ℕ
  pub next : ℕ

-- what stands after a host's first item: how many labels in all, the port, and the position after it
pub record Names : Type 0 where
  pub count : ℕ
  pub port : Option ℕ
  pub next : ℕ

-- 4.7: nothing may stand after the port
unfoldable pub read_nothing : Bytes → ℕ → ℕ → Res ℕ
read_nothing bs at zero = ok at
read_nothing bs at (suc left) = do
  h ← read_head (λ k. false) bs at
  refused FORM at

-- 2.6: a port, whose head has been read, after `count` labels
unfoldable pub port_body : Bytes → ℕ → ℕ → ℕ → Head → Res Names
port_body bs at left count h = do
  need (leb h.value 65535) LIMIT at
  next ← read_nothing bs h.next left
  ok (record { count = count; port = some h.value; next = next })

-- 4.7: after an address a port, or nothing
unfoldable pub read_port : Bytes → ℕ → ℕ → Res Names
read_port bs at zero = ok (record { count = 0; port = none; next = at })
read_port bs at (suc left) = do
  h ← read_head (is Number) bs at
  port_body bs at left 0 h

-- 4.7: the n-th label, from 0; a ninth is over the limit
unfoldable pub label_body : ℕ → Bytes → ℕ → Head → Res ℕ
label_body n bs at h = do
  need (ltb n most_labels) LIMIT at
  text_body label bs at h

-- after n labels: a label, a port, or nothing
unfoldable pub read_names : Bytes → ℕ → ℕ → ℕ → Res Names
read_names bs at zero n = ok (record { count = n; port = none; next = at })
read_names bs at (suc left) n = do
  h ← read_head (λ k. is Text k || is Number k) bs at
  when is Text h.kind then (label_body n bs at h >>= λ next. read_names bs next left (suc n)) else port_body bs at left n h

-- 2.6: an address has 4 or 16 bytes
unfoldable pub address_host : Bytes → ℕ → ℕ → ℕ → Head → Res AuthorityAt
address_host bs start at left h = do
  need (address_size h.value) LIMIT at
  a ← read_content bs at h
  p ← read_port bs (h.next + h.value) left
  ok (record { at = start; host = address_at h.next h.value; port = p.port; next = p.next })

-- 4.8: the rules over all labels come after the last authority item, at the authority's first byte
unfoldable pub labels_host : Bytes → ℕ → ℕ → ℕ → Head → Res AuthorityAt
labels_host bs start at left h = do
  next ← label_body 0 bs at h
  p ← read_names bs next left 1
  need (name_rule (contents bs at p.count)) RULE start
  ok (record { at = start; host = labels_at at p.count; port = p.port; next = p.next })

-- 2.6: an array of 1 to 9 items: an address or labels, then an optional port
unfoldable pub read_authority : Bytes → ℕ → Res AuthorityAt
read_authority bs at = do
  a ← read_head (is Array) bs at
  need (within 1 9 a.value) LIMIT at
  h ← read_head (λ k. is ByteString k || is Text k) bs a.next
  when is Text h.kind then labels_host bs at a.next (a.value - 1) h else address_host bs at a.next (a.value - 1) h

-- ---- the opening

-- the scheme's number, or the position of its bytes and their count
pub data SchemeAt : Type 0 where
  no_scheme : SchemeAt
  number_at : ℕ → SchemeAt
  name_at : ℕ → ℕ → SchemeAt

-- 1.2, 1.3: what an opening says, or where it stands
pub data OpeningAt : Type 0 where
  discard_at : ℕ → OpeningAt
  discard_all_at : OpeningAt
  full_at : SchemeAt → AuthorityAt → OpeningAt

-- the opening, the position after it, and how many items are left
pub record Opened : Type 0 where
  pub opening : OpeningAt
  pub next : ℕ
  pub left : ℕ

-- 4.5: a scheme needs a second item, the authority
unfoldable pub after_scheme : Bytes → ℕ → ℕ → SchemeAt → ℕ → Res Opened
after_scheme bs at count s next = do
  need (leb 2 count) FORM at
  a ← read_authority bs next
  ok (record { opening = full_at s a; next = a.next; left = count - 2 })

-- 4.5: the opening item, the first of `count` items, and after its own checks the rules on their number
unfoldable pub opening_body : Bytes → ℕ → ℕ → Head → Kind → Res Opened
opening_body bs at count h Number = do
  need (leb h.value 127) LIMIT at
  need (leb count 4) FORM at
  need (not (eqb count 1 && eqb h.value 0)) FORM at
  ok (record { opening = discard_at h.value; next = h.next; left = count - 1 })
opening_body bs at count h Negative = do
  need (known_scheme h.value) RULE at
  after_scheme bs at count (number_at h.value) h.next
opening_body bs at count h ByteString = refused FORM at
opening_body bs at count h Text = do
  next ← text_body scheme_name bs at h
  after_scheme bs at count (name_at h.next h.value) next
opening_body bs at count h Array = refused FORM at
opening_body bs at count h True = do
  need (leb count 4) FORM at
  ok (record { opening = discard_all_at; next = h.next; left = count - 1 })
opening_body bs at count h Null = after_scheme bs at count no_scheme h.next
opening_body bs at count h Other = refused FORM at

-- the kinds that an opening item may have
abbrev pub opens : Kind → Bool
opens k = is Number k || is Negative k || is Text k || is True k || is Null k

-- 1.5: the empty array is the array of only 0
unfoldable pub read_opening : Bytes → ℕ → ℕ → Res Opened
read_opening bs at zero = ok (record { opening = discard_at 0; next = at; left = 0 })
read_opening bs at (suc n) = do
  h ← read_head opens bs at
  opening_body bs at (suc n) h h.kind

-- ---- the whole: 4.1, the outer array and 4.4, the items, 4.9

-- where everything stands
pub record Found : Type 0 where
  pub opening : OpeningAt
  pub path : Slot
  pub query : Slot
  pub fragment : Slot

-- 4.10: the place of an input that is too long is the largest size
unfoldable pub read : Limits → Bytes → Res Found
read lim bs = do
  need (leb (length bs) lim.bytes) LIMIT lim.bytes
  a ← read_head (is Array) bs 0
  need (leb a.value 5) FORM 0
  o ← read_opening bs a.next a.value
  p ← read_array segment 0 lim.segments bs o.next o.left
  q ← read_array parameter 1 most_parameters bs p.next (o.left - 1)
  f ← read_fragment bs q.next (o.left - 2)
  need (leb (length bs) f.next) TAIL f.next
  ok (record { opening = o.opening; path = p.slot; query = q.slot; fragment = f.slot })
