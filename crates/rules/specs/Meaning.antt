-- What the bytes say, at the positions that the reader found.
use Rattle.std.specs.Prelude.{ℕ, List}
use Rattle.std.proofs.Math.Option.{Option, none, some}
use Rattle.rules.specs.Bytes.{Bytes, part}
use Rattle.rules.specs.Result.{Res, ok, given, ◌>>=◌, BASE}
use Rattle.rules.specs.Model.{Scheme, number, name, Host, address, labels, Authority, Opening, discard, discard_all, full, Span, Components, Reference, map_parts, Limits, Cri, absolute}
use Rattle.rules.specs.Reader.{Slot, unset, set, spans, taken, contents, HostAt, address_at, labels_at, AuthorityAt, SchemeAt, no_scheme, number_at, name_at, OpeningAt, discard_at, discard_all_at, full_at, Found, read}

-- ---- the components: where each text and address stands

-- n bytes from a position on
abbrev pub span : ℕ → ℕ → Span
span at n = record { start = at; length = n }

-- the scheme's number, or where its text stands
abbrev pub scheme_span : SchemeAt → Option (Scheme Span)
scheme_span no_scheme = none
scheme_span (number_at n) = some (number n)
scheme_span (name_at at n) = some (name (span at n))

-- where the address or the labels stand
abbrev pub host_spans : Bytes → HostAt → Host Span
host_spans bs (address_at at n) = address (span at n)
host_spans bs (labels_at at n) = labels (spans bs at n)

-- where the host stands, and the port
abbrev pub authority_spans : Bytes → AuthorityAt → Authority Span
authority_spans bs a = record { host = host_spans bs a.host; port = a.port }

-- the discard, or scheme and authority
abbrev pub opening_spans : Bytes → OpeningAt → Opening Span
opening_spans bs (discard_at k) = discard k
opening_spans bs discard_all_at = discard_all
opening_spans bs (full_at s a) = full (scheme_span s) (some (authority_spans bs a))

-- where the segments or parameters stand
abbrev pub text_spans : Bytes → Slot → Option (List Span)
text_spans bs unset = none
text_spans bs (set at n) = some (spans bs at n)

-- where the fragment stands
abbrev pub text_span : Slot → Option Span
text_span unset = none
text_span (set at n) = some (span at n)

-- 9.5: what reading reports
unfoldable pub components : Bytes → Found → Components
components bs f =
    record {
      opening = opening_spans bs f.opening;
      path = text_spans bs f.path;
      query = text_spans bs f.query;
      fragment = text_span f.fragment;
    }

-- ---- the meaning: their bytes

-- each span replaced by its bytes
unfoldable pub meaning : Bytes → Found → Reference
meaning bs f = map_parts (taken bs) (components bs f)

-- ---- the same, part by part

-- the texts of a path or query, where it is set
abbrev pub said_texts : Bytes → Slot → Option (List Bytes)
said_texts bs unset = none
said_texts bs (set at n) = some (contents bs at n)

-- the text of a fragment, where it is set
abbrev pub said_text : Bytes → Slot → Option Bytes
said_text bs unset = none
said_text bs (set at n) = some (part bs at n)

-- the bytes of the address, or the labels
abbrev pub said_host : Bytes → HostAt → Host Bytes
said_host bs (address_at at n) = address (taken bs (record { start = at; length = n }))
said_host bs (labels_at at n) = labels (contents bs at n)

-- the host, and the port
abbrev pub said_authority : Bytes → AuthorityAt → Authority Bytes
said_authority bs a = record { host = said_host bs a.host; port = a.port }

-- the scheme's number or its text, where it is set
abbrev pub said_scheme : Bytes → SchemeAt → Option (Scheme Bytes)
said_scheme bs no_scheme = none
said_scheme bs (number_at n) = some (number n)
said_scheme bs (name_at at n) = some (name (taken bs (record { start = at; length = n })))

-- the discard, or scheme and authority
abbrev pub said_opening : Bytes → OpeningAt → Opening Bytes
said_opening bs (discard_at k) = discard k
said_opening bs discard_all_at = discard_all
said_opening bs (full_at s a) = full (said_scheme bs s) (some (said_authority bs a))

-- the reference of an opening, a path, a query and a fragment: what `meaning` says of them
abbrev pub said : Bytes → OpeningAt → Slot → Slot → Slot → Reference
said bs o p q f =
    record {
      opening = said_opening bs o;
      path = said_texts bs p;
      query = said_texts bs q;
      fragment = said_text bs f;
    }

-- ---- reading as a reference

-- the reference that an input says, or the reader's refusal
unfoldable pub read_reference : Limits → Bytes → Res Reference
read_reference lim bs = read lim bs >>= λ f. ok (meaning bs f)

-- the CRI that an absolute input says; BASE where it is not absolute
unfoldable pub read_absolute : Limits → Bytes → Res Cri
read_absolute lim bs = read_reference lim bs >>= λ r. given (absolute r) BASE 0
