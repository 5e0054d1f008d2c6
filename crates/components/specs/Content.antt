-- What this crate's structs and an array of numbers say, in the terms of the rules, for any values that they may hold.
use Rattle.std.specs.Prelude as P
use Rattle.std.specs.Prelude.{Some, None, ℕ, zero, suc, ◌+◌, ◌*◌, List, [], ◌∷◌, get_or, drop}
use Rattle.std.proofs.Math.Option.{Option}
use Rattle.rules.specs.Model as Model
use Rattle.rules.specs.Model.{limits, most_labels, most_parameters}
use Rattle.rules.specs.Code.{option_is}
use Rattle.cbor.specs.declared.Span.{Span}
use Rattle.cbor.specs.Heads.{span_is}
use Rattle.reader.specs.declared.Scheme.{Scheme}
use Rattle.reader.specs.declared.Scheme.TheVariants as SchemeV
use Rattle.reader.specs.Answers.{port_of}
use Rattle.components.specs.declared.Host.{Host}
use Rattle.components.specs.declared.Host.TheVariants as HostV
use Rattle.components.specs.declared.Authority.{Authority}
use Rattle.components.specs.declared.Opening.{Opening}
use Rattle.components.specs.declared.Opening.TheVariants as OpeningV
use Rattle.components.specs.declared.Components.{Components}

-- the k-th span, counted from 0
abbrev pub numbered_span : List ℕ → ℕ → Model.Span
numbered_span xs k = record { start = get_or xs (2 * k) 0; length = get_or xs (2 * k + 1) 0 }

-- n spans, start and length of each; beyond the numbers there are zeros, so that a count over them is still that count
unfoldable pub spans_of : ℕ → List ℕ → List Model.Span
spans_of zero xs = []
spans_of (suc n) xs = numbered_span xs 0 ∷ spans_of n (drop 2 xs)

-- a scheme's number, or where its text stands
abbrev pub scheme_said : Scheme → Model.Scheme Model.Span
scheme_said (SchemeV.Number n) = Model.number n
scheme_said (SchemeV.Name t) = Model.name (span_is t)

abbrev pub scheme_of : P.Option Scheme → Option (Model.Scheme Model.Span)
scheme_of = option_is scheme_said

-- an address, or labels; the numbers begin with those of the labels
abbrev pub host_of : List ℕ → Host → Model.Host Model.Span
host_of xs (HostV.Address a) = Model.address (span_is a)
host_of xs (HostV.Labels n) = Model.labels (spans_of n xs)

-- the host and its port
abbrev pub authority_of : List ℕ → P.Option Authority → Option (Model.Authority Model.Span)
authority_of xs = option_is (λ a. record { host = host_of xs a.host; port = port_of a.port })

-- the discard, or scheme and authority
abbrev pub opening_of : List ℕ → Opening → Model.Opening Model.Span
opening_of xs (OpeningV.Discard k) = Model.discard k
opening_of xs OpeningV.DiscardAll = Model.discard_all
opening_of xs (OpeningV.Full s a) = Model.full (scheme_of s) (authority_of xs a)

-- a path or a query; the numbers begin with those of its texts
abbrev pub texts_of : List ℕ → P.Option ℕ → Option (List Model.Span)
texts_of xs = option_is (λ n. spans_of n xs)

-- where the fragment stands
abbrev pub fragment_of : P.Option Span → Option Model.Span
fragment_of = option_is span_is

-- ---- the texts that stand in the array: labels, then segments, then parameters

-- how many numbers the array has
abbrev pub most_numbers : ℕ
most_numbers = 2 * (most_labels + limits.segments + most_parameters)

-- how many labels a host has
abbrev pub labels_in : Host → ℕ
labels_in (HostV.Address a) = 0
labels_in (HostV.Labels n) = n

-- how many labels an authority has
abbrev pub host_count : P.Option Authority → ℕ
host_count None = 0
host_count (Some a) = labels_in a.host

-- how many labels an opening has
abbrev pub label_count : Opening → ℕ
label_count (OpeningV.Discard k) = 0
label_count OpeningV.DiscardAll = 0
label_count (OpeningV.Full s a) = host_count a

-- how many texts a path or a query has
abbrev pub text_count : P.Option ℕ → ℕ
text_count None = 0
text_count (Some n) = n

-- the place of the first segment
abbrev pub path_place : Components → ℕ
path_place c = 2 * label_count c.opening

-- the place of the first parameter
abbrev pub query_place : Components → ℕ
query_place c = path_place c + 2 * text_count c.path

-- all of them
abbrev pub components_of : List ℕ → Components → Model.Components
components_of xs c =
    record {
      opening = opening_of xs c.opening;
      path = texts_of (drop (path_place c) xs) c.path;
      query = texts_of (drop (query_place c) xs) c.query;
      fragment = fragment_of c.fragment;
    }
