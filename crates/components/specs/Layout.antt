-- How the components of the rules are laid out in this crate's structs, and in the array that is lent for the spans of texts.
use Rattle.std.specs.Prelude as P
use Rattle.std.specs.Prelude.{ℕ, List, [], ◌∷◌, ◌++◌, length, drop}
use Rattle.std.proofs.Math.Option.{Option}
use Rattle.rules.specs.Code.{option_laid}
use Rattle.rules.specs.Bytes.{Bytes}
use Rattle.rules.specs.Result.{Res, refused, ok}
use Rattle.rules.specs.Model as Model
use Rattle.rules.specs.Model.{elements}
use Rattle.rules.specs.Reader.{Slot, unset, set}
use Rattle.rules.specs.Writing.{opening_labels}
use Rattle.rules.specs.Standing.{RowAt}
use Rattle.cbor.specs.declared.Span.{Span}
use Rattle.reader.specs.declared.Scheme.{Scheme}
use Rattle.reader.specs.declared.Scheme.TheVariants as SchemeV
use Rattle.components.specs.declared.Host.{Host}
use Rattle.components.specs.declared.Host.TheVariants as HostV
use Rattle.components.specs.declared.Authority.{Authority}
use Rattle.components.specs.declared.Opening.{Opening}
use Rattle.components.specs.declared.Opening.TheVariants as OpeningV
use Rattle.components.specs.declared.Components.{Components}

-- where a text or an address stands
abbrev pub span_laid : Model.Span → Span
span_laid s = record { start = s.start; length = s.length }

-- a scheme's number, or where its text stands
abbrev pub scheme_laid : Model.Scheme Model.Span → Scheme
scheme_laid (Model.number n) = SchemeV.Number n
scheme_laid (Model.name t) = SchemeV.Name (span_laid t)

-- where the address stands, or how many labels there are
abbrev pub host_laid : Model.Host Model.Span → Host
host_laid (Model.address a) = HostV.Address (span_laid a)
host_laid (Model.labels ts) = HostV.Labels (length ts)

-- the host and its port
abbrev pub authority_laid : Option (Model.Authority Model.Span) → P.Option Authority
authority_laid = option_laid (λ a. record { host = host_laid a.host; port = option_laid (λ n. n) a.port })

-- the discard, or scheme and authority
abbrev pub opening_laid : Model.Opening Model.Span → Opening
opening_laid (Model.discard k) = OpeningV.Discard k
opening_laid Model.discard_all = OpeningV.DiscardAll
opening_laid (Model.full s a) = OpeningV.Full (option_laid scheme_laid s) (authority_laid a)

-- how many texts a path or a query has
abbrev pub texts_laid : Option (List Model.Span) → P.Option ℕ
texts_laid = option_laid length

-- where the fragment stands
abbrev pub fragment_laid : Option Model.Span → P.Option Span
fragment_laid = option_laid span_laid

-- all of them
abbrev pub components_laid : Model.Components → Components
components_laid c =
    record { opening = opening_laid c.opening; path = texts_laid c.path; query = texts_laid c.query; fragment = fragment_laid c.fragment }

-- RULES 9.5: what reading answers: after a refusal no components
abbrev pub reading_laid : Res Model.Components → Res Components
reading_laid (refused n k) = refused n k
reading_laid (ok c) = ok (components_laid c)

-- ---- the array of numbers

-- the texts of a path, a query or labels stand there, one after the other
abbrev pub TextsAt : Bytes → Slot → Type 0
TextsAt bs unset = Unit {0}
TextsAt bs (set at n) = RowAt bs at n

-- start and length of each span
unfoldable pub span_numbers : List Model.Span → List ℕ
span_numbers [] = []
span_numbers (s ∷ ss) = s.start ∷ s.length ∷ span_numbers ss

-- the numbers of the labels, then of the segments, then of the parameters
abbrev pub text_numbers : Model.Components → List ℕ
text_numbers c = span_numbers (opening_labels c.opening) ++ (span_numbers (elements c.path) ++ span_numbers (elements c.query))

-- RULES 3.1, 9.5: the array after reading: untouched by a refusal, and past the numbers that were stored
unfoldable pub spans_after : Res Model.Components → List ℕ → List ℕ
spans_after (refused n k) xs = xs
spans_after (ok c) xs = text_numbers c ++ drop (length (text_numbers c)) xs
