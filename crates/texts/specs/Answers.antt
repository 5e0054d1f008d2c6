-- What a text is and what is answered on it, in the terms of the rules.
use Rattle.std.specs.Prelude.{ℕ, ◌+◌, Bool, ◌&&◌, List, [], ◌∷◌, length}
use Rattle.rules.specs.Bytes.{Bytes, all}
use Rattle.rules.specs.Rules as Rules
use Rattle.texts.specs.declared.Sort.{Sort}
use Rattle.texts.specs.declared.Sort.TheVariants as SortV

-- RULES 1.7, but for the names of the table: a lower-case letter, then lower-case letters, digits, "+", "." or "-"
unfoldable pub scheme_form : Bytes → Bool
scheme_form t = Rules.starts_lower t && all Rules.scheme_byte t

-- the sizes and the rule of a sort of text
abbrev pub sort_is : Sort → Rules.Sort
sort_is SortV.SchemeForm = record { low = (Rules.scheme_name).low; high = (Rules.scheme_name).high; rule = scheme_form }
sort_is SortV.Label = Rules.label
sort_is SortV.Segment = Rules.segment
sort_is SortV.Parameter = Rules.parameter
sort_is SortV.Fragment = Rules.fragment_text

-- the length of labels, each with a dot after it
unfoldable pub dotted_length : List Bytes → ℕ
dotted_length [] = 0
dotted_length (t ∷ ts) = length t + 1 + dotted_length ts
