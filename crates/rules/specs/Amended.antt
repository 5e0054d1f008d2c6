-- RULES 1.9 as it was before labels lost "[" and "]": which references the amended rule takes away.
use Rattle.std.specs.Prelude.{ℕ, ◌≡◌, Bool, true, ◌&&◌, not, eqb}
use Rattle.rules.specs.Bytes.{ascii, dot, Each, all, member}
use Rattle.rules.specs.Model.{Reference, Limits}
use Rattle.rules.specs.Rules.{Sort, upper, label}
use Rattle.rules.specs.Valid.{ValidBy}
use Rattle.rules.specs.Writing.{opening_labels}

-- a label holds no "." and no A to Z
unfoldable pub earlier_byte : ℕ → Bool
earlier_byte b = not (eqb b dot) && not (upper b)

-- of the same size
abbrev pub earlier_label : Sort
earlier_label = record { low = label.low; high = label.high; rule = all earlier_byte }

-- and nothing else differs
abbrev pub EarlierValid : Limits → Reference → Type 0
EarlierValid = ValidBy earlier_label

-- neither "[" nor "]"
abbrev pub no_bracket : ℕ → Bool
no_bracket b = not (member b (ascii "[]"))

-- no label of the reference holds one
abbrev pub NoBrackets : Reference → Type 0
NoBrackets r = Each (λ t. all no_bracket t ≡ true) (opening_labels r.opening)
