-- Options of one number in a row, as a loop writes them.
use Rattle.std.specs.Prelude.{ℕ, ◌<◌, List, [], ◌∷◌, ◌++◌, length}
use Rattle.rules.specs.Bytes.{Bytes, Each}
use Rattle.rules.specs.Options.{option_bytes}

-- RULES 7.6: a delta or a length that needs one byte after its nibble at most
abbrev pub Small : ℕ → Type 0
Small n = n < 269

-- of each value
abbrev pub AllSmall : List Bytes → Type 0
AllSmall ts = Each (λ t. Small (length t)) ts

-- a value for each text: the first option's number is `delta` over the one before, the others have the same number
unfoldable pub coded : ℕ → List Bytes → Bytes
coded delta [] = []
coded delta (t ∷ ts) = option_bytes delta t ++ coded 0 ts
