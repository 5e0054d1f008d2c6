-- Texts joined by a delimiter, as a loop writes them: the first, and then each further one after the delimiter.
use Rattle.std.specs.Prelude.{ℕ, List, ◌∷◌, map}
use Rattle.rules.specs.Bytes.{Bytes, concat}

-- the texts of all the elements, each after the byte d
unfoldable pub further : {A : Type 0} → ℕ → (A → Bytes) → List A → Bytes
further d text xs = concat (map (λ (t : Bytes). d ∷ t) (map text xs))
