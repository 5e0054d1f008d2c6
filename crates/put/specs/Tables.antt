-- Tables.
use Rattle.std.specs.Prelude.{ℕ, ◌<◌, ◌≡◌, List, get_or}

-- the first n entries, each what f is at its place
unfoldable pub Entries : ℕ → (ℕ → ℕ) → List ℕ → Type 0
Entries n f t = (i : ℕ) → i < n → get_or t i 0 ≡ f i
