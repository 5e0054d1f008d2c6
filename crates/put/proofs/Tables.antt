-- A table is right where each of its entries is, which the checker computes.
use Prim.Native.Nat.{ℕ}
use mathlib.Core.Path.{◌≡◌}
use mathlib.Core.Bool.{true}
use mathlib.Core.List.{List}
use lib.ListN.{get_or}
use lib.Dec.{eqb}
use borrow.Author.Tests.{eqb-true}
use Rattle.rules.proofs.Tools.{all_below, below}
use Rattle.put.specs.Tables.{Entries}

pub entries_by : (n : ℕ) (f : ℕ → ℕ) (t : List ℕ) → all_below n (λ i. eqb (get_or t i 0) (f i)) ≡ true → Entries n f t
unfolding Entries
entries_by n f t e i h = eqb-true (get_or t i 0) (f i) (below n (λ i. eqb (get_or t i 0) (f i)) e i h)
