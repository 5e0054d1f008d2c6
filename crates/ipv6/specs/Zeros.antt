-- The longest run of zero groups by its place, found from the last group to the first.
use Rattle.std.specs.Prelude.{ℕ, suc, cond, List, [], ◌∷◌, leb, eqb}
use Rattle.ipv6.specs.declared.Zeros.{Zeros}

-- zeros ahead, the place of the longest run, and its size
abbrev pub zeros : ℕ → ℕ → ℕ → Zeros
zeros here at size = record { here = here; at = at; size = size }

-- how many zeros there are ahead, with the group g before
abbrev pub ahead : ℕ → ℕ → ℕ
ahead here g = cond (eqb g 0) (suc here) 0

-- with the group g more, which is group k, before the others
unfoldable pub with_group : ℕ → ℕ → Zeros → Zeros
with_group k g z = cond (leb z.size (ahead z.here g)) (zeros (ahead z.here g) k (ahead z.here g)) (zeros (ahead z.here g) z.at z.size)

-- those of a list of groups, of which the first is group k
unfoldable pub zeros_from : ℕ → List ℕ → Zeros
zeros_from k [] = zeros 0 k 0
zeros_from k (g ∷ gs) = with_group k g (zeros_from (suc k) gs)
