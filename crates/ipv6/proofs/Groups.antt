-- The groups of an address, by the bytes they are made of.
use Prim.Native.Nat.{ℕ, zero, suc, ◌+◌, ◌*◌, ◌<◌}
use native.Mathlib.Omega.{arith}
use mathlib.Core.Path.{◌≡◌, refl, sym, ap₂, ◌∙◌}
use mathlib.Core.List.{[], ◌∷◌}
use lib.ListN.{length, get_or}
use Rattle.rules.specs.Bytes.{Bytes}
use Rattle.rules.specs.Address.{groups}
use Rattle.rules.proofs.Addresses.{length_groups}

-- group k is made of the bytes 2k and 2k + 1
pub group_bytes : (bs : Bytes) (k : ℕ) → 2 * k + 1 < length bs → get_or (groups bs) k 0 ≡ get_or bs (2 * k) 0 * 256 + get_or bs (2 * k + 1) 0
unfolding groups
group_bytes [] k h = absurd (omega arith)
group_bytes (a ∷ []) k h = absurd (omega arith)
group_bytes (a ∷ b ∷ r) zero h = refl
group_bytes (a ∷ b ∷ r) (suc k) h =
    let even : 2 * suc k ≡ suc (suc (2 * k)) = omega arith in
    let odd : 2 * suc k + 1 ≡ suc (suc (2 * k + 1)) = omega arith in
    group_bytes r k (omega arith) ∙ sym (ap₂ (λ (i j : ℕ). get_or (a ∷ b ∷ r) i 0 * 256 + get_or (a ∷ b ∷ r) j 0) even odd)

pub eight_groups : (bs : Bytes) → length bs ≡ 16 → length (groups bs) ≡ 8
eight_groups = length_groups 8
