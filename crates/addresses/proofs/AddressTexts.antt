-- What the text of an address is, by how many bytes it has.
use Prim.Native.Nat.{ℕ, ◌+◌, ◌-◌, ◌≤◌}
use native.Mathlib.Omega.{arith}
use mathlib.Core.Path.{◌≡◌, sym, ap, subst}
use mathlib.Core.Bool.{true}
use mathlib.Core.List.{[], ◌∷◌, ◌++◌}
use lib.ListN.{length, take, drop, length-append}
use borrow.Author.Tests.{eq-eqb, ne_eqb}
use Rattle.rules.specs.Bytes.{Bytes, part}
use Rattle.rules.specs.Rules.{address_size}
use Rattle.rules.specs.Address.{ipv4_text, ipv6_text, left_bracket, right_bracket, address_text}
use Rattle.rules.specs.Valid.{GoodAddress}
use Rattle.rules.proofs.Slices.{slice_part}
use Rattle.rules.proofs.Tools.{cond_yes, cond_no, length_part}
use Rattle.addresses.specs.AddressAt.{AddressAt}

module _ (bs : Bytes) where
  pub ipv4_text_lem : length bs ≡ 4 → ipv4_text bs ≡ address_text bs
  unfolding address_text
  ipv4_text_lem e = sym (cond_yes _ _ _ (eq-eqb _ _ e))

  pub ipv6_text_lem : (length bs ≡ 4 → ⊥) → (left_bracket ∷ []) ++ (ipv6_text bs ++ (right_bracket ∷ [])) ≡ address_text bs
  unfolding address_text
  ipv6_text_lem k = sym (cond_no _ _ _ (ne_eqb _ _ k))

  -- with its brackets
  pub bracket_lengths : (length bs ≡ 4 → ⊥) → length (ipv6_text bs) + 2 ≡ length (address_text bs)
  bracket_lengths k = omega (arith, ap length (ipv6_text_lem k), length-append (ipv6_text bs) (right_bracket ∷ []))

-- an address of an accepted input
pub address_at_lem : (bs : Bytes) (from n : ℕ) → from + n ≤ length bs → GoodAddress (part bs from n) → AddressAt bs from n
address_at_lem bs from n h g = (h, subst (λ (k : ℕ). address_size k ≡ true) (length_part bs from n h) g.size)

-- and cut out by the code
pub address_slice : (bs : Bytes) (at n : ℕ) → AddressAt bs at n → address_size (length (take (at + n - at) (drop at bs))) ≡ true
address_slice bs at n h = rw (slice_part bs at n, length_part bs at n h.0) h.1
