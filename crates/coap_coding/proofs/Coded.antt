-- What an option is made of, and how long it is.
use Prim.Native.Nat.{ℕ, min, zero, suc, ◌+◌, ◌*◌, ◌-◌, ◌≤◌, ◌<◌}
use native.Mathlib.Omega.{arith}
use mathlib.Core.Path.{◌≡◌, sym, subst}
use mathlib.Core.List.{[], ◌∷◌, ◌++◌, append_assoc}
use lib.ListN.{length, length-append}
use lib.Dec.{ltb}
use borrow.Author.Tests.{ltb-true, ltb-false, lt-ltb, le-ltb}
use Rattle.rules.specs.Bytes.{Bytes}
use Rattle.rules.specs.Head.{head_at}
use Rattle.rules.specs.Options.{nibble, extension, option_bytes}
use Rattle.rules.specs.Reader.{end_at, spans, contents, content_at}
use Rattle.rules.specs.Standing.{RowAt}
use Rattle.rules.proofs.OptionsBack.{option_length}
use Rattle.rules.proofs.Tools.{cond_split, length_part}
use Rattle.coap_coding.specs.Coded.{Small, AllSmall, coded}

-- ---- a delta or a length

pub nibble_is : (n : ℕ) → Small n → min n 13 ≡ nibble n
unfolding nibble
nibble_is n s =
    cond_split (λ (k : ℕ). min n 13 ≡ k) (ltb n 13)
    (λ t. omega (arith, ltb-true n 13 t))
    (λ t. rw (lt-ltb n 269 s) (omega (arith, ltb-false n 13 t)))

pub extension_none : (n : ℕ) → n < 13 → extension n ≡ []
unfolding extension
extension_none n h = rw (lt-ltb n 13 h)

pub extension_one : (n : ℕ) → 13 ≤ n → n < 269 → extension n ≡ (n - 13) ∷ []
unfolding extension
extension_one n h s = rw (le-ltb n 13 h, lt-ltb n 269 s)

pub nibble_most : (n : ℕ) → Small n → nibble n ≤ 13
unfolding nibble
nibble_most n s =
    cond_split (λ (k : ℕ). k ≤ 13) (ltb n 13)
    (λ t. omega (arith, ltb-true n 13 t))
    (λ t. cond_split (λ (k : ℕ). k ≤ 13) (ltb n 269) (λ u. omega arith) (λ u. omega (arith, ltb-false n 269 u)))

pub extension_most : (n : ℕ) → Small n → length (extension n) ≤ 1
unfolding extension
extension_most n s =
    cond_split (λ (w : Bytes). length w ≤ 1) (ltb n 13)
    (λ t. omega arith)
    (λ t. cond_split (λ (w : Bytes). length w ≤ 1) (ltb n 269) (λ u. omega arith) (λ u. omega (arith, ltb-false n 269 u)))

-- ---- one option

module _ (delta : ℕ) (v : Bytes) where
  pub option_size : length (option_bytes delta v) ≡ 1 + length (extension delta) + length (extension (length v)) + length v
  option_size = omega (arith, option_length delta v)

  pub option_size_of : {n : ℕ} → length v ≡ n → 1 + length (extension delta) + length (extension n) + n ≡ length (option_bytes delta v)
  option_size_of {n} e = sym (subst (λ (k : ℕ). length (option_bytes delta v) ≡ 1 + length (extension delta) + length (extension k) + k) e option_size)

  pub option_pieces : {x y : ℕ} → x ≡ nibble delta → y ≡ nibble (length v)
      → ((x * 16 + y) ∷ []) ++ (extension delta ++ (extension (length v) ++ v)) ≡ option_bytes delta v
  unfolding option_bytes
  option_pieces p q = rw (p, q, append_assoc)

  pub option_most : Small delta → Small (length v) → length (option_bytes delta v) ≤ 3 + length v
  option_most d s = omega (arith, option_size, extension_most delta d, extension_most (length v) s)

-- ---- options of items in a row

-- the options of the texts of items from a position on have at most three bytes for each byte from there on
pub coded_most : (delta : ℕ) (bs : Bytes) (at n : ℕ) → Small delta → RowAt bs at n → AllSmall (contents bs at n) → length (coded delta (contents bs at n)) ≤ 3 * (length bs - at)
unfolding coded contents spans head_at
coded_most delta bs at zero d i s = omega arith
coded_most delta bs at (suc n) d i s =
    let t : Bytes = content_at bs at in
    omega (
      arith,
      length-append (option_bytes delta t) (coded 0 (contents bs (end_at bs at) n)),
      option_most delta t d s.0,
      length_part bs (head_at bs at).next (head_at bs at).value i.0.inside,
      coded_most 0 bs (end_at bs at) n (omega arith) i.1 s.1,
    )
