-- Entries of the table: what one names, and what several have in common.
use Prim.Native.Nat.{ℕ, suc, ◌/◌, ◌%◌, ◌*◌, ◌^◌, ◌<◌}
use native.Mathlib.Omega.{arith}
use mathlib.Core.Path.{◌≡◌, refl, ◌∙◌}
use mathlib.Core.Bool.{Bool, true, false, not, beq, ◌&&◌, false≢true}
use mathlib.Core.List.{[], ◌∷◌}
use lib.Dec.{eqb}
use lib.Bits.{bit_and, and_high, and_shr, and_mod}
use lib.ListN.{get_or}
use Rattle.std.specs.List.{fold}
use Rattle.rules.specs.Bytes.{Bytes, all}
use Rattle.rules.specs.Text.{Class, Label, Segment, Parameter, Fragment, bare}
use Rattle.rules.proofs.Compute.{computed}
use Rattle.rules.proofs.Tools.{all_below, below}
use Rattle.uri_escape.specs.Escape.{bit_of, names, entry}

agree : (a b : Bool) → beq a b ≡ true → a ≡ b
agree true true e = refl
agree false false e = refl
agree true false e = absurd (false≢true e)
agree false true e = absurd (false≢true e)

-- ---- what an entry names

-- computed at every byte
each : (k : Class) → all_below 256 (λ b. beq (names (entry b) k) (bare k b)) ≡ true
unfolding computed names entry
each Label = refl
each Segment = refl
each Parameter = refl
each Fragment = refl

pub named : (k : Class) (b : ℕ) → b < 256 → names (entry b) k ≡ bare k b
named k b h = agree (names (entry b) k) (bare k b) (below 256 (λ b. beq (names (entry b) k) (bare k b)) (each k) b h)

-- the place of a class's bit
abbrev place_of : Class → ℕ
place_of Label = 0
place_of Segment = 1
place_of Parameter = 2
place_of Fragment = 3

-- the bit of a class, out of a number
at_bit : (k : Class) (e : ℕ) → bit_and e (bit_of k) ≡ (e / 2 ^ place_of k % 2 ^ 1) * 2 ^ place_of k
at_bit Label e = and_high e 1 0
at_bit Segment e = and_high e 1 1
at_bit Parameter e = and_high e 1 2
at_bit Fragment e = and_high e 1 3

-- ---- what entries have in common

-- one bit of weight w: of two numbers and-ed it is set where it is in both, computed
abbrev Both : ℕ → Type 0
Both w = all_below 2 (λ x. all_below 2 (λ y. beq (not (eqb (bit_and x y * w) 0)) (not (eqb (x * w) 0) && not (eqb (y * w) 0)))) ≡ true

both : (w : ℕ) → Both w → (x y : ℕ) → x < 2 → y < 2 → not (eqb (bit_and x y * w) 0) ≡ (not (eqb (x * w) 0) && not (eqb (y * w) 0))
both w t x y h g =
    agree _ _ (below 2 (λ y. beq (not (eqb (bit_and x y * w) 0)) (not (eqb (x * w) 0) && not (eqb (y * w) 0)))
    (below 2 (λ x. all_below 2 (λ y. beq (not (eqb (bit_and x y * w) 0)) (not (eqb (x * w) 0) && not (eqb (y * w) 0)))) t x h) y g)

weights : (k : Class) → Both (2 ^ place_of k)
weights Label = refl
weights Segment = refl
weights Parameter = refl
weights Fragment = refl

names_and : (k : Class) (a b : ℕ) → names (bit_and a b) k ≡ (names a k && names b k)
unfolding names
names_and k a b =
    let p : ℕ = 2 ^ place_of k in
    rw (at_bit k (bit_and a b), at_bit k a, at_bit k b, and_shr a b (place_of k), and_mod (a / p) (b / p) 1)
    (both p (weights k) (a / p % 2 ^ 1) (b / p % 2 ^ 1) (omega arith) (omega arith))

and_assoc : (x y z : Bool) → ((x && y) && z) ≡ (x && (y && z))
and_assoc true y z = refl
and_assoc false y z = refl

and_none : (x : Bool) → x ≡ (x && true)
and_none true = refl
and_none false = refl

-- 15 names all classes
all_named : (k : Class) → names 15 k ≡ true
unfolding names
all_named Label = refl
all_named Segment = refl
all_named Parameter = refl
all_named Fragment = refl

-- e, and-ed with the entry of each byte, names what it named and all bytes stand bare in
folded : (k : Class) (e : ℕ) (bs : Bytes) → ((i : ℕ) → get_or bs i 0 < 256) → names (fold (λ a b. bit_and a (entry b)) e bs) k ≡ (names e k && all (bare k) bs)
unfolding all
folded k e [] h = and_none (names e k)
folded k e (b ∷ bs) h =
    folded k (bit_and e (entry b)) bs (λ i. h (suc i))
    ∙ rw (names_and k e (entry b), named k b (h 0)) (and_assoc (names e k) (bare k b) (all (bare k) bs))

pub common_folded : (k : Class) (bs : Bytes) → ((i : ℕ) → get_or bs i 0 < 256) → names (fold (λ a b. bit_and a (entry b)) 15 bs) k ≡ all (bare k) bs
common_folded k bs h = folded k 15 bs h ∙ rw (all_named k)
