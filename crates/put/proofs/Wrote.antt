-- The laws of writing into a lent room. `Wrote` is what a piece says when it is done, `Left` the invariant of a loop that writes.
use Prim.Native.Nat.{ℕ, suc, ◌+◌, ◌<◌, ◌≤◌}
use native.Mathlib.Numerals.{towards_suc, add-one}
use native.Mathlib.Nat.{zero-add, add-zero, add-suc, suc-add}
use native.Mathlib.Omega.{arith}
use mathlib.Core.Path.{◌≡◌, refl, sym, ap, ◌∙◌, subst}
use mathlib.Core.List.{List, [], ◌∷◌, ◌++◌, append_assoc}
use lib.ListN.{length, set, get_or, take, drop, length-append, drop_of_length-le}
use borrow.Rule.Slice.PartMut.{put_mid}
use lib.Seq.{sets, sets-eq, length-sets, length-take-le, take_at, drop_at, drop-cons, take-add, drop-drop}
use Rattle.rules.specs.Bytes.{Bytes, part}
use Rattle.put.specs.Wrote.{Wrote}

-- ---- pieces one after the other

pub sets_append : (v w l : Bytes) (i : ℕ) → sets (sets l i v) (i + length v) w ≡ sets l i (v ++ w)
sets_append [] w l i = rw add-zero
sets_append (a ∷ v) w l i = rw (add-suc, ← suc-add) (sets_append v w (set l i a) (suc i))

pub wrote_then : {a b c v w : Bytes} {i j k : ℕ} → Wrote a i v b j → Wrote b j w c k → Wrote a i (v ++ w) c k
wrote_then {a} {b} {c} {v} {w} {i} {j} {k} p q = record {
  bytes = q.bytes ∙ rw (p.bytes, p.place) (sets_append v w a i);
  place = omega (arith, length-append v w);
}

pub wrote_none : {l : Bytes} {i : ℕ} → Wrote l i [] l i
wrote_none {l} {i} = record { bytes = refl; place = sym (add-zero i) }

pub wrote_one : {l : Bytes} {i a : ℕ} → Wrote l i (a ∷ []) (set l i a) (i + 1)
wrote_one = record { bytes = refl; place = refl }

pub wrote_two : {l : Bytes} {i a b : ℕ} → Wrote l i (a ∷ b ∷ []) (set (set l i a) (i + 1) b) (i + 2)
wrote_two = record { bytes = simp towards_suc; place = refl }

pub wrote_three : {l : Bytes} {i a b d : ℕ} → Wrote l i (a ∷ b ∷ d ∷ []) (set (set (set l i a) (i + 1) b) (i + 2) d) (i + 3)
wrote_three = record { bytes = simp towards_suc; place = refl }

-- the same bytes, said in another way
pub wrote_as : {a b v w : Bytes} {i k : ℕ} → v ≡ w → Wrote a i v b k → Wrote a i w b k
wrote_as {a} {b} {i = i} {k = k} e p = subst (λ (w : Bytes). Wrote a i w b k) e p

-- the room keeps its length
pub wrote_length : {a b w : Bytes} {i k : ℕ} → Wrote a i w b k → length b ≡ length a
wrote_length {a} {b} {w} {i} p = rw p.bytes (length-sets a i w)

-- what is written from 0 on: the bytes, and what stood behind them
pub wrote_all : {a b w : Bytes} {k : ℕ} → Wrote a 0 w b k → length w ≤ length a → (k ≡ length w) × (b ≡ w ++ drop (length w) a)
wrote_all {a} {b} {w} p h = (omega arith, p.bytes ∙ rw zero-add at (sets-eq w a 0 (rw zero-add h)))

-- what was written stands there, and what stood behind it still does
pub wrote_stands : {a b w : Bytes} {i k : ℕ} → Wrote a i w b k → i + length w ≤ length a → drop i b ≡ w ++ drop k a
wrote_stands {a} {b} {w} {i} {k} p h =
    ap (drop i) (p.bytes ∙ sets-eq w a i h ∙ append_assoc (take i a) w (drop (i + length w) a))
    ∙ drop_at (take i a) (w ++ drop (i + length w) a) i (length-take-le i a (omega arith))
    ∙ ap (λ (n : ℕ). w ++ drop n a) (sym p.place)

-- what was written from 0 on, taken out again
pub wrote_taken : {a b w : Bytes} {k : ℕ} → Wrote a 0 w b k → length w ≤ length a → take k b ≡ w
wrote_taken {a} {b} {w} {k} p h = rw (wrote_stands p (omega arith)) (take_at w (drop k a) k (omega (arith, p.place)))

-- ---- a loop that writes: w is left to be written at o, where all of it was w₀, from `at` on, in room₀

pub record Left (room : Bytes) (o : ℕ) (w room₀ : Bytes) (at : ℕ) (w₀ : Bytes) : Type 0 where
  pub bytes : sets room o w ≡ sets room₀ at w₀
  pub place : o + length w ≡ at + length w₀
  pub size : length room ≡ length room₀

-- the same with the next piece, v, apart
pub record Next (room : Bytes) (o : ℕ) (v w room₀ : Bytes) (at : ℕ) (w₀ : Bytes) : Type 0 where
  pub left : Left room o (v ++ w) room₀ at w₀

pub left_all : {room w : Bytes} {at : ℕ} → Left room at w room at w
left_all = record { bytes = refl; place = refl; size = refl }

pub left_done : {room room₀ w₀ : Bytes} {o at : ℕ} → Left room o [] room₀ at w₀ → Wrote room₀ at w₀ room o
left_done l = record { bytes = l.bytes; place = omega arith }

module _ {room v w room₀ w₀ : Bytes} {o at : ℕ} (n : Next room o v w room₀ at w₀) where
  -- the next piece has room where the whole has
  pub next_room : at + length w₀ ≤ length room₀ → o + length v ≤ length room
  next_room h = omega (arith, length-append v w, n.left.place, n.left.size)

  pub next_wrote : {room' : Bytes} {o' : ℕ} → Wrote room o v room' o' → Left room' o' w room₀ at w₀
  next_wrote p = record {
    bytes = rw (p.bytes, p.place) (sets_append v w room o ∙ n.left.bytes);
    place = omega (arith, length-append v w, n.left.place);
    size = rw p.bytes (length-sets room o v ∙ n.left.size);
  }

-- ---- a loop that measures: n is passed of m, and w is left

pub record Count (n : ℕ) (w : Bytes) (m : ℕ) : Type 0 where
  pub sum : n + length w ≡ m

pub record CountNext (n : ℕ) (v w : Bytes) (m : ℕ) : Type 0 where
  pub sum : n + length v + length w ≡ m

pub counted : {n r m : ℕ} {v w : Bytes} → CountNext n v w m → r ≡ length v → Count (n + r) w m
counted n e = record { sum = omega arith }

-- ---- both in a `for` over the items of s: what is left is that of the items from i on

module _ (f : List ℕ → Bytes) (g : ℕ → Bytes) (each : (x : ℕ) (xs : List ℕ) → f (x ∷ xs) ≡ g x ++ f xs) (none : f [] ≡ []) (s : List ℕ) (i : ℕ) where
  item : i < length s → f (drop i s) ≡ g (get_or s i 0) ++ f (drop (i + 1) s)
  item h = ap f (rw add-one (drop-cons s i 0 h)) ∙ each (get_or s i 0) (drop (i + 1) s)

  no_item : length s ≤ i → f (drop i s) ≡ []
  no_item h = ap f (drop_of_length-le s {i = i} h) ∙ none

  pub next_item : {room room₀ w₀ : Bytes} {o at : ℕ} → i < length s → Left room o (f (drop i s)) room₀ at w₀
      → Next room o (g (get_or s i 0)) (f (drop (i + 1) s)) room₀ at w₀
  next_item h l = record { left = rw (item h) at l }

  pub last_item : {room room₀ w₀ : Bytes} {o at : ℕ} → length s ≤ i → Left room o (f (drop i s)) room₀ at w₀ → Wrote room₀ at w₀ room o
  last_item h l = left_done (rw (no_item h) at l)

  pub count_item : {n m : ℕ} → i < length s → Count n (f (drop i s)) m → CountNext n (g (get_or s i 0)) (f (drop (i + 1) s)) m
  count_item h e = record { sum = omega (arith, rw (item h) at e.sum, length-append (g (get_or s i 0)) (f (drop (i + 1) s))) }

  pub count_no_item : {n m : ℕ} → length s ≤ i → Count n (f (drop i s)) m → n ≡ m
  count_no_item h e = omega (arith, rw (no_item h) at e.sum)

-- ---- a copy into a part of the room

pub part_sets : (room v : Bytes) (at k : ℕ) → at + length v ≤ length room → k ≡ length v → put_mid at k room v ≡ sets room at v
part_sets room v at k h e =
    sym (
    sets-eq v room at h
    ∙ append_assoc (take at room) v (drop (at + length v) room)
    ∙ ap (λ (r : Bytes). take at room ++ (v ++ r)) (ap (λ (n : ℕ). drop (at + n) room) (sym e) ∙ sym (drop-drop k at room)))

pub part_add : (s : Bytes) (from j m : ℕ) → part s from (j + m) ≡ part s from j ++ part s (from + j) m
part_add s from j m = take-add j m (drop from s) ∙ ap (λ (l : Bytes). part s from j ++ take m l) (drop-drop j from s)
