-- Two writes of which the second begins inside the first, or right after it, are one write.
use Prim.Native.Nat.{ℕ, suc, ◌+◌, ◌-◌, ◌<◌, ◌≤◌}
use native.Mathlib.Omega.{arith}
use mathlib.Core.Path.{◌≡◌, refl, sym, ap, ◌∙◌}
use mathlib.Core.List.{[], ◌∷◌, ◌++◌}
use lib.ListN.{length, set}
use lib.Seq.{sets, set-set, set_comm}
use Rattle.rules.specs.Bytes.{Bytes, part}
use Rattle.rules.proofs.Tools.{length_part}
use Rattle.put.specs.Wrote.{Wrote}
use Rattle.put.proofs.Wrote.{sets_append, part_add}

-- bytes written over others that are no more
set_sets : (l v : Bytes) (i j b : ℕ) → i < j → set (sets l j v) i b ≡ sets (set l i b) j v
set_sets l [] i j b h = refl
set_sets l (a ∷ v) i j b h = set_sets (set l j a) v i (suc j) b (omega arith) ∙ ap (λ (l : Bytes). sets l (suc j) v) (set_comm l j i a b (λ e. omega arith))

sets_over : (l v w : Bytes) (i : ℕ) → length v ≤ length w → sets (sets l i v) i w ≡ sets l i w
sets_over l [] w i h = refl
sets_over l (a ∷ v) [] i h = absurd (omega arith)
sets_over l (a ∷ v) (b ∷ w) i h =
    ap (λ (l : Bytes). sets l (suc i) w) (set_sets (set l i a) v i (suc i) b (omega arith) ∙ ap (λ (l : Bytes). sets l (suc i) v) (set-set l i a b))
    ∙ sets_over (set l i b) v w (suc i) (omega arith)

-- the first k bytes of a part were written, and then the m bytes after its first j, which overlap them or follow them
pub wrote_over : {a b c : Bytes} {e : ℕ} (s : Bytes) (i from k j m : ℕ) → j ≤ k → k ≤ j + m → from + (j + m) ≤ length s
    → b ≡ sets a i (part s from k) → Wrote b (i + j) (part s (from + j) m) c e → Wrote a i (part s from (j + m)) c e
wrote_over {a} {b} {c} {e} s i from k j m u v h x y =
    let first : Bytes = part s from j in
    let old : Bytes = part s (from + j) (k - j) in
    let new : Bytes = part s (from + j) m in
    let n : length first ≡ j = length_part s from j (omega arith) in
    let whole : k ≡ j + (k - j) = omega arith in
    let split : part s from k ≡ first ++ old = ap (part s from) whole ∙ part_add s from j (k - j) in
    let before : b ≡ sets (sets a i first) (i + j) old = x ∙ ap (sets a i) split ∙ sym (rw n at (sets_append first old a i)) in
    record {
      bytes =
          y.bytes ∙ ap (λ (l : Bytes). sets l (i + j) new) before
          ∙ sets_over (sets a i first) old new (i + j) (omega (arith, length_part s (from + j) (k - j) (omega arith), length_part s (from + j) m (omega arith)))
          ∙ rw n at (sets_append first new a i)
          ∙ ap (sets a i) (sym (part_add s from j m));
      place = omega (arith, y.place, length_part s (from + j) m (omega arith), length_part s from (j + m) (omega arith));
    }
