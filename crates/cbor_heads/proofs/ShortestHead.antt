-- The shortest head: how long it is, and that it is read back.
use Prim.Native.Nat.{ℕ, ◌+◌, ◌≤◌, ◌<◌}
use native.Mathlib.Omega.{arith}
use mathlib.Core.Path.{◌≡◌, refl, sym, ap, ◌∙◌}
use mathlib.Core.Bool.{Bool, true}
use mathlib.Core.List.{[], ◌++◌}
use lib.ListN.{length, drop, length-drop, length-append}
use lib.Seq.{drop-append_seam}
use lib.Dec.{ltb, leb}
use borrow.Author.Tests.{leb-true}
use Rattle.rules.specs.Bytes.{Bytes}
use Rattle.rules.specs.Result.{Res, refused, ok, ◌>>=◌}
use Rattle.rules.specs.Head.{Kind, Head, width, shortest, head_at, read_head, head_bytes, Fits}
use Rattle.rules.proofs.Tools.{tests, cond_split, below}
use Rattle.rules.proofs.Steps.{yes!, yes_use}
use Rattle.rules.proofs.Heads.{length_big, Spelled, spelled, yes_head}
use Rattle.cbor.specs.Heads.{accepted}

pub shortest_most : (v : ℕ) → shortest v < 28
unfolding shortest
shortest_most v =
    cond_split (λ (i : ℕ). i < 28) (ltb v 24) (λ t. omega tests)
    (λ f. cond_split (λ (i : ℕ). i < 28) (ltb v 256) (λ t. omega arith)
    (λ f. cond_split (λ (i : ℕ). i < 28) (ltb v 65536) (λ t. omega arith)
    (λ f. cond_split (λ (i : ℕ). i < 28) (ltb v 4294967296) (λ t. omega arith) (λ f. omega arith))))

-- how long the shortest head is, by its head information
pub length_head : (k : Kind) (v i w : ℕ) → shortest v ≡ i → width i ≡ w → 1 + w ≡ length (head_bytes k v)
unfolding head_bytes
length_head k v i w s e = omega (arith, length_big (width (shortest v)) v [], ap width s ∙ e)

-- a head has at most nine bytes
pub head_most : (k : Kind) (v : ℕ) → length (head_bytes k v) ≤ 9
unfolding head_bytes width
head_most k v =
    omega (arith, length_big (width (shortest v)) v [], leb-true (width (shortest v)) 8 (below 28 (λ (i : ℕ). leb (width i) 8) refl (shortest v) (omega (arith, shortest_most v))))

bind_self : {A : Type 0} (m : Res A) → (m >>= ok) ≡ m
unfolding ◌>>=◌
bind_self (refused n k) = refl
bind_self (ok a) = refl

-- a head that was written is read back: for callers, no proof here cites it
pub head_back : (allowed : Kind → Bool) (k : Kind) (v : ℕ) (before after : Bytes) → Fits k v → allowed k ≡ true
    → read_head allowed (before ++ (head_bytes k v ++ after)) (length before) ≡ accepted k v (length before + length (head_bytes k v))
head_back allowed k v before after f a =
    let bs : Bytes = before ++ (head_bytes k v ++ after) in
    let at : ℕ = length before in
    let s : Spelled k v bs at after = spelled k v bs at after f (drop-append_seam before (head_bytes k v ++ after)) in
    let y = yes_use (yes_head {Q = λ h. h ≡ head_at bs at} allowed bs at ok (s.stands allowed a) (yes! refl)) in
    let l : length (drop (head_at bs at).next bs) ≡ length after = ap length s.rest in
    let n : (head_at bs at).next ≡ length before + length (head_bytes k v) =
    omega (arith, l, s.inside, length-drop (head_at bs at).next bs, length-append before (head_bytes k v ++ after), length-append (head_bytes k v) after) in
    sym (bind_self (read_head allowed bs at)) ∙ y.1 ∙ ap ok (y.2 ∙ same (head_at bs at) s.kind s.value n)
  where
    same : (h : Head) {k : Kind} {v n : ℕ} → h.kind ≡ k → h.value ≡ v → h.next ≡ n → h ≡ record { kind = k; value = v; next = n }
    same h a b c = λ i. record { kind = a i; value = b i; next = c i }
