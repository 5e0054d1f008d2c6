-- Texts in a row, each escaped and after a mark: they are joined by a delimiter, and have a bound.
use Prim.Native.Nat.{ℕ, zero, suc, ◌*◌, ◌-◌, ◌≤◌}
use native.Mathlib.Omega.{arith}
use mathlib.Core.Path.{◌≡◌, refl, sym, ap, ◌∙◌}
use mathlib.Core.List.{List, [], ◌∷◌, ◌++◌, map}
use lib.ListN.{length, length-append}
use Rattle.rules.specs.Bytes.{Bytes, join}
use Rattle.rules.specs.Head.{head_at}
use Rattle.rules.specs.Reader.{end_at, spans, contents, content_at}
use Rattle.rules.specs.Text.{Class, bare, escape_byte, escape}
use Rattle.rules.specs.Standing.{RowAt}
use Rattle.rules.proofs.Escapes.{escape_length}
use Rattle.rules.proofs.Tools.{cond_split, length_part}
use Rattle.put.specs.Joined.{further}
use Rattle.put.proofs.Joined.{joined, further_none, further_step}

-- ---- texts after marks

-- each escaped: the first after one mark, each further one after another
unfoldable pub marked_each : Class → ℕ → ℕ → List Bytes → Bytes
marked_each k first further [] = []
marked_each k first further (t ∷ ts) = first ∷ (escape k t ++ marked_each k further further ts)

module _ (k : Class) where
  -- all after one mark
  marked_further : (d : ℕ) (ts : List Bytes) → marked_each k d d ts ≡ further d (escape k) ts
  unfolding marked_each
  marked_further d [] = sym (further_none d (escape k))
  marked_further d (t ∷ ts) = ap (λ (r : Bytes). d ∷ (escape k t ++ r)) (marked_further d ts) ∙ sym (further_step d (escape k) t ts)

  -- the first text after a mark and each further one after a delimiter: the mark, and the texts joined by the delimiter
  pub marked_join : (mark d : ℕ) (t : Bytes) (ts : List Bytes) → marked_each k mark d (t ∷ ts) ≡ mark ∷ join d (map (escape k) (t ∷ ts))
  unfolding marked_each
  marked_join mark d t ts = ap (λ (r : Bytes). mark ∷ r) (ap (λ (r : Bytes). escape k t ++ r) (marked_further d ts) ∙ sym (joined d (escape k) t ts))

  -- the length does not depend on the marks
  pub marked_length : (a b c d : ℕ) (ts : List Bytes) → length (marked_each k a b ts) ≡ length (marked_each k c d ts)
  unfolding marked_each
  marked_length a b c d [] = refl
  marked_length a b c d (t ∷ ts) =
      omega (arith, length-append (escape k t) (marked_each k b b ts), length-append (escape k t) (marked_each k d d ts), marked_length b b d d ts)

  -- no text is longer than it is escaped
  pub escape_least : (t : Bytes) → length t ≤ length (escape k t)
  unfolding escape escape_byte
  escape_least [] = omega arith
  escape_least (b ∷ bs) =
      let one : 1 ≤ length (escape_byte k b) = cond_split (λ (w : Bytes). 1 ≤ length w) (bare k b) (λ e. omega arith) (λ e. omega arith) in
      omega (arith, one, escape_least bs, length-append (escape_byte k b) (escape k bs))

  -- the texts of items from a position on have at most three bytes for each byte from there on
  pub marked_most : (mark d : ℕ) (bs : Bytes) (at n : ℕ) → RowAt bs at n → length (marked_each k mark d (contents bs at n)) ≤ 3 * (length bs - at)
  unfolding marked_each contents spans head_at
  marked_most mark d bs at zero i = omega arith
  marked_most mark d bs at (suc n) i =
      let t : Bytes = content_at bs at in
      omega (
        arith,
        length-append (escape k t) (marked_each k d d (contents bs (end_at bs at) n)),
        escape_length k t,
        length_part bs (head_at bs at).next (head_at bs at).value i.0.inside,
        marked_most d d bs (end_at bs at) n i.1,
      )

-- ---- a mark and the texts of n items, joined by a delimiter

module _ (k : Class) (mark d : ℕ) (bs : Bytes) (at : ℕ) where
  -- of none: the mark alone
  pub row_none : (n : ℕ) → n ≡ 0 → mark ∷ join d (map (escape k) (contents bs at n)) ≡ mark ∷ []
  unfolding join contents spans
  row_none n e = ap (λ (n : ℕ). mark ∷ join d (map (escape k) (contents bs at n))) e

  -- of some: the texts after marks
  pub row_some : (n : ℕ) → (n ≡ 0 → ⊥) → marked_each k mark d (contents bs at n) ≡ mark ∷ join d (map (escape k) (contents bs at n))
  unfolding contents spans
  row_some zero h = absurd (h refl)
  row_some (suc n) h = marked_join k mark d (content_at bs at) (contents bs (end_at bs at) n)
