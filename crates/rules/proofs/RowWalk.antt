-- A walk over items that were accepted: the first of those that are left, and then the others.
use Prim.Native.Nat.{ℕ, zero, suc, ◌+◌, ◌-◌, ◌≤◌, ◌<◌}
use native.Mathlib.Omega.{arith}
use mathlib.Core.Path.{◌≡◌, refl, sym, ap, subst}
use mathlib.Core.List.{[], ◌∷◌, map}
use lib.ListN.{length}
use Rattle.rules.specs.Bytes.{Bytes, part}
use Rattle.rules.specs.Model.{Span}
use Rattle.rules.specs.Head.{head_at}
use Rattle.rules.specs.Reader.{span_at, end_at, spans, taken, contents, content_at}
use Rattle.rules.specs.Standing.{ItemStands, RowAt}

-- the first of the items that are left, its content n bytes from `start` on, and then the others
pub record First (bs : Bytes) (here left start n : ℕ) : Type 0 where
  pub after : here < start
  pub inside : start + n ≤ length bs
  pub end : start + n ≡ end_at bs here
  pub span : spans bs here left ≡ record { start = start; length = n } ∷ spans bs (start + n) (left - 1)
  pub content : contents bs here left ≡ part bs start n ∷ contents bs (start + n) (left - 1)
  pub others : RowAt bs (start + n) (left - 1)

pub first_stands : (bs : Bytes) (here left : ℕ) → 0 < left → RowAt bs here left → ItemStands bs here
first_stands bs here zero h i = absurd (omega arith)
first_stands bs here (suc left) h i = i.0

pub first : (bs : Bytes) (here left start n : ℕ) → 0 < left → RowAt bs here left → record { start = start; length = n } ≡ span_at bs here → First bs here left start n
unfolding head_at contents spans
first bs here zero start n h i e = absurd (omega arith)
first bs here (suc left) start n h i e = subst (λ (x : Span). First bs here (suc left) x.start x.length) (sym e) whole
  where
    less : left ≡ suc left - 1
    less = omega arith

    whole : First bs here (suc left) (head_at bs here).next (head_at bs here).value
    whole =
        record {
          after = omega arith;
          inside = i.0.inside;
          end = refl;
          span = ap (λ (k : ℕ). span_at bs here ∷ spans bs (end_at bs here) k) less;
          content = ap (λ (k : ℕ). content_at bs here ∷ contents bs (end_at bs here) k) less;
          others = subst (λ (k : ℕ). RowAt bs (end_at bs here) k) less i.1;
        }

-- none is left
pub no_spans : (bs : Bytes) (here left : ℕ) → left ≤ 0 → spans bs here left ≡ []
unfolding spans
no_spans bs here zero h = refl
no_spans bs here (suc left) h = absurd (omega arith)

pub none_left : (bs : Bytes) (here left : ℕ) → left ≤ 0 → contents bs here left ≡ []
unfolding contents
none_left bs here left h = ap (map (taken bs)) (no_spans bs here left h)
