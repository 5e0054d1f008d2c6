-- A walk over items that stand in a row.
use Prim.Native.Nat.{ℕ, ◌+◌, ◌≤◌}
use mathlib.Core.Path.{◌≡◌, sym, ap, subst, ◌∙◌}
use mathlib.Core.List.{List, [], ◌∷◌}
use lib.ListN.{length}
use Rattle.rules.specs.Bytes.{Bytes}
use Rattle.rules.specs.Model.{Span}
use Rattle.rules.specs.Reader.{span_at, spans}
use Rattle.rules.specs.Standing.{RowAt}
use Rattle.rules.proofs.Texts.{length_spans}
use Rattle.cbor_rows.specs.Rows.{nth_at}

-- a walk over n items from a position on: it has come to `next`, and these spans are left to pass
pub record Walked (bs : Bytes) (at n next : ℕ) (left : List Span) : Type 0 where
  pub are : left ≡ spans bs next (length left)
  pub stand : RowAt bs next (length left)
  pub rest : nth_at bs next (length left) ≡ nth_at bs at n

pub walk_whole : {bs : Bytes} {at n : ℕ} {left : List Span} → left ≡ spans bs at n → RowAt bs at n → Walked bs at n at left
walk_whole {bs} {at} {n} e h =
    let c = sym (ap length e ∙ length_spans bs at n) in
    record { are = e ∙ ap (spans bs at) c; stand = subst (RowAt bs at) c h; rest = ap (nth_at bs at) (sym c) }

-- the first item is passed
pub record Passed (bs : Bytes) (at n : ℕ) (span : Span) (others : List Span) : Type 0 where
  pub inside : span.start + span.length ≤ length bs
  pub walked : Walked bs at n (span.start + span.length) others

first_passed : {bs : Bytes} {at n next : ℕ} {span : Span} {others : List Span} → Walked bs at n next (span ∷ others) → Passed bs at n span others
unfolding spans nth_at
first_passed {bs} {at} {n} {next} {span} {others} w =
    let e : span_at bs next ≡ span = cc w.are in
    subst (λ (s : Span). Passed bs at n s others) e
    (record { inside = w.stand.0.inside; walked = record { are = cc w.are; stand = w.stand.1; rest = w.rest } })

pub walk_step : {bs : Bytes} {at n next : ℕ} {left : List Span} {span : Span} {others : List Span} → Walked bs at n next left → left ≡ span ∷ others
    → Passed bs at n span others
walk_step {bs} {at} {n} {next} w e = first_passed (subst (Walked bs at n next) e w)

pub walk_end : {bs : Bytes} {at n next : ℕ} {left : List Span} → Walked bs at n next left → left ≡ [] → next ≡ nth_at bs at n
unfolding nth_at
walk_end {bs} {at} {n} {next} w e = (subst (Walked bs at n next) e w).rest
