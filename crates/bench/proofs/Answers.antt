-- Items one after the other, as the code passes them.
use Prim.Native.Nat.{ℕ, suc, ◌-◌, ◌<◌}
use native.Mathlib.Omega.{arith}
use mathlib.Core.Path.{◌≡◌, sym, ap, ◌∙◌}
use mathlib.Core.Bool.{Bool}
use Rattle.rules.specs.Bytes.{Bytes}
use Rattle.rules.specs.Result.{ok, ◌>>=◌}
use Rattle.rules.specs.Head.{Kind}
use Rattle.rules.proofs.Steps.{bind_ok}
use Rattle.bench.specs.Answers.{after_item, items}

module _ (allowed : Kind → Bool) (bs : Bytes) (at : ℕ) where
  pub items_end : (left : ℕ) → left ≡ 0 → ok at ≡ items allowed bs at left
  unfolding items
  items_end left e = ap (items allowed bs at) (sym e)

  pub items_more : (left : ℕ) → 0 < left → (after_item allowed bs at >>= (λ next. items allowed bs next (left - 1))) ≡ items allowed bs at left
  unfolding items
  items_more left h = let s : suc (left - 1) ≡ left = omega arith in ap (items allowed bs at) s

  pub items_next : (next left further : ℕ) → 0 < left → further ≡ left - 1 → ok next ≡ after_item allowed bs at → items allowed bs next further ≡ items allowed bs at left
  items_next next left further h f e = ap (items allowed bs next) f ∙ bind_ok _ (λ next. items allowed bs next (left - 1)) _ e ∙ items_more left h
