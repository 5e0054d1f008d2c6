-- `resolver_parts::kept_row` meets its contract.
use mathlib.Core.Logic.{inl, inr}
use Prim.Native.Nat.{ℕ, ◌-◌}
use mathlib.Core.Path.{sym, ap}
use lib.ListN.{take}
use Rattle.rules.proofs.Texts.{length_contents}
use Rattle.resolver_parts.specs.Parts.{kept, row_texts}
use Rattle.resolver_parts.proofs.ResultParts.{row_none, row_as}
use Rattle.resolver_parts.proofs.kept_row.Goals as goal

pub returns-in-Discard : goal.returns-in-Discard
unfolding kept
returns-in-Discard c =
    let a = c.args in
    simp c.in-Discard.is
    (row_as (ap (λ (n : ℕ). take (n - c.in-Discard.k) (row_texts a.s.now a.row)) (sym (length_contents a.s.now a.row.span.start a.row.count))) c.without_last.ensures)

pub returns-in-DiscardAll : goal.returns-in-DiscardAll
unfolding kept
returns-in-DiscardAll c = elim c.in-DiscardAll.is [ inl e ↦ simp e row_none | inr e ↦ simp e.2 row_none ]
