-- `utf8::valid` meets its contract. The loops' invariant: what is left is judged as the whole is.
use native.Mathlib.Omega.{arith}
use mathlib.Core.Path.{sym, ap, ◌∙◌}
use borrow.Author.Tests.{ltb-true, ltb-false}
use Rattle.std.proofs.lemmas.List.{take_rest}
use Rattle.rules.specs.Utf8.{utf8}
use Rattle.utf8.proofs.Utf8Walk.{passed_one, at_end}
use Rattle.utf8.proofs.valid.Goals as goal
use Rattle.utf8.proofs.valid.Goals.{in_default-rest-via-then-rest-lt1, in_default-rest-via-else-rest-lt1+else-rest-lt128}

pub returns-in_default-rest : goal.returns-in_default-rest
returns-in_default-rest c =
    let r = c.loop-next-2.rest.now in
    c.is_empty.ensures
    ∙ at_end r c.in_default.ensures
    (λ h. elim c.in_default-rest.branch [
      | in_default-rest-via-then-rest-lt1 w ↦ omega (arith, ltb-true)
      | in_default-rest-via-else-rest-lt1+else-rest-lt128 w ↦ omega (arith, ltb-false)
    ])
    ∙ sym (c.loop-next.invariant ∙ c.after_ascii-rest.ensures.same ∙ c.loop-next-2.invariant.same)

pub loop-next-preserved : goal.loop-next-preserved
loop-next-preserved c =
    let r = c.loop-next-2.rest.now in
    c.loop-next.invariant ∙ c.after_ascii-rest.ensures.same ∙ c.loop-next-2.invariant.same ∙ passed_one r (omega arith) (omega arith) ∙ ap utf8 (sym (take_rest r 1))
