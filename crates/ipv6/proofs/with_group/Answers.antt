-- `ipv6::with_group` meets its contract.
use Prim.Native.Nat.{suc}
use native.Mathlib.Omega.{arith}
use mathlib.Core.Path.{◌≡◌, sym, ◌∙◌}
use borrow.Author.Tests.{le-leb, lt-leb, eq-eqb, ne_eqb}
use Rattle.rules.proofs.Tools.{cond_yes, cond_no}
use Rattle.ipv6.specs.Zeros.{ahead}
use Rattle.ipv6.proofs.ZeroRuns.{walk_here, walk_later}
use Rattle.ipv6.proofs.with_group.Goals as goal
use Rattle.ipv6.proofs.with_group.Goals.{Joined-g-eq0, then-g-eq0, else-g-eq0}

here : (c : Joined-g-eq0) → c.if-g-eq0.here ≡ ahead c.args.z.here c.args.g
here c =
    elim c.if-g-eq0.branch [
      | then-g-eq0 w ↦ omega (arith, w.here-is, cond_yes _ (suc c.args.z.here) 0 (eq-eqb c.args.g 0 w.if-g-eq0.true))
      | else-g-eq0 w ↦ w.here-is ∙ sym (cond_no _ (suc c.args.z.here) 0 (ne_eqb c.args.g 0 w.if-g-eq0.false))
    ]

pub returns-then-z-here : goal.returns-then-z-here
returns-then-z-here c =
    let h = here (goal.at.returns-then-z-here c).Joined-g-eq0 in
    rw h (sym (walk_here _ _ _ (le-leb _ _ (rw h at c.if-z-here.true))))

pub returns-else-z-here : goal.returns-else-z-here
returns-else-z-here c =
    let h = here (goal.at.returns-else-z-here c).Joined-g-eq0 in
    rw h (sym (walk_later _ _ _ (lt-leb _ _ (rw h at c.if-z-here.false))))
