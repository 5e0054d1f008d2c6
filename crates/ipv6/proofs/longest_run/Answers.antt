-- `ipv6::longest_run` meets its contract: what was found is of the groups from k on.
use Prim.Native.Nat.{◌-◌}
use native.Mathlib.Omega.{arith}
use mathlib.Core.Path.{◌≡◌, sym, ap, ◌∙◌}
use lib.ListN.{drop, length-drop, drop_of_length-le}
use Rattle.ipv6.specs.declared.Zeros.{Zeros}
use Rattle.ipv6.specs.Zeros.{with_group, zeros_from}
use Rattle.ipv6.proofs.ZeroRuns.{walk_turn, walk_ahead, run_inside}
use Rattle.ipv6.proofs.longest_run.Goals as goal

pub loop-k-init : goal.loop-k-init
unfolding zeros_from
loop-k-init c = sym (ap (zeros_from 8) (drop_of_length-le c.args.groups.now {i = 8} (omega arith)))

pub with_group-z-requires : goal.with_group-z-requires
with_group-z-requires c =
    let l = c.loop-k in
    let gs = c.args.groups.now in
    omega (arith, ap (λ (z : Zeros). z.here) l.invariant, walk_ahead l.k (drop l.k gs), length-drop l.k gs)

pub loop-k-preserved : goal.loop-k-preserved
loop-k-preserved c =
    let l = c.loop-k in
    let gs = c.args.groups.now in
    c.with_group-z.ensures ∙ ap (with_group (l.k - 1) _) l.invariant ∙ walk_turn gs l.k (omega arith) (omega arith)

pub returns : goal.returns
returns c =
    let none : c.loop-k.k ≡ 0 = omega arith in
    let e = rw none at c.loop-k.invariant in
    record { run = e; inside = rw e (omega (arith, run_inside c.args.groups.now)) }
