-- `ipv6::groups_of` meets its contract: the first groups are those of the address.
use Prim.Native.Nat.{ℕ, suc, ◌+◌}
use native.Mathlib.Omega.{arith}
use mathlib.Core.Path.{◌≡◌, sym, ap₂, ◌∙◌}
use mathlib.Core.List.{List, [], ◌∷◌, ◌++◌}
use lib.ListN.{length-set}
use lib.Seq.{take_all, take-suc, take-suc-set}
use Rattle.rules.specs.Address.{groups}
use Rattle.ipv6.proofs.Groups.{group_bytes, eight_groups}
use Rattle.ipv6.proofs.groups_of.Goals as goal

pub loop-k-preserved : goal.loop-k-preserved
loop-k-preserved c =
    let l = c.loop-k in
    let bs = c.args.address.now in
    let next : l.k + 1 ≡ suc l.k = omega arith in (
      length-set l.groups l.k _ ∙ l.invariant.0,
      rw next (
          take-suc-set l.groups l.k _ (omega (arith, l.invariant.0))
          ∙ ap₂ (λ (gs : List ℕ) (g : ℕ). gs ++ (g ∷ [])) l.invariant.1 (c.from_be_bytes.ensures ∙ sym (group_bytes bs l.k (omega arith)))
          ∙ sym (take-suc (groups bs) l.k 0 (omega (arith, eight_groups bs c.requires)))),
    )

pub returns : goal.returns
returns c =
    let l = c.loop-k in
    let gs = groups c.args.address.now in
    sym (take_all l.k l.groups (omega (arith, l.invariant.0))) ∙ l.invariant.1 ∙ take_all l.k gs (omega (arith, eight_groups c.args.address.now c.requires))
