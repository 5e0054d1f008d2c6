-- `cbor_heads::head_length` meets its contract: by the head information of the shortest head.
use Prim.Native.Nat.{◌<◌}
use native.Mathlib.Omega.{arith}
use mathlib.Core.Path.{sym, refl, ◌∙◌}
use Rattle.rules.specs.Head.{width, shortest}
use Rattle.cbor.proofs.Heads.{width_small}
use Rattle.cbor_heads.proofs.ShortestHead.{shortest_most, length_head}
use Rattle.cbor_heads.proofs.head_length.Goals as goal

pub returns-in-24 : goal.returns-in-24
unfolding width
returns-in-24 c = λ k. length_head k _ _ _ (sym c.shortest_of.ensures ∙ c.in-24.is) refl

pub returns-in-25 : goal.returns-in-25
unfolding width
returns-in-25 c = λ k. length_head k _ _ _ (sym c.shortest_of.ensures ∙ c.in-25.is) refl

pub returns-in-26 : goal.returns-in-26
unfolding width
returns-in-26 c = λ k. length_head k _ _ _ (sym c.shortest_of.ensures ∙ c.in-26.is) refl

pub returns-in-27 : goal.returns-in-27
unfolding width
returns-in-27 c = λ k. length_head k _ _ _ (sym c.shortest_of.ensures ∙ c.in-27.is) refl

pub returns-in_default : goal.returns-in_default
returns-in_default c =
    λ k.
    let v = c.args.v in
    let h : shortest v < 24 = omega (arith, c.shortest_of.ensures, shortest_most v) in
    length_head k v (shortest v) 0 refl (width_small (shortest v) h)
