-- `writer::Encoding::add_head` meets its contract.
use native.Mathlib.Omega.{arith}
use mathlib.Core.Bool.{true}
use mathlib.Core.Path.{refl}
use Rattle.cbor.specs.Heads.{kind_is}
use Rattle.writer.proofs.Added.{added_over, made_length, made_more}
use Rattle.writer.proofs.Encoding.add_head.Goals as goal

pub returns-then-self-head_length : goal.returns-then-self-head_length
returns-then-self-head_length c =
    let e = c.self.inside in
    added_over true _ _ (omega (arith, c.if-self-head_length.true, c.head_length.ensures (kind_is c.args.kind), made_length e.bytes e.end _ c.self.view_is c.self.invariant c.self.told))

pub returns : goal.returns
returns c =
    let e = c.self.inside in
    made_more e.bytes e.end _ c.self.view_is c.self.invariant c.self.told true _ _ _ refl (omega (arith, c.if-self-head_length.false, c.head_length.ensures (kind_is c.args.kind))) c.put_head-self-inside.ensures
