-- `cbor_rows::after` meets its contract: the items whose spans are left are left to pass.
use native.Mathlib.Omega.{arith}
use mathlib.Core.Path.{◌∙◌}
use Rattle.cbor_rows.proofs.RowEnds.{walk_whole, walk_step, walk_end}
use Rattle.cbor_rows.proofs.after.Goals as goal

pub loop-span-init : goal.loop-span-init
loop-span-init c = walk_whole (c.into_iter-span-iterator.ensures.into_iter_gives ∙ c.spans_at-span-items.ensures) c.requires

pub overflow_add-next : goal.overflow_add-next
overflow_add-next c = omega (arith, (walk_step c.loop-span.invariant c.in-Some.ensures.steps).inside)

pub loop-span-preserved : goal.loop-span-preserved
loop-span-preserved c = (walk_step c.loop-span.invariant c.in-Some.ensures.steps).walked

pub returns : goal.returns
returns c = walk_end c.loop-span.invariant c.in-None.ensures.steps.0
