-- `put::put_blocks` meets its contract: the first i blocks are written, and then the last one.
use Prim.Native.Nat.{◌+◌, ◌-◌, ◌*◌}
use native.Mathlib.Nat.{zero-add}
use native.Mathlib.Omega.{arith}
use mathlib.Core.Path.{◌≡◌, ap, ◌∙◌}
use lib.ListN.{length}
use lib.Seq.{sets, take_all}
use Rattle.rules.specs.Bytes.{part}
use Rattle.put.proofs.Wrote.{wrote_as}
use Rattle.put.proofs.Overlap.{wrote_over}
use Rattle.put.proofs.put_blocks.Goals as goal

pub loop-i-preserved : goal.loop-i-preserved
loop-i-preserved c =
    let a = c.args in
    let k = c.loop-i.i * 32 in
    let next : k + 32 ≡ (c.loop-i.i + 1) * 32 = omega arith in
    (wrote_over {e = c.put_block.result} a.text.now a.at 0 k k 32 (omega arith) (omega arith) (omega arith) c.loop-i.invariant (rw zero-add c.put_block.ensures)).bytes
    ∙ ap (λ n. sets a.room.now a.at (part a.text.now 0 n)) next

pub returns : goal.returns
returns c =
    let a = c.args in
    let n = length a.text.now in
    let whole : n - 32 + 32 ≡ n = omega (arith, c.requires.a_block) in
    wrote_as (ap (part a.text.now 0) whole ∙ take_all n a.text.now (omega arith))
    (wrote_over a.text.now a.at 0 (c.loop-i.i * 32) (n - 32) 32 (omega (arith, c.loop-i-test.false)) (omega arith) (omega (arith, c.requires.a_block)) c.loop-i.invariant (rw zero-add c.put_block-2.ensures))
