-- `uri_escape::stand_bare` meets its contract: the first k bytes stand bare, and then the last eight.
use Prim.Native.Nat.{ℕ, ◌+◌, ◌-◌, ◌<◌}
use native.Mathlib.Omega.{arith}
use mathlib.Core.Path.{◌≡◌, sym, ◌∙◌}
use mathlib.Core.Bool.{true}
use lib.ListN.{length, get_or}
use Rattle.rules.specs.Text.{bare}
use Rattle.uri_escape.specs.Escape.{class_is}
use Rattle.uri_escape.proofs.Blocks.{all_more, all_last, all_not}
use Rattle.uri_escape.proofs.stand_bare.Goals as goal
use Rattle.uri_escape.proofs.stand_bare.Goals.{After-block_bare-2, else-loop-k-test, then-loop-k-test+else-not-block_bare+else-last-k-gt8}

pub returns-then-not-block_bare : goal.returns-then-not-block_bare
returns-then-not-block_bare c =
    let k = c.loop-k.k in
    sym (all_not (bare (class_is c.args.class)) c.args.text.now k (k + 8 - k) (omega arith) (sym c.block_bare.ensures ∙ c.if-not-block_bare.true))

pub loop-k-preserved : goal.loop-k-preserved
loop-k-preserved c =
    let k = c.loop-k.k in
    λ i l. all_more (bare (class_is c.args.class)) c.args.text.now k (k + 8 - k) (omega arith) c.loop-k.invariant (sym c.block_bare.ensures ∙ c.if-not-block_bare.false) i (omega arith)

-- the loop ends at the last eight or before them, or after eight that reach into them
passed : (c : After-block_bare-2) → (i : ℕ) → i < length c.args.text.now - 8 → bare (class_is c.args.class) (get_or c.args.text.now i 0) ≡ true
passed c i l =
    let k = c.loop-k.k in
    elim c.loop-k-test.branch [
      | else-loop-k-test w ↦ c.loop-k.invariant i (omega arith)
      | then-loop-k-test+else-not-block_bare+else-last-k-gt8 w ↦
          all_more (bare (class_is c.args.class)) c.args.text.now k (k + 8 - k) (omega arith) c.loop-k.invariant (sym w.block_bare.ensures ∙ w.if-not-block_bare.false) i (omega arith)
    ]

pub returns : goal.returns
returns c =
    let n = length c.args.text.now in
    c.block_bare-2.ensures ∙ all_last (bare (class_is c.args.class)) c.args.text.now (n - 8) (n - (n - 8)) (omega arith) (omega arith) (passed c)
