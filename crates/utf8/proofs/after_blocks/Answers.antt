-- `utf8::after_blocks` meets its contract. The loop's invariant: the rest is the end of the text, and is judged as the whole is.
use mathlib.Core.Path.{sym, ◌∙◌}
use native.Mathlib.Omega.{arith}
use Rattle.std.proofs.lemmas.List.{take_rest}
use Rattle.utf8.proofs.Utf8Walk.{suffix_all, suffix_block}
use Rattle.utf8.proofs.after_blocks.Goals as goal

pub loop-rest-init : goal.loop-rest-init
loop-rest-init c = (c.requires, suffix_all _)

pub loop-rest-preserved : goal.loop-rest-preserved
loop-rest-preserved c =
    let l = c.loop-rest in
    (c.requires, rw (take_rest l.rest.now c.args.n) (suffix_block c.args.text.now l.rest.now c.args.n l.invariant.1 (omega arith) (sym c.if-ascii.true ∙ c.ascii.ensures)))
