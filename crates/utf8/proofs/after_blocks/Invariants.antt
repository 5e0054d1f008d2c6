-- `utf8::after_blocks` meets its contract. The loop's invariant: the rest is the end of the text, and is judged as the whole is.
use Prim.Native.Nat.{◌<◌}
use lib.ListN.{length}
use Rattle.utf8.specs.Answers.{Suffix}
use Rattle.utf8.proofs.after_blocks.Given as goal

abbrev pub invariant-loop-rest : goal.invariant-loop-rest
invariant-loop-rest l = (0 < l.n) × Suffix l.text l.rest

abbrev pub decreases-loop-rest : goal.decreases-loop-rest
decreases-loop-rest l = length l.rest
