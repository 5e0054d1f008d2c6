-- `utf8::valid` meets its contract. The loops' invariant: what is left is judged as the whole is.
use mathlib.Core.Path.{◌≡◌}
use lib.ListN.{length}
use Rattle.rules.specs.Utf8.{utf8}
use Rattle.utf8.specs.Answers.{Passed}
use Rattle.utf8.proofs.valid.Given as goal

abbrev pub invariant-loop-next : goal.invariant-loop-next
invariant-loop-next l = utf8 l.text ≡ utf8 l.rest

abbrev pub decreases-loop-next : goal.decreases-loop-next
decreases-loop-next l = length l.rest

abbrev pub invariant-loop-next-2 : goal.invariant-loop-next-2
invariant-loop-next-2 l = Passed l.initial.rest l.rest

abbrev pub decreases-loop-next-2 : goal.decreases-loop-next-2
decreases-loop-next-2 l = length l.rest
