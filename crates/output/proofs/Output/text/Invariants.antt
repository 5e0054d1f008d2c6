-- `output::Output::text` meets its contract: what waits after the bytes passed.
use Rattle.std.proofs.Common.{◌≡◌, take}
use Rattle.output.specs.Output.{after}
use Rattle.output.proofs.Output.text.Given as goal

abbrev pub invariant-loop-b : goal.invariant-loop-b
invariant-loop-b l = l.self ≡ after l.initial.self (take l.b-index l.text)
