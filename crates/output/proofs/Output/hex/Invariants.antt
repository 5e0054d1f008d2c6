-- `output::Output::hex` meets its contract: what waits after the bytes passed.
use Rattle.std.proofs.Common.{◌≡◌, take}
use Rattle.output.specs.Output.{after, hex_of}
use Rattle.output.proofs.Output.hex.Given as goal

abbrev pub invariant-loop-b : goal.invariant-loop-b
invariant-loop-b l = l.self ≡ after l.initial.self (hex_of (take l.b-index l.s))
