-- `lines_input::Words::texts` is safe and ends: each text takes a part of the line.
use Rattle.std.proofs.Common.{◌≤◌, ◌+◌, length}
use Rattle.lines_input.proofs.Words.texts.Given as goal

abbrev pub invariant-loop-row : goal.invariant-loop-row
invariant-loop-row l = l.count + length l.self.rest.now ≤ length l.initial.self.rest.now

abbrev pub decreases-loop-row : goal.decreases-loop-row
decreases-loop-row l = length l.self.rest.now
