-- `tool_arguments::join_arguments` is safe: what is put lies inside the room.
use Rattle.std.proofs.Common.{◌≤◌, length}
use Rattle.tool_arguments.proofs.join_arguments.Given as goal

abbrev pub invariant-loop-i : goal.invariant-loop-i
invariant-loop-i g l = l.end ≤ length l.room
