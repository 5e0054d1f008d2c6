-- `tool_input::put_plain` meets its contract: what stands in the room, and then what is left of the word.
use Rattle.std.proofs.Common.{◌≡◌, ◌≤◌, ◌++◌, take, drop}
use Rattle.tool_input.specs.Plain.{plain}
use Rattle.tool_input.proofs.put_plain.Given as goal

abbrev pub invariant-loop-c : goal.invariant-loop-c
invariant-loop-c l = record {
  held : l.end ≤ l.c-index;
  bytes : take l.end l.room ++ plain (drop l.c-index l.word) ≡ plain l.word;
}
