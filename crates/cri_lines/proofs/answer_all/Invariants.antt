-- `cri_lines::answer_all` is safe: what is kept of a line lies inside the input.
use Rattle.std.proofs.Common.{◌≤◌}
use Rattle.cri_lines.proofs.answer_all.Given as goal

abbrev pub invariant-loop : goal.invariant-loop
invariant-loop l = l.kept ≤ 65537
