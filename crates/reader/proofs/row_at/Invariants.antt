-- `reader::row_at` meets its contract: what is left is read from where the last text ended.
use Prim.Native.Nat.{◌-◌}
use mathlib.Core.Path.{◌≡◌}
use Rattle.rules.specs.Reader.{read_row}
use Rattle.texts.specs.Answers.{sort_is}
use Rattle.reader.proofs.row_at.Given as goal

abbrev pub invariant-loop-i : goal.invariant-loop-i
invariant-loop-i l = read_row (sort_is l.sort) l.s l.here (l.fn.row.count - l.i) ≡ read_row (sort_is l.sort) l.s l.fn.row.at l.fn.row.count
