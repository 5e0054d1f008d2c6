-- `reader::opening_at` meets its contract.
use mathlib.Core.Path.{sym, ap, ◌∙◌}
use Rattle.refusals.proofs.Steps.{left}
use Rattle.reader.specs.Answers.{opened_is}
use Rattle.reader.proofs.ReaderCases.{opening_none}
use Rattle.reader.proofs.opening_at.Goals as goal

pub returns-then-count-eq0 : goal.returns-then-count-eq0
returns-then-count-eq0 c = opening_none _ _ _ c.if-count-eq0.true
