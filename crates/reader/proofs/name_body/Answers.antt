-- `reader::name_body` meets its contract.
use mathlib.Core.Path.{sym, ap, ◌∙◌}
use Rattle.rules.specs.Reader.{opening_body}
use Rattle.rules.proofs.Steps.{bind_ok, bind_refused}
use Rattle.reader.proofs.ReaderCases.{first_left}
use Rattle.reader.specs.Answers.{first_is}
use Rattle.reader.proofs.name_body.Goals as goal

pub returns-in_err-end : goal.returns-in_err-end
unfolding opening_body
returns-in_err-end c = λ count. first_left _ _ _ _ _ c.from_residual.ensures.1 (bind_refused _ _ _ _ c.in_err-end.ensures)

pub returns : goal.returns
unfolding opening_body
returns c = λ count. bind_ok _ _ _ c.in_ok-end.ensures
