-- `reader::authority_at` meets its contract.
use native.Mathlib.Omega.{arith}
use mathlib.Core.Path.{sym, ap, ◌∙◌}
use Rattle.rules.specs.Reader.{read_authority}
use Rattle.rules.proofs.Tools.{is_within}
use Rattle.rules.proofs.Steps.{need_yes, need_no, bind_ok}
use Rattle.refusals.proofs.Steps.{stopped}
use Rattle.reader.specs.Answers.{authority_of, read_host}
use Rattle.reader.proofs.ReaderCases.{array, outside}
use Rattle.reader.proofs.authority_at.Goals as goal

pub returns-in_err-array : goal.returns-in_err-array
unfolding read_authority
returns-in_err-array c = stopped authority_of _ _ _ c.from_residual.ensures.1 (array _ _ c.in_err-array.ensures)

pub returns-then-array-lt1 : goal.returns-then-array-lt1
unfolding read_authority
returns-then-array-lt1 c =
    need_no _ _ _ _ (outside 1 9 c.in_ok-array.array.value c.then-array-lt1.either) ∙ bind_ok _ _ _ (array _ _ c.in_ok-array.ensures)

pub returns : goal.returns
unfolding read_authority read_host
returns c =
    c.host_at.ensures
    ∙ need_yes _ _ _ _ (is_within 1 9 c.in_ok-array.array.value (omega arith) (omega arith))
    ∙ bind_ok _ _ _ (array _ _ c.in_ok-array.ensures)
