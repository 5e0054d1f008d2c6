-- `reader::read` meets its contract.
use native.Mathlib.Omega.{arith}
use mathlib.Core.Path.{sym, ap, ◌∙◌}
use lib.ListN.{length}
use borrow.Author.Tests.{le-leb, lt-leb}
use Rattle.rules.specs.Reader.{read}
use Rattle.rules.proofs.Steps.{need_yes, need_no, bind_ok}
use Rattle.refusals.proofs.Steps.{stopped}
use Rattle.reader.specs.Answers.{found_of, read_rest}
use Rattle.reader.proofs.ReaderCases.{array}
use Rattle.reader.proofs.read.Goals as goal

pub returns-then-s-gt-BYTES : goal.returns-then-s-gt-BYTES
unfolding read
returns-then-s-gt-BYTES c = need_no _ _ _ _ (lt-leb (length c.args.s.now) 4096 c.if-s-gt-BYTES.true)

pub returns-in_err-array : goal.returns-in_err-array
unfolding read
returns-in_err-array c =
    stopped found_of _ _ _ c.from_residual.ensures.1 (array _ _ c.in_err-array.ensures) ∙ need_yes _ _ _ _ (le-leb (length c.args.s.now) 4096 (omega arith))

pub returns-then-array-gt-ITEMS : goal.returns-then-array-gt-ITEMS
unfolding read
returns-then-array-gt-ITEMS c =
    need_no _ _ _ _ (lt-leb c.in_ok-array.array.value 5 c.if-array-gt-ITEMS.true)
    ∙ bind_ok _ _ _ (array _ _ c.in_ok-array.ensures)
    ∙ need_yes _ _ _ _ (le-leb (length c.args.s.now) 4096 (omega arith))

pub returns-in_err-opened : goal.returns-in_err-opened
unfolding read
returns-in_err-opened c =
    stopped found_of _ _ _ c.from_residual-in_err-opened.ensures.1 c.in_err-opened.ensures
    ∙ need_yes _ _ _ _ (le-leb c.in_ok-array.array.value 5 (omega arith))
    ∙ bind_ok _ _ _ (array _ _ c.in_ok-array.ensures)
    ∙ need_yes _ _ _ _ (le-leb (length c.args.s.now) 4096 (omega arith))

pub returns : goal.returns
unfolding read read_rest
returns c =
    c.rest_at.ensures
    ∙ bind_ok _ _ _ c.in_ok-opened.ensures
    ∙ need_yes _ _ _ _ (le-leb c.in_ok-array.array.value 5 (omega arith))
    ∙ bind_ok _ _ _ (array _ _ c.in_ok-array.ensures)
    ∙ need_yes _ _ _ _ (le-leb (length c.args.s.now) 4096 (omega arith))
