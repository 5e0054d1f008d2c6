-- `reader::rest_at` meets its contract.
use native.Mathlib.Omega.{arith}
use mathlib.Core.Path.{sym, ap, ◌∙◌}
use lib.ListN.{length}
use borrow.Author.Tests.{le-leb, lt-leb}
use Rattle.rules.specs.Reader.{read_array, read_fragment}
use Rattle.rules.specs.Rules.{parameter}
use Rattle.rules.proofs.Steps.{need_yes, need_no, bind_ok}
use Rattle.refusals.proofs.Steps.{stopped}
use Rattle.reader.specs.Answers.{found_of, read_rest}
use Rattle.reader.proofs.rest_at.Goals as goal

pub returns-in_err-path : goal.returns-in_err-path
unfolding read_rest
returns-in_err-path c = stopped found_of _ _ _ c.from_residual.ensures.1 c.in_err-path.ensures

pub returns-in_err-query : goal.returns-in_err-query
unfolding read_rest
returns-in_err-query c =
    stopped found_of _ _ _ c.from_residual-in_err-query.ensures.1 (c.in_err-query.ensures ∙ ap (read_array parameter 1 16 _ _) c.saturating_sub.ensures)
    ∙ bind_ok _ _ _ c.in_ok-path.ensures

pub returns-in_err-fragment : goal.returns-in_err-fragment
unfolding read_rest
returns-in_err-fragment c =
    stopped found_of _ _ _ c.from_residual-in_err-fragment.ensures.1 (c.in_err-fragment.ensures ∙ ap (read_fragment _ _) c.saturating_sub-2.ensures)
    ∙ bind_ok _ _ _ (c.in_ok-query.ensures ∙ ap (read_array parameter 1 16 _ _) c.saturating_sub.ensures)
    ∙ bind_ok _ _ _ c.in_ok-path.ensures

pub returns-then-end-s : goal.returns-then-end-s
unfolding read_rest
returns-then-end-s c =
    need_no _ _ _ _ (lt-leb (length c.args.s.now) c.in_ok-fragment.end c.if-end-s.true)
    ∙ bind_ok _ _ _ (c.in_ok-fragment.ensures ∙ ap (read_fragment _ _) c.saturating_sub-2.ensures)
    ∙ bind_ok _ _ _ (c.in_ok-query.ensures ∙ ap (read_array parameter 1 16 _ _) c.saturating_sub.ensures)
    ∙ bind_ok _ _ _ c.in_ok-path.ensures

pub returns : goal.returns
unfolding read_rest
returns c =
    need_yes _ _ _ _ (le-leb (length c.args.s.now) c.in_ok-fragment.end c.if-end-s.false)
    ∙ bind_ok _ _ _ (c.in_ok-fragment.ensures ∙ ap (read_fragment _ _) c.saturating_sub-2.ensures)
    ∙ bind_ok _ _ _ (c.in_ok-query.ensures ∙ ap (read_array parameter 1 16 _ _) c.saturating_sub.ensures)
    ∙ bind_ok _ _ _ c.in_ok-path.ensures
