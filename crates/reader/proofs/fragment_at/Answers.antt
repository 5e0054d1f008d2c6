-- `reader::fragment_at` meets its contract.
use native.Mathlib.Omega.{arith}
use mathlib.Core.Path.{sym, ap, ◌∙◌}
use Rattle.rules.specs.Reader.{fragment_body}
use Rattle.rules.proofs.Steps.{bind_ok, if_yes, if_no}
use Rattle.refusals.proofs.Steps.{stopped, left}
use Rattle.cbor.proofs.Heads.{head_accepted}
use Rattle.reader.specs.Answers.{fragment_is}
use Rattle.reader.proofs.ReaderCases.{text_or_null, fragment_none, fragment_more}
use Rattle.reader.proofs.fragment_at.Goals as goal

pub returns-then-left-eq0 : goal.returns-then-left-eq0
returns-then-left-eq0 c = fragment_none _ _ _ c.if-left-eq0.true

pub returns-in_err-head : goal.returns-in_err-head
returns-in_err-head c =
    stopped fragment_is _ _ _ c.from_residual.ensures.1 (text_or_null _ _ c.in_err-head.ensures) ∙ fragment_more _ _ _ (omega arith)

pub returns-in_err-next : goal.returns-in_err-next
returns-in_err-next c =
    left fragment_is _ _ c.from_residual-in_err-next.ensures.1 c.in_err-next.ensures
    ∙ if_yes _ _ _ (sym c.if-is.ensures)
    ∙ bind_ok _ _ _ (text_or_null _ _ c.in_ok-head.ensures)
    ∙ fragment_more _ _ _ (omega arith)

pub returns-then-is : goal.returns-then-is
returns-then-is c =
    c.in_ok-next.ensures
    ∙ if_yes _ _ _ (sym c.if-is.ensures)
    ∙ bind_ok _ _ _ (text_or_null _ _ c.in_ok-head.ensures)
    ∙ fragment_more _ _ _ (omega arith)

pub text_body-requires : goal.text_body-requires
text_body-requires c = (head_accepted c.in_ok-head.ensures).inside

pub returns-in_err-next-2 : goal.returns-in_err-next-2
unfolding fragment_body
returns-in_err-next-2 c =
    stopped fragment_is _ _ _ c.from_residual-in_err-next-2.ensures.1 c.in_err-next-2.ensures
    ∙ if_no _ _ _ (sym c.if-is.ensures)
    ∙ bind_ok _ _ _ (text_or_null _ _ c.in_ok-head.ensures)
    ∙ fragment_more _ _ _ (omega arith)

pub returns : goal.returns
unfolding fragment_body
returns c =
    bind_ok _ _ _ c.in_ok-next-2.ensures
    ∙ if_no _ _ _ (sym c.if-is.ensures)
    ∙ bind_ok _ _ _ (text_or_null _ _ c.in_ok-head.ensures)
    ∙ fragment_more _ _ _ (omega arith)
