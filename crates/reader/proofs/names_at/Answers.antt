-- `reader::names_at` meets its contract: what is left is read from where the last label ended.
use Prim.Native.Nat.{ℕ, ◌+◌}
use native.Mathlib.Omega.{arith}
use mathlib.Core.Option.{none}
use Rattle.rules.specs.Result.{ok}
use mathlib.Core.Path.{◌≡◌, sym, ap, ◌∙◌}
use Rattle.rules.proofs.Steps.{bind_ok, if_yes, if_no}
use Rattle.refusals.proofs.Steps.{stopped}
use Rattle.cbor.proofs.Heads.{head_accepted}
use Rattle.reader.specs.Answers.{names_is}
use Rattle.reader.proofs.ReaderCases.{text_or_number, names_none, names_more, names_next}
use Rattle.reader.proofs.names_at.Goals as goal

pub returns-in_err-head : goal.returns-in_err-head
returns-in_err-head c =
    stopped names_is _ _ _ c.from_residual.ensures.1 (text_or_number _ _ c.in_err-head.ensures) ∙ names_more _ _ _ _ (omega arith) ∙ c.loop-i.invariant

pub returns-then-not-is : goal.returns-then-not-is
returns-then-not-is c =
    c.port_body.ensures
    ∙ if_no _ _ _ (sym c.if-not-is.ensures)
    ∙ bind_ok _ _ _ (text_or_number _ _ c.in_ok-head.ensures)
    ∙ names_more _ _ _ _ (omega arith)
    ∙ c.loop-i.invariant

pub label_body-requires : goal.label_body-requires
label_body-requires c = (head_accepted c.in_ok-head.ensures).inside

pub returns-in_err-here : goal.returns-in_err-here
returns-in_err-here c =
    stopped names_is _ _ _ c.from_residual-in_err-here.ensures.1 c.in_err-here.ensures
    ∙ if_yes _ _ _ (sym c.if-not-is.ensures)
    ∙ bind_ok _ _ _ (text_or_number _ _ c.in_ok-head.ensures)
    ∙ names_more _ _ _ _ (omega arith)
    ∙ c.loop-i.invariant

pub loop-i-preserved : goal.loop-i-preserved
loop-i-preserved c =
    names_next _ _ _ _ _ _ _ (omega arith) (omega arith) (omega arith) _ (sym c.if-not-is.ensures) (text_or_number _ _ c.in_ok-head.ensures) c.in_ok-here.ensures
    ∙ c.loop-i.invariant

pub returns : goal.returns
returns c =
    let n : c.args.count + c.args.items ≡ c.args.count + c.loop-i.i = omega arith in
    ap (λ (n : ℕ). ok (record { count = n; port = none; next = c.loop-i.here })) n ∙ names_none _ _ _ _ (omega arith) ∙ c.loop-i.invariant
