-- `bench::after_item` meets its contract.
use mathlib.Core.Path.{sym, ◌∙◌}
use Rattle.rules.proofs.Tools.{cond_yes, cond_no}
use Rattle.rules.proofs.Steps.{bind_ok}
use Rattle.refusals.proofs.Steps.{stopped}
use Rattle.cbor.proofs.Heads.{head_accepted}
use Rattle.bench.specs.Answers.{after_head, after_item}
use Rattle.bench.proofs.after_item.Goals as goal

pub returns-in_err-head : goal.returns-in_err-head
unfolding after_item
returns-in_err-head c = stopped (λ n. n) _ _ _ c.from_residual.ensures.1 c.in_err-head.ensures

pub after_content-requires : goal.after_content-requires
after_content-requires c = (head_accepted c.in_ok-head.ensures).inside

pub returns-then-is : goal.returns-then-is
unfolding after_item after_head
returns-then-is c = c.after_content.ensures ∙ sym (cond_yes _ _ _ (sym c.if-is.ensures)) ∙ bind_ok _ _ _ c.in_ok-head.ensures

pub returns : goal.returns
unfolding after_item after_head
returns c = sym (cond_no _ _ _ (sym c.if-is.ensures)) ∙ bind_ok _ _ _ c.in_ok-head.ensures
