-- `absolutes::read_base` meets its contract.
use mathlib.Core.Path.{sym, ap, ◌∙◌}
use Rattle.rules.specs.Resolve.{as_base}
use Rattle.rules.proofs.Steps.{need_yes, need_no, bind_ok, bind_refused}
use Rattle.absolutes.specs.Bases.{read_base}
use Rattle.absolutes.proofs.read_base.Goals as goal

pub returns-in-Err : goal.returns-in-Err
unfolding read_base
returns-in-Err c = bind_refused _ _ _ _ (ap as_base c.in-Err.ensures)

pub returns-then-not-is_absolute : goal.returns-then-not-is_absolute
unfolding read_base
returns-then-not-is_absolute c = need_no _ _ _ _ (sym c.is_absolute.ensures ∙ c.if-not-is_absolute.true) ∙ bind_ok _ _ _ (ap as_base c.in-Ok.ensures)

pub returns : goal.returns
unfolding read_base
returns c = need_yes _ _ _ _ (sym c.is_absolute.ensures ∙ c.if-not-is_absolute.false) ∙ bind_ok _ _ _ (ap as_base c.in-Ok.ensures)
