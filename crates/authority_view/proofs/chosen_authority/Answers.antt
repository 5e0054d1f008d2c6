-- `authority_view::chosen_authority` meets its contract.
use native.Mathlib.Omega.{arith}
use mathlib.Core.Path.{sym, ap, ◌∙◌}
use Rattle.rules.specs.Result.{ok}
use Rattle.rules.specs.Model.{limits}
use Rattle.rules.specs.Views.{authority_view}
use Rattle.rules.proofs.Tools.{octets_of}
use Rattle.rules.proofs.Steps.{bind_ok, ok_at}
use Rattle.rules.proofs.Laid.{ordered, laid}
use Rattle.refusals.proofs.Steps.{stopped}
use Rattle.reader.specs.Answers.{opening_of}
use Rattle.absolutes.proofs.AbsoluteOpenings.{base_read, base_then}
use Rattle.authority_view.specs.Shown.{piece_is}
use Rattle.authority_view.proofs.chosen_authority.Goals as goal

pub returns-in_err-old : goal.returns-in_err-old
unfolding authority_view
returns-in_err-old c = stopped piece_is _ _ _ c.from_residual.ensures.1 c.in_err-old.ensures ∙ base_then _ _ _

pub returns-in_err-new : goal.returns-in_err-new
unfolding authority_view
returns-in_err-new c =
    stopped piece_is _ _ _ c.from_residual-in_err-new.ensures.1 c.in_err-new.ensures ∙ bind_ok _ _ _ c.in_ok-old.ensures ∙ base_then _ _ _

pub chosen_item-requires : goal.chosen_item-requires
chosen_item-requires c =
    let ref = c.args.reference.now in
    let base = c.args.base.now in
    let found = (ok_at (base_read limits base) (sym c.in_ok-old.ensures)).0 in (
      ordered base (opening_of c.in_ok-old.old.opening) (ok_at (laid limits base (octets_of base (λ i. omega (arith, c.type_inv.base i)))) found).opening,
      ordered ref (opening_of c.in_ok-new.new.opening) (ok_at (laid limits ref (octets_of ref (λ i. omega (arith, c.type_inv.reference i)))) (sym c.in_ok-new.ensures)).opening,
    )

pub returns : goal.returns
unfolding authority_view
returns c = ap ok c.chosen_item.ensures ∙ bind_ok _ _ _ c.in_ok-new.ensures ∙ bind_ok _ _ _ c.in_ok-old.ensures ∙ base_then _ _ _
