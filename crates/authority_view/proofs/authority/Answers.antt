-- `authority_view::authority` meets its contract: the part lies inside.
use native.Mathlib.Omega.{arith}
use mathlib.Core.Path.{◌≡◌, sym, ap, ◌∙◌, subst}
use Rattle.rules.specs.Model.{limits}
use Rattle.rules.proofs.Tools.{octets_of}
use Rattle.rules.proofs.Steps.{ok_use}
use Rattle.rules.proofs.Steps as Steps
use Rattle.rules.proofs.Laid.{PieceStands, authority_inside}
use Rattle.std.specs.Prelude.{Result, Ok}
use Rattle.refusals.specs.declared.Refusal.{Refusal}
use Rattle.refusals.specs.Answers.{answer_is}
use Rattle.authority_view.specs.declared.Piece.{Piece}
use Rattle.authority_view.specs.Shown.{piece_is}
use Rattle.authority_view.proofs.authority.Goals as goal
use Rattle.authority_view.proofs.authority.Goals.{After-chosen_authority}

-- the part lies inside
inside : (c : After-chosen_authority) (p : Result Piece Refusal) → c.chosen_authority.result ≡ p
    → Steps.Ok (PieceStands c.args.base.now c.args.reference.now) (answer_is piece_is p)
inside c p e =
    let ref = c.args.reference.now in
    let base = c.args.base.now in
    subst (Steps.Ok (PieceStands base ref)) (sym c.chosen_authority.ensures ∙ ap (answer_is piece_is) e)
    (authority_inside limits base ref (octets_of base (λ i. omega (arith, c.type_inv.base i))) (octets_of ref (λ i. omega (arith, c.type_inv.reference i))))

pub of-requires : goal.of-requires
of-requires c = omega (arith, ok_use (inside (goal.at.of-requires c).After-chosen_authority _ (c.in-Ok-OfReference.is ∙ ap Ok c.in-Ok-OfReference.field-0-is)))

pub of-requires-in-Ok-OfBase : goal.of-requires-in-Ok-OfBase
of-requires-in-Ok-OfBase c = omega (arith, ok_use (inside (goal.at.of-requires-in-Ok-OfBase c).After-chosen_authority _ (c.in-Ok-OfBase.is ∙ ap Ok c.in-Ok-OfBase.field-0-is)))
