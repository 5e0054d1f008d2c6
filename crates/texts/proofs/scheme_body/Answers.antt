-- `texts::scheme_body` meets its contract: the form is judged first, and then the names of the table.
use native.Mathlib.Omega.{arith}
use mathlib.Core.Path.{sym, ap, ◌∙◌}
use mathlib.Core.Bool.{not}
use Rattle.rules.proofs.Steps.{need_yes, need_no, bind_ok, ok_at}
use Rattle.refusals.proofs.Steps.{stopped}
use Rattle.schemes.specs.Schemes.{known_name}
use Rattle.texts.proofs.RuleCases.{text_inside, scheme_then}
use Rattle.texts.proofs.scheme_body.Goals as goal

pub of-requires : goal.of-requires
of-requires c = omega (arith, ok_at (text_inside _ _ _ _) (sym c.in_ok-end.ensures))

pub returns-in_err-end : goal.returns-in_err-end
returns-in_err-end c =
    stopped (λ n. n) _ _ _ c.from_residual.ensures.1 c.in_err-end.ensures ∙ sym (scheme_then _ _ _)

pub returns-then-is_name : goal.returns-then-is_name
returns-then-is_name c =
    need_no _ _ _ _ (ap not (ap known_name (sym c.of.ensures.shows) ∙ sym c.is_name.ensures ∙ c.if-is_name.true))
    ∙ bind_ok _ _ _ c.in_ok-end.ensures
    ∙ sym (scheme_then _ _ _)

pub returns : goal.returns
returns c =
    need_yes _ _ _ _ (ap not (ap known_name (sym c.of.ensures.shows) ∙ sym c.is_name.ensures ∙ c.if-is_name.false))
    ∙ bind_ok _ _ _ c.in_ok-end.ensures
    ∙ sym (scheme_then _ _ _)
