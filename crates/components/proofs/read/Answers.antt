-- `components::read` meets its contract: what was found stands inside, and is laid out.
use native.Mathlib.Omega.{arith}
use mathlib.Core.Path.{sym, ap, ◌∙◌}
use Rattle.rules.proofs.RefusalNumbers.{call_accepted, call_refused}
use Rattle.rules.proofs.Standing.{stands}
use Rattle.rules.proofs.Steps.{ok_at}
use Rattle.rules.proofs.Tools.{octets_of}
use Rattle.rules.specs.Result.{ok}
use Rattle.rules.specs.Model.{limits}
use Rattle.refusals.proofs.Steps.{left}
use Rattle.components.specs.Layout.{reading_laid, spans_after}
use Rattle.components.proofs.read.Goals as goal

pub returns-in_err-found : goal.returns-in_err-found
unfolding spans_after
returns-in_err-found c =
    let e = call_refused limits c.args.s.now _ _ (sym c.in_err-found.ensures) in
    record { value = left (λ c. c) _ _ c.from_residual.ensures.1 (ap reading_laid e); spans_after = ap (λ u. spans_after u c.args.spans.now) e }

pub put_found-requires : goal.put_found-requires
put_found-requires c =
    let s = c.args.s.now in
    ok_at (stands limits s (octets_of s (λ i. omega (arith, c.type_inv.s i)))) (sym c.in_ok-found.ensures)

pub returns : goal.returns
returns c =
    let e = call_accepted limits c.args.s.now _ (sym c.in_ok-found.ensures) in
    record { value = ap ok (c.components_of.ensures c.args.s.now) ∙ ap reading_laid e; spans_after = c.put_found.ensures ∙ ap (λ u. spans_after u c.args.spans.now) e }
