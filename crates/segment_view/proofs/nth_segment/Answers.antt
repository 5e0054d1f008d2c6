-- `segment_view::nth_segment` meets its contract.
use native.Mathlib.Omega.{arith}
use mathlib.Core.Path.{sym, ◌∙◌}
use Rattle.rules.proofs.Standing.{stands}
use Rattle.rules.proofs.Steps.{bind_ok, ok_at}
use Rattle.rules.proofs.Tools.{octets_of}
use Rattle.rules.specs.Views.{segment_view}
use Rattle.rules.specs.Meaning.{components}
use Rattle.rules.specs.Model.{limits}
use Rattle.refusals.proofs.Steps.{stopped}
use Rattle.cbor.specs.Heads.{span_is}
use Rattle.segment_view.proofs.nth_segment.Goals as goal

pub returns-in_err-found : goal.returns-in_err-found
unfolding segment_view
returns-in_err-found c = stopped span_is _ _ _ c.from_residual.ensures.1 c.in_err-found.ensures

pub path_segment-requires : goal.path_segment-requires
path_segment-requires c =
    let s = c.args.s.now in
    (ok_at (stands limits s (octets_of s (λ i. omega (arith, c.type_inv.s i)))) (sym c.in_ok-found.ensures)).path

pub returns : goal.returns
unfolding segment_view components
returns c = c.path_segment.ensures ∙ bind_ok _ _ _ c.in_ok-found.ensures
