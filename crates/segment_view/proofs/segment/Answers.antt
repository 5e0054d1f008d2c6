-- `segment_view::segment` meets its contract: the part lies inside.
use native.Mathlib.Omega.{arith}
use mathlib.Core.Path.{sym, ◌∙◌}
use Rattle.rules.proofs.Standing.{segment_inside}
use Rattle.rules.proofs.Steps.{ok_at}
use Rattle.rules.proofs.Tools.{octets_of}
use Rattle.rules.specs.Model.{limits}
use Rattle.segment_view.proofs.segment.Goals as goal

pub of-requires : goal.of-requires
of-requires c =
    let s = c.args.link.now in
    ok_at (segment_inside limits s _ (octets_of s (λ i. omega (arith, c.type_inv.link i)))) (sym c.in-Ok.ensures)
