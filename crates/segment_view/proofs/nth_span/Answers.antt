-- `segment_view::nth_span` meets its contract.
use Prim.Native.Nat.{suc}
use native.Mathlib.Omega.{arith}
use mathlib.Core.Path.{sym, subst}
use Rattle.rules.specs.Standing.{ItemStands}
use Rattle.cbor_rows.proofs.Rows.{first_items, nth_stands}
use Rattle.segment_view.proofs.nth_span.Goals as goal

pub after-requires : goal.after-requires
after-requires c =
    let n = c.args.n in
    first_items _ _ (suc n) n (omega arith) c.requires

pub span_at-requires : goal.span_at-requires
span_at-requires c = subst (ItemStands _) (sym c.after.ensures) (nth_stands _ _ _ c.requires)
