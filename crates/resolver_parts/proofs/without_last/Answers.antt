-- `resolver_parts::without_last` meets its contract.
use Rattle.resolver_parts.proofs.ResultParts.{row_all, first_stand, first_ends, row_first}
use Rattle.resolver_parts.proofs.without_last.Goals as goal

pub returns-then-k-eq0 : goal.returns-then-k-eq0
returns-then-k-eq0 c = row_all c.args.s.now c.args.row c.args.k c.requires c.if-k-eq0.true

pub after-requires : goal.after-requires
after-requires c = simp c.saturating_sub.ensures (first_stand c.args.s.now c.args.row c.args.k c.requires)

pub between-requires : goal.between-requires
between-requires c = simp (c.after.ensures, c.saturating_sub.ensures) (first_ends c.args.s.now c.args.row c.args.k c.requires)

pub returns : goal.returns
returns c =
    simp c.saturating_sub.ensures
    (row_first c.args.s.now c.args.row c.args.k c.requires _ (simp (c.between.ensures, c.after.ensures, c.saturating_sub.ensures)))
