-- `schemes::entry_by_id` meets its contract: of each id in the table, and of any other.
use Rattle.rules.specs.Rules.{schemes, scheme_in}
use Rattle.schemes.proofs.Table.{entry_at, no_entry}
use Rattle.schemes.proofs.entry_by_id.Goals as goal

pub returns-in-minus1 : goal.returns-in-minus1
unfolding scheme_in schemes
returns-in-minus1 c =
    entry_at _ c.ranges.id c.in-minus1.in-minus1-own.keys1 (c.row.ensures 0)

pub returns-in-minus2 : goal.returns-in-minus2
unfolding scheme_in schemes
returns-in-minus2 c =
    entry_at _ c.ranges.id c.in-minus2.in-minus2-own.keys2 (c.row-in-minus2.ensures 0)

pub returns-in-minus7 : goal.returns-in-minus7
unfolding scheme_in schemes
returns-in-minus7 c =
    entry_at _ c.ranges.id c.in-minus7.in-minus7-own.keys3 (c.row-in-minus7.ensures 0)

pub returns-in-minus8 : goal.returns-in-minus8
unfolding scheme_in schemes
returns-in-minus8 c =
    entry_at _ c.ranges.id c.in-minus8.in-minus8-own.keys4 (c.row-in-minus8.ensures 0)

pub returns-in-minus9 : goal.returns-in-minus9
unfolding scheme_in schemes
returns-in-minus9 c =
    entry_at _ c.ranges.id c.in-minus9.in-minus9-own.keys5 (c.row-in-minus9.ensures 0)

pub returns-in-minus10 : goal.returns-in-minus10
unfolding scheme_in schemes
returns-in-minus10 c =
    entry_at _ c.ranges.id c.in-minus10.in-minus10-own.keys6 (c.row-in-minus10.ensures 0)

pub returns-in_default : goal.returns-in_default
returns-in_default c =
    let r = c.in_default.in_default-own.rest in
    let n = no_entry c.args.id r.0.0.0.0.0.1 r.0.0.0.0.1 r.0.0.0.1 in
    rw (n r.0.0.1 r.0.1 r.1) tt
