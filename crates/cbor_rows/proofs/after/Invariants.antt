-- `cbor_rows::after` meets its contract: the items whose spans are left are left to pass.
use Rattle.cbor_rows.proofs.RowEnds.{Walked}
use Rattle.cbor_rows.proofs.after.Given as goal

abbrev pub invariant-loop-span : goal.invariant-loop-span
invariant-loop-span l = Walked l.s l.fn.row.at l.fn.row.count l.next l.span-iterator
