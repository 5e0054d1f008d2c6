-- `uri_rows::row_length` meets its contract: what is left to count is the texts that are left. The marks are 0 here: the length does not depend on them.
use lib.ListN.{length}
use Rattle.rules.specs.Reader.{contents}
use Rattle.put.proofs.Wrote.{Count}
use Rattle.uri_escape.specs.Escape.{class_is}
use Rattle.uri_rows.proofs.Marked.{marked_each}
use Rattle.uri_rows.proofs.row_length.Given as goal

abbrev pub invariant-loop-text : goal.invariant-loop-text
invariant-loop-text l = Count l.total (marked_each (class_is l.class) 0 0 l.text-iterator) (length (marked_each (class_is l.class) 0 0 (contents l.s l.fn.row.at l.fn.row.count)))
