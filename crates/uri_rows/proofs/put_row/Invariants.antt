-- `uri_rows::put_row` meets its contract: what is left to write is the texts that are left, the first of them after the mark.
use mathlib.Core.List.{◌∷◌, map}
use Rattle.rules.specs.Bytes.{join}
use Rattle.rules.specs.Reader.{contents}
use Rattle.rules.specs.Text.{escape}
use Rattle.put.proofs.Wrote.{Left}
use Rattle.uri_escape.specs.Escape.{class_is}
use Rattle.uri_rows.proofs.Marked.{marked_each}
use Rattle.uri_rows.proofs.put_row.Given as goal

abbrev pub invariant-loop-text : goal.invariant-loop-text
invariant-loop-text l =
    Left l.room l.o (marked_each (class_is l.class) l.before l.delimiter l.text-iterator) l.initial.room l.at (l.mark ∷ join l.delimiter (map (escape (class_is l.class)) (contents l.s l.fn.row.at l.fn.row.count)))
