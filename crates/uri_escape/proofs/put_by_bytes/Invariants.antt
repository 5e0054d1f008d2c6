-- `uri_escape::put_by_bytes` meets its contract: the bytes that are passed are written, escaped.
use lib.ListN.{take}
use Rattle.rules.specs.Text.{escape}
use Rattle.put.specs.Wrote.{Wrote}
use Rattle.uri_escape.specs.Escape.{class_is}
use Rattle.uri_escape.proofs.put_by_bytes.Given as goal

abbrev pub invariant-loop-b : goal.invariant-loop-b
invariant-loop-b l = Wrote l.initial.room l.at (escape (class_is l.class) (take l.b-index l.text)) l.room l.o
