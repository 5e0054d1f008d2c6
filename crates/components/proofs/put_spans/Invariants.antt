-- `components::put_spans` meets its contract: what is left to put is the numbers of the spans that are left.
use Rattle.rules.specs.Reader.{spans}
use Rattle.put.proofs.Wrote.{Left}
use Rattle.components.specs.Layout.{span_numbers}
use Rattle.components.proofs.put_spans.Given as goal

abbrev pub invariant-loop-span : goal.invariant-loop-span
invariant-loop-span l = Left l.room l.o (span_numbers l.span-iterator) l.initial.room l.at (span_numbers (spans l.s l.fn.row.at l.fn.row.count))
