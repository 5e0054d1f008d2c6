-- `coap_values::put_labels` meets its contract: what is left to write is each further label after a ".".
use Rattle.rules.specs.Bytes.{dot, join}
use Rattle.rules.specs.Reader.{contents}
use Rattle.put.proofs.Wrote.{Left}
use Rattle.coap_values.proofs.Values.{dotted}
use Rattle.coap_values.proofs.put_labels.Given as goal

abbrev pub invariant-loop-label : goal.invariant-loop-label
invariant-loop-label l = Left l.room l.o (dotted l.label-iterator) l.fn.room 0 (join dot (contents l.s l.fn.row.at l.fn.row.count))
