-- `coap_coding::put_row` meets its contract: what is left to write is the options of the texts that are left.
use Rattle.rules.specs.Reader.{contents}
use Rattle.put.proofs.Wrote.{Left}
use Rattle.coap_coding.specs.Coded.{Small, AllSmall, coded}
use Rattle.coap_coding.proofs.put_row.Given as goal

abbrev pub invariant-loop-text : goal.invariant-loop-text
invariant-loop-text l =
    AllSmall l.text-iterator × Small l.difference × Left l.room l.o (coded l.difference l.text-iterator) l.initial.room l.at (coded l.delta (contents l.s l.fn.row.at l.fn.row.count))
