-- `coap_coding::row_length` meets its contract: what is left to count is the options of the texts that are left.
use lib.ListN.{length}
use Rattle.rules.specs.Reader.{contents}
use Rattle.put.proofs.Wrote.{Count}
use Rattle.coap_coding.specs.Coded.{Small, AllSmall, coded}
use Rattle.coap_coding.proofs.row_length.Given as goal

abbrev pub invariant-loop-text : goal.invariant-loop-text
invariant-loop-text l =
    AllSmall l.text-iterator × Small l.difference × Count l.total (coded l.difference l.text-iterator) (length (coded l.delta (contents l.s l.fn.row.at l.fn.row.count)))
