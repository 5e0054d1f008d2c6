-- `components::put_texts` meets its contract.
use Rattle.components.specs.Layout.{span_numbers}
use Rattle.put.proofs.Wrote.{wrote_none}
use Rattle.components.proofs.put_texts.Goals as goal

pub returns-in-None : goal.returns-in-None
unfolding span_numbers
returns-in-None c = rw c.in-None.is wrote_none
