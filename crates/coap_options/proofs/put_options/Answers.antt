-- `coap_options::put_options` meets its contract.
use Rattle.put.proofs.Wrote.{wrote_then}
use Rattle.coap_options.proofs.put_options.Goals as goal

pub returns : goal.returns
returns c =
    wrote_then c.put_value-a.ensures (wrote_then c.put_value-b.ensures (wrote_then c.put_row-c.ensures c.put_row.ensures))
