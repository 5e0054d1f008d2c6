-- `coap_coding::put_option` meets its contract.
use Rattle.put.proofs.Wrote.{wrote_then, wrote_as}
use Rattle.coap_coding.proofs.Coded.{option_pieces}
use Rattle.coap_coding.proofs.put_option.Goals as goal

pub returns : goal.returns
returns c =
    wrote_as (option_pieces c.args.delta c.args.value.now c.nibble_of.ensures c.nibble_of-2.ensures)
    (wrote_then c.put_byte-p.ensures (wrote_then c.put_extension-q.ensures (wrote_then c.put_extension-r.ensures c.put_bytes.ensures)))
