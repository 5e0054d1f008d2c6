-- `coap_values::parameters` meets its contract.
use Rattle.coap_values.proofs.Values.{texts_row}
use Rattle.coap_values.proofs.parameters.Goals as goal

pub returns : goal.returns
returns c bs h = texts_row bs c.args.query c.unwrap_or.result c.unwrap_or.ensures h
