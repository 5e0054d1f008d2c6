-- `coap_values::port_value` meets its contract.
use native.Mathlib.Omega.{arith}
use Rattle.put.proofs.Wrote.{wrote_as}
use Rattle.coap_values.proofs.Values.{valued_none, valued_wrote, port_width_most, port_big, port_same, port_other}
use Rattle.coap_values.proofs.port_value.Goals as goal

pub returns-then-port-to_port : goal.returns-then-port-to_port
returns-then-port-to_port c = valued_none (port_same _ _ c.if-port-to_port.true)

pub put_big_endian-requires : goal.put_big_endian-requires
put_big_endian-requires c = let m = port_width_most c.args.port in (omega (arith, m, c.port_width.ensures), omega (arith, m, c.port_width.ensures, c.requires.in_bounds))

pub returns : goal.returns
returns c =
    let m = port_width_most c.args.port in
    valued_wrote (port_other _ _ c.if-port-to_port.false) (omega (arith, m, c.requires.in_bounds)) (omega (arith, m))
    (wrote_as (port_big c.args.port c.requires.port_bound) (rw c.port_width.ensures at c.put_big_endian.ensures))
