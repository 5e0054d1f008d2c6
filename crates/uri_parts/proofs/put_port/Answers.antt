-- `uri_parts::put_port` meets its contract.
use native.Mathlib.Omega.{arith}
use mathlib.Core.Path.{ap}
use lib.ListN.{length}
use Rattle.put.proofs.Wrote.{wrote_then, wrote_as, wrote_none, wrote_length}
use Rattle.reader.specs.Answers.{port_of}
use Rattle.uri_parts.proofs.Pieces.{port_none, port_some}
use Rattle.uri_parts.proofs.put_port.Goals as goal

pub put_byte-q-requires : goal.put_byte-q-requires
put_byte-q-requires c = omega (arith, c.requires.port_in_bounds, ap length (port_some (ap port_of c.in-Some.is)))

pub put_decimal-requires : goal.put_decimal-requires
put_decimal-requires c = omega (arith, c.requires.port_in_bounds, c.put_byte-q.ensures.place, wrote_length c.put_byte-q.ensures, ap length (port_some (ap port_of c.in-Some.is)))

pub returns-in-None : goal.returns-in-None
returns-in-None c = wrote_as (port_none (ap port_of c.in-None.is)) wrote_none

pub returns-in-Some : goal.returns-in-Some
returns-in-Some c = wrote_as (port_some (ap port_of c.in-Some.is)) (wrote_then c.put_byte-q.ensures c.put_decimal.ensures)
