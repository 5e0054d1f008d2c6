-- `uri_parts::port_length` meets its contract.
use native.Mathlib.Omega.{arith}
use mathlib.Core.Path.{ap}
use lib.ListN.{length}
use Rattle.reader.specs.Answers.{port_of}
use Rattle.uri_parts.proofs.Pieces.{port_none, port_some}
use Rattle.uri_parts.proofs.port_length.Goals as goal

pub overflow_add-result : goal.overflow_add-result
overflow_add-result c = omega (arith, c.requires.short, c.decimal_length.ensures, ap length (port_some (ap port_of c.in-Some.is)))

pub returns-in-None : goal.returns-in-None
returns-in-None c = ap length (port_none (ap port_of c.in-None.is))

pub returns-in-Some : goal.returns-in-Some
returns-in-Some c = omega (arith, c.decimal_length.ensures, ap length (port_some (ap port_of c.in-Some.is)))
