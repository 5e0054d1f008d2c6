-- `uri_parts::fragment_length` meets its contract.
use native.Mathlib.Omega.{arith}
use mathlib.Core.Path.{ap}
use lib.ListN.{length}
use Rattle.reader.specs.Answers.{text_of}
use Rattle.uri_parts.proofs.Pieces.{fragment_unset, fragment_set}
use Rattle.uri_parts.proofs.fragment_length.Goals as goal

pub returns-in-None : goal.returns-in-None
returns-in-None c = ap length (fragment_unset _ (ap text_of c.in-None.is))

pub of-requires : goal.of-requires
of-requires c = rw (ap text_of c.in-Some.is) at c.requires.text_stands

pub overflow_add-result : goal.overflow_add-result
overflow_add-result c =
    omega (arith, c.requires.short, rw c.of.ensures.shows at c.escaped_length.ensures, ap length (fragment_set c.args.s.now (ap text_of c.in-Some.is)))

pub returns-in-Some : goal.returns-in-Some
returns-in-Some c =
    omega (arith, rw c.of.ensures.shows at c.escaped_length.ensures, ap length (fragment_set c.args.s.now (ap text_of c.in-Some.is)))
