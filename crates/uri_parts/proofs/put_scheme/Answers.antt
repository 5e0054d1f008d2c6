-- `uri_parts::put_scheme` meets its contract.
use native.Mathlib.Omega.{arith}
use mathlib.Core.Path.{ap, ◌∙◌}
use lib.ListN.{length}
use Rattle.std.specs.Prelude.{Some}
use Rattle.put.proofs.Wrote.{wrote_as, wrote_none}
use Rattle.reader.specs.Answers.{scheme_of}
use Rattle.uri_parts.proofs.Pieces.{scheme_none, scheme_number_lem, scheme_name_lem}
use Rattle.uri_parts.proofs.put_scheme.Goals as goal

pub put_name-requires : goal.put_name-requires
put_name-requires c = omega (arith, c.requires.scheme_in_bounds, ap length (scheme_number_lem c.args.s.now (ap scheme_of (c.in-Some.is ∙ ap Some c.in-Number.is))))

pub of-requires : goal.of-requires
of-requires c = rw (ap scheme_of (c.in-Some.is ∙ ap Some c.in-Name.is)) at c.requires.scheme_stands

pub put_bytes-requires : goal.put_bytes-requires
put_bytes-requires c =
    rw c.of.ensures.shows (omega (arith, c.requires.scheme_in_bounds, ap length (scheme_name_lem c.args.s.now (ap scheme_of (c.in-Some.is ∙ ap Some c.in-Name.is)))))

pub returns-in-None : goal.returns-in-None
returns-in-None c = wrote_as (scheme_none _ (ap scheme_of c.in-None.is)) wrote_none

pub returns-in-Number : goal.returns-in-Number
returns-in-Number c = wrote_as (scheme_number_lem _ (ap scheme_of (c.in-Some.is ∙ ap Some c.in-Number.is))) c.put_name.ensures

pub returns-in-Name : goal.returns-in-Name
returns-in-Name c = wrote_as (scheme_name_lem _ (ap scheme_of (c.in-Some.is ∙ ap Some c.in-Name.is))) (rw c.of.ensures.shows at c.put_bytes.ensures)
