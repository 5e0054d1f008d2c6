-- `uri_parts::put_query` meets its contract.
use native.Mathlib.Omega.{arith}
use mathlib.Core.Path.{ap}
use lib.ListN.{length}
use Rattle.put.proofs.Wrote.{wrote_as, wrote_none}
use Rattle.reader.specs.Answers.{slot_of}
use Rattle.uri_parts.proofs.Pieces.{query_unset, query_set}
use Rattle.uri_parts.proofs.put_query.Goals as goal

pub put_row-requires : goal.put_row-requires
put_row-requires c = let e = ap slot_of c.in-Some.is in
    record { row_at = rw e at c.requires.texts_print; count_in_bounds = omega (arith, c.requires.query_in_bounds, ap length (query_set c.args.s.now e)) }

pub returns-in-None : goal.returns-in-None
returns-in-None c = wrote_as (query_unset _ (ap slot_of c.in-None.is)) wrote_none

pub returns-in-Some : goal.returns-in-Some
returns-in-Some c = wrote_as (query_set _ (ap slot_of c.in-Some.is)) c.put_row.ensures
