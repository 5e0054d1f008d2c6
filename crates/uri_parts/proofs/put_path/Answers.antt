-- `uri_parts::put_path` meets its contract.
use native.Mathlib.Omega.{arith}
use mathlib.Core.Path.{ap}
use lib.ListN.{length}
use Rattle.put.proofs.Wrote.{wrote_as}
use Rattle.reader.specs.Answers.{slot_of}
use Rattle.uri_parts.proofs.Pieces.{path_unset, path_set}
use Rattle.uri_parts.proofs.put_path.Goals as goal

pub put_row-requires : goal.put_row-requires
put_row-requires c = let e = ap slot_of c.in-Some.is in
    record { row_at = rw e at c.requires.texts_print; count_in_bounds = omega (arith, c.requires.path_in_bounds, ap length (path_set c.args.s.now e)) }

pub returns-in-None : goal.returns-in-None
returns-in-None c = wrote_as (path_unset _ (ap slot_of c.in-None.is)) c.put_byte.ensures

pub returns-in-Some : goal.returns-in-Some
returns-in-Some c = wrote_as (path_set _ (ap slot_of c.in-Some.is)) c.put_row.ensures
