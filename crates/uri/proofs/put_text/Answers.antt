-- `uri::put_text` meets its contract.
use native.Mathlib.Omega.{arith}
use Rattle.put.proofs.Wrote.{wrote_then, wrote_length}
use Rattle.reader.specs.Answers.{found_of}
use Rattle.uri.proofs.PrintedParts.{text_sum}
use Rattle.uri.specs.Printed.{text_pieces}
use Rattle.uri.proofs.put_text.Goals as goal

pub put_origin-a-requires : goal.put_origin-a-requires
put_origin-a-requires c =
    record { opening_prints = c.requires.prints.opening; opening_in_bounds = omega (arith, c.requires.found_in_bounds, text_sum c.args.s.now (found_of c.args.found)) }

pub put_path-b-requires : goal.put_path-b-requires
put_path-b-requires c =
    record { texts_print = c.requires.prints.path; path_in_bounds = omega (arith, c.requires.found_in_bounds, text_sum c.args.s.now (found_of c.args.found), c.put_origin-a.ensures.place, wrote_length c.put_origin-a.ensures) }

pub put_query-c-requires : goal.put_query-c-requires
put_query-c-requires c =
    record { texts_print = c.requires.prints.query; query_in_bounds = omega (arith, c.requires.found_in_bounds, text_sum c.args.s.now (found_of c.args.found), c.put_origin-a.ensures.place, wrote_length c.put_origin-a.ensures, c.put_path-b.ensures.place, wrote_length c.put_path-b.ensures) }

pub put_fragment-requires : goal.put_fragment-requires
put_fragment-requires c =
    record { text_stands = c.requires.prints.fragment; fragment_in_bounds = omega (arith, c.requires.found_in_bounds, text_sum c.args.s.now (found_of c.args.found), c.put_origin-a.ensures.place, wrote_length c.put_origin-a.ensures, c.put_path-b.ensures.place, wrote_length c.put_path-b.ensures, c.put_query-c.ensures.place, wrote_length c.put_query-c.ensures) }

pub returns : goal.returns
unfolding text_pieces
returns c = wrote_then c.put_origin-a.ensures (wrote_then c.put_path-b.ensures (wrote_then c.put_query-c.ensures c.put_fragment.ensures))
