-- `uri::text_length` meets its contract.
use native.Mathlib.Omega.{arith}
use Rattle.reader.specs.Answers.{found_of}
use Rattle.uri.proofs.PrintedParts.{text_sum}
use Rattle.uri.proofs.text_length.Goals as goal

pub origin_length-requires : goal.origin_length-requires
origin_length-requires c =
    record { link_size = c.requires.prints.size; opening_prints = c.requires.prints.opening; short = omega (arith, c.requires.prints.most, c.requires.prints.size, text_sum c.args.s.now (found_of c.args.found)) }

pub overflow_add-result : goal.overflow_add-result
overflow_add-result c = omega (arith, c.requires.prints.most, c.requires.prints.size, c.origin_length.ensures, c.path_length.ensures, text_sum c.args.s.now (found_of c.args.found))

pub overflow_add-result-2 : goal.overflow_add-result-2
overflow_add-result-2 c = omega (arith, c.requires.prints.most, c.requires.prints.size, c.origin_length.ensures, c.path_length.ensures, c.query_length.ensures, text_sum c.args.s.now (found_of c.args.found))

pub fragment_length-requires : goal.fragment_length-requires
fragment_length-requires c =
    record { link_size = c.requires.prints.size; text_stands = c.requires.prints.fragment; short = omega (arith, c.requires.prints.most, c.requires.prints.size, text_sum c.args.s.now (found_of c.args.found)) }

pub overflow_add-result-3 : goal.overflow_add-result-3
overflow_add-result-3 c = omega (arith, c.requires.prints.most, c.requires.prints.size, c.origin_length.ensures, c.path_length.ensures, c.query_length.ensures, c.fragment_length.ensures, text_sum c.args.s.now (found_of c.args.found))

pub returns : goal.returns
returns c = omega (arith, c.origin_length.ensures, c.path_length.ensures, c.query_length.ensures, c.fragment_length.ensures, text_sum c.args.s.now (found_of c.args.found))
