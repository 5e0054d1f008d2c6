-- `uri_parts::put_fragment` meets its contract.
use native.Mathlib.Omega.{arith}
use mathlib.Core.Path.{ap}
use lib.ListN.{length}
use Rattle.put.proofs.Wrote.{wrote_then, wrote_as, wrote_none, wrote_length}
use Rattle.reader.specs.Answers.{text_of}
use Rattle.uri_parts.proofs.Pieces.{fragment_unset, fragment_set}
use Rattle.uri_parts.proofs.put_fragment.Goals as goal

pub returns-in-None : goal.returns-in-None
returns-in-None c = wrote_as (fragment_unset _ (ap text_of c.in-None.is)) wrote_none

pub put_byte-p-requires : goal.put_byte-p-requires
put_byte-p-requires c =
    omega (arith, c.requires.fragment_in_bounds, ap length (fragment_set c.args.s.now (ap text_of c.in-Some.is)))

pub of-requires : goal.of-requires
of-requires c = rw (ap text_of c.in-Some.is) at c.requires.text_stands

pub put_escaped-requires : goal.put_escaped-requires
put_escaped-requires c =
    let e = ap text_of c.in-Some.is in
    rw c.of.ensures.shows (omega (arith, c.requires.fragment_in_bounds, c.put_byte-p.ensures.place, wrote_length c.put_byte-p.ensures, ap length (fragment_set c.args.s.now e)))

pub returns-in-Some : goal.returns-in-Some
returns-in-Some c =
    wrote_as (fragment_set _ (ap text_of c.in-Some.is)) (wrote_then c.put_byte-p.ensures (rw c.of.ensures.shows at c.put_escaped.ensures))
