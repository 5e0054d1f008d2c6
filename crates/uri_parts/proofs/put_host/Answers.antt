-- `uri_parts::put_host` meets its contract.
use native.Mathlib.Omega.{arith}
use mathlib.Core.Path.{ap, ◌∙◌}
use lib.ListN.{length}
use Rattle.rules.specs.Rules.{address_size}
use Rattle.rules.proofs.Tools.{length_part}
use Rattle.put.proofs.Wrote.{wrote_then, wrote_as, wrote_length}
use Rattle.reader.specs.Answers.{host_of}
use Rattle.uri_parts.proofs.Pieces.{host_address, host_labels}
use Rattle.uri_parts.proofs.put_host.Goals as goal

pub put_byte-p-requires : goal.put_byte-p-requires
put_byte-p-requires c = omega (arith, c.requires.host_in_bounds, ap length (host_address c.args.s.now (ap host_of c.in-Address.is)))

pub of-requires : goal.of-requires
of-requires c = (rw (ap host_of c.in-Address.is) at c.requires.host_prints).0

pub put_address-requires : goal.put_address-requires
put_address-requires c =
    let e = ap host_of c.in-Address.is in
    let h = rw e at c.requires.host_prints in
    record { size = ap address_size (ap length c.of.ensures.shows ∙ length_part c.args.s.now _ _ h.0) ∙ h.1; room_enough = rw c.of.ensures.shows (omega (arith, c.requires.host_in_bounds, c.put_byte-p.ensures.place, wrote_length c.put_byte-p.ensures, ap length (host_address c.args.s.now e))) }

pub put_row-requires : goal.put_row-requires
put_row-requires c = let e = ap host_of c.in-Labels.is in
    record { row_at = rw e at c.requires.host_prints; count_in_bounds = omega (arith, c.requires.host_in_bounds, ap length (host_labels c.args.s.now e)) }

pub returns-in-Address : goal.returns-in-Address
returns-in-Address c =
    wrote_as (host_address _ (ap host_of c.in-Address.is)) (wrote_then c.put_byte-p.ensures (rw c.of.ensures.shows at c.put_address.ensures))

pub returns-in-Labels : goal.returns-in-Labels
returns-in-Labels c = wrote_as (host_labels _ (ap host_of c.in-Labels.is)) c.put_row.ensures
