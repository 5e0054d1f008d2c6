-- The room is long enough for the text of an address.
use native.Mathlib.Omega.{arith}
use Rattle.put.proofs.Wrote.{wrote_length}
use Rattle.ipv4.proofs.Dotted.{ipv4_fits}
use Rattle.ipv6.proofs.Mapped.{ipv6_fits}
use Rattle.rules.proofs.Tools.{octets_of}
use Rattle.tool_messages.proofs.quotes.put_text.Goals as goal

pub put_ipv4-requires-clause-room_enough : goal.put_ipv4-requires-clause-room_enough
put_ipv4-requires-clause-room_enough c =
    omega (arith, c.fits-room, ipv4_fits c.args.address.now c.in-4.is (octets_of c.args.address.now (λ i. omega (arith, c.type_inv.address i))))

pub put_ipv6-requires-clause-room_enough : goal.put_ipv6-requires-clause-room_enough
put_ipv6-requires-clause-room_enough c = omega (arith, c.fits-room, ipv6_fits c.args.address.now c.in-16.is)

pub returns-in-4-clause-held : goal.returns-in-4-clause-held
returns-in-4-clause-held c =
    omega (arith, ipv4_fits c.args.address.now c.in-4.is (octets_of c.args.address.now (λ i. omega (arith, c.type_inv.address i))), wrote_length c.put_ipv4.ensures)

pub returns-in-16-clause-held : goal.returns-in-16-clause-held
returns-in-16-clause-held c = omega (arith, ipv6_fits c.args.address.now c.in-16.is, wrote_length c.put_ipv6.ensures)
