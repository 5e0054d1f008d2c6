-- `addresses::put_address` meets its contract.
use native.Mathlib.Omega.{arith}
use mathlib.Core.Path.{ap}
use lib.ListN.{length}
use Rattle.put.proofs.Wrote.{wrote_then, wrote_as}
use Rattle.addresses.proofs.AddressTexts.{ipv4_text_lem, ipv6_text_lem, bracket_lengths}
use Rattle.addresses.proofs.put_address.Goals as goal

pub put_ipv4-requires-clause-room_enough : goal.put_ipv4-requires-clause-room_enough
put_ipv4-requires-clause-room_enough c = omega (arith, ap length (ipv4_text_lem c.args.address.now c.if-address-eq4.true))

pub returns-then-address-eq4 : goal.returns-then-address-eq4
returns-then-address-eq4 c = wrote_as (ipv4_text_lem c.args.address.now c.if-address-eq4.true) c.put_ipv4.ensures

pub put_byte-p-requires : goal.put_byte-p-requires
put_byte-p-requires c = omega (arith, bracket_lengths c.args.address.now c.if-address-eq4.false)

pub put_ipv6-q-requires-clause-room_enough : goal.put_ipv6-q-requires-clause-room_enough
put_ipv6-q-requires-clause-room_enough c = omega (arith, bracket_lengths c.args.address.now c.if-address-eq4.false)

pub put_byte-requires : goal.put_byte-requires
put_byte-requires c = omega (arith, bracket_lengths c.args.address.now c.if-address-eq4.false)

pub returns : goal.returns
returns c = wrote_as (ipv6_text_lem c.args.address.now c.if-address-eq4.false) (wrote_then c.put_byte-p.ensures (wrote_then c.put_ipv6-q.ensures c.put_byte.ensures))
