-- `ipv6::put_ipv6` meets its contract: the mixed form, or hex groups.
use native.Mathlib.Omega.{arith}
use mathlib.Core.Path.{sym, ap, ◌∙◌}
use lib.ListN.{length}
use Rattle.put.proofs.Wrote.{wrote_then, wrote_as}
use Rattle.ipv6.proofs.Mapped.{mixed_form, hex_form}
use Rattle.ipv6.proofs.put_ipv6.Goals as goal

pub put_bytes-p-requires : goal.put_bytes-p-requires
put_bytes-p-requires c =
    omega (arith, ap length (mixed_form c.args.address.now c.requires.sixteen_bytes (sym c.is_mapped.ensures ∙ c.if-is_mapped.true)))

pub put_ipv4-requires-clause-room_enough : goal.put_ipv4-requires-clause-room_enough
put_ipv4-requires-clause-room_enough c =
    omega (arith, ap length (mixed_form c.args.address.now c.requires.sixteen_bytes (sym c.is_mapped.ensures ∙ c.if-is_mapped.true)))

pub returns-then-is_mapped : goal.returns-then-is_mapped
returns-then-is_mapped c =
    wrote_as (sym (mixed_form c.args.address.now c.requires.sixteen_bytes (sym c.is_mapped.ensures ∙ c.if-is_mapped.true))) (wrote_then c.put_bytes-p.ensures c.put_ipv4.ensures)

pub put_hex_text-requires-clause-room_enough : goal.put_hex_text-requires-clause-room_enough
put_hex_text-requires-clause-room_enough c =
    rw (hex_form c.args.address.now (sym c.is_mapped.ensures ∙ c.if-is_mapped.false)) at c.requires.room_enough

pub returns : goal.returns
returns c = wrote_as (sym (hex_form c.args.address.now (sym c.is_mapped.ensures ∙ c.if-is_mapped.false))) c.put_hex_text.ensures
