-- `ipv6::ipv6_length` meets its contract: the mixed form, or hex groups.
use native.Mathlib.Omega.{arith}
use mathlib.Core.Path.{sym, ap, ◌∙◌}
use lib.ListN.{length}
use Rattle.ipv6.proofs.Mapped.{mixed_form, hex_form, ipv6_fits}
use Rattle.ipv6.proofs.ipv6_length.Goals as goal

pub overflow_add-result : goal.overflow_add-result
overflow_add-result c =
    omega (arith, c.ipv4_length.ensures, ap length (mixed_form c.args.address.now c.requires (sym c.is_mapped.ensures ∙ c.if-is_mapped.true)), ipv6_fits c.args.address.now c.requires)

pub returns-then-is_mapped : goal.returns-then-is_mapped
returns-then-is_mapped c =
    omega (arith, c.ipv4_length.ensures, ap length (mixed_form c.args.address.now c.requires (sym c.is_mapped.ensures ∙ c.if-is_mapped.true)))

pub returns : goal.returns
returns c = c.hex_text_length.ensures ∙ sym (ap length (hex_form c.args.address.now (sym c.is_mapped.ensures ∙ c.if-is_mapped.false)))
