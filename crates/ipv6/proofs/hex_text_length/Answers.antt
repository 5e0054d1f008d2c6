-- `ipv6::hex_text_length` meets its contract: all groups, or those before and after the longest run of zeros.
use native.Mathlib.Omega.{arith}
use Rattle.rules.proofs.Addresses.{hex_length}
use Rattle.ipv6.proofs.GroupTexts.{whole_length, cut_length}
use Rattle.ipv6.proofs.hex_text_length.Goals as goal

pub returns-then-run-lt2 : goal.returns-then-run-lt2
returns-then-run-lt2 c =
    omega (arith, c.groups_length.ensures, whole_length _ _ _ c.requires c.groups_of-groups.ensures c.longest_run-run.ensures.run c.if-run-lt2.true)

pub overflow_add-result : goal.overflow_add-result
overflow_add-result c =
    omega (arith, c.groups_length-2.ensures, cut_length _ _ _ c.requires c.groups_of-groups.ensures c.longest_run-run.ensures.run c.if-run-lt2.false, hex_length c.args.address.now c.requires)

pub overflow_add-result-2 : goal.overflow_add-result-2
overflow_add-result-2 c =
    omega (arith, c.groups_length-2.ensures, c.groups_length-3.ensures, cut_length _ _ _ c.requires c.groups_of-groups.ensures c.longest_run-run.ensures.run c.if-run-lt2.false, hex_length c.args.address.now c.requires)

pub returns : goal.returns
returns c =
    omega (arith, c.groups_length-2.ensures, c.groups_length-3.ensures, cut_length _ _ _ c.requires c.groups_of-groups.ensures c.longest_run-run.ensures.run c.if-run-lt2.false)
