-- `ipv6::put_hex_text` meets its contract: all groups, or those before and after the longest run of zeros.
use native.Mathlib.Omega.{arith}
use Rattle.put.proofs.Wrote.{wrote_then, wrote_as}
use mathlib.Core.Path.{sym}
use Rattle.ipv6.proofs.GroupTexts.{text_whole, text_cut, whole_length, cut_length}
use Rattle.ipv6.proofs.put_hex_text.Goals as goal

pub put_groups-requires : goal.put_groups-requires
put_groups-requires c =
    omega (arith, whole_length _ _ _ c.requires.sixteen_bytes c.groups_of-groups.ensures c.longest_run-run.ensures.run c.if-run-lt2.true)

pub returns-then-run-lt2 : goal.returns-then-run-lt2
returns-then-run-lt2 c =
    wrote_as (sym (text_whole _ _ _ c.requires.sixteen_bytes c.groups_of-groups.ensures c.longest_run-run.ensures.run c.if-run-lt2.true)) c.put_groups.ensures

pub put_groups-p-requires : goal.put_groups-p-requires
put_groups-p-requires c =
    omega (arith, cut_length _ _ _ c.requires.sixteen_bytes c.groups_of-groups.ensures c.longest_run-run.ensures.run c.if-run-lt2.false)

pub put_bytes-q-requires : goal.put_bytes-q-requires
put_bytes-q-requires c =
    omega (arith, cut_length _ _ _ c.requires.sixteen_bytes c.groups_of-groups.ensures c.longest_run-run.ensures.run c.if-run-lt2.false)

pub put_groups-requires-2 : goal.put_groups-requires-2
put_groups-requires-2 c =
    omega (arith, cut_length _ _ _ c.requires.sixteen_bytes c.groups_of-groups.ensures c.longest_run-run.ensures.run c.if-run-lt2.false)

pub returns : goal.returns
returns c =
    wrote_as (sym (text_cut _ _ _ c.requires.sixteen_bytes c.groups_of-groups.ensures c.longest_run-run.ensures.run c.if-run-lt2.false))
    (wrote_then c.put_groups-p.ensures (wrote_then c.put_bytes-q.ensures c.put_groups-2.ensures))
