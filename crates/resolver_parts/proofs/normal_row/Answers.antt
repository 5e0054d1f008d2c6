-- `resolver_parts::normal_row` meets its contract.
use native.Mathlib.Omega.{arith}
use mathlib.Core.Path.{sym}
use Rattle.rules.proofs.RowLengths.{normal_short, normal_long}
use Rattle.resolver_parts.proofs.ResultParts.{row_none, row_as, row_length}
use Rattle.resolver_parts.proofs.normal_row.Goals as goal

pub returns-then-row-lt2 : goal.returns-then-row-lt2
returns-then-row-lt2 c = λ bs ts p. row_as (sym (normal_short ts (omega (arith, row_length p, c.if-row-lt2.true)))) row_none

pub returns-else-row-lt2 : goal.returns-else-row-lt2
returns-else-row-lt2 c = λ bs ts p. row_as (sym (normal_long ts (omega (arith, row_length p, c.if-row-lt2.false)))) p
