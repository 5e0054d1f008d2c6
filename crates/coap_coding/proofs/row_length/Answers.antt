-- `coap_coding::row_length` meets its contract: what is left to count is the options of the texts that are left.
use native.Mathlib.Omega.{arith}
use mathlib.Core.Path.{refl}
use Rattle.put.proofs.Wrote.{counted}
use Rattle.coap_coding.proofs.Coded.{coded_most}
use Rattle.coap_coding.proofs.CodedTurns.{coded_count, coded_counted}
use Rattle.coap_coding.proofs.row_length.Goals as goal

-- the total with this option is no more than the whole, which is bounded
pub overflow_add-total : goal.overflow_add-total
overflow_add-total c =
    let a = c.args in
    omega (
      arith,
      (coded_count _ c.in-Some.ensures.steps c.loop-text.invariant.2).sum,
      c.option_length-total.ensures _ refl,
      c.requires.link_size.0,
      coded_most a.delta a.s.now a.row.at a.row.count c.requires.link_size.1 c.requires.row_at.0 c.requires.row_at.1,
    )

pub loop-text-preserved : goal.loop-text-preserved
loop-text-preserved c =
    let n = coded_count c.loop-text.difference c.in-Some.ensures.steps c.loop-text.invariant.2 in
    ((rw c.in-Some.ensures.steps at c.loop-text.invariant.0).1, omega arith, counted n (c.option_length-total.ensures _ refl))

pub returns : goal.returns
returns c = coded_counted _ c.in-None.ensures.steps.0 c.loop-text.invariant.2
