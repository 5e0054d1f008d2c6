-- `sameness::judge` meets its contract.
use native.Mathlib.Omega.{arith}
use Rattle.rules.proofs.Tools.{octets_of}
use Rattle.sameness.proofs.Answers.{both_judged}
use Rattle.sameness.proofs.judge.Goals as goal

pub returns : goal.returns
returns c =
    let a = c.args.first.now in
    let b = c.args.second.now in
    let ha = octets_of a (λ i. omega (arith, c.type_inv.first i)) in
    let hb = octets_of b (λ i. omega (arith, c.type_inv.second i)) in
    both_judged a b _ _ c.compare-compared.result _ _ ha hb (omega arith) (omega arith) c.verdict_of.ensures c.verdict_of-2.ensures c.compare-compared.ensures.answered
