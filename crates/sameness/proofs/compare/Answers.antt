-- `sameness::compare` meets its contract.
use native.Mathlib.Omega.{arith}
use Rattle.rules.proofs.Tools.{octets_of}
use Rattle.rules.specs.Model.{limits}
use Rattle.rules.specs.Calls.{text_call}
use Rattle.outcomes.specs.Answers.{outcome_is}
use Rattle.outcomes.proofs.Answers.{Right}
use Rattle.sameness.specs.declared.Compared.{Compared}
use Rattle.sameness.proofs.Answers.{length_inside, both_printed, both_answered}
use Rattle.sameness.proofs.compare.Goals as goal

pub wrote_same-requires : goal.wrote_same-requires
wrote_same-requires c = (
  length_inside (record { answered = c.uri_text-one.ensures.result_value; holds = c.uri_text-one.ensures.room_after }),
  length_inside (record { answered = c.uri_text-other.ensures.result_value; holds = c.uri_text-other.ensures.room_after }),
)

pub returns : goal.returns
returns c =
    let a = c.args.first.now in
    let b = c.args.second.now in
    let x = c.args.x.now in
    let y = c.args.y.now in
    let r : Compared = record { first = c.uri_text-one.result; second = c.uri_text-other.result; equal = c.wrote_same.result } in
    let ha = octets_of a (λ i. omega (arith, c.type_inv.first i)) in
    let hb = octets_of b (λ i. omega (arith, c.type_inv.second i)) in
    let p : Right (text_call limits a) x (outcome_is r.first) _ = record { answered = c.uri_text-one.ensures.result_value; holds = c.uri_text-one.ensures.room_after } in
    let q : Right (text_call limits b) y (outcome_is r.second) _ = record { answered = c.uri_text-other.ensures.result_value; holds = c.uri_text-other.ensures.room_after } in
    let w = c.wrote_same.ensures in
    record { answered = both_answered a b x y _ _ r ha hb p q w; calls_demand3 = both_printed a b x y _ _ r ha hb p q w; x_after = p.holds; y_after = q.holds }
