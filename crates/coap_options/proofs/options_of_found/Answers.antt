-- `coap_options::options_of_found` meets its contract.
use Rattle.outcomes.proofs.Answers.{right_refused}
use Rattle.coap_options.proofs.CallCases.{answers_discard, answers_none, answers_name}
use Rattle.coap_options.proofs.options_of_found.Goals as goal

pub returns-in_default : goal.returns-in_default
returns-in_default c =
    let u = right_refused _ _ (answers_discard _ _ _ _ _ c.in_default.not-Full) in
    record { result_value = u.answered; room_after = u.holds }

pub returns-in-None : goal.returns-in-None
returns-in-None c =
    let u = right_refused _ _ (answers_none _ _ _ _ c.in-Full.is c.in-None.is) in
    record { result_value = u.answered; room_after = u.holds }

pub returns-in-Some-Name : goal.returns-in-Some-Name
returns-in-Some-Name c =
    let i = rw c.in-Some-Name.is at c.in-Some-Name.field-0-is in
    let u = right_refused _ _ (answers_name _ _ _ _ c.in-Full.is c.in-Some-Name.is i) in
    record { result_value = u.answered; room_after = u.holds }
