-- What a reason, a refusal and an answer say, in the terms of the rules.
use Rattle.std.specs.Prelude.{ℕ, Result, Ok, Err}
use Rattle.rules.specs.Result.{Res, refused, ok, CUT, FORM, HEAD, LIMIT, TEXT, RULE, TAIL, BASE, RESULT, ROOM, COAP, DEST, NONE}
use Rattle.refusals.specs.declared.Reason.{Reason}
use Rattle.refusals.specs.declared.Reason.TheVariants as ReasonV
use Rattle.refusals.specs.declared.Refusal.{Refusal}

-- RULES 3.2: the number of a reason
abbrev pub number_of : Reason → ℕ
number_of ReasonV.Cut = CUT
number_of ReasonV.Form = FORM
number_of ReasonV.Head = HEAD
number_of ReasonV.Limit = LIMIT
number_of ReasonV.Text = TEXT
number_of ReasonV.Rule = RULE
number_of ReasonV.Tail = TAIL
number_of ReasonV.Base = BASE
number_of ReasonV.Result = RESULT
number_of ReasonV.Room = ROOM
number_of ReasonV.Coap = COAP
number_of ReasonV.Dest = DEST
number_of ReasonV.None = NONE

-- the number and the place
abbrev pub refusal_is : {A : Type 0} → Refusal → Res A
refusal_is r = refused (number_of r.reason) r.place

-- what an answer says, where its value says `f` of it; or the refusal
abbrev pub answer_is : {A B : Type 0} → (A → B) → Result A Refusal → Res B
answer_is f (Ok x) = ok (f x)
answer_is f (Err r) = refusal_is r

-- accepted, or the refusal
abbrev pub verdict_is : Result (Unit {0}) Refusal → Res (Unit {0})
verdict_is = answer_is (λ u. u)
