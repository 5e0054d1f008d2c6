-- What a function answers that leaves by `?`.
use mathlib.Core.Path.{◌≡◌, ap, ◌∙◌}
use Rattle.std.specs.Prelude.{Result, Ok, Err}
use Rattle.std.specs.Result.{IsErrAnd}
use Rattle.rules.specs.Result.{Res, ◌>>=◌}
use Rattle.rules.proofs.Steps.{bind_refused}
use Rattle.refusals.specs.declared.Refusal.{Refusal}
use Rattle.refusals.specs.Answers.{number_of, refusal_is, answer_is}

-- the refusal x of the call before
pub left : {A B : Type 0} (f : A → B) (x : Refusal) {m : Res B} (r : Result A Refusal) → IsErrAnd r (λ e. e ≡ x) → refusal_is x ≡ m → answer_is f r ≡ m
left f x (Ok a) h e = absurd h
left f x (Err y) h e = ap refusal_is h ∙ e

-- the same where the rules go on with what the call answers
pub stopped : {A B C : Type 0} (f : A → B) (x : Refusal) {m : Res C} (g : C → Res B) (r : Result A Refusal) → IsErrAnd r (λ e. e ≡ x) → refusal_is x ≡ m → answer_is f r ≡ (m >>= g)
stopped f x g r h e = left f x r h (bind_refused _ g (number_of x.reason) x.place e)
