-- What the answer of a call that writes says, in the terms of the rules.
use Rattle.std.specs.Prelude.{ℕ, Result}
use Rattle.rules.specs.Result.{Res}
use Rattle.refusals.specs.declared.Refusal.{Refusal}
use Rattle.refusals.specs.Answers.{answer_is}

-- RULES 3.1: the length written, or the refusal; `number_of`, `place_of` and `length_of` of this are the number, the place and the length
abbrev pub outcome_is : Result ℕ Refusal → Res ℕ
outcome_is = answer_is (λ n. n)
