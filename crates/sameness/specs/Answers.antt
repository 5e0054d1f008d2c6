-- What comparing two links answers.
use Rattle.std.specs.Prelude.{Result, ℕ, ◌≤◌, ◌≡◌, true, ◌↔◌, length, take}
use Rattle.rules.specs.Bytes.{Bytes}
use Rattle.rules.specs.Result.{ok}
use Rattle.rules.specs.Model.{limits, Cri, Same}
use Rattle.rules.specs.Meaning.{read_absolute}
use Rattle.rules.specs.Text.{uri_text}
use Rattle.rules.specs.Views.{verdict}
use Rattle.rules.specs.Calls.{number_of, length_of, outcome, text_call}
use Rattle.refusals.specs.declared.Refusal.{Refusal}
use Rattle.refusals.specs.Answers.{verdict_is}
use Rattle.outcomes.specs.Answers.{outcome_is}
use Rattle.sameness.specs.declared.Compared.{Compared}
use Rattle.sameness.specs.declared.Judgement.{Judgement}

-- RULES 8: both inputs are accepted as absolute, and are the same CRI, by their items and not by their texts
pub record SameCri (a b : Bytes) : Type 0 where
  pub one : Cri
  pub other : Cri
  pub first : read_absolute limits a ≡ ok one
  pub second : read_absolute limits b ≡ ok other
  pub same : Same one other

-- RULES 3.1: two calls, which left their rooms as x and y, are both done, and what they wrote is equal, length and bytes
pub record WroteSame (m n : Result ℕ Refusal) (x y : Bytes) : Type 0 where
  pub one : ℕ
  pub other : ℕ
  pub first : outcome_is m ≡ ok one
  pub second : outcome_is n ≡ ok other
  pub bytes : take one x ≡ take other y

-- it is done
abbrev pub Done : Result ℕ Refusal → Type 0
Done m = verdict (outcome_is m) ≡ ok tt

-- any two inputs a and b, with rooms of j and k bytes: what RULES 3.1, 3.4 and 3.7 say of each call; `equal` is true exactly if both calls
-- are done and the inputs are the same CRI (RULES 8)
pub record Answered (a b : Bytes) (j k : ℕ) (r : Compared) : Type 0 where
  pub first : outcome_is r.first ≡ outcome (text_call limits a) j
  pub second : outcome_is r.second ≡ outcome (text_call limits b) k
  pub equal : (r.equal ≡ true) ↔ (Done r.first × Done r.second × SameCri a b)

-- the length that a call tells
abbrev pub length_told : Result ℕ Refusal → ℕ
length_told m = length_of (outcome_is m)

-- both URI texts (RULES 6.1) are written, into rooms that are left as x and y; they are equal, length and bytes, exactly if the two are
-- the same CRI (RULES 8); and that is what `equal` tells
pub record Printed (c d : Cri) (r : Compared) (x y : Bytes) : Type 0 where
  pub first : outcome_is r.first ≡ ok (length (uri_text c))
  pub second : outcome_is r.second ≡ ok (length (uri_text d))
  pub first_text : take (length_told r.first) x ≡ uri_text c
  pub second_text : take (length_told r.second) y ≡ uri_text d
  pub same : ((length_told r.first ≡ length_told r.second) × (take (length_told r.first) x ≡ take (length_told r.second) y)) ↔ Same c d
  pub equal : (r.equal ≡ true) ↔ Same c d

-- demand 3: this holds of any two inputs that the reader accepts as absolute (RULES 1.12), with room enough (RULES 3.7)
abbrev pub CallsDemand3 : (a b : Bytes) (j k : ℕ) (r : Compared) (x y : Bytes) → Type 0
CallsDemand3 a b j k r x y =
    (c d : Cri) → read_absolute limits a ≡ ok c → read_absolute limits b ≡ ok d → length (uri_text c) ≤ j → length (uri_text d) ≤ k → Printed c d r x y

-- any two inputs a and b, with rooms that are long enough by RULES 6.6: accepted as absolute, or the refusals of RULES 3.4, of which 10 never
-- comes; `equal` is true exactly if the inputs are the same CRI (RULES 8)
pub record Judged (a b : Bytes) (r : Judgement) : Type 0 where
  pub first : verdict_is r.first ≡ verdict (read_absolute limits a)
  pub second : verdict_is r.second ≡ verdict (read_absolute limits b)
  pub equal : (r.equal ≡ true) ↔ SameCri a b
  pub first_number : number_of (verdict_is r.first) ≤ 8
  pub second_number : number_of (verdict_is r.second) ≤ 8
