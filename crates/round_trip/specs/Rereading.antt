-- What reading a reference that was written answers.
use Rattle.std.specs.Prelude.{Result, Ok, ℕ, ◌≡◌, List, length, take}
use Rattle.rules.specs.Bytes.{Bytes}
use Rattle.rules.specs.Model.{limits, map_parts}
use Rattle.rules.specs.Reader.{taken}
use Rattle.rules.specs.Result.{ok}
use Rattle.rules.specs.Calls.{length_of, outcome, after, read_call, write_call}
use Rattle.refusals.specs.declared.Refusal.{Refusal}
use Rattle.refusals.specs.Answers.{answer_is}
use Rattle.components.specs.declared.Components.{Components}
use Rattle.components.specs.Content.{components_of}
use Rattle.components.specs.Layout.{reading_laid, spans_after}
use Rattle.outcomes.specs.Answers.{outcome_is}
use Rattle.round_trip.specs.declared.ReadBack.{ReadBack}

-- demand 2: the bytes w are accepted, and what reading reports of them (RULES 9.5), with the spans ys, has in w the contents that c, with the
-- spans xs, has in the lent bytes
pub record SameContents (c : Components) (xs : List ℕ) (lent w : Bytes) (r : Result Components Refusal) (ys : List ℕ) : Type 0 where
  pub components : Components
  pub accepted : r ≡ Ok components
  pub contents : map_parts (taken w) (components_of ys components) ≡ map_parts (taken lent) (components_of xs c)

-- any components, spans xs, lent bytes, room, which is left as x, and array for the spans read, which is left as y: what RULES 3.1 and 9 say of
-- writing; what reading reports (RULES 9.5) of the bytes written, none after a refusal (RULES 3.1); and where writing is done, the same contents
pub record Rereads (c : Components) (xs : List ℕ) (lent room : Bytes) (found : List ℕ) (r : ReadBack) (x : Bytes) (y : List ℕ) : Type 0 where
  pub written : outcome_is r.written ≡ outcome (write_call limits (components_of xs c) lent) (length room)
  pub left : x ≡ after (write_call limits (components_of xs c) lent) room
  pub reading : answer_is (λ c. c) r.reading ≡ reading_laid (read_call limits (take (length_of (outcome_is r.written)) x))
  pub spans : y ≡ spans_after (read_call limits (take (length_of (outcome_is r.written)) x)) found
  pub back : (n : ℕ) → outcome_is r.written ≡ ok n → SameContents c xs lent (take n x) r.reading y
