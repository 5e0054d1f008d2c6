-- Each way in which a call that writes into a room ends: what it answers, and what it leaves.
use Prim.Native.Nat.{ℕ, ◌<◌, ◌≤◌}
use mathlib.Core.Path.{◌≡◌, ap, ◌∙◌}
use lib.ListN.{length}
use borrow.Author.Tests.{lt-ltb, le-ltb}
use Rattle.std.specs.Prelude.{Result, Ok, Err}
use Rattle.std.specs.Result.{IsErrAnd}
use Rattle.rules.specs.Bytes.{Bytes}
use Rattle.rules.specs.Result.{Res, refused, ok, ROOM}
use Rattle.rules.specs.Calls.{outcome, after}
use Rattle.refusals.specs.declared.Refusal.{Refusal}
use Rattle.refusals.specs.Answers.{number_of, refusal_is}
use Rattle.outcomes.specs.Answers.{outcome_is}
use Rattle.put.specs.Wrote.{Wrote}
use Rattle.put.proofs.Wrote.{wrote_all}

-- an answer, and a room after the call, are those of a call whose output is u
pub record Right (u : Res Bytes) (room : Bytes) (answer : Res ℕ) (left : Bytes) : Type 0 where
  pub answered : answer ≡ outcome u (length room)
  pub holds : left ≡ after u room

-- nothing is written, since the input is refused
pub right_refused : {u : Res Bytes} {room : Bytes} (n k : ℕ) → u ≡ refused n k → Right u room (refused n k) room
unfolding outcome after
right_refused n k e = record { answered = rw e; holds = rw e }

-- nothing is written, since a call before was refused, and the function left by `?`
pub right_left : {u : Res Bytes} {room : Bytes} (x : Refusal) (r : Result ℕ Refusal) → IsErrAnd r (λ e. e ≡ x) → u ≡ refusal_is x → Right u room (outcome_is r) room
right_left x (Ok n) h e = absurd h
right_left x (Err y) h e = rw h (right_refused (number_of x.reason) x.place e)

-- nothing is written, since the room is shorter
pub right_full : {u : Res Bytes} {room : Bytes} (w : Bytes) → u ≡ ok w → length room < length w → Right u room (refused ROOM 0) room
unfolding outcome after
right_full {u} {room} w e h = record { answered = rw (e, lt-ltb (length room) (length w) h); holds = rw (e, lt-ltb (length room) (length w) h) }

-- all is written
pub right_done : {u : Res Bytes} {room left : Bytes} {n : ℕ} (w : Bytes) → u ≡ ok w → length w ≤ length room → Wrote room 0 w left n
    → Right u room (ok n) left
unfolding outcome after
right_done {u} {room} {left} {n} w e h p =
    record {
      answered = ap ok (wrote_all p h).0 ∙ rw (e, le-ltb (length room) (length w) h);
      holds = (wrote_all p h).1 ∙ rw (e, le-ltb (length room) (length w) h);
    }

-- what a call answers and leaves for one output, it does for an equal one
pub right_as : {u v : Res Bytes} {left : Bytes} {answer : Res ℕ} (room : Bytes) → u ≡ v → (answer ≡ outcome u (length room)) × (left ≡ after u room)
    → (answer ≡ outcome v (length room)) × (left ≡ after v room)
right_as room e p = (p.0 ∙ ap (λ (u : Res Bytes). outcome u (length room)) e, p.1 ∙ ap (λ (u : Res Bytes). after u room) e)
