-- `outcomes::copied` meets its contract.
use native.Mathlib.Omega.{arith}
use mathlib.Core.Path.{refl, ◌∙◌}
use Rattle.rules.specs.Result.{ok}
use Rattle.outcomes.proofs.Answers.{right_full, right_done}
use Rattle.outcomes.proofs.copied.Goals as goal

pub returns-then-room-s : goal.returns-then-room-s
returns-then-room-s c =
    let u = right_full {u = ok c.args.s.now} {room = c.args.room.now} c.args.s.now refl (omega (arith, c.if-room-s.true)) in
    record { result_value = u.answered; room_after = u.holds }

pub returns : goal.returns
returns c =
    let u = right_done _ refl (omega arith) c.put_bytes.ensures in
    record { result_value = u.answered; room_after = u.holds }
