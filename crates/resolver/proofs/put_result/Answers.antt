-- `resolver::put_result` meets its contract.
use native.Mathlib.Omega.{arith}
use Rattle.outcomes.proofs.Answers.{right_refused, right_full, right_done}
use Rattle.resolver_parts.specs.Written.{parts_of}
use Rattle.resolver.proofs.Encoded.{over_segments, over_bytes, within_both}
use Rattle.resolver.proofs.put_result.Goals as goal

pub returns-then-p-gt-SEGMENTS : goal.returns-then-p-gt-SEGMENTS
returns-then-p-gt-SEGMENTS c =
    let base = c.args.base.now in
    let ref = c.args.reference.now in
    let p = c.args.p in
    let u = right_refused 9 0 (over_segments base ref p c.if-p-gt-SEGMENTS.true) in
    record { result_value = u.answered; room_after = u.holds }

pub returns-then-n-gt-BYTES : goal.returns-then-n-gt-BYTES
returns-then-n-gt-BYTES c =
    let base = c.args.base.now in
    let ref = c.args.reference.now in
    let p = c.args.p in
    let u = right_refused 9 0 (over_bytes base ref p (omega (arith, c.length-n.ensures base ref c.requires.1, c.if-n-gt-BYTES.true))) in
    record { result_value = u.answered; room_after = u.holds }

pub returns-then-room-n : goal.returns-then-room-n
returns-then-room-n c =
    let base = c.args.base.now in
    let ref = c.args.reference.now in
    let p = c.args.p in
    let n = c.length-n.ensures base ref c.requires.1 in
    let u = right_full {room = c.args.room.now} (parts_of base ref p) (within_both base ref p c.if-p-gt-SEGMENTS.false (omega (arith, n, c.if-n-gt-BYTES.false))) (omega (arith, n, c.if-room-n.true)) in
    record { result_value = u.answered; room_after = u.holds }

pub returns : goal.returns
returns c =
    let base = c.args.base.now in
    let ref = c.args.reference.now in
    let p = c.args.p in
    let n = c.length-n.ensures base ref c.requires.1 in
    let u = right_done (parts_of base ref p) (within_both base ref p c.if-p-gt-SEGMENTS.false (omega (arith, n, c.if-n-gt-BYTES.false))) (omega (arith, n, c.if-room-n.false)) c.put.ensures in
    record { result_value = u.answered; room_after = u.holds }
