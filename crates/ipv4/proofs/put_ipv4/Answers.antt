-- `ipv4::put_ipv4` meets its contract: what is left to write is what is left of the bytes.
use Prim.Native.Nat.{◌+◌, ◌-◌}
use native.Mathlib.Omega.{arith}
use mathlib.Core.List.{◌∷◌}
use lib.ListN.{length, get_or, take, drop}
use Rattle.rules.specs.Bytes.{dot}
use Rattle.rules.specs.Numeral.{decimal}
use Rattle.rules.specs.Address.{ipv4_text}
use Rattle.rules.proofs.Slices.{slice_rest}
use Rattle.put.specs.Joined.{further}
use Rattle.put.proofs.Joined.{further_none, further_step}
use Rattle.put.proofs.Wrote.{Next, left_all, next_item, next_room, next_wrote, last_item, wrote_then}
use Rattle.ipv4.proofs.Dotted.{ipv4_pieces}
use Rattle.ipv4.proofs.put_ipv4.Goals as goal
use Rattle.ipv4.proofs.put_ipv4.Goals.{Start, In-loop-b}

-- the first byte, and then the others
first : (s : Start) → let a = s.args in let bs = a.address.now in
    Next a.room.now a.at (decimal (get_or bs 0 0)) (further dot decimal (take (length bs - 1) (drop 1 bs))) a.room.now a.at (ipv4_text bs)
first s = let bs = s.args.address.now in record { left = rw (ipv4_pieces bs s.requires.four_bytes, slice_rest bs 1) left_all }

-- a further byte, and then the others
turn : (t : In-loop-b) → let a = t.args in let l = t.loop-b in let bs = take (length a.address.now - 1) (drop 1 a.address.now) in
    Next l.room l.o (dot ∷ decimal (get_or bs l.b-index 0)) (further dot decimal (drop (l.b-index + 1) bs)) a.room.now a.at (ipv4_text a.address.now)
turn t =
    let bs = take (length t.args.address.now - 1) (drop 1 t.args.address.now) in
    next_item (further dot decimal) (λ b. dot ∷ decimal b) (further_step dot decimal) (further_none dot decimal) bs t.loop-b.b-index t.loop-b-test.true t.loop-b.invariant

pub put_decimal-o-requires : goal.put_decimal-o-requires
put_decimal-o-requires c = rw c.from.ensures (next_room (first (goal.at.put_decimal-o-requires c).Start) c.requires.room_enough)

pub loop-b-init : goal.loop-b-init
loop-b-init c = next_wrote (first (goal.at.loop-b-init c).Start) (rw c.from.ensures at c.put_decimal-o.ensures)

pub put_byte-p-requires : goal.put_byte-p-requires
put_byte-p-requires c = omega (arith, next_room (turn (goal.at.put_byte-p-requires c).In-loop-b) c.requires.room_enough)

pub put_decimal-o-requires-in-loop-b : goal.put_decimal-o-requires-in-loop-b
put_decimal-o-requires-in-loop-b c =
    rw c.from-in-loop-b.ensures (omega (arith, next_room (turn (goal.at.put_decimal-o-requires-in-loop-b c).In-loop-b) c.requires.room_enough))

pub loop-b-preserved : goal.loop-b-preserved
loop-b-preserved c =
    next_wrote (turn (goal.at.loop-b-preserved c).In-loop-b) (wrote_then c.put_byte-p.ensures (rw c.from-in-loop-b.ensures at c.put_decimal-o-in-loop-b.ensures))

pub returns : goal.returns
returns c =
    last_item (further dot decimal) (λ b. dot ∷ decimal b) (further_step dot decimal) (further_none dot decimal) _ c.loop-b.b-index c.loop-b-test.false c.loop-b.invariant
