-- `ipv6::put_groups` meets its contract: what is left to write is what is left of the groups.
use Prim.Native.Nat.{◌+◌, ◌-◌}
use native.Mathlib.Omega.{arith}
use mathlib.Core.List.{◌∷◌}
use lib.ListN.{length, get_or, take, drop}
use Rattle.rules.specs.Bytes.{colon}
use Rattle.rules.specs.Numeral.{numeral}
use Rattle.rules.specs.Address.{hex_groups}
use Rattle.rules.proofs.Slices.{slice_rest}
use Rattle.put.specs.Joined.{further}
use Rattle.put.proofs.Joined.{further_none, further_step}
use Rattle.put.proofs.Wrote.{Next, left_all, next_item, next_room, next_wrote, last_item, wrote_none, wrote_then}
use Rattle.ipv6.proofs.GroupTexts.{no_groups, some_groups}
use Rattle.ipv6.proofs.put_groups.Goals as goal
use Rattle.ipv6.proofs.put_groups.Goals.{In-len1-up, In-loop-g}

-- the first group, and then the others
first : (s : In-len1-up) → let a = s.args in let gs = a.groups.now in
    Next a.room.now a.at (numeral 16 4 (get_or gs 0 0)) (further colon (numeral 16 4) (take (length gs - 1) (drop 1 gs))) a.room.now a.at (hex_groups gs)
first s = let gs = s.args.groups.now in record { left = rw (some_groups gs s.in-len1-up.len_at_least, slice_rest gs 1) left_all }

-- a further group, and then the others
turn : (t : In-loop-g) → let a = t.args in let l = t.loop-g in let gs = take (length a.groups.now - 1) (drop 1 a.groups.now) in
    Next l.room l.o (colon ∷ numeral 16 4 (get_or gs l.g-index 0)) (further colon (numeral 16 4) (drop (l.g-index + 1) gs)) a.room.now a.at (hex_groups a.groups.now)
turn t =
    let gs = take (length t.args.groups.now - 1) (drop 1 t.args.groups.now) in
    next_item (further colon (numeral 16 4)) (λ g. colon ∷ numeral 16 4 g) (further_step colon (numeral 16 4)) (further_none colon (numeral 16 4)) gs t.loop-g.g-index t.loop-g-test.true t.loop-g.invariant

pub returns-in-empty : goal.returns-in-empty
returns-in-empty c = rw (no_groups c.args.groups.now c.in-empty.len_below) wrote_none

pub put_hex-o-requires : goal.put_hex-o-requires
put_hex-o-requires c = next_room (first (goal.at.put_hex-o-requires c).In-len1-up) c.requires

pub loop-g-init : goal.loop-g-init
loop-g-init c = next_wrote (first (goal.at.loop-g-init c).In-len1-up) c.put_hex-o.ensures

pub put_byte-p-requires : goal.put_byte-p-requires
put_byte-p-requires c = omega (arith, next_room (turn (goal.at.put_byte-p-requires c).In-loop-g) c.requires)

pub put_hex-o-requires-in-loop-g : goal.put_hex-o-requires-in-loop-g
put_hex-o-requires-in-loop-g c = omega (arith, next_room (turn (goal.at.put_hex-o-requires-in-loop-g c).In-loop-g) c.requires)

pub loop-g-preserved : goal.loop-g-preserved
loop-g-preserved c = next_wrote (turn (goal.at.loop-g-preserved c).In-loop-g) (wrote_then c.put_byte-p.ensures c.put_hex-o-in-loop-g.ensures)

pub returns-after-loop-g : goal.returns-after-loop-g
returns-after-loop-g c =
    last_item (further colon (numeral 16 4)) (λ g. colon ∷ numeral 16 4 g) (further_step colon (numeral 16 4)) (further_none colon (numeral 16 4)) _ c.loop-g.g-index c.loop-g-test.false c.loop-g.invariant
