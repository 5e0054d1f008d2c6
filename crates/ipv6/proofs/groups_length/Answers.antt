-- `ipv6::groups_length` meets its contract: what is left to count is what is left of the groups.
use Prim.Native.Nat.{◌+◌, ◌-◌}
use native.Mathlib.Omega.{arith}
use mathlib.Core.Path.{sym, ap}
use mathlib.Core.List.{◌∷◌}
use lib.ListN.{length, get_or, take, drop, length-append}
use Rattle.rules.specs.Bytes.{colon}
use Rattle.rules.specs.Numeral.{numeral}
use Rattle.rules.specs.Address.{hex_groups}
use Rattle.rules.proofs.Numerals.{numeral_length}
use Rattle.rules.proofs.Slices.{slice_rest}
use Rattle.put.specs.Joined.{further}
use Rattle.put.proofs.Joined.{further_none, further_step}
use Rattle.put.proofs.Wrote.{CountNext, counted, count_item, count_no_item}
use Rattle.ipv6.proofs.GroupTexts.{no_groups, some_groups, groups_most}
use Rattle.ipv6.proofs.groups_length.Goals as goal
use Rattle.ipv6.proofs.groups_length.Goals.{In-loop-g}

-- a further group, and then the others
turn : (t : In-loop-g) → let l = t.loop-g in let gs = take (length t.args.groups.now - 1) (drop 1 t.args.groups.now) in
    CountNext l.total (colon ∷ numeral 16 4 (get_or gs l.g-index 0)) (further colon (numeral 16 4) (drop (l.g-index + 1) gs)) (length (hex_groups t.args.groups.now))
turn t =
    let gs = take (length t.args.groups.now - 1) (drop 1 t.args.groups.now) in
    count_item (further colon (numeral 16 4)) (λ g. colon ∷ numeral 16 4 g) (further_step colon (numeral 16 4)) (further_none colon (numeral 16 4)) gs t.loop-g.g-index t.loop-g-test.true t.loop-g.invariant

pub returns-in-empty : goal.returns-in-empty
returns-in-empty c = sym (ap length (no_groups c.args.groups.now c.in-empty.len_below))

pub loop-g-init : goal.loop-g-init
loop-g-init c =
    let gs = c.args.groups.now in
    record { sum = rw (slice_rest gs 1) (omega (arith, ap length (some_groups gs c.in-len1-up.len_at_least), length-append (numeral 16 4 (get_or gs 0 0)) (further colon (numeral 16 4) (drop 1 gs)), c.hex_length-total.ensures)) }

pub overflow_add-total : goal.overflow_add-total
overflow_add-total c = omega (arith, c.hex_length.ensures, numeral_length 16 4 (get_or (take (length c.args.groups.now - 1) (drop 1 c.args.groups.now)) c.loop-g.g-index 0))

pub overflow_add-total-in-loop-g : goal.overflow_add-total-in-loop-g
overflow_add-total-in-loop-g c =
    omega (arith, (turn (goal.at.overflow_add-total-in-loop-g c).In-loop-g).sum, c.hex_length.ensures, groups_most c.args.groups.now)

pub loop-g-preserved : goal.loop-g-preserved
loop-g-preserved c = counted (turn (goal.at.loop-g-preserved c).In-loop-g) (omega (arith, c.hex_length.ensures))

pub returns-after-loop-g : goal.returns-after-loop-g
returns-after-loop-g c =
    count_no_item (further colon (numeral 16 4)) (λ g. colon ∷ numeral 16 4 g) (further_step colon (numeral 16 4)) (further_none colon (numeral 16 4)) _ c.loop-g.g-index c.loop-g-test.false c.loop-g.invariant
