-- `round_trip::reread` meets its contract.
use Prim.Native.Nat.{ℕ, ◌≤◌}
use native.Mathlib.Omega.{arith}
use mathlib.Core.Path.{sym, ap, ◌∙◌}
use lib.ListN.{length, take}
use lib.Seq.{length-take-le}
use Rattle.rules.specs.Model.{limits}
use Rattle.rules.specs.Calls.{read_call}
use Rattle.components.specs.Layout.{reading_laid, spans_after}
use Rattle.round_trip.specs.declared.ReadBack.{ReadBack}
use Rattle.round_trip.proofs.Rereading.{components_sized, length_within, same_contents}
use Rattle.round_trip.proofs.reread.Goals as goal
use Rattle.round_trip.proofs.reread.Goals.{After-written-n}

-- the length written lies inside the room
inside : (c : After-written-n) → c.written-n.result ≤ length c.write-written.new.room
inside c =
    omega (arith, c.written-n.ensures, length_within _ _ _ c.write-written.ensures.result_value)

pub slice_bounds-read-end : goal.slice_bounds-read-end
slice_bounds-read-end c = omega (arith, inside c)

pub slice_bounds-read-end-2 : goal.slice_bounds-read-end-2
slice_bounds-read-end-2 c = sym (length-take-le _ _ (omega (arith, inside c)))

pub returns : goal.returns
returns c =
    let args = c.args in
    let left = c.write-written.new.room in
    let xs = args.spans.now in
    let sized = components_sized xs args.components c.well_formed.0 in
    let told = c.read.ensures.value ∙ ap (λ (m : ℕ). reading_laid (read_call limits (take m left))) c.written-n.ensures in
    let stored = c.read.ensures.spans_after ∙ ap (λ (m : ℕ). spans_after (read_call limits (take m left)) args.found.now) c.written-n.ensures in
    let r : ReadBack = record { written = c.write-written.result; reading = c.read.result } in
    record {
      written = c.write-written.ensures.result_value;
      left = c.write-written.ensures.room_after;
      reading = told;
      spans = stored;
      back = same_contents args.components xs args.lent.now args.room.now left r _ _ sized c.well_formed.1.1.0.0 (c.write-written.ensures.result_value, c.write-written.ensures.room_after) told stored;
    }
