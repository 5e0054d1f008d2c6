-- `uri::print` meets its contract.
use mathlib.Core.Path.{refl, sym, ◌∙◌}
use borrow.Author.Tests.{leb-true, leb-false}
use Rattle.outcomes.proofs.Answers.{right_full, right_done}
use Rattle.reader.specs.Answers.{found_of}
use Rattle.uri.specs.Printed.{text_at}
use Rattle.uri.proofs.print.Goals as goal

pub returns-then-not-has_room : goal.returns-then-not-has_room
returns-then-not-has_room c = let u = right_full {room = c.args.room.now} (text_at c.args.s.now (found_of c.args.found)) refl (leb-false _ _ (sym c.has_room.ensures ∙ c.if-not-has_room.true)) in
    record { result_value = u.answered; room_after = u.holds }

pub returns : goal.returns
returns c = let u = right_done (text_at c.args.s.now (found_of c.args.found)) refl (leb-true _ _ (sym c.has_room.ensures ∙ c.if-not-has_room.false)) c.put_text.ensures in
    record { result_value = u.answered; room_after = u.holds }
