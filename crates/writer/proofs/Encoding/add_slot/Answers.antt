-- `writer::Encoding::add_slot` meets its contract.
use mathlib.Core.Path.{◌∙◌}
use Rattle.rules.specs.Encode.{or_null}
use Rattle.writer.proofs.Added.{went, halted}
use Rattle.writer.proofs.AddedItems.{texts_made}
use Rattle.writer.proofs.Encoding.add_slot.Goals as goal

pub returns-in_err-add_head : goal.returns-in_err-add_head
unfolding or_null
returns-in_err-add_head c = rw c.in-Some.is (halted _ _ _ _ _ _ _ _ c.from_residual.ensures.1 c.in_err-add_head.ensures ∙ texts_made _ _ _ _ _)

pub returns : goal.returns
unfolding or_null
returns c = rw c.in-Some.is (went _ _ _ _ _ _ c.in_ok-add_head.ensures c.add_texts.ensures ∙ texts_made _ _ _ _ _)
