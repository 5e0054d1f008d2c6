-- `components::texts_of` meets its contract.
use Rattle.rules.proofs.Texts.{length_spans}
use Rattle.components.proofs.texts_of.Goals as goal

pub returns : goal.returns
returns c = λ bs. simp (c.in_ok-texts.was, length_spans)
