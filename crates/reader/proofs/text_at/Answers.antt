-- `reader::text_at` meets its contract.
use mathlib.Core.Path.{◌∙◌}
use Rattle.rules.specs.Reader.{read_text}
use Rattle.rules.proofs.Steps.{bind_ok}
use Rattle.refusals.proofs.Steps.{stopped}
use Rattle.cbor.proofs.Heads.{head_accepted}
use Rattle.reader.proofs.ReaderCases.{text}
use Rattle.reader.proofs.text_at.Goals as goal

pub returns-in_err-head : goal.returns-in_err-head
unfolding read_text
returns-in_err-head c = stopped (λ n. n) _ _ _ c.from_residual.ensures.1 (text _ _ c.in_err-head.ensures)

pub text_body-requires : goal.text_body-requires
text_body-requires c = (head_accepted c.in_ok-head.ensures).inside

pub returns : goal.returns
unfolding read_text
returns c = c.text_body.ensures ∙ bind_ok _ _ _ (text _ _ c.in_ok-head.ensures)
