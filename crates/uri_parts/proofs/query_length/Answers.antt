-- `uri_parts::query_length` meets its contract.
use mathlib.Core.Path.{ap, ◌∙◌}
use lib.ListN.{length}
use Rattle.reader.specs.Answers.{slot_of}
use Rattle.rules.specs.Bytes.{question, ampersand}
use Rattle.uri_parts.proofs.Pieces.{query_unset, query_set}
use Rattle.uri_parts.proofs.query_length.Goals as goal

pub returns-in-None : goal.returns-in-None
returns-in-None c = ap length (query_unset c.args.s.now (ap slot_of c.in-None.is))

pub returns-in-Some : goal.returns-in-Some
returns-in-Some c = c.row_length.ensures question ampersand ∙ ap length (query_set _ (ap slot_of c.in-Some.is))
