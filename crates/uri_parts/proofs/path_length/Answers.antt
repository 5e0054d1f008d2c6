-- `uri_parts::path_length` meets its contract.
use mathlib.Core.Path.{ap, ◌∙◌}
use lib.ListN.{length}
use Rattle.reader.specs.Answers.{slot_of}
use Rattle.rules.specs.Bytes.{slash}
use Rattle.uri_parts.proofs.Pieces.{path_unset, path_set}
use Rattle.uri_parts.proofs.path_length.Goals as goal

pub returns-in-None : goal.returns-in-None
returns-in-None c = ap length (path_unset c.args.s.now (ap slot_of c.in-None.is))

pub returns-in-Some : goal.returns-in-Some
returns-in-Some c = c.row_length.ensures slash slash ∙ ap length (path_set _ (ap slot_of c.in-Some.is))
