-- `uri_parts::scheme_length` meets its contract.
use mathlib.Core.Path.{sym, ap, ◌∙◌}
use lib.ListN.{length}
use Rattle.std.specs.Prelude.{Some}
use Rattle.reader.specs.Answers.{scheme_of}
use Rattle.rules.proofs.Tools.{length_part}
use Rattle.uri_parts.proofs.Pieces.{scheme_none, scheme_number_lem, scheme_name_lem}
use Rattle.uri_parts.proofs.scheme_length.Goals as goal

pub returns-in-None : goal.returns-in-None
returns-in-None c = λ bs h. ap length (scheme_none bs (ap scheme_of c.in-None.is))

pub returns-in-Number : goal.returns-in-Number
returns-in-Number c = λ bs h. c.name_length.ensures ∙ ap length (scheme_number_lem bs (ap scheme_of (c.in-Some.is ∙ ap Some c.in-Number.is)))

pub returns-in-Name : goal.returns-in-Name
returns-in-Name c = λ bs h. let e = ap scheme_of (c.in-Some.is ∙ ap Some c.in-Name.is) in sym (length_part bs _ _ (rw e at h)) ∙ ap length (scheme_name_lem bs e)
