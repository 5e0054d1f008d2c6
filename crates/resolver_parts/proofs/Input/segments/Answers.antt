-- `resolver_parts::Input::segments` meets its contract.
use Rattle.resolver_parts.proofs.ResultParts.{row_none}
use Rattle.resolver_parts.proofs.Input.segments.Goals as goal

pub returns-in-None : goal.returns-in-None
returns-in-None c = simp c.in-None.is row_none
