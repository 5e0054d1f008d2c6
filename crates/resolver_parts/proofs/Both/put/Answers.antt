-- `resolver_parts::Both::put` meets its contract.
use Rattle.put.proofs.Wrote.{wrote_as, wrote_then}
use Rattle.resolver_parts.specs.Parts.{both_of}
use Rattle.resolver_parts.proofs.Both.put.Goals as goal

pub returns : goal.returns
unfolding both_of
returns c = wrote_then (wrote_as c.of.ensures.shows c.put_bytes-mid.ensures) (wrote_as c.of-2.ensures.shows c.put_bytes.ensures)
