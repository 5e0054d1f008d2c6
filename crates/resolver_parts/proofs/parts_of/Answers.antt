-- `resolver_parts::parts_of` meets its contract.
use Rattle.reader.specs.Answers.{found_of}
use Rattle.resolver_parts.proofs.Resolved.{parts_are}
use Rattle.resolver_parts.proofs.parts_of.Goals as goal

pub returns : goal.returns
returns c =
    let b = c.args.base in
    let r = c.args.reference in
    λ cri e. parts_are b.bytes.now r.bytes.now (found_of b.found) (found_of r.found) cri _ e c.front.ensures c.path_of.ensures c.tail_of.ensures
