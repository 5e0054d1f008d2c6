-- `next` meets its contract: the span of the first text that is left lies inside the input, and so do the others.
use Rattle.cbor_rows.proofs.RowSpans.{first_inside, others_inside}
use Rattle.cbor_rows.proofs.TextsIterator.next.Goals as goal

pub of-requires : goal.of-requires
of-requires c = first_inside c.self.inside.link.now _ _ _ c.in_ok-span.ensures.steps c.self.invariant

pub invariant_of-self-2 : goal.invariant_of-self-2
invariant_of-self-2 c = others_inside c.self.inside.link.now _ _ _ c.in_ok-span.ensures.steps c.self.invariant
