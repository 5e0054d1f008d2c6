-- `components::components_of` meets its contract, field by field.
use Rattle.rules.specs.Meaning.{components}
use Rattle.components.proofs.Content.{fragment_laid_lem}
use Rattle.components.proofs.components_of.Goals as goal

pub returns : goal.returns
unfolding components
returns c = λ bs i. record {
  opening = c.opening_of.ensures bs i;
  path = c.texts_of.ensures bs i;
  query = c.texts_of-2.ensures bs i;
  fragment = fragment_laid_lem c.args.found.fragment i;
}
