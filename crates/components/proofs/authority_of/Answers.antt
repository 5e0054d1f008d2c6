-- `components::authority_of` meets its contract.
use Rattle.rules.proofs.Texts.{length_spans}
use Rattle.components.proofs.Content.{port_laid_lem}
use Rattle.components.proofs.authority_of.Goals as goal

pub returns-in-Labels : goal.returns-in-Labels
returns-in-Labels c = λ bs. simp (c.in-Labels.is, length_spans) (cc (port_laid_lem c.args.authority.port))
