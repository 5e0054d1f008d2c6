-- `writer::Encoding::add_opening` meets its contract.
use mathlib.Core.Path.{◌∙◌}
use Rattle.rules.specs.Bytes.{concat}
use Rattle.rules.specs.Writing.{where_set, scheme_texts, host_texts}
use Rattle.components.specs.Content.{scheme_of, authority_of}
use Rattle.writer.specs.AddedItems.{opening_items}
use Rattle.writer.proofs.Added.{went, halted}
use Rattle.writer.proofs.AddedItems.{both_made}
use Rattle.writer.proofs.Encoding.add_opening.Goals as goal

pub returns-in_err-add_scheme-in-Full : goal.returns-in_err-add_scheme-in-Full
unfolding opening_items concat
returns-in_err-add_scheme-in-Full c =
    let a = c.args in
    rw c.in-Full.is
    (halted _ _ _ _ _ _ _ _ c.from_residual.ensures.1 c.in_err-add_scheme-in-Full.ensures
    ∙ both_made a.lent.now (where_set scheme_texts (scheme_of c.in-Full.scheme)) (where_set (λ a. host_texts a.host) (authority_of a.spans.now c.in-Full.authority)) _ _)

pub returns-in_ok-add_scheme-in-Full : goal.returns-in_ok-add_scheme-in-Full
unfolding opening_items concat
returns-in_ok-add_scheme-in-Full c =
    let a = c.args in
    rw c.in-Full.is
    (went _ _ _ _ _ _ c.in_ok-add_scheme-in-Full.ensures c.add_authority.ensures
    ∙ both_made a.lent.now (where_set scheme_texts (scheme_of c.in-Full.scheme)) (where_set (λ a. host_texts a.host) (authority_of a.spans.now c.in-Full.authority)) _ _)
