-- `texts::looks_ipv4` meets its contract.
use mathlib.Core.Path.{◌≡◌, sym, ◌∙◌}
use borrow.Author.Rules.{rules}
use borrow.Author.Tests.{ne_eqb}
use mathlib.Core.List.{List}
use denote.Bor.{Bor}
use Rattle.std.specs.List.{list_all}
use Rattle.std.proofs.lemmas.Iterator.Consumers.{YieldsList-from_first}
use Rattle.std.proofs.lemmas.Iterator.Search.{all_from_yields_List}
use Rattle.rules.specs.Bytes.{Bytes}
use Rattle.rules.specs.Rules.{octet}
use Rattle.rules.specs.Reader.{contents}
use Rattle.texts.proofs.RuleCases.{list_all_is_all, looks_other, looks_four}
use Rattle.texts.proofs.looks_ipv4.Goals as goal

pub returns-then-row-eq4 : goal.returns-then-row-eq4
returns-then-row-eq4 c =
    let a = c.args in
    let e : c.all.result ≡ list_all octet (contents a.s.now a.row.at a.row.count) =
    all_from_yields_List octet _ _ _ c.all.ensures.ran (YieldsList-from_first (λ (x : Bor Bytes). x.now) (λ (ts : List Bytes). ts) (contents a.s.now a.row.at a.row.count) c.texts_at.ensures) (λ x b q k. search rules) in
    e ∙ list_all_is_all octet (contents a.s.now a.row.at a.row.count) ∙ sym (looks_four a.s.now a.row.at a.row.count c.if-row-eq4.true)

pub returns-else-row-eq4 : goal.returns-else-row-eq4
returns-else-row-eq4 c = ne_eqb _ _ c.if-row-eq4.false ∙ looks_other _ _ _ c.if-row-eq4.false
