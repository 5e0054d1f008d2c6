-- `texts::scheme_form` meets its contract.
use mathlib.Core.Path.{◌≡◌, sym, ◌∙◌}
use Rattle.std.specs.List.{list_all}
use Rattle.std.proofs.lemmas.Iterator.{YieldsList-from_slice}
use Rattle.std.proofs.lemmas.Iterator.Search.{all_from_yields_List}
use Rattle.rules.specs.Rules.{scheme_byte}
use borrow.Author.Rules.{rules}
use Rattle.texts.specs.Answers.{scheme_form}
use Rattle.texts.proofs.RuleCases.{list_all_is_all}
use Rattle.texts.proofs.scheme_form.Goals as goal

pub returns-then-starts_lower : goal.returns-then-starts_lower
unfolding scheme_form
returns-then-starts_lower c =
    let e : c.all.result ≡ list_all scheme_byte c.args.text.now = all_from_yields_List scheme_byte _ _ _ c.all.ensures.ran (YieldsList-from_slice c.args.text.now cc) (λ x b q k. search rules) in
    simp (sym c.starts_lower.ensures ∙ c.if-starts_lower.true) (e ∙ list_all_is_all scheme_byte c.args.text.now)

pub returns-else-starts_lower : goal.returns-else-starts_lower
unfolding scheme_form
returns-else-starts_lower c = c.if-starts_lower.false ∙ simp (sym c.starts_lower.ensures ∙ c.if-starts_lower.false)
