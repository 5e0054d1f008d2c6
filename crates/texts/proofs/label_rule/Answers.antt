-- `texts::label_rule` meets its contract.
use mathlib.Core.Path.{◌≡◌, ◌∙◌}
use Rattle.std.specs.List.{list_all}
use Rattle.std.proofs.lemmas.Iterator.{YieldsList-from_slice}
use Rattle.std.proofs.lemmas.Iterator.Search.{all_from_yields_List}
use Rattle.rules.specs.Rules.{label_byte, label_rule}
use borrow.Author.Rules.{rules}
use Rattle.texts.proofs.RuleCases.{list_all_is_all}
use Rattle.texts.proofs.label_rule.Goals as goal

pub returns : goal.returns
unfolding label_rule
returns c =
    let e : c.all.result ≡ list_all label_byte c.args.text.now = all_from_yields_List label_byte _ _ _ c.all.ensures.ran (YieldsList-from_slice c.args.text.now cc) (λ x b q k. search rules) in
    e ∙ list_all_is_all label_byte c.args.text.now
