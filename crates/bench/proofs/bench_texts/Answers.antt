-- `bench::bench_texts` meets its contract.
use mathlib.Core.Path.{refl, ap, ◌∙◌}
use Rattle.rules.specs.Head.{Text, code_of, is}
use Rattle.cbor.proofs.Heads.{same_kinds}
use Rattle.bench.specs.Answers.{answer, items}
use Rattle.bench.proofs.bench_texts.Goals as goal

pub returns : goal.returns
unfolding code_of
returns c = c.from.ensures ∙ ap answer (c.after_items.ensures ∙ ap (λ p. items p c.args.s.now 0 c.args.count) (same_kinds _ (is Text) refl refl refl refl refl refl refl refl))
