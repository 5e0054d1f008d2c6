-- `bench::bench_labels` meets its contract.
use mathlib.Core.Path.{refl, ap, ◌∙◌}
use Rattle.rules.specs.Head.{code_of}
use Rattle.cbor.proofs.Heads.{same_kinds}
use Rattle.bench.specs.Answers.{text_or_number, answer, items}
use Rattle.bench.proofs.bench_labels.Goals as goal

pub returns : goal.returns
unfolding code_of
returns c = c.from.ensures ∙ ap answer (c.after_items.ensures ∙ ap (λ p. items p c.args.s.now 0 c.args.count) (same_kinds _ text_or_number refl refl refl refl refl refl refl refl))
