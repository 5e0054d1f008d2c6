-- `writer::Encoding::add_texts` meets its contract: after i turns the texts from the i-th on are left.
use mathlib.Core.Path.{◌≡◌}
use Rattle.components.specs.Content.{spans_of}
use Rattle.writer.proofs.AddedTexts.{texts_added, texts_from}
use Rattle.writer.proofs.Encoding.add_texts.Given as goal

abbrev pub invariant-loop-i : goal.invariant-loop-i
invariant-loop-i l = texts_added l.lent (texts_from l.numbers l.n l.i) l.self ≡ texts_added l.lent (spans_of l.n l.numbers) l.initial.self
