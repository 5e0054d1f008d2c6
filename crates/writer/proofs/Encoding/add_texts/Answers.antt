-- `writer::Encoding::add_texts` meets its contract: after i turns the texts from the i-th on are left.
use native.Mathlib.Omega.{arith}
use mathlib.Core.Path.{refl, ◌∙◌}
use Rattle.writer.proofs.Added.{went, halted}
use Rattle.writer.proofs.AddedTexts.{texts_split, texts_end}
use Rattle.writer.proofs.Encoding.add_texts.Goals as goal

pub returns-in_err-add_string : goal.returns-in_err-add_string
returns-in_err-add_string c =
    let a = c.args in
    halted _ _ _ _ _ _ _ _ c.from_residual.ensures.1 c.in_err-add_string.ensures ∙ texts_split a.lent.now a.numbers.now a.n c.loop-i.i (omega arith) _ ∙ c.loop-i.invariant

pub loop-i-preserved : goal.loop-i-preserved
loop-i-preserved c =
    let a = c.args in
    went _ _ _ _ _ _ c.in_ok-add_string.ensures refl ∙ texts_split a.lent.now a.numbers.now a.n c.loop-i.i (omega arith) _ ∙ c.loop-i.invariant

pub returns : goal.returns
returns c =
    let a = c.args in
    texts_end a.lent.now a.numbers.now a.n c.loop-i.i (omega arith) _ ∙ c.loop-i.invariant
