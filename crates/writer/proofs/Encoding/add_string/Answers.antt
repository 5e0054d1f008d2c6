-- `writer::Encoding::add_string` meets its contract.
use mathlib.Core.Path.{◌∙◌}
use Rattle.cbor.specs.Heads.{span_is}
use Rattle.writer.proofs.Added.{went, halted}
use Rattle.writer.proofs.AddedItems.{string_made}
use Rattle.writer.proofs.Encoding.add_string.Goals as goal

pub returns-in_err-add_head : goal.returns-in_err-add_head
returns-in_err-add_head c =
    let a = c.args in
    halted _ _ _ _ _ _ _ _ c.from_residual.ensures.1 c.in_err-add_head.ensures ∙ string_made _ a.lent.now (span_is a.span) a.self.now

pub returns : goal.returns
returns c =
    let a = c.args in
    went _ _ _ _ _ _ c.in_ok-add_head.ensures c.add_part.ensures ∙ string_made _ a.lent.now (span_is a.span) a.self.now
