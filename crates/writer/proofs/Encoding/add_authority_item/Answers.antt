-- `writer::Encoding::add_authority_item` meets its contract.
use native.Mathlib.Omega.{arith}
use mathlib.Core.Path.{◌∙◌}
use mathlib.Core.List.{[]}
use Rattle.writer.proofs.Added.{went, halted}
use Rattle.writer.proofs.AddedItems.{authority_made, host_most, port_most}
use Rattle.writer.proofs.Encoding.add_authority_item.Goals as goal

pub overflow_add-items : goal.overflow_add-items
overflow_add-items c =
    let h = port_most _ c.port_items.ensures in
    omega (arith, h, c.host_items.ensures [] [], host_most c.args.authority.host [] [], c.requires)

pub returns-in_err-add_head : goal.returns-in_err-add_head
returns-in_err-add_head c =
    let a = c.args in
    halted _ _ _ _ _ _ _ _ c.from_residual.ensures.1 c.in_err-add_head.ensures ∙ authority_made _ _ _ _ _ _ (c.host_items.ensures a.lent.now a.spans.now) c.port_items.ensures

pub returns-in_err-add_host : goal.returns-in_err-add_host
returns-in_err-add_host c =
    let a = c.args in
    went _ _ _ _ _ _ c.in_ok-add_head.ensures (halted _ _ _ _ _ _ _ _ c.from_residual-in_err-add_host.ensures.1 c.in_err-add_host.ensures)
    ∙ authority_made _ _ _ _ _ _ (c.host_items.ensures a.lent.now a.spans.now) c.port_items.ensures

pub returns : goal.returns
returns c =
    let a = c.args in
    went _ _ _ _ _ _ c.in_ok-add_head.ensures (went _ _ _ _ _ _ c.in_ok-add_host.ensures c.add_port.ensures)
    ∙ authority_made _ _ _ _ _ _ (c.host_items.ensures a.lent.now a.spans.now) c.port_items.ensures
