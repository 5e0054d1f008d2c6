-- `writer::opening_items` meets its contract.
use native.Mathlib.Omega.{arith}
use Rattle.writer.proofs.AddedItems.{authority_most}
use mathlib.Core.List.{[]}
use mathlib.Core.Option.{map}
use Rattle.rules.specs.Model.{map_authority}
use Rattle.rules.specs.Reader.{taken}
use Rattle.components.specs.Content.{authority_of}
use Rattle.writer.proofs.opening_items.Goals as goal

pub overflow_add-result : goal.overflow_add-result
overflow_add-result c =
    let h = authority_most (map (map_authority (taken [])) (authority_of [] c.in-Full.authority)) c.args.further in
    omega (arith, c.authority_items.ensures [] [], h)
