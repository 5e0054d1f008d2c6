-- `uri_escape::block_bare` meets its contract: the entries and-ed name the classes that all bytes stand bare in.
use Prim.Native.Nat.{ℕ}
use mathlib.Core.Path.{ap, ◌∙◌}
use lib.Bits.{bit_and}
use Rattle.std.proofs.Common.{rules}
use Rattle.std.proofs.lemmas.Iterator.{YieldsList-from_slice}
use Rattle.std.proofs.lemmas.Iterator.Consumers.{fold_from_yields_List}
use Rattle.uri_escape.specs.Escape.{class_is, entry, names}
use Rattle.uri_escape.proofs.Table.{common_folded}
use Rattle.uri_escape.proofs.block_bare.Goals as goal

pub returns : goal.returns
returns c =
    let k = class_is c.args.class in
    let e = fold_from_yields_List _ (λ a b. bit_and a (entry b)) 15 _ c.fold.ensures.ran (YieldsList-from_slice c.args.block.now cc) (λ a x b q k. search rules) in
    c.is_named.ensures ∙ ap (λ (m : ℕ). names m k) e ∙ common_folded k c.args.block.now (λ i. (c.type_inv.block i).fits)
