-- `utf8::ascii` meets its contract.
use Prim.Native.Nat.{max}
use mathlib.Core.Path.{◌≡◌, ap, ◌∙◌}
use lib.Dec.{ltb}
use Rattle.std.specs.List.{fold}
use borrow.Author.Rules.{rules}
use Rattle.utf8.proofs.Utf8Walk.{largest_ascii}
use Rattle.utf8.proofs.ascii.Goals as goal

pub returns : goal.returns
returns c =
    let e : c.fold.result ≡ fold max 0 c.args.block.now = search rules in
    ap (λ m. ltb m 0x80) e ∙ largest_ascii 0 c.args.block.now
