-- `words::are_digits` meets its contract.
use Prim.Native.Nat.{max}
use mathlib.Core.Path.{◌≡◌, ap, ◌∙◌}
use mathlib.Core.Bool.{◌&&◌}
use lib.Dec.{ltb}
use borrow.Author.Rules.{rules}
use borrow.Author.Tests.{lt-ltb}
use Rattle.std.specs.List.{fold, list_all}
use Rattle.words.specs.Words.{value_of, are_digits}
use Rattle.words.proofs.Digits.{largest}
use Rattle.words.proofs.are_digits.Goals as goal

pub returns : goal.returns
unfolding are_digits
returns c =
    let a = c.args in
    let e : c.fold.result ≡ fold (λ most b. max most (value_of b)) 0 a.word.now = search rules in
    ap (λ m. ltb m a.base) e ∙ largest a.base 0 a.word.now ∙ ap (λ t. t && list_all (λ b. ltb (value_of b) a.base) a.word.now) (lt-ltb _ _ c.requires)
