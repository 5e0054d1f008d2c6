-- `reader::discard_body` meets its contract.
use native.Mathlib.Omega.{arith}
use mathlib.Core.Path.{sym, ap, ◌∙◌}
use mathlib.Core.Logic.{inl, inr}
use mathlib.Core.Bool.{not, ◌&&◌}
use lib.Dec.{eqb}
use borrow.Author.Tests.{le-leb, lt-leb, eq-eqb, ne_eqb}
use Rattle.rules.specs.Reader.{opening_body}
use Rattle.rules.proofs.Steps.{need_yes, need_no}
use Rattle.reader.proofs.ReaderCases.{not_both}
use Rattle.reader.proofs.discard_body.Goals as goal

pub returns-then-head-gt-DISCARD : goal.returns-then-head-gt-DISCARD
unfolding opening_body
returns-then-head-gt-DISCARD c = λ bs. need_no _ _ _ _ (lt-leb c.args.head.value 127 c.if-head-gt-DISCARD.true)

pub returns-then-count-gt-DISCARD_ITEMS : goal.returns-then-count-gt-DISCARD_ITEMS
unfolding opening_body
returns-then-count-gt-DISCARD_ITEMS c = λ bs.
    let a = c.args in
    need_no _ _ _ _ (lt-leb a.count 4 c.if-count-gt-DISCARD_ITEMS.true) ∙ need_yes _ _ _ _ (le-leb a.head.value 127 (omega arith))

pub returns-then-head-eq0 : goal.returns-then-head-eq0
unfolding opening_body
returns-then-head-eq0 c = λ bs.
    let a = c.args in
    need_no _ _ _ _ (rw (eq-eqb a.count 1 c.if-count-eq1.true, eq-eqb a.head.value 0 c.if-head-eq0.true))
    ∙ need_yes _ _ _ _ (le-leb a.count 4 (omega arith))
    ∙ need_yes _ _ _ _ (le-leb a.head.value 127 (omega arith))

pub returns : goal.returns
unfolding opening_body
returns c = λ bs.
    let a = c.args in
    need_yes _ _ _ _ (ap not (not_both a.count 1 a.head.value 0 c.else-count-eq1.either))
    ∙ need_yes _ _ _ _ (le-leb a.count 4 (omega arith))
    ∙ need_yes _ _ _ _ (le-leb a.head.value 127 (omega arith))
