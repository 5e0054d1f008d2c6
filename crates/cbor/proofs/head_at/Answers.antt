-- `cbor::head_at` meets its contract: the tests that led to each return are the steps of `read_head`.
use native.Mathlib.Omega.{arith}
use mathlib.Core.Path.{sym, ◌∙◌}
use Rattle.cbor.specs.Heads.{allows}
use Rattle.cbor.proofs.Heads.{head_missing, head_not_allowed, head_argument}
use Rattle.cbor.proofs.head_at.Goals as goal

pub returns-then-s-at : goal.returns-then-s-at
returns-then-s-at c = head_missing _ _ _ c.if-s-at.true

pub returns-then-not-is_allowed : goal.returns-then-not-is_allowed
returns-then-not-is_allowed c =
    let a = c.args in
    head_not_allowed (allows a.allowed) a.s.now a.at _ c.if-s-at.false c.kind_of-kind.ensures (sym c.is_allowed.ensures ∙ c.if-not-is_allowed.true)

pub returns : goal.returns
returns c =
    let a = c.args in
    c.argument_at.ensures
    ∙ head_argument (allows a.allowed) a.s.now a.at _ c.if-s-at.false c.kind_of-kind.ensures (sym c.is_allowed.ensures ∙ c.if-not-is_allowed.false)
