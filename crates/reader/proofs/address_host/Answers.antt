-- `reader::address_host` meets its contract.
use Prim.Native.Nat.{◌+◌}
use native.Mathlib.Omega.{arith}
use mathlib.Core.Path.{sym, ap, ◌∙◌}
use lib.ListN.{length}
use borrow.Author.Tests.{le-leb, lt-leb}
use Rattle.rules.specs.Reader.{read_content, address_host}
use Rattle.rules.proofs.Steps.{need_yes, need_no, bind_ok, bind_refused}
use Rattle.refusals.proofs.Steps.{stopped}
use Rattle.reader.specs.Answers.{authority_of}
use Rattle.reader.proofs.address_host.Goals as goal

pub returns-then-not-is_address_length : goal.returns-then-not-is_address_length
unfolding address_host
returns-then-not-is_address_length c = need_no _ _ _ _ (sym c.is_address_length.ensures ∙ c.if-not-is_address_length.true)

pub returns-then-s-address : goal.returns-then-s-address
unfolding address_host read_content
returns-then-s-address c =
    let a = c.args in
    bind_refused _ _ _ _ (need_no _ _ _ _ (lt-leb (a.head.next + a.head.value) (length a.s.now) (omega arith)))
    ∙ need_yes _ _ _ _ (sym c.is_address_length.ensures ∙ c.if-not-is_address_length.false)

pub returns-in_err-names : goal.returns-in_err-names
unfolding address_host read_content
returns-in_err-names c =
    let a = c.args in
    stopped authority_of _ _ _ c.from_residual.ensures.1 c.in_err-names.ensures
    ∙ bind_ok _ _ _ (need_yes _ _ _ _ (le-leb (a.head.next + a.head.value) (length a.s.now) (omega arith)))
    ∙ need_yes _ _ _ _ (sym c.is_address_length.ensures ∙ c.if-not-is_address_length.false)

pub returns : goal.returns
unfolding address_host read_content
returns c =
    let a = c.args in
    bind_ok _ _ _ c.in_ok-names.ensures
    ∙ bind_ok _ _ _ (need_yes _ _ _ _ (le-leb (a.head.next + a.head.value) (length a.s.now) (omega arith)))
    ∙ need_yes _ _ _ _ (sym c.is_address_length.ensures ∙ c.if-not-is_address_length.false)
