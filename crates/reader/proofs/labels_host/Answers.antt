-- `reader::labels_host` meets its contract.
use native.Mathlib.Omega.{arith}
use mathlib.Core.Path.{sym, ap, ◌∙◌}
use Rattle.rules.specs.Reader.{labels_host}
use Rattle.rules.proofs.Tools.{octets_of}
use Rattle.rules.proofs.Steps.{need_yes, need_no, bind_ok}
use Rattle.refusals.proofs.Steps.{stopped}
use Rattle.cbor.proofs.Heads.{head_accepted}
use Rattle.reader.specs.Answers.{authority_of}
use Rattle.reader.proofs.ReaderCases.{labels_stand}
use Rattle.reader.proofs.labels_host.Goals as goal

pub label_body-requires : goal.label_body-requires
label_body-requires c = (head_accepted c.requires.head).inside

pub returns-in_err-after : goal.returns-in_err-after
unfolding labels_host
returns-in_err-after c = stopped authority_of _ _ _ c.from_residual.ensures.1 c.in_err-after.ensures

pub returns-in_err-names : goal.returns-in_err-names
unfolding labels_host
returns-in_err-names c =
    stopped authority_of _ _ _ c.from_residual-in_err-names.ensures.1 c.in_err-names.ensures ∙ bind_ok _ _ _ c.in_ok-after.ensures

pub name_rule-requires : goal.name_rule-requires
name_rule-requires c =
    let bs = c.args.s.now in
    let h = head_accepted c.requires.head in (
      labels_stand bs c.args.at (octets_of bs (λ i. (c.type_inv.s i).fits)) _ _ c.requires.head c.requires.kind _ c.args.left c.in_ok-after.ensures _ c.in_ok-names.ensures,
      omega (arith, h.after, h.inside),
    )

pub returns-then-not-name_rule : goal.returns-then-not-name_rule
unfolding labels_host
returns-then-not-name_rule c =
    need_no _ _ _ _ (sym c.name_rule.ensures ∙ c.if-not-name_rule.true) ∙ bind_ok _ _ _ c.in_ok-names.ensures ∙ bind_ok _ _ _ c.in_ok-after.ensures

pub returns : goal.returns
unfolding labels_host
returns c =
    need_yes _ _ _ _ (sym c.name_rule.ensures ∙ c.if-not-name_rule.false) ∙ bind_ok _ _ _ c.in_ok-names.ensures ∙ bind_ok _ _ _ c.in_ok-after.ensures
