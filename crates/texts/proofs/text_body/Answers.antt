-- `texts::text_body` meets its contract: the tests that led to each return are the steps of `text_body`.
use native.Mathlib.Omega.{arith}
use mathlib.Core.Path.{sym, ap, ◌∙◌}
use Rattle.rules.specs.Utf8.{utf8}
use Rattle.rules.proofs.Slices.{slice_part}
use Rattle.cbor.specs.Heads.{head_is}
use Rattle.texts.specs.Answers.{sort_is}
use Rattle.texts.proofs.RuleCases.{text_limit, text_cut, text_wrong, text_against, text_kept}
use Rattle.texts.proofs.text_body.Goals as goal

pub returns-then-not-length_fits : goal.returns-then-not-length_fits
returns-then-not-length_fits c =
    let a = c.args in
    text_limit (sort_is a.sort) a.s.now a.at (head_is a.head) (sym c.length_fits.ensures ∙ c.if-not-length_fits.true)

pub returns-then-s-head : goal.returns-then-s-head
returns-then-s-head c =
    let a = c.args in
    text_cut (sort_is a.sort) a.s.now a.at (head_is a.head) (sym c.length_fits.ensures ∙ c.if-not-length_fits.false) (omega arith)

pub returns-then-not-valid : goal.returns-then-not-valid
returns-then-not-valid c =
    let a = c.args in
    text_wrong (sort_is a.sort) a.s.now a.at (head_is a.head) (sym c.length_fits.ensures ∙ c.if-not-length_fits.false) (omega arith)
    (ap utf8 (sym (slice_part a.s.now a.head.next a.head.value)) ∙ sym c.valid.ensures ∙ c.if-not-valid.true)

pub returns-then-not-keeps_rule : goal.returns-then-not-keeps_rule
returns-then-not-keeps_rule c =
    let a = c.args in
    text_against (sort_is a.sort) a.s.now a.at (head_is a.head) (sym c.length_fits.ensures ∙ c.if-not-length_fits.false) (omega arith)
    (ap utf8 (sym (slice_part a.s.now a.head.next a.head.value)) ∙ sym c.valid.ensures ∙ c.if-not-valid.false) (ap (sort_is a.sort).rule (sym (slice_part a.s.now a.head.next a.head.value)) ∙ sym c.keeps_rule.ensures ∙ c.if-not-keeps_rule.true)

pub returns : goal.returns
returns c =
    let a = c.args in
    text_kept (sort_is a.sort) a.s.now a.at (head_is a.head) (sym c.length_fits.ensures ∙ c.if-not-length_fits.false) (omega arith)
    (ap utf8 (sym (slice_part a.s.now a.head.next a.head.value)) ∙ sym c.valid.ensures ∙ c.if-not-valid.false) (ap (sort_is a.sort).rule (sym (slice_part a.s.now a.head.next a.head.value)) ∙ sym c.keeps_rule.ensures ∙ c.if-not-keeps_rule.false)
