-- `reader::first_at` meets its contract.
use mathlib.Core.Path.{sym, ap, ◌∙◌}
use mathlib.Core.Logic.{inl, inr}
use Rattle.rules.specs.Reader.{opening_body}
use Rattle.rules.proofs.Steps.{bind_refused}
use Rattle.cbor.proofs.Heads.{head_accepted}
use Rattle.reader.proofs.ReaderCases.{openings, opening_more, opening_read, first_left}
use Rattle.reader.proofs.first_at.Goals as goal

pub returns-in_err-head : goal.returns-in_err-head
returns-in_err-head c =
    first_left _ _ _ _ _ c.from_residual.ensures.1 (bind_refused _ _ _ _ (openings _ _ c.in_err-head.ensures) ∙ opening_more _ _ _ c.requires)

pub name_body-requires : goal.name_body-requires
name_body-requires c = (head_accepted c.in_ok-head.ensures).inside

pub returns-in-Number : goal.returns-in-Number
returns-in-Number c = c.discard_body.ensures _ ∙ opening_read _ _ _ _ c.in-Number.is c.in_ok-head.ensures c.requires

pub returns-in-True : goal.returns-in-True
returns-in-True c = c.discard_all_body.ensures _ ∙ opening_read _ _ _ _ c.in-True.is c.in_ok-head.ensures c.requires

pub returns-in-Negative : goal.returns-in-Negative
returns-in-Negative c = c.number_body.ensures _ _ ∙ opening_read _ _ _ _ c.in-Negative.is c.in_ok-head.ensures c.requires

pub returns-in-Text : goal.returns-in-Text
returns-in-Text c = c.name_body.ensures _ ∙ opening_read _ _ _ _ c.in-Text.is c.in_ok-head.ensures c.requires

pub returns-in-Null : goal.returns-in-Null
unfolding opening_body
returns-in-Null c = opening_read _ _ _ _ c.in-Null.is c.in_ok-head.ensures c.requires

pub returns-in-ByteString : goal.returns-in-ByteString
unfolding opening_body
returns-in-ByteString c =
    elim c.in-ByteString.is [
      | inl e ↦ opening_read _ _ _ _ e c.in_ok-head.ensures c.requires
      | inr f ↦ elim f [ inl e ↦ opening_read _ _ _ _ e c.in_ok-head.ensures c.requires | inr e ↦ opening_read _ _ _ _ e c.in_ok-head.ensures c.requires ]
    ]
