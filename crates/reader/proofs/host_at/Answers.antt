-- `reader::host_at` meets its contract.
use native.Mathlib.Omega.{arith}
use mathlib.Core.Path.{sym, ap, ◌∙◌}
use Rattle.rules.proofs.Steps.{bind_ok, if_yes, if_no}
use Rattle.refusals.proofs.Steps.{stopped}
use Rattle.cbor.proofs.Heads.{head_accepted}
use Rattle.reader.specs.Answers.{authority_of, read_host}
use Rattle.reader.proofs.ReaderCases.{address_or_label}
use Rattle.reader.proofs.host_at.Goals as goal

pub returns-in_err-head : goal.returns-in_err-head
unfolding read_host
returns-in_err-head c = stopped authority_of _ _ _ c.from_residual.ensures.1 (address_or_label _ _ c.in_err-head.ensures)

pub labels_host-requires : goal.labels_host-requires
labels_host-requires c = record { left = omega arith; head = address_or_label _ _ c.in_ok-head.ensures; kind = sym c.if-is.ensures }

pub address_host-requires : goal.address_host-requires
address_host-requires c = (head_accepted c.in_ok-head.ensures).inside

pub returns-then-is : goal.returns-then-is
unfolding read_host
returns-then-is c = c.labels_host.ensures ∙ if_yes _ _ _ (sym c.if-is.ensures) ∙ bind_ok _ _ _ (address_or_label _ _ c.in_ok-head.ensures)

pub returns-else-is : goal.returns-else-is
unfolding read_host
returns-else-is c = c.address_host.ensures ∙ if_no _ _ _ (sym c.if-is.ensures) ∙ bind_ok _ _ _ (address_or_label _ _ c.in_ok-head.ensures)
