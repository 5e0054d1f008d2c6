-- `uri_parts::host_length` meets its contract.
use native.Mathlib.Omega.{arith}
use mathlib.Core.Path.{◌≡◌, ap, ◌∙◌}
use lib.ListN.{length}
use Rattle.rules.specs.Bytes.{dot, slash}
use Rattle.rules.specs.Rules.{address_size}
use Rattle.rules.proofs.Tools.{length_part}
use Rattle.reader.specs.Answers.{host_of}
use Rattle.uri_parts.proofs.Pieces.{host_address, host_labels}
use Rattle.uri_parts.proofs.host_length.Goals as goal

pub of-requires : goal.of-requires
of-requires c = (rw (ap host_of c.in-Address.is) at c.requires.host_prints).0

pub address_length-requires : goal.address_length-requires
address_length-requires c =
    let h = rw (ap host_of c.in-Address.is) at c.requires.host_prints in
    ap address_size (ap length c.of.ensures.shows ∙ length_part c.args.s.now _ _ h.0) ∙ h.1

pub overflow_add-result : goal.overflow_add-result
overflow_add-result c =
    omega (arith, c.requires.short, rw c.of.ensures.shows at c.address_length.ensures, ap length (host_address c.args.s.now (ap host_of c.in-Address.is)))

pub returns-in-Address : goal.returns-in-Address
returns-in-Address c =
    omega (arith, rw c.of.ensures.shows at c.address_length.ensures, ap length (host_address c.args.s.now (ap host_of c.in-Address.is)))

pub returns-in-Labels : goal.returns-in-Labels
returns-in-Labels c = c.row_length.ensures slash dot ∙ ap length (host_labels _ (ap host_of c.in-Labels.is))
