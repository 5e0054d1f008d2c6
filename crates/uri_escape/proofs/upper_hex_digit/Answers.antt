-- `uri_escape::upper_hex_digit` meets its contract: each digit is tested.
use mathlib.Core.Path.{refl}
use Rattle.rules.specs.Text.{hex_digit}
use Rattle.put.specs.Tables.{Entries}
use Rattle.put.proofs.Tables.{entries_by}
use Rattle.uri_escape.specs.declared.TheConstants.{DIGITS}
use Rattle.uri_escape.proofs.upper_hex_digit.Goals as goal

pub returns : goal.returns
unfolding hex_digit Entries
returns c = entries_by 16 hex_digit DIGITS refl c.args.value c.requires
