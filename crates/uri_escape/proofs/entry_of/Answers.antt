-- `uri_escape::entry_of` meets its contract: each entry of the table is tested.
use native.Mathlib.Omega.{arith}
use mathlib.Core.Path.{refl}
use Rattle.rules.proofs.Compute.{computed}
use Rattle.put.specs.Tables.{Entries}
use Rattle.put.proofs.Tables.{entries_by}
use Rattle.uri_escape.specs.declared.TheConstants.{BARE}
use Rattle.uri_escape.specs.Escape.{entry}
use Rattle.uri_escape.proofs.entry_of.Goals as goal

pub returns : goal.returns
unfolding computed entry Entries
returns c = entries_by 256 entry BARE refl c.args.b (omega arith)
