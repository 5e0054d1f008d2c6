-- `schemes::is_known` meets its contract: an id carries a number of the table if it has an entry.
use mathlib.Core.Path.{ap, ◌∙◌}
use mir.Syntax.{w64}
use mir.Val.{to_z, of_z}
use mir.Facts.{to_z-of_z}
use Rattle.schemes.specs.Schemes.{known_id}
use Rattle.schemes.proofs.Table.{entry_known}
use Rattle.schemes.proofs.is_known.Goals as goal

pub returns : goal.returns
returns c =
    c.is_some.ensures
    ∙ entry_known (to_z w64 (of_z w64 c.args.id)) _ c.entry_by_id.ensures
    ∙ ap known_id (to_z-of_z {w = w64} c.ranges.id)
