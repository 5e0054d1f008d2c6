-- The name of a scheme's number is printed safely: its room is long enough for the name.
use native.Mathlib.Omega.{arith}
use mathlib.Core.Path.{sym}
use lib.Seq.{length-take-le}
use Rattle.put.proofs.Wrote.{wrote_length}
use Rattle.schemes.proofs.Table.{name_most}
use Rattle.tool_messages.proofs.references.SchemeNameDisplay.fmt.Goals as goal

pub put_name-end-requires : goal.put_name-end-requires
put_name-end-requires g c = name_most c.args.self.now.0

pub slice_bounds-name-end : goal.slice_bounds-name-end
slice_bounds-name-end g c =
    omega (arith, name_most c.args.self.now.0, wrote_length c.put_name-end.ensures)

pub slice_bounds-from_utf8-end : goal.slice_bounds-from_utf8-end
slice_bounds-from_utf8-end g c =
    sym (length-take-le _ _ (omega (arith, name_most c.args.self.now.0, wrote_length c.put_name-end.ensures)))
