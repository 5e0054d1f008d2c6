-- `cbor_rows::texts_at` meets its contract.
use mathlib.Core.Path.{ap, subst, sym}
use mathlib.Core.List.{map}
use Rattle.std.specs.Prelude.{All}
use Rattle.rules.specs.Reader.{taken, contents}
use Rattle.cbor_rows.specs.Rows.{SpanInside}
use Rattle.cbor_rows.proofs.RowSpans.{inside_row}
use Rattle.cbor_rows.proofs.texts_at.Goals as goal

pub invariant_of-result : goal.invariant_of-result
invariant_of-result c = subst (All (SpanInside c.args.s.now)) (sym c.spans_at.ensures) (inside_row c.args.s.now c.args.row.at c.args.row.count c.requires)

pub returns : goal.returns
unfolding contents
returns c = ap (map (taken c.args.s.now)) c.spans_at.ensures
