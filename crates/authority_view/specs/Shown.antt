-- Parts of one of two slices, and what the code's answers say of them.
use Rattle.std.specs.Borrow.{Bor}
use Rattle.rules.specs.Bytes.{Bytes}
use Rattle.rules.specs.Views as Views
use Rattle.cbor.specs.Heads.{span_is}
use Rattle.segment_view.specs.Shown.{PartOf}
use Rattle.authority_view.specs.declared.Piece.{Piece}
use Rattle.authority_view.specs.declared.Piece.TheVariants as PieceV

-- r is that part of the base or of the reference
abbrev pub PieceOf : Bor Bytes → Bor Bytes → Bor Bytes → Views.Piece → Type 0
PieceOf base ref r (Views.of_reference s) = PartOf ref r s
PieceOf base ref r (Views.of_base s) = PartOf base r s

-- where a part of the reference or of the base stands
abbrev pub piece_is : Piece → Views.Piece
piece_is (PieceV.OfReference s) = Views.of_reference (span_is s)
piece_is (PieceV.OfBase s) = Views.of_base (span_is s)
