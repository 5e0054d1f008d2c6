-- `cbor::Head::is` meets its contract: the rules' numbers of kinds are those of the variants.
use mathlib.Core.Path.{◌≡◌, refl, ap₂, ◌∙◌}
use lib.Dec.{eqb}
use denote.Enum.Declared.{tag_of}
use Rattle.rules.specs.Head.{code_of}
use Rattle.cbor.specs.contracts.Kind.{the_type}
use Rattle.cbor.specs.declared.Kind.{Kind}
use Rattle.cbor.specs.declared.Kind.TheVariants as KindV
use Rattle.cbor.specs.Heads.{kind_is}
use Rattle.cbor.proofs.Head.is.Goals as goal

number : (k : Kind) → tag_of the_type k ≡ code_of (kind_is k)
unfolding code_of
number KindV.Number = refl
number KindV.Negative = refl
number KindV.ByteString = refl
number KindV.Text = refl
number KindV.Array = refl
number KindV.True = refl
number KindV.Null = refl
number KindV.Other = refl

pub returns : goal.returns
returns c = c.eq.ensures ∙ ap₂ eqb (number c.args.self.kind) (number c.args.kind)
