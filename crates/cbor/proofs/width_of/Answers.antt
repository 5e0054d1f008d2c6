-- `cbor::width_of` meets its contract: the width is computed at the head information of each arm.
use native.Mathlib.Omega.{arith}
use mathlib.Core.Path.{◌≡◌, sym, ap}
use Rattle.rules.specs.Head.{width}
use Rattle.cbor.proofs.Heads.{width_small}
use Rattle.cbor.proofs.width_of.Goals as goal

pub returns-in-24 : goal.returns-in-24
unfolding width
returns-in-24 c = sym (ap width c.in-24.is)

pub returns-in-25 : goal.returns-in-25
unfolding width
returns-in-25 c = sym (ap width c.in-25.is)

pub returns-in-26 : goal.returns-in-26
unfolding width
returns-in-26 c = sym (ap width c.in-26.is)

pub returns-in-0-to-23 : goal.returns-in-0-to-23
returns-in-0-to-23 c = sym (width_small _ c.in-0-to-23.if-info-lt24-own.true)

pub returns-in_default : goal.returns-in_default
unfolding width
returns-in_default c = let e : c.args.info ≡ 27 = omega arith in sym (ap width e)
