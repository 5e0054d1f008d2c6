-- `cbor::least_of` meets its contract.
use mathlib.Core.Path.{sym, ap}
use borrow.Author.Tests.{ne_eqb}
use Rattle.cbor.specs.Heads.{least_of}
use Rattle.cbor.proofs.least_of.Goals as goal

pub returns-in-24 : goal.returns-in-24
unfolding least_of
returns-in-24 c = sym (ap least_of c.in-24.is)

pub returns-in-25 : goal.returns-in-25
unfolding least_of
returns-in-25 c = sym (ap least_of c.in-25.is)

pub returns-in-26 : goal.returns-in-26
unfolding least_of
returns-in-26 c = sym (ap least_of c.in-26.is)

pub returns-in_default : goal.returns-in_default
unfolding least_of
returns-in_default c = let r = c.in_default.in_default-own.rest in simp (ne_eqb _ _ r.0.0.1, ne_eqb _ _ r.0.1, ne_eqb _ _ r.1)
