-- `cbor::simple_of` meets its contract.
use native.Mathlib.Omega.{arith}
use borrow.Author.Tests.{le-ltb, ne_eqb}
use Rattle.rules.specs.Head.{kind_of}
use Rattle.cbor.proofs.simple_of.Goals as goal

pub returns-in-245 : goal.returns-in-245
unfolding kind_of
returns-in-245 c = rw c.in-245.is

pub returns-in-246 : goal.returns-in-246
unfolding kind_of
returns-in-246 c = rw c.in-246.is

pub returns-in_default : goal.returns-in_default
unfolding kind_of
returns-in_default c =
    let b = c.args.b in
    let m = c.in_default.in_default-own.rest in
    simp (le-ltb b 0x20 (omega arith), le-ltb b 0x40 (omega arith), le-ltb b 0x60 (omega arith), le-ltb b 0x80 (omega arith), le-ltb b 0xA0 (omega arith), ne_eqb _ _ m.0.1, ne_eqb _ _ m.1)
