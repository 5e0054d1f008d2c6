-- `cbor::kind_of` meets its contract: the tests that led to each return pick the case of `kind_of`.
use borrow.Author.Tests.{lt-ltb, le-ltb}
use Rattle.rules.specs.Head.{kind_of}
use Rattle.cbor.proofs.kind_of.Goals as goal

pub returns-in-0-to-31 : goal.returns-in-0-to-31
unfolding kind_of
returns-in-0-to-31 c = simp (lt-ltb _ _ c.in-0-to-31.if-b-lt32-own.true)

pub returns-in-32-to-63 : goal.returns-in-32-to-63
unfolding kind_of
returns-in-32-to-63 c = simp (le-ltb _ _ c.in-32-to-63.if-b-lt32-own.false, lt-ltb _ _ c.in-32-to-63.if-b-lt64-own.true)

pub returns-in-64-to-95 : goal.returns-in-64-to-95
unfolding kind_of
returns-in-64-to-95 c = simp (le-ltb _ _ c.in-64-to-95.if-b-lt32-own.false, le-ltb _ _ c.in-64-to-95.if-b-lt64-own.false, lt-ltb _ _ c.in-64-to-95.if-b-lt96-own.true)

pub returns-in-96-to-127 : goal.returns-in-96-to-127
unfolding kind_of
returns-in-96-to-127 c = simp (le-ltb _ _ c.in-96-to-127.if-b-lt32-own.false, le-ltb _ _ c.in-96-to-127.if-b-lt64-own.false, le-ltb _ _ c.in-96-to-127.if-b-lt96-own.false, lt-ltb _ _ c.in-96-to-127.if-b-lt128-own.true)

pub returns-in-128-to-159 : goal.returns-in-128-to-159
unfolding kind_of
returns-in-128-to-159 c = simp (le-ltb _ _ c.in-128-to-159.if-b-lt32-own.false, le-ltb _ _ c.in-128-to-159.if-b-lt64-own.false, le-ltb _ _ c.in-128-to-159.if-b-lt96-own.false, le-ltb _ _ c.in-128-to-159.if-b-lt128-own.false, lt-ltb _ _ c.in-128-to-159.if-b-lt160-own.true)
