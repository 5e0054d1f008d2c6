-- `reader::nothing_at` meets its contract.
use native.Mathlib.Omega.{arith}
use Rattle.reader.proofs.ReaderCases.{nothing_left, nothing_cut, nothing_more}
use Rattle.reader.proofs.nothing_at.Goals as goal

pub returns-then-left-eq0 : goal.returns-then-left-eq0
returns-then-left-eq0 c = nothing_left _ _ _ c.if-left-eq0.true

pub returns-then-s-at : goal.returns-then-s-at
returns-then-s-at c = nothing_cut _ _ _ (omega arith) c.if-s-at.true

pub returns : goal.returns
returns c = nothing_more _ _ _ (omega arith) (omega arith)
