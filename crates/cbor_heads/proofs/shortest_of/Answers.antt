-- `cbor_heads::shortest_of` meets its contract: the tests that led to each return pick the case of `shortest`.
use native.Mathlib.Omega.{arith}
use mathlib.Core.Path.{sym}
use Rattle.cbor.proofs.Heads.{shortest_small, shortest_1, shortest_2, shortest_4, shortest_8}
use Rattle.cbor_heads.proofs.shortest_of.Goals as goal

pub returns-then-v-lt24 : goal.returns-then-v-lt24
returns-then-v-lt24 c = let v = c.args.v in sym (shortest_small v (omega arith))

pub returns-then-v-lt256 : goal.returns-then-v-lt256
returns-then-v-lt256 c = let v = c.args.v in sym (shortest_1 v (omega arith) (omega arith))

pub returns-then-v-lt65536 : goal.returns-then-v-lt65536
returns-then-v-lt65536 c = let v = c.args.v in sym (shortest_2 v (omega arith) (omega arith))

pub returns-then-v-lt4294967296 : goal.returns-then-v-lt4294967296
returns-then-v-lt4294967296 c = let v = c.args.v in sym (shortest_4 v (omega arith) (omega arith))

pub returns : goal.returns
returns c = let v = c.args.v in sym (shortest_8 v (omega arith))
