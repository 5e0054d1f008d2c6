-- `cbor::argument_at` meets its contract: the head information picks the case of `read_argument`.
use native.Mathlib.Omega.{arith}
use Rattle.cbor.specs.Heads.{kind_is}
use Rattle.cbor.proofs.Heads.{argument_small, argument_reserved}
use Rattle.cbor.proofs.argument_at.Goals as goal

pub returns-in-0-to-23 : goal.returns-in-0-to-23
returns-in-0-to-23 c = argument_small (kind_is c.args.kind) _ _ _ c.in-0-to-23.if-info-lt24-own.true c.requires

pub returns-in-28-to-31 : goal.returns-in-28-to-31
returns-in-28-to-31 c = let i = c.args.info in argument_reserved (kind_is c.args.kind) i _ _ (omega arith)
