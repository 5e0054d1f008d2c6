-- `resolver_parts::Parts::length` meets its contract.
use native.Mathlib.Omega.{arith}
use Rattle.resolver_parts.proofs.ResultLength.{parts_length}
use Rattle.resolver_parts.proofs.Parts.length.Goals as goal

pub returns : goal.returns
returns c = λ base ref h. omega (arith, parts_length base ref c.args.self c.requires h, c.length-3.ensures, c.length-2.ensures, c.path_head_length.ensures, c.length.ensures)
