-- `utf8::after_ascii` meets its contract.
use native.Mathlib.Omega.{arith}
use mathlib.Core.Path.{sym, ap, ◌∙◌}
use Prim.Native.Nat.{◌-◌}
use lib.ListN.{length}
use Rattle.std.proofs.lemmas.List.{take_rest}
use Rattle.rules.specs.Bytes.{all}
use Rattle.utf8.specs.Answers.{is_ascii}
use Rattle.utf8.proofs.Utf8Walk.{passed_last}
use Rattle.utf8.proofs.after_ascii.Goals as goal

pub returns-then-ascii : goal.returns-then-ascii
returns-then-ascii c =
    let t = c.args.text.now in
    passed_last t _ _ 8 c.after_blocks-2.ensures c.after_blocks-rest.ensures (omega arith) (omega arith)
    (sym c.if-ascii.true ∙ c.ascii.ensures ∙ ap (all is_ascii) (take_rest t (length t - 8)))
