-- `bench::after_content` meets its contract.
use native.Mathlib.Omega.{arith}
use borrow.Author.Tests.{le-leb, lt-leb}
use Rattle.rules.proofs.Steps.{need_yes, need_no}
use Rattle.bench.specs.Answers.{after_content}
use Rattle.bench.proofs.after_content.Goals as goal

pub returns-then-s-head : goal.returns-then-s-head
unfolding after_content
returns-then-s-head c = need_no _ _ _ _ (lt-leb _ _ (omega arith))

pub returns : goal.returns
unfolding after_content
returns c = need_yes _ _ _ _ (le-leb _ _ (omega arith))
