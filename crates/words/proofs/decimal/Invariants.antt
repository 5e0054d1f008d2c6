-- `words::decimal` meets its contract: the digits passed, and their number.
use Rattle.std.proofs.Common.{◌≡◌, true, take}
use Rattle.words.specs.Words.{are_digits, decimal_value, if_fits}
use Rattle.words.proofs.decimal.Given as goal

abbrev pub invariant-loop-c : goal.invariant-loop-c
invariant-loop-c l = (are_digits 10 (take l.c-index l.word) ≡ true) × (l.number ≡ if_fits (decimal_value (take l.c-index l.word)))
