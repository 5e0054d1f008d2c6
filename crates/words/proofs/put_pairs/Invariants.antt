-- `words::put_pairs` meets its contract: what is left to write is the rest of the word.
use Rattle.std.proofs.Common.{◌≡◌, ◌+◌, ◌/◌, true, length}
use Rattle.std.proofs.lemmas.List.Edits.{sets}
use Rattle.words.specs.Words.{are_digits, pair_bytes}
use Rattle.words.proofs.put_pairs.Given as goal

abbrev pub invariant-loop-rest : goal.invariant-loop-rest
invariant-loop-rest l = record {
  digits : are_digits 16 l.rest ≡ true;
  count : l.n + length l.rest / 2 ≡ length l.word / 2;
  size : length l.room ≡ length l.initial.room;
  bytes : sets l.room l.n (pair_bytes l.rest) ≡ sets l.initial.room 0 (pair_bytes l.word);
}

abbrev pub decreases-loop-rest : goal.decreases-loop-rest
decreases-loop-rest l = length l.rest
