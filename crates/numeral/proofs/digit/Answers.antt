-- `numeral::digit` meets its contract: each digit is tested.
use mathlib.Core.Path.{refl}
use Rattle.rules.specs.Bytes.{ascii}
use Rattle.rules.specs.Numeral.{digit_byte}
use Rattle.put.specs.Tables.{Entries}
use Rattle.put.proofs.Tables.{entries_by}
use Rattle.numeral.proofs.digit.Goals as goal

pub returns : goal.returns
unfolding digit_byte Entries
returns c = entries_by 16 digit_byte (ascii "0123456789abcdef") refl c.args.value c.requires
