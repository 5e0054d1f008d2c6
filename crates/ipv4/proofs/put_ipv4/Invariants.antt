-- `ipv4::put_ipv4` meets its contract: what is left to write is what is left of the bytes.
use lib.ListN.{drop}
use Rattle.rules.specs.Bytes.{dot}
use Rattle.rules.specs.Numeral.{decimal}
use Rattle.rules.specs.Address.{ipv4_text}
use Rattle.put.specs.Joined.{further}
use Rattle.put.proofs.Wrote.{Left}
use Rattle.ipv4.proofs.put_ipv4.Given as goal

abbrev pub invariant-loop-b : goal.invariant-loop-b
invariant-loop-b l = Left l.room l.o (further dot decimal (drop l.b-index l.further)) l.fn.room l.at (ipv4_text l.address)
