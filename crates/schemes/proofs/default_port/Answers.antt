-- `schemes::default_port` meets its contract: by whether there is an entry.
use mathlib.Core.Path.{sym, ap}
use mathlib.Core.Option.{map}
use Rattle.rules.specs.Rules.{SchemeEntry, schemes, scheme_in}
use Rattle.schemes.specs.Schemes.{default_port}
use Rattle.schemes.proofs.Table.{no_entry_is, port_is}
use Rattle.schemes.proofs.default_port.Goals as goal

pub returns-in_err-entry_by_number : goal.returns-in_err-entry_by_number
unfolding default_port
returns-in_err-entry_by_number c =
    rw c.from_residual.ensures (sym (ap (map (λ (e : SchemeEntry). e.port)) (no_entry_is (scheme_in schemes c.args.number) c.entry_by_number.ensures c.in_err-entry_by_number.was)))

pub returns : goal.returns
unfolding default_port
returns c = port_is (scheme_in schemes c.args.number) _ c.entry_by_number.ensures c.in_ok-entry_by_number.was
