-- `schemes::entry_by_number` meets its contract: by whether 64 bits hold the id.
use mathlib.Core.Path.{sym, ◌∙◌}
use Rattle.schemes.proofs.Table.{too_large_entry}
use Rattle.schemes.proofs.entry_by_number.Goals as goal

pub returns-in_err-scheme_id : goal.returns-in_err-scheme_id
returns-in_err-scheme_id c =
    rw (c.from_residual.ensures, too_large_entry _ (sym c.scheme_id.ensures ∙ c.in_err-scheme_id.was)) tt
