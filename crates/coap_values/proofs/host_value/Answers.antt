-- `coap_values::host_value` meets its contract.
use native.Mathlib.Omega.{arith}
use mathlib.Core.Path.{sym, ap, ◌∙◌}
use Rattle.reader.specs.Answers.{host_of}
use Rattle.coap_values.proofs.Values.{valued_none, valued_wrote, host_same, host_address, host_labels}
use Rattle.coap_values.proofs.host_value.Goals as goal

pub returns-then-same : goal.returns-then-same
returns-then-same c = valued_none (host_same _ _ (ap host_of c.in-Address.is) c.of-address.ensures.shows (sym c.same.ensures ∙ c.if-same.true))

pub returns-else-same : goal.returns-else-same
returns-else-same c =
    let e = ap host_of c.in-Address.is in
    let h = rw e at c.requires.host_asks in
    valued_wrote (host_address _ _ e c.of-address.ensures.shows (sym c.same.ensures ∙ c.if-same.false)) (rw c.of-address.ensures.shows (omega (arith, h.1, c.requires.in_bounds)))
    (rw c.of-address.ensures.shows h.1) c.put_address.ensures

pub returns-in-Labels : goal.returns-in-Labels
returns-in-Labels c =
    let e = ap host_of c.in-Labels.is in
    let h = rw e at c.requires.host_asks in
    valued_wrote (host_labels _ _ e) (omega (arith, h.1, c.requires.in_bounds)) h.1 c.put_labels.ensures
