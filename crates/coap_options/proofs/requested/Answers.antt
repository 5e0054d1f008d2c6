-- `coap_options::requested` meets its contract.
use native.Mathlib.Omega.{arith}
use mathlib.Core.Path.{◌≡◌, refl, ap, ◌∙◌}
use lib.ListN.{length}
use Rattle.rules.specs.Bytes.{Bytes}
use Rattle.put.proofs.Wrote.{wrote_as}
use Rattle.outcomes.proofs.Answers.{right_full, right_done}
use Rattle.reader.specs.Answers.{slot_of, host_of}
use Rattle.coap_options.specs.Requests.{options_at}
use Rattle.coap_options.proofs.Pieces.{Known, known}
use Rattle.coap_options.proofs.requested.Goals as goal
use Rattle.coap_options.proofs.requested.Goals.{After-deltas_of-deltas, After-options_length}

-- the options that are asked for
abbrev asked : After-deltas_of-deltas → Bytes
asked d =
    let a = d.args in
    options_at a.s.now (host_of a.host) a.port (slot_of a.path) (slot_of a.query) a.to_address.now a.to_port

known_at : (d : After-deltas_of-deltas)
    → Known d.args.s.now
    (record { host = d.value_in.result; port = d.value_in-2.result; path = d.segments.result; query = d.parameters.result }) d.deltas_of-deltas.result
    (asked d)
known_at d =
    let a = d.args in
    known _ _ _ d.deltas_of-deltas.ensures (host_of a.host) a.port (slot_of a.path) (slot_of a.query) a.to_address.now a.to_port
    (d.value_in.ensures.value ∙ d.host_value-host_length.ensures.says) d.value_in.ensures.small
    (d.value_in-2.ensures.value ∙ d.port_value-port_length.ensures.says) d.value_in-2.ensures.small d.segments.ensures
    (d.parameters.ensures a.s.now d.requires.texts_ask.1)

-- how long the options are, where they are measured
long : (o : After-options_length) → o.options_length.result ≡ length (asked (goal.at.After-options_length o).After-deltas_of-deltas)
long o =
    o.options_length.ensures ∙ ap length (known_at (goal.at.After-options_length o).After-deltas_of-deltas).pieces

pub returns-then-room-options_length : goal.returns-then-room-options_length
returns-then-room-options_length c =
    let u = right_full {room = c.args.room.now} (asked (goal.at.returns-then-room-options_length c).After-deltas_of-deltas) refl (omega (arith, c.if-room-options_length.true, long (goal.at.returns-then-room-options_length c).After-options_length)) in
    record { result_value = u.answered; room_after = u.holds }

pub returns : goal.returns
returns c =
    let u = right_done (asked (goal.at.returns c).After-deltas_of-deltas) refl (omega (arith, c.if-room-options_length.false, long (goal.at.returns c).After-options_length)) (wrote_as (known_at (goal.at.returns c).After-deltas_of-deltas).pieces c.put_options.ensures) in
    record { result_value = u.answered; room_after = u.holds }
