-- `uri::put_origin` meets its contract.
use native.Mathlib.Omega.{arith}
use mathlib.Core.Path.{ap}
use Rattle.put.proofs.Wrote.{wrote_then, wrote_as, wrote_none, wrote_length}
use Rattle.reader.specs.Answers.{opening_of}
use Rattle.uri.proofs.PrintedParts.{origin_discard, origin_all, origin_full, full_prints, origin_sum}
use Rattle.uri.proofs.put_origin.Goals as goal

pub put_scheme-p-requires : goal.put_scheme-p-requires
put_scheme-p-requires c =
    let bs = c.args.s.now in
    let e = ap opening_of c.in-Full.is in
    record { scheme_stands = (full_prints bs e c.requires.opening_prints).0; scheme_in_bounds = omega (arith, c.requires.opening_in_bounds, origin_sum bs e) }

pub put_bytes-q-requires : goal.put_bytes-q-requires
put_bytes-q-requires c = omega (arith, c.requires.opening_in_bounds, origin_sum c.args.s.now (ap opening_of c.in-Full.is), c.put_scheme-p.ensures.place, wrote_length c.put_scheme-p.ensures)

pub put_host-r-requires : goal.put_host-r-requires
put_host-r-requires c =
    let bs = c.args.s.now in
    let e = ap opening_of c.in-Full.is in
    record { host_prints = (full_prints bs e c.requires.opening_prints).1; host_in_bounds = omega (arith, c.requires.opening_in_bounds, origin_sum bs e, c.put_scheme-p.ensures.place, wrote_length c.put_scheme-p.ensures, c.put_bytes-q.ensures.place, wrote_length c.put_bytes-q.ensures) }

pub put_port-requires : goal.put_port-requires
put_port-requires c =
    let bs = c.args.s.now in
    let e = ap opening_of c.in-Full.is in
    record { good_port = (full_prints bs e c.requires.opening_prints).2; port_in_bounds = omega (arith, c.requires.opening_in_bounds, origin_sum bs e, c.put_scheme-p.ensures.place, wrote_length c.put_scheme-p.ensures, c.put_bytes-q.ensures.place, wrote_length c.put_bytes-q.ensures, c.put_host-r.ensures.place, wrote_length c.put_host-r.ensures) }

pub returns-in-Discard : goal.returns-in-Discard
returns-in-Discard c = wrote_as (origin_discard _ (ap opening_of c.in-Discard.is)) wrote_none

pub returns-in-DiscardAll : goal.returns-in-DiscardAll
returns-in-DiscardAll c = wrote_as (origin_all _ (ap opening_of c.in-DiscardAll.is)) wrote_none

pub returns-in-Full : goal.returns-in-Full
returns-in-Full c = wrote_as (origin_full _ (ap opening_of c.in-Full.is)) (wrote_then c.put_scheme-p.ensures (wrote_then c.put_bytes-q.ensures (wrote_then c.put_host-r.ensures c.put_port.ensures)))
