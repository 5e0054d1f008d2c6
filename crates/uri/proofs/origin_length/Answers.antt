-- `uri::origin_length` meets its contract.
use native.Mathlib.Omega.{arith}
use mathlib.Core.Path.{ap}
use lib.ListN.{length}
use Rattle.reader.specs.Answers.{opening_of}
use Rattle.uri.proofs.PrintedParts.{origin_discard, origin_all, full_prints, origin_sum}
use Rattle.uri.proofs.origin_length.Goals as goal

pub overflow_add-result : goal.overflow_add-result
overflow_add-result c =
    let bs = c.args.s.now in
    let e = ap opening_of c.in-Full.is in
    omega (arith, c.requires.short, c.scheme_length.ensures bs (full_prints bs e c.requires.opening_prints).0, origin_sum bs e)

pub host_length-requires : goal.host_length-requires
host_length-requires c =
    let bs = c.args.s.now in
    let e = ap opening_of c.in-Full.is in
    record { link_size = c.requires.link_size; host_prints = (full_prints bs e c.requires.opening_prints).1; short = omega (arith, c.requires.short, origin_sum bs e) }

pub overflow_add-result-in-Full : goal.overflow_add-result-in-Full
overflow_add-result-in-Full c =
    let bs = c.args.s.now in
    let e = ap opening_of c.in-Full.is in
    omega (arith, c.requires.short, c.scheme_length.ensures bs (full_prints bs e c.requires.opening_prints).0, c.host_length.ensures, origin_sum bs e)

pub port_length-requires : goal.port_length-requires
port_length-requires c =
    let bs = c.args.s.now in
    let e = ap opening_of c.in-Full.is in
    record { good_port = (full_prints bs e c.requires.opening_prints).2; short = omega (arith, c.requires.short, origin_sum bs e) }

pub overflow_add-result-in-Full-2 : goal.overflow_add-result-in-Full-2
overflow_add-result-in-Full-2 c =
    let bs = c.args.s.now in
    let e = ap opening_of c.in-Full.is in
    omega (arith, c.requires.short, c.scheme_length.ensures bs (full_prints bs e c.requires.opening_prints).0, c.host_length.ensures, c.port_length.ensures, origin_sum bs e)

pub returns-in-Discard : goal.returns-in-Discard
returns-in-Discard c = ap length (origin_discard _ (ap opening_of c.in-Discard.is))

pub returns-in-DiscardAll : goal.returns-in-DiscardAll
returns-in-DiscardAll c = ap length (origin_all _ (ap opening_of c.in-DiscardAll.is))

pub returns-in-Full : goal.returns-in-Full
returns-in-Full c =
    let bs = c.args.s.now in
    let e = ap opening_of c.in-Full.is in
    omega (arith, c.scheme_length.ensures bs (full_prints bs e c.requires.opening_prints).0, c.host_length.ensures, c.port_length.ensures, origin_sum bs e)
