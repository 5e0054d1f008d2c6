-- `coap_options::options_length` meets its contract.
use native.Mathlib.Omega.{arith}
use Rattle.coap_coding.proofs.Coded.{coded_most}
use Rattle.coap_options.proofs.Pieces.{value_most}
use Rattle.coap_options.proofs.options_length.Goals as goal

pub overflow_add-result : goal.overflow_add-result
overflow_add-result c =
    let r = c.args.request in
    let d = c.args.deltas in
    let k = c.requires.stands.0 in
    let m = c.requires.stands.1 in
    omega (arith, c.value_length.ensures, value_most 3 r.host (omega arith) k.host, c.value_length-2.ensures, value_most d.port r.port m.port k.port)

pub overflow_add-result-2 : goal.overflow_add-result-2
overflow_add-result-2 c =
    let r = c.args.request in
    let d = c.args.deltas in
    let k = c.requires.stands.0 in
    let m = c.requires.stands.1 in
    omega (arith, c.requires.link_size, c.value_length.ensures, value_most 3 r.host (omega arith) k.host, c.value_length-2.ensures, value_most d.port r.port m.port k.port, c.row_length.ensures, coded_most d.path c.args.s.now r.path.at r.path.count m.path k.path.0 k.path.1)

pub overflow_add-result-3 : goal.overflow_add-result-3
overflow_add-result-3 c =
    let r = c.args.request in
    let d = c.args.deltas in
    let k = c.requires.stands.0 in
    let m = c.requires.stands.1 in
    omega (arith, c.requires.link_size, c.value_length.ensures, value_most 3 r.host (omega arith) k.host, c.value_length-2.ensures, value_most d.port r.port m.port k.port, c.row_length.ensures, coded_most d.path c.args.s.now r.path.at r.path.count m.path k.path.0 k.path.1, c.row_length-2.ensures, coded_most d.query c.args.s.now r.query.at r.query.count m.query k.query.0 k.query.1)
