-- `resolver_parts::Parts::put` meets its contract.
use native.Mathlib.Omega.{arith}
use mathlib.Core.Path.{ap}
use Rattle.rules.specs.Head.{head_bytes, Array}
use Rattle.put.proofs.Wrote.{wrote_then, wrote_as, wrote_length}
use Rattle.resolver_parts.specs.Written.{parts_of}
use Rattle.resolver_parts.proofs.ResultLength.{counted, sizes}
use Rattle.resolver_parts.proofs.Parts.put.Goals as goal

pub put_head-a-requires : goal.put_head-a-requires
put_head-a-requires c =
    let z = sizes c.args.base.now c.args.reference.now c.args.self c.requires.parts_small c.path_items.ensures in
    omega (arith, z.head, z.total, c.requires.room_enough)

pub put-b-requires : goal.put-b-requires
put-b-requires c =
    let z = sizes c.args.base.now c.args.reference.now c.args.self c.requires.parts_small c.path_items.ensures in
    let p = c.put_head-a.ensures in
    record { both_inside = c.requires.parts_small.1.front; length_in_bounds = omega (arith, z.head, z.total, c.requires.room_enough, p.place, wrote_length p) }

pub put_path_head-c-requires : goal.put_path_head-c-requires
put_path_head-c-requires c =
    let z = sizes c.args.base.now c.args.reference.now c.args.self c.requires.parts_small c.path_items.ensures in
    let p = c.put_head-a.ensures in
    let q = c.put-b.ensures in
    omega (arith, z.head, z.front, z.total, c.requires.room_enough, p.place, wrote_length p, q.place, wrote_length q)

pub put-d-requires : goal.put-d-requires
put-d-requires c =
    let z = sizes c.args.base.now c.args.reference.now c.args.self c.requires.parts_small c.path_items.ensures in
    let p = c.put_head-a.ensures in
    let q = c.put-b.ensures in
    let r = c.put_path_head-c.ensures in
    record { both_inside = c.requires.parts_small.1.path; length_in_bounds = omega (arith, z.head, z.front, z.total, c.requires.room_enough, p.place, wrote_length p, q.place, wrote_length q, r.place, wrote_length r) }

pub put-requires : goal.put-requires
put-requires c =
    let z = sizes c.args.base.now c.args.reference.now c.args.self c.requires.parts_small c.path_items.ensures in
    let p = c.put_head-a.ensures in
    let q = c.put-b.ensures in
    let r = c.put_path_head-c.ensures in
    let v = c.put-d.ensures in
    record { both_inside = c.requires.parts_small.1.tail; length_in_bounds = omega (arith, z.head, z.front, z.path, z.total, c.requires.room_enough, p.place, wrote_length p, q.place, wrote_length q, r.place, wrote_length r, v.place, wrote_length v) }

pub returns : goal.returns
unfolding parts_of
returns c =
    wrote_then (wrote_as (ap (head_bytes Array) (counted c.args.self c.path_items.ensures)) c.put_head-a.ensures)
    (wrote_then c.put-b.ensures (wrote_then c.put_path_head-c.ensures (wrote_then c.put-d.ensures c.put.ensures)))
