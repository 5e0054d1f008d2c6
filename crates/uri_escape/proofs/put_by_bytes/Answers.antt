-- `uri_escape::put_by_bytes` meets its contract: the bytes that are passed are written, escaped.
use native.Mathlib.Omega.{arith}
use mathlib.Core.Path.{sym}
use Rattle.put.proofs.Wrote.{wrote_none, wrote_then, wrote_as}
use Rattle.uri_escape.specs.Escape.{class_is}
use Rattle.uri_escape.proofs.Escape.{escape_none, escape_more, escape_room}
use Rattle.uri_escape.proofs.put_by_bytes.Goals as goal

pub loop-b-init : goal.loop-b-init
loop-b-init c = rw escape_none wrote_none

pub put_escaped_byte-o-requires : goal.put_escaped_byte-o-requires
put_escaped_byte-o-requires c =
    omega (arith, c.requires, escape_room (class_is c.args.class) c.args.text.now c.loop-b.b-index (omega arith))

pub loop-b-preserved : goal.loop-b-preserved
loop-b-preserved c =
    wrote_as (sym (escape_more (class_is c.args.class) c.args.text.now c.loop-b.b-index (omega arith))) (wrote_then c.loop-b.invariant c.put_escaped_byte-o.ensures)
