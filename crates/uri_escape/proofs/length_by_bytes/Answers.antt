-- `uri_escape::length_by_bytes` meets its contract: the lengths of the bytes, summed.
use native.Mathlib.Omega.{arith}
use mathlib.Core.Path.{sym, ◌∙◌}
use lib.ListN.{length}
use Rattle.std.proofs.Common.{rules}
use Rattle.std.proofs.lemmas.Iterator.{YieldsList-from_map, YieldsList-from_slice}
use Rattle.std.proofs.lemmas.Iterator.Consumers.{sum_by_from_yields_List, fits_by_from_yields_list, YieldsList-at}
use Rattle.rules.specs.Text.{escape_byte}
use Rattle.rules.proofs.Escapes.{escape_length}
use Rattle.uri_escape.specs.Escape.{class_is}
use Rattle.uri_escape.proofs.Escape.{escape_sum}
use Rattle.uri_escape.proofs.length_by_bytes.Goals as goal

pub sum-requires-clause-fits : goal.sum-requires-clause-fits
sum-requires-clause-fits c =
    let k = class_is c.args.class in let text = c.args.text.now in
    fits_by_from_yields_list (λ b. length (escape_byte k b)) text c.map.result _ (YieldsList-from_map _ (λ b. length (escape_byte k b)) (YieldsList-at c.map.ensures.source (YieldsList-from_slice text cc)) c.map.ensures.closure (λ x r q k. search rules)) (omega (arith, escape_sum k text, escape_length k text))

pub returns : goal.returns
returns c =
    let k = class_is c.args.class in let text = c.args.text.now in
    sum_by_from_yields_List (λ b. length (escape_byte k b)) text c.map.result _ c.sum.ensures.ran (YieldsList-from_map _ (λ b. length (escape_byte k b)) (YieldsList-at c.map.ensures.source (YieldsList-from_slice text cc)) c.map.ensures.closure (λ x r q k. search rules))
    ∙ sym (escape_sum k text)
