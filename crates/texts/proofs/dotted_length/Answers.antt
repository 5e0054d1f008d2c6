-- `texts::dotted_length` meets its contract.
use Prim.Native.Nat.{◌+◌, ◌^◌, ◌<◌}
use native.Mathlib.Omega.{arith}
use mathlib.Core.Path.{◌∙◌}
use mathlib.Core.List.{List}
use lib.ListN.{length}
use denote.Bor.{Bor}
use borrow.Author.Rules.{rules}
use Rattle.std.specs.List.{sum_by}
use Rattle.std.proofs.lemmas.Iterator.{YieldsList-from_map}
use Rattle.std.proofs.lemmas.Iterator.Consumers.{YieldsList-at, YieldsList-from_first, sum_by_from_yields_List, fits_by_from_yields_list}
use Rattle.rules.specs.Bytes.{Bytes}
use Rattle.rules.specs.Reader.{contents}
use Rattle.texts.proofs.RuleCases.{dotted_most, dotted_sum}
use Rattle.texts.proofs.dotted_length.Goals as goal

pub sum-requires-clause-fits : goal.sum-requires-clause-fits
sum-requires-clause-fits c =
    let a = c.args in
    let ts = contents a.s.now a.row.at a.row.count in
    let most : sum_by (λ t. length t + 1) ts < 2 ^ 64 = omega (arith, dotted_sum ts, dotted_most a.s.now a.row.at a.row.count c.requires.0 c.requires.1) in
    fits_by_from_yields_list (λ (t : Bytes). length t + 1) ts c.map.result _
    (YieldsList-from_map _ (λ (t : Bytes). length t + 1)
    (YieldsList-at c.map.ensures.source (YieldsList-from_first (λ (x : Bor Bytes). x.now) (λ (ts : List Bytes). ts) ts c.texts_at.ensures))
    c.map.ensures.closure (λ x r q k. search rules))
    most

pub returns : goal.returns
returns c =
    let a = c.args in
    let ts = contents a.s.now a.row.at a.row.count in
    sum_by_from_yields_List (λ (t : Bytes). length t + 1) ts c.map.result _ c.sum.ensures.ran
    (YieldsList-from_map _ (λ (t : Bytes). length t + 1)
    (YieldsList-at c.map.ensures.source (YieldsList-from_first (λ (x : Bor Bytes). x.now) (λ (ts : List Bytes). ts) ts c.texts_at.ensures))
    c.map.ensures.closure (λ x r q k. search rules))
    ∙ dotted_sum ts
