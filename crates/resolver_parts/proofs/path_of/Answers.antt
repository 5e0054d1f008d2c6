-- `resolver_parts::path_of` meets its contract.
use mathlib.Core.Path.{ap}
use mathlib.Core.List.{List, ◌++◌}
use Rattle.rules.specs.Bytes.{Bytes}
use Rattle.rules.specs.Model.{elements, normal_path}
use Rattle.rules.specs.Meaning.{said_texts}
use Rattle.reader.specs.Answers.{slot_of, opening_of}
use Rattle.resolver_parts.specs.Parts.{kept}
use Rattle.resolver_parts.proofs.ResultParts.{row_small, path_as}
use Rattle.resolver_parts.proofs.path_of.Goals as goal

pub joined-requires : goal.joined-requires
joined-requires c = (row_small c.kept_row-old.ensures c.requires.base_accepted.size, row_small c.segments-2.ensures c.requires.reference_accepted.size)

pub returns : goal.returns
returns c =
    let r = c.args.reference in
    path_as (ap (λ (ts : List Bytes). normal_path (kept (opening_of r.found.opening) ts ++ elements (said_texts r.bytes.now (slot_of r.found.path)))) (c.normal_row.ensures _ _ c.segments.ensures).says)
    (c.joined.ensures _ _ _ _ c.kept_row-old.ensures c.segments-2.ensures)
