-- `cbor::long_at` meets its contract: the tests that led to each return are the steps of `read_argument`.
use Prim.Native.Nat.{ℕ, ◌+◌}
use native.Mathlib.Omega.{arith}
use mathlib.Core.Path.{refl, ap, ◌∙◌}
use Rattle.rules.specs.Bytes.{part, number_from}
use Rattle.rules.specs.Head.{width}
use Rattle.rules.proofs.Slices.{slice_part}
use Rattle.rules.proofs.Tools.{octets_of, length_part}
use Rattle.cbor.specs.Heads.{kind_is, accepted}
use Rattle.cbor.proofs.Heads.{width_most, argument_cut, argument_less, argument_enough}
use Rattle.cbor.proofs.long_at.Goals as goal

pub returns-then-s-from : goal.returns-then-s-from
returns-then-s-from c =
    let k = kind_is c.args.kind in
    let a = c.args in
    argument_cut k a.info a.s.now a.at (width a.info) (c.requires.1, c.requires.2, refl) (omega (arith, c.width_of-w.ensures))

pub number_of-value-requires : goal.number_of-value-requires
number_of-value-requires c =
    let a = c.args in
    rw (slice_part a.s.now (a.at + 1) c.width_of-w.result) (omega (arith, c.width_of-w.ensures, width_most a.info c.requires.2, length_part a.s.now (a.at + 1) c.width_of-w.result (omega arith)))

pub returns-then-value-least_of : goal.returns-then-value-least_of
returns-then-value-least_of c =
    let k = kind_is c.args.kind in
    let a = c.args in
    argument_less k a.info a.s.now a.at _ (octets_of a.s.now (λ i. (c.type_inv.s i).fits)) c.requires.1 c.requires.2 (omega (arith, c.width_of-w.ensures))
    (rw (slice_part a.s.now (a.at + 1) c.width_of-w.result) at c.number_of-value.ensures ∙ ap (λ (x : ℕ). number_from 0 (part a.s.now (a.at + 1) x)) c.width_of-w.ensures)
    (omega (arith, c.least_of.ensures))

pub returns : goal.returns
returns c =
    let k = kind_is c.args.kind in
    let a = c.args in
    ap (λ (x : ℕ). accepted k c.number_of-value.result (a.at + 1 + x)) c.width_of-w.ensures
    ∙ argument_enough k a.info a.s.now a.at _ (octets_of a.s.now (λ i. (c.type_inv.s i).fits)) c.requires.1 c.requires.2 (omega (arith, c.width_of-w.ensures))
    (rw (slice_part a.s.now (a.at + 1) c.width_of-w.result) at c.number_of-value.ensures ∙ ap (λ (x : ℕ). number_from 0 (part a.s.now (a.at + 1) x)) c.width_of-w.ensures)
    (omega (arith, c.least_of.ensures))
