-- `resolver_parts::front` meets its contract.
use mathlib.Core.Logic.{inl, inr}
use Rattle.rules.specs.Laid.{OpeningLaid}
use Rattle.reader.specs.Answers.{opening_of}
use Rattle.resolver_parts.proofs.ResultParts.{span_is_lem, both_is, front_old, front_own, full_laid}
use Rattle.resolver_parts.proofs.front.Goals as goal

pub returns-in-Discard : goal.returns-in-Discard
returns-in-Discard c =
    let p : OpeningLaid c.args.base.bytes.now (opening_of c.args.base.found.opening) = c.requires.base_accepted.laid.opening in
    elim c.in-Discard.is [
      | inl d ↦ rw d.1 (λ s a e. let old = full_laid (rw c.in-Full.is at e) (rw c.in-Full.is at p) in front_old s a _ c.between.ensures old.0 old.1)
      | inr d ↦ rw d (λ s a e. let old = full_laid (rw c.in-Full.is at e) (rw c.in-Full.is at p) in front_old s a _ c.between.ensures old.0 old.1)
    ]

pub returns-in-None : goal.returns-in-None
returns-in-None c =
    let p : OpeningLaid c.args.base.bytes.now (opening_of c.args.base.found.opening) = c.requires.base_accepted.laid.opening in
    let q : OpeningLaid c.args.reference.bytes.now (opening_of c.args.reference.found.opening) = c.requires.reference_accepted.laid.opening in
    rw (c.in-Full-opening.is, c.in-None.is)
    (λ s a e.
    both_is _ (span_is_lem (full_laid (rw c.in-Full.is at e) (rw c.in-Full.is at p)).0 _ c.between-in-None.ensures)
    (span_is_lem (rw c.in-Full-opening.is at q).authority _ c.between-in-None-2.ensures))

pub returns-in-Some : goal.returns-in-Some
returns-in-Some c =
    let q : OpeningLaid c.args.reference.bytes.now (opening_of c.args.reference.found.opening) = c.requires.reference_accepted.laid.opening in
    rw (c.in-Full-opening.is, c.in-Some.is) (λ s a e. front_own s _ _ _ c.between-in-Some.ensures (rw (c.in-Full-opening.is, c.in-Some.is) at q))
