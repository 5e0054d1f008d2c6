-- `reader::number_body` meets its contract: the number is in the table if its id is, and comes back from it.
use Prim.Native.Nat.{ℕ}
use mathlib.Core.Path.{◌≡◌, sym, ap, ◌∙◌}
use Rattle.rules.specs.Reader.{number_at, after_scheme, opening_body}
use Rattle.rules.proofs.Steps.{need_yes, need_no}
use Rattle.schemes.specs.Schemes.{scheme_id}
use Rattle.std.specs.Prelude.{Some}
use Rattle.schemes.proofs.Schemes.{number_read}
use Rattle.schemes.proofs.Table.{known_id_lem, too_large_unknown}
use Rattle.reader.proofs.number_body.Goals as goal
use Rattle.reader.proofs.number_body.Goals.{In-Some}

-- the id is that of n
held : (c : In-Some)
    → scheme_id c.args.head.value ≡ Some c.in-Some.id
held c = sym c.scheme_id.ensures ∙ c.in-Some.is

pub returns-in_default : goal.returns-in_default
unfolding opening_body
returns-in_default c =
    λ bs count.
    need_no _ _ _ _ (too_large_unknown _ (sym c.scheme_id.ensures ∙ c.in_default.is))

pub returns-then-not-is_known : goal.returns-then-not-is_known
unfolding opening_body
returns-then-not-is_known c =
    λ bs count.
    need_no _ _ _ _ (sym (known_id_lem _ _ (held (goal.at.returns-then-not-is_known c).In-Some)) ∙ sym c.is_known.ensures ∙ c.if-not-is_known.true)

pub returns : goal.returns
unfolding opening_body
returns c =
    λ bs count.
    let m = sym c.scheme_number.ensures ∙ c.in-Some-scheme_number.is in
    let e = number_read _ _ (held (goal.at.returns c).In-Some) _ m in
    ap (λ (m : ℕ). after_scheme bs c.args.at count (number_at m) c.args.head.next) e
    ∙ need_yes _ _ _ _ (sym (known_id_lem _ _ (held (goal.at.returns c).In-Some)) ∙ sym c.is_known.ensures ∙ c.if-not-is_known.false)
