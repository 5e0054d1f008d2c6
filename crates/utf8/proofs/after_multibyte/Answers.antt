-- `utf8::after_multibyte` meets its contract: each arm is a range of lead bytes.
use native.Mathlib.Omega.{arith}
use mathlib.Core.Path.{◌≡◌, sym, ap, ap₂, ◌∙◌}
use mathlib.Core.Bool.{◌&&◌}
use Prim.Native.Nat.{◌-◌, ◌<◌}
use lib.ListN.{length, get_or, take, drop, length-drop}
use borrow.Author.Tests.{ltb-true, ltb-false}
use Rattle.std.proofs.Common.{inl, inr}
use Rattle.std.proofs.lemmas.List.{take_rest}
use Rattle.utf8.proofs.Utf8Walk.{no_second, not_lead, two_bytes, three_bytes, four_bytes, no_third, no_fourth, tested, refused}
use Rattle.rules.specs.Bytes.{Bytes}
use Rattle.utf8.proofs.after_multibyte.Goals as goal
use Rattle.utf8.proofs.after_multibyte.Goals.{in_default-2-via-then-lead-lt194, in_default-2-via-in-194-to-223-default+else-follows, in_default-2-via-else-lead-lt194+else-this-lt224+then-this-lt240+then-this-lt1, in_default-2-via-in-224-to-239-len1-up+else-follows-continues, in_default-2-via-else-lead-lt194+else-this-lt224+else-this-lt240+then-this-lt245+then-this-lt2, in_default-2-via-in-240-to-244-len2-up+else-follows-continues-2, in_default-2-via-else-lead-lt194+else-this-lt224+else-this-lt240+else-this-lt245}

pub returns-in_default : goal.returns-in_default
returns-in_default c = no_second _ (omega arith) (omega (arith, c.type_inv.text 0))

pub returns-in-194-to-223-default : goal.returns-in-194-to-223-default
returns-in-194-to-223-default c =
    let t = c.args.text.now in
    rw (take_rest t 2) (tested t _ _ (two_bytes t (omega arith) (omega arith) (omega arith)) (sym c.follows.ensures ∙ c.if-follows.true) (omega (arith, length-drop 2 t)))

pub returns-in-224-to-239-len1-up : goal.returns-in-224-to-239-len1-up
returns-in-224-to-239-len1-up c =
    let t = c.args.text.now in
    let e = take_rest t 2 in
    let r : Bytes = take (length t - 2) (drop 2 t) in
    let n : length r ≡ length t - 2 = ap length e ∙ length-drop 2 t in
    rw (take_rest r 1)
    (tested t _ _ (three_bytes t r e (omega arith) (omega arith) (omega arith))
    (sym (ap₂ ◌&&◌ c.follows-then-this-lt240.ensures c.continues.ensures) ∙ c.if-follows-continues.true) (omega (arith, length-drop 1 r)))

pub returns-in-240-to-244-len2-up : goal.returns-in-240-to-244-len2-up
returns-in-240-to-244-len2-up c =
    let t = c.args.text.now in
    let e = take_rest t 2 in
    let r : Bytes = take (length t - 2) (drop 2 t) in
    let n : length r ≡ length t - 2 = ap length e ∙ length-drop 2 t in
    rw (take_rest r 2)
    (tested t _ _ (four_bytes t r e (omega arith) (omega arith) (omega arith))
    (sym (ap₂ ◌&&◌ (ap₂ ◌&&◌ c.follows-then-this-lt245.ensures c.continues-then-this-lt245.ensures) c.continues-then-this-lt245-2.ensures) ∙ c.if-follows-continues-2.true)
    (omega (arith, length-drop 2 r)))

pub returns-in_default-2 : goal.returns-in_default-2
returns-in_default-2 c =
    let t = c.args.text.now in
    let e = take_rest t 2 in
    let r : Bytes = take (length t - 2) (drop 2 t) in
    let n : length r ≡ length t - 2 = ap length e ∙ length-drop 2 t in
    let u : get_or t 0 0 < 0x100 = omega (arith, c.type_inv.text 0) in
    elim c.in_default-2.branch [
      | in_default-2-via-then-lead-lt194 w ↦ not_lead t (omega arith) u (inl (omega (arith, ltb-true)))
      | in_default-2-via-in-194-to-223-default+else-follows w ↦
          λ _. refused t _ _ (two_bytes t (omega arith) (omega (arith, ltb-false)) (omega (arith, ltb-true))) (sym w.follows.ensures ∙ w.if-follows.false)
      | in_default-2-via-else-lead-lt194+else-this-lt224+then-this-lt240+then-this-lt1 w ↦
          λ _. no_third t (omega arith) (omega (arith, ltb-true)) (omega (arith, ltb-false)) (omega (arith, ltb-true))
      | in_default-2-via-in-224-to-239-len1-up+else-follows-continues w ↦
          λ _. refused t _ _ (three_bytes t r e (omega (arith, ltb-false)) (omega (arith, ltb-false)) (omega (arith, ltb-true)))
          (sym (ap₂ ◌&&◌ w.follows-then-this-lt240.ensures w.continues.ensures) ∙ w.if-follows-continues.false)
      | in_default-2-via-else-lead-lt194+else-this-lt224+else-this-lt240+then-this-lt245+then-this-lt2 w ↦
          λ _. no_fourth t (omega arith) (omega (arith, ltb-true)) (omega (arith, ltb-false)) (omega (arith, ltb-true))
      | in_default-2-via-in-240-to-244-len2-up+else-follows-continues-2 w ↦
          λ _. refused t _ _ (four_bytes t r e (omega (arith, ltb-false)) (omega (arith, ltb-false)) (omega (arith, ltb-true)))
          (sym (ap₂ ◌&&◌ (ap₂ ◌&&◌ w.follows-then-this-lt245.ensures w.continues-then-this-lt245.ensures) w.continues-then-this-lt245-2.ensures) ∙ w.if-follows-continues-2.false)
      | in_default-2-via-else-lead-lt194+else-this-lt224+else-this-lt240+else-this-lt245 w ↦ not_lead t (omega arith) u (inr (omega (arith, ltb-false)))
    ]
