-- The laws of pieces that are added one after the other.
use Prim.Native.Nat.{ℕ, ◌+◌, ◌-◌, ◌≤◌, ◌<◌}
use native.Mathlib.Omega.{arith}
use mathlib.Core.Path.{◌≡◌, refl, sym, ap, ap₂, ◌∙◌}
use mathlib.Core.Bool.{Bool, true, false, ◌&&◌}
use mathlib.Core.List.{[], ◌++◌, append_assoc, append-nil}
use lib.ListN.{length, take, drop, length-append}
use lib.Seq.{sets-eq, take_at, length-take-le}
use lib.Dec.{leb}
use borrow.Author.Tests.{leb-true, leb-false, le-leb, lt-leb}
use Rattle.std.specs.Prelude.{Result}
use Rattle.std.specs.Result.{IsErrAnd}
use Rattle.rules.specs.Bytes.{Bytes}
use Rattle.rules.specs.Result.{Res, refused, ok, need, ◌>>=◌, ◌>>◌, LIMIT}
use Rattle.rules.specs.Model.{limits}
use Rattle.rules.proofs.Steps.{need_yes, need_no, bind_ok, bind_refused}
use Rattle.rules.proofs.Tools.{and_both, by_test, never}
use Rattle.put.specs.Wrote.{Wrote}
use Rattle.refusals.specs.declared.Refusal.{Refusal}
use Rattle.refusals.specs.Answers.{refusal_is, answer_is}
use Rattle.refusals.proofs.Steps.{stopped}
use Rattle.writer.specs.Added.{added}

-- ---- one piece

-- it fits
pub added_fits : (lie : Bool) (w bs : Bytes) → lie ≡ true → length w ≤ limits.bytes - length bs → ok (bs ++ w) ≡ added lie w bs
unfolding added
added_fits lie w bs e h = need_yes _ _ _ _ (and_both lie _ e (le-leb (length w) (limits.bytes - length bs) h))

-- a text of it lies outside
pub added_outside : (lie : Bool) (w bs : Bytes) → lie ≡ false → refused LIMIT 0 ≡ added lie w bs
unfolding added
added_outside true w bs e = never (sym e)
added_outside false w bs e = need_no _ _ _ _ refl

-- it is too long
pub added_over : (lie : Bool) (w bs : Bytes) → limits.bytes - length bs < length w → refused LIMIT 0 ≡ added lie w bs
unfolding added
added_over true w bs h = need_no _ _ _ _ (lt-leb (length w) (limits.bytes - length bs) h)
added_over false w bs h = need_no _ _ _ _ refl

-- it is nothing
pub added_none : (bs : Bytes) → ok bs ≡ added true [] bs
added_none bs = ap ok (sym (append-nil bs)) ∙ added_fits true [] bs refl (omega arith)

-- it is said in another way
pub added_as : (lie : Bool) {v w : Bytes} (bs : Bytes) → (lie ≡ true → v ≡ w) → added lie v bs ≡ added lie w bs
added_as true bs e = ap (λ v. added true v bs) (e refl)
added_as false bs e = sym (added_outside false _ bs refl) ∙ added_outside false _ bs refl

-- ---- two pieces

-- the second
second : (h : Bool) (v w bs : Bytes) → length v ≤ limits.bytes - length bs → added h w (bs ++ v) ≡ added h (v ++ w) bs
unfolding added
second h v w bs f =
    let fits : leb (length w) (limits.bytes - length (bs ++ v)) ≡ leb (length (v ++ w)) (limits.bytes - length bs) =
    by_test (λ t. t ≡ leb (length (v ++ w)) (limits.bytes - length bs)) (leb (length w) (limits.bytes - length (bs ++ v)))
    (λ e. sym (le-leb _ _ (omega (arith, f, leb-true (length w) (limits.bytes - length (bs ++ v)) e, length-append v w, length-append bs v))))
    (λ e. sym (lt-leb _ _ (omega (arith, f, leb-false (length w) (limits.bytes - length (bs ++ v)) e, length-append v w, length-append bs v)))) in
    ap₂ (λ (t : Bool) (r : Bytes). need (h && t) LIMIT 0 >> ok r) fits (append_assoc bs v w)

pub added_then : (g h : Bool) (v w bs : Bytes) → (added g v bs >>= added h w) ≡ added (g && h) (v ++ w) bs
added_then false h v w bs = sym (bind_refused _ (added h w) LIMIT 0 (added_outside false v bs refl)) ∙ added_outside false (v ++ w) bs refl
added_then true h v w bs =
    by_test (λ t. leb (length v) (limits.bytes - length bs) ≡ t → (added true v bs >>= added h w) ≡ added h (v ++ w) bs) (leb (length v) (limits.bytes - length bs))
    (λ _ e.
    let f = leb-true (length v) (limits.bytes - length bs) e in
    sym (bind_ok _ (added h w) (bs ++ v) (added_fits true v bs refl f)) ∙ second h v w bs f)
    (λ _ e.
    let f = leb-false (length v) (limits.bytes - length bs) e in
    sym (bind_refused _ (added h w) LIMIT 0 (added_over true v bs f)) ∙ added_over h (v ++ w) bs (omega (arith, f, length-append v w))) refl

-- the first is added, and then the second
pub went : {X : Res Bytes} (g h : Bool) (v w bs bs' : Bytes) → ok bs' ≡ added g v bs → X ≡ added h w bs' → X ≡ added (g && h) (v ++ w) bs
went g h v w bs bs' e d = d ∙ bind_ok _ (added h w) bs' e ∙ added_then g h v w bs

-- the first is refused
pub halted : {A : Type 0} (f : A → Bytes) (x : Refusal) (g h : Bool) (v w bs : Bytes) (r : Result A Refusal) → IsErrAnd r (λ e. e ≡ x) → refusal_is x ≡ added g v bs
    → answer_is f r ≡ added (g && h) (v ++ w) bs
halted f x g h v w bs r i e = stopped f x (added h w) r i e ∙ added_then g h v w bs

-- ---- an array that holds an encoding and has room behind it

module _ (bytes : Bytes) (end : ℕ) (bs : Bytes) (is : take end bytes ≡ bs) (within : end ≤ limits.bytes) (size : length bytes ≡ limits.bytes) where
  pub made_length : length bs ≡ end
  made_length = ap length (sym is) ∙ length-take-le end bytes (omega (arith, within, size))

  -- w is written behind it
  pub made_more : (lie : Bool) (w after : Bytes) (to : ℕ) → lie ≡ true → length w ≤ limits.bytes - end → Wrote bytes end w after to → ok (take to after) ≡ added lie w bs
  made_more lie w after to e h p =
      let more : take to after ≡ bs ++ w =
      ap (take to) (p.bytes ∙ sets-eq w bytes end (omega (arith, within, size, h)))
      ∙ take_at (take end bytes ++ w) (drop (end + length w) bytes) to (omega (arith, p.place, length-append (take end bytes) w, length-take-le end bytes (omega (arith, within, size))))
      ∙ ap (λ (r : Bytes). r ++ w) is in
      ap ok more ∙ added_fits lie w bs e (omega (arith, h, made_length))
