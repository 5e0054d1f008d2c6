-- What was read is refused, or written as its bytes again.
use Prim.Native.Nat.{ℕ}
use mathlib.Core.Path.{◌≡◌, refl, sym, ap, ap₂, ◌∙◌}
use mathlib.Core.List.{List}
use lib.ListN.{length, drop}
use Rattle.rules.specs.Bytes.{Bytes, Octets}
use Rattle.rules.specs.Result.{Res, refused, ok, ◌>>◌}
use Rattle.rules.specs.Model as Model
use Rattle.rules.specs.Model.{limits}
use Rattle.rules.specs.Reader.{Found, read}
use Rattle.rules.specs.Calls.{read_call, write_call}
use Rattle.rules.proofs.Steps.{refused_ok}
use Rattle.rules.proofs.RefusalNumbers.{call_accepted, call_refused}
use Rattle.rules.proofs.RoundTrips.{read_write}
use Rattle.components.specs.declared.Components.{Components}
use Rattle.components.specs.Content.{components_of}
use Rattle.components.specs.Layout.{components_laid, reading_laid, text_numbers, spans_after}
use Rattle.components.proofs.Content.{components_said}
use Rattle.round_trip.specs.Again.{again}

-- the components of an accepted input are said by the struct and the array
pub said : (c : Model.Components) (xs : List ℕ) → components_of (spans_after (ok c) xs) (components_laid c) ≡ c
unfolding spans_after
said c xs = components_said c (drop (length (text_numbers c)) xs)

-- what reading answers is laid out, or the refusal
laid_refused : (m : Res Model.Components) (n k : ℕ) → refused n k ≡ reading_laid m → m ≡ refused n k
laid_refused (refused i j) n k e =
    let p : i ≡ n = cc in
    let q : j ≡ k = cc in
    ap₂ refused p q
laid_refused (ok c) n k e = refused_ok n k (components_laid c) e

pub laid_ok : (m : Res Model.Components) (x : Components) → ok x ≡ reading_laid m → (c : Model.Components) × (m ≡ ok c) × (x ≡ components_laid c)
laid_ok (refused n k) x e = refused_ok n k x (sym e)
laid_ok (ok c) x e = (c, refl, cc)

module _ (bs : Bytes) where
  -- a refused input is refused
  pub again_refused : (n k : ℕ) → refused n k ≡ reading_laid (read_call limits bs) → again limits bs ≡ refused n k
  unfolding again ◌>>◌
  again_refused n k told = go (read limits bs) refl
    where
      go : (x : Res Found) → read limits bs ≡ x → again limits bs ≡ refused n k
      go (refused i j) e =
          let d : refused i j ≡ refused n k = call_refused limits bs i j e ∙ laid_refused (read_call limits bs) n k told in
          let p : i ≡ n = cc in
          let q : j ≡ k = cc in
          rw e (ap₂ refused p q)
      go (ok f) e = refused_ok n k _ (sym (call_accepted limits bs f e ∙ laid_refused (read_call limits bs) n k told))

  -- an accepted input is its bytes
  again_accepted : (c : Model.Components) → read_call limits bs ≡ ok c → again limits bs ≡ ok bs
  unfolding again ◌>>◌
  again_accepted c d = go (read limits bs) refl
    where
      go : (x : Res Found) → read limits bs ≡ x → again limits bs ≡ ok bs
      go (refused i j) e = refused_ok i j c (call_refused limits bs i j e ∙ d)
      go (ok f) e = rw e

  -- which the components that were read are written as
  pub again_written : (x : Components) (xs ys : List ℕ) → ok x ≡ reading_laid (read_call limits bs) → ys ≡ spans_after (read_call limits bs) xs → Octets bs
      → write_call limits (components_of ys x) bs ≡ again limits bs
  again_written x xs ys told left h =
      let a = laid_ok (read_call limits bs) x told in
      let c : Model.Components = a.0 in
      let same : components_of ys x ≡ c = ap₂ components_of (left ∙ ap (λ (m : Res Model.Components). spans_after m xs) a.1) a.2 ∙ said c xs in
      ap (λ (c : Model.Components). write_call limits c bs) same ∙ read_write limits bs c h a.1 ∙ sym (again_accepted c a.1)
