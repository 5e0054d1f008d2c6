-- An opening tells whether its reference is absolute; what is known of a base that was read.
use mathlib.Core.Path.{◌≡◌, refl, sym}
use mathlib.Core.Bool.{Bool, true, false}
use mathlib.Core.Option.{none, some}
use Rattle.rules.specs.Bytes.{Bytes}
use Rattle.rules.specs.Result.{Res, refused, ok, need, given, ◌>>=◌, ◌>>◌, BASE}
use Rattle.rules.specs.Model.{Limits, Cri, absolute}
use Rattle.rules.specs.Reader.{Slot, no_scheme, number_at, name_at, OpeningAt, discard_at, discard_all_at, full_at, Found, read}
use Rattle.rules.specs.Meaning.{components, meaning}
use Rattle.rules.specs.Resolve.{as_base}
use Rattle.rules.proofs.Tools.{never}
use Rattle.rules.proofs.Steps.{Ok, no!, ok!, ok_bind, ok_need}
use Rattle.absolutes.specs.Bases.{is_absolute, read_base}

pub absolute_opening : (bs : Bytes) (f : Found) → is_absolute f.opening ≡ true → (c : Cri) × (absolute (meaning bs f) ≡ some c)
unfolding absolute meaning components
absolute_opening bs f e = of f.opening f.path f.query f.fragment e
  where
    of : (o : OpeningAt) (p q g : Slot) → is_absolute o ≡ true → (c : Cri) × (absolute (meaning bs (record { opening = o; path = p; query = q; fragment = g })) ≡ some c)
    of (discard_at k) p q g e = never e
    of discard_all_at p q g e = never e
    of (full_at no_scheme a) p q g e = never e
    of (full_at (number_at n) a) p q g e = (_, refl)
    of (full_at (name_at at n) a) p q g e = (_, refl)

pub relative_opening : (bs : Bytes) (f : Found) → is_absolute f.opening ≡ false → absolute (meaning bs f) ≡ none
unfolding absolute meaning components
relative_opening bs f e = of f.opening f.path f.query f.fragment e
  where
    of : (o : OpeningAt) (p q g : Slot) → is_absolute o ≡ false → absolute (meaning bs (record { opening = o; path = p; query = q; fragment = g })) ≡ none
    of (discard_at k) p q g e = refl
    of discard_all_at p q g e = refl
    of (full_at no_scheme a) p q g e = refl
    of (full_at (number_at n) a) p q g e = never (sym e)
    of (full_at (name_at at n) a) p q g e = never (sym e)

-- what follows on a base, as the calls are defined
pub base_then : {A : Type 0} (lim : Limits) (bs : Bytes) (f : Found → Res A)
    → (read_base lim bs >>= f) ≡ (as_base (read lim bs) >>= λ b. given (absolute (meaning bs b)) BASE 0 >> f b)
unfolding read_base ◌>>=◌ ◌>>◌ need given
base_then lim bs f = go (read lim bs)
  where
    judged : (b : Found) (t : Bool) → is_absolute b.opening ≡ t → ((need t BASE 0 >> ok b) >>= f) ≡ (given (absolute (meaning bs b)) BASE 0 >> f b)
    judged b true e = rw (absolute_opening bs b e).1
    judged b false e = rw (relative_opening bs b e)

    go : (m : Res Found)
        → ((as_base m >>= λ b. need (is_absolute b.opening) BASE 0 >> ok b) >>= f) ≡ (as_base m >>= λ b. given (absolute (meaning bs b)) BASE 0 >> f b)
    go (refused n k) = refl
    go (ok b) = judged b (is_absolute b.opening) refl

-- a base that is accepted
pub base_read : (lim : Limits) (bs : Bytes) → Ok (λ f. (read lim bs ≡ ok f) × (is_absolute f.opening ≡ true)) (read_base lim bs)
unfolding read_base
base_read lim bs = ok_bind _ _ (go (read lim bs)) (λ f e. ok_need _ _ _ _ (λ t. ok! (e, t)))
  where
    go : (m : Res Found) → Ok (λ f. m ≡ ok f) (as_base m)
    go (refused n k) = no!
    go (ok f) = ok! refl
