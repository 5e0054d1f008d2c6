-- The CRI of an absolute reference, the reference of a CRI, and what a CRI that was read keeps.
use Prim.Native.Nat.{ℕ, ◌≤◌, ◌<◌, ◌^◌}
use native.Mathlib.Omega.{arith}
use mathlib.Core.Path.{◌≡◌, refl, sym, ap, ◌∙◌, subst}
use mathlib.Core.Bool.{true}
use mathlib.Core.List.{List, [], ◌∷◌}
use mathlib.Core.Option.{Option, none, some}
use lib.ListN.{length}
use lib.Dec.{leb}
use borrow.Author.Tests.{leb-true, le-leb}
use Rattle.rules.specs.Bytes.{Bytes, Each, Octets}
use Rattle.rules.specs.Result.{Res, refused, ok, given, ◌>>=◌, BASE}
use Rattle.rules.specs.Model.{Opening, discard, discard_all, full, Reference, Limits, Cri, elements, absolute, reference, set_path}
use Rattle.rules.specs.Rules.{segment, parameter, fragment_text}
use Rattle.rules.specs.Reader.{Found, read}
use Rattle.rules.specs.Meaning.{meaning, read_reference, read_absolute}
use Rattle.rules.specs.Encode.{encode}
use Rattle.rules.specs.Valid.{If, Good, GoodTexts, GoodAuthority, GoodScheme, GoodOpening, Valid}
use Rattle.rules.specs.Resolve.{fits}
use Rattle.rules.specs.Text.{uri_text}
use Rattle.rules.specs.Calls.{text_call}
use Rattle.rules.proofs.Tools.{and_left, and_right, and_both, within_high, is_within}
use Rattle.rules.proofs.Steps.{refused_ok, none_some, bind_ok, ok!, ok_bind, ok_given, ok_at}
use Rattle.rules.proofs.Reading.{canonical, complete}
use Rattle.rules.proofs.Standing.{read_size}

-- ---- absolute references

-- the reference r is absolute, and c is its CRI
pub record Absolute (r : Reference) (c : Cri) : Type 0 where
  pub opening : r.opening ≡ full (some c.scheme) (some c.authority)
  pub path : elements r.path ≡ c.path
  pub query : r.query ≡ c.query
  pub fragment : r.fragment ≡ c.fragment

absolute_parts : (o : Opening Bytes) (p q : Option (List Bytes)) (f : Option Bytes) (c : Cri)
    → absolute (record { opening = o; path = p; query = q; fragment = f }) ≡ some c → Absolute (record { opening = o; path = p; query = q; fragment = f }) c
unfolding absolute
absolute_parts (discard k) p q f c e = none_some c e
absolute_parts discard_all p q f c e = none_some c e
absolute_parts (full none a) p q f c e = none_some c e
absolute_parts (full (some s) none) p q f c e = none_some c e
absolute_parts (full (some s) (some a)) p q f c e =
    let d : ◌≡◌ {A = Cri} (record { scheme = s; authority = a; path = elements p; query = q; fragment = f }) c = cc in
    record {
      opening = ap (λ (c : Cri). full (some c.scheme) (some c.authority)) d;
      path = ap (λ (c : Cri). c.path) d;
      query = ap (λ (c : Cri). c.query) d;
      fragment = ap (λ (c : Cri). c.fragment) d;
    }

pub absolute_is : (r : Reference) (c : Cri) → absolute r ≡ some c → Absolute r c
absolute_is r c e = absolute_parts r.opening r.path r.query r.fragment c e

-- the reference of a CRI, its path given as p
abbrev pub with_path : Cri → Option (List Bytes) → Reference
with_path c p = record { opening = full (some c.scheme) (some c.authority); path = p; query = c.query; fragment = c.fragment }

pub absolute_same : (r : Reference) (c : Cri) → Absolute r c → r ≡ with_path c r.path
absolute_same r c a = λ i. record { opening = a.opening i; path = r.path; query = a.query i; fragment = a.fragment i }

elements_set_path : (ts : List Bytes) → elements (set_path ts) ≡ ts
elements_set_path [] = refl
elements_set_path (t ∷ ts) = refl

pub absolute_reference : (c : Cri) → absolute (reference c) ≡ some c
unfolding absolute reference
absolute_reference c =
    ap (λ (p : List Bytes). some (record { scheme = c.scheme; authority = c.authority; path = p; query = c.query; fragment = c.fragment })) (elements_set_path c.path)

-- ---- what was read as absolute

pub record ReadAs (lim : Limits) (bs : Bytes) (c : Cri) : Type 0 where
  pub said : Reference
  pub read : read_reference lim bs ≡ ok said
  pub is : Absolute said c

pub read_as : (lim : Limits) (bs : Bytes) (c : Cri) → read_absolute lim bs ≡ ok c → ReadAs lim bs c
unfolding read_absolute ◌>>=◌ given
read_as lim bs c e = go (read_reference lim bs) refl e
  where
    held : (r : Reference) (o : Option Cri) → absolute r ≡ o → given o BASE 0 ≡ ok c → read_reference lim bs ≡ ok r → ReadAs lim bs c
    held r none d e m = refused_ok BASE 0 c e
    held r (some a) d e m = let s : a ≡ c = cc in record { said = r; read = m; is = absolute_is r c (d ∙ ap some s) }

    go : (m : Res Reference) → read_reference lim bs ≡ m → (m >>= λ r. given (absolute r) BASE 0) ≡ ok c → ReadAs lim bs c
    go (refused n k) m e = refused_ok n k c e
    go (ok r) m e = held r (absolute r) refl e m

-- by where everything stands
pub read_absolute_lem : (lim : Limits) (bs : Bytes) (f : Found) → read lim bs ≡ ok f → read_absolute lim bs ≡ given (absolute (meaning bs f)) BASE 0
unfolding read_absolute read_reference ◌>>=◌
read_absolute_lem lim bs f e = rw e

-- it is not too long
pub absolute_size : (lim : Limits) (bs : Bytes) (c : Cri) → read_absolute lim bs ≡ ok c → length bs ≤ lim.bytes
unfolding read_absolute read_reference
absolute_size lim bs c e =
    ok_at {P = λ c. length bs ≤ lim.bytes} (ok_bind {P = λ r. length bs ≤ lim.bytes} _ _ (ok_bind _ _ (read_size lim bs) (λ f s. ok! s)) (λ r s. ok_given _ _ _ (λ c e. s))) e

-- the URI text call on it
pub text_of : (lim : Limits) (bs : Bytes) (c : Cri) → read_absolute lim bs ≡ ok c → text_call lim bs ≡ ok (uri_text c)
unfolding text_call ◌>>=◌
text_of lim bs c e = rw e

-- ---- what a CRI keeps

pub record GoodCri (c : Cri) : Type 0 where
  pub scheme : GoodScheme c.scheme
  pub authority : GoodAuthority c.authority
  pub path : Each (Good segment) c.path
  pub query : If (GoodTexts parameter 1 16) c.query
  pub fragment : If (Good fragment_text) c.fragment

pub good_path : (low high : ℕ) (p : Option (List Bytes)) → If (GoodTexts segment low high) p → Each (Good segment) (elements p)
good_path low high none g = tt
good_path low high (some ts) g = g.each

pub good_cri : (lim : Limits) (r : Reference) (c : Cri) → Valid lim r → Absolute r c → GoodCri c
good_cri lim r c v a =
    let o : GoodOpening (full (some c.scheme) (some c.authority)) = subst GoodOpening a.opening v.opening in
    record {
      scheme = o.0;
      authority = o.1;
      path = subst (Each (Good segment)) a.path (good_path 0 lim.segments r.path v.path);
      query = subst (If (GoodTexts parameter 1 16)) a.query v.query;
      fragment = subst (If (Good fragment_text)) a.fragment v.fragment;
    }

-- of an accepted absolute input
pub good_read : (lim : Limits) (bs : Bytes) (c : Cri) → Octets bs → read_absolute lim bs ≡ ok c → GoodCri c
good_read lim bs c h e =
    let r = read_as lim bs c e in
    good_cri lim r.said c (ok_at (canonical lim bs h) r.read).1 r.is

-- which is the encoding of its CRI's reference; an empty path is unset there, or the empty array
pub record EncodedAs (bs : Bytes) (c : Cri) : Type 0 where
  pub path : Option (List Bytes)
  pub is : elements path ≡ c.path
  pub bytes : encode (with_path c path) ≡ bs

pub encoded_as : (lim : Limits) (bs : Bytes) (c : Cri) → Octets bs → read_absolute lim bs ≡ ok c → EncodedAs bs c
encoded_as lim bs c h e =
    let r = read_as lim bs c e in
    record { path = r.said.path; is = r.is.path; bytes = sym (ap encode (absolute_same r.said c r.is)) ∙ (ok_at (canonical lim bs h) r.read).0 }

-- a CRI that fits is read again from its encoding
set_valid : (n : ℕ) (ts : List Bytes) → Each (Good segment) ts → length ts ≤ n → If (GoodTexts segment 0 n) (set_path ts)
set_valid n [] g l = tt
set_valid n (t ∷ ts) g l = record { count = is_within 0 n (length (t ∷ ts)) (omega arith) l; each = g }

pub fits_valid : (lim : Limits) (c : Cri) → GoodCri c → fits lim c ≡ true → Valid lim (reference c)
unfolding fits reference
fits_valid lim c g e =
    let n : length c.path ≤ lim.segments = leb-true _ _ (and_left (leb (length c.path) lim.segments) _ e) in
    record {
      opening = (g.scheme, g.authority);
      path = set_valid lim.segments c.path g.path n;
      query = g.query;
      fragment = g.fragment;
      size = leb-true _ _ (and_right (leb (length c.path) lim.segments) _ e);
    }

-- and a CRI whose reference is valid fits
set_count : (n : ℕ) (ts : List Bytes) → If (GoodTexts segment 0 n) (set_path ts) → length ts ≤ n
set_count n [] g = omega arith
set_count n (t ∷ ts) g = within_high 0 n _ g.count

pub valid_fits : (lim : Limits) (c : Cri) → Valid lim (reference c) → fits lim c ≡ true
unfolding fits reference
valid_fits lim c v = and_both _ _ (le-leb _ _ (set_count lim.segments c.path v.path)) (le-leb _ _ v.size)

pub fits_read : (lim : Limits) → lim.segments < 2 ^ 64 → (c : Cri) → GoodCri c → fits lim c ≡ true → read_absolute lim (encode (reference c)) ≡ ok c
unfolding read_absolute given
fits_read lim small c g e =
    sym (bind_ok _ _ (reference c) (sym (complete lim small (reference c) (fits_valid lim c g e))))
    ∙ ap (λ (o : Option Cri). given o BASE 0) (absolute_reference c)
