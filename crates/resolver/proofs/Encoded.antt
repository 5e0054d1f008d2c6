-- The parts of a result as its encoding, and what the call answers.
use Prim.Native.Nat.{ℕ, suc, ◌+◌, ◌≤◌, ◌<◌}
use native.Mathlib.Omega.{arith}
use mathlib.Core.Path.{◌≡◌, refl, sym, ap, ap₂, ◌∙◌}
use mathlib.Core.Bool.{Bool, true, false, ◌&&◌}
use mathlib.Core.List.{List, ◌++◌, append_assoc}
use mathlib.Core.Option.{Option, none, some}
use lib.ListN.{length}
use lib.Dec.{leb}
use borrow.Author.Tests.{le-leb, lt-leb}
use Rattle.rules.specs.Bytes.{Bytes, Octets, concat}
use Rattle.rules.specs.Result.{Res, refused, ok, need, given, ◌>>=◌, ◌>>◌, BASE, RESULT}
use Rattle.rules.specs.Model.{Reference, limits, Cri, absolute, reference, set_path}
use Rattle.rules.specs.Head.{head_bytes, Array}
use Rattle.rules.specs.Reader.{Found, read}
use Rattle.rules.specs.Meaning.{meaning, read_reference, read_absolute}
use Rattle.rules.specs.Encode.{array_item, or_null, scheme_item, authority_item, tail_items, with_opening, encode}
use Rattle.rules.specs.Resolve.{resolve, as_base, fits}
use Rattle.rules.specs.Calls.{resolve_call}
use Rattle.rules.proofs.Tools.{by_test}
use Rattle.rules.proofs.Steps.{ok_at, refused_ok}
use Rattle.rules.proofs.Resolving.{resolved_is}
use Rattle.rules.proofs.Standing.{read_size}
use Rattle.rules.proofs.Laid.{laid}
use Rattle.absolutes.specs.Bases.{is_absolute, read_base}
use Rattle.absolutes.proofs.AbsoluteOpenings.{absolute_opening, relative_opening, base_read}
use Rattle.resolver_parts.specs.declared.Both.{Both}
use Rattle.resolver_parts.specs.declared.Parts.{Parts}
use Rattle.resolver_parts.specs.Parts.{Accepted, BothInside, further_items, PartsAre}
use Rattle.resolver_parts.specs.Written.{BothSmall, path_head, path_items, PartsInside, PartsSmall, parts_of}
use Rattle.resolver_parts.proofs.ResultItems.{tail_bytes, tail_count}
use Rattle.resolver.specs.Written.{parts_result}

-- ---- its encoding

pub parts_encode : (base ref : Bytes) (p : Parts) (c : Cri) → PartsAre base ref p c → parts_of base ref p ≡ encode (reference c)
unfolding parts_of encode array_item with_opening reference or_null concat
parts_encode base ref p c h =
    let m = h.path.count in
    let n = h.tail.count in
    let count : 2 + path_items p.path.count p.tail.count + p.tail.count ≡ suc (suc (length (tail_items (set_path c.path) c.query c.fragment))) =
    ap₂ (λ (x y : ℕ). 2 + path_items x y + y) m n ∙ omega (arith, tail_count c.path c.query c.fragment) in
    ap₂ (λ (n : ℕ) (w : Bytes). head_bytes Array n ++ w) count
    (ap₂ (λ (x y : Bytes). x ++ y) h.front.bytes
    (ap₂ (λ (x y : Bytes). x ++ y) (ap₂ path_head m n) (ap₂ (λ (x y : Bytes). x ++ y) h.path.both.bytes h.tail.both.bytes))
    ∙ append_assoc (scheme_item c.scheme) (authority_item c.authority) _
    ∙ ap (λ (l : Bytes). scheme_item c.scheme ++ (authority_item c.authority ++ l)) (sym (tail_bytes c.path c.query c.fragment)))

-- ---- 5.5

module _ (base ref : Bytes) (p : Parts) where
  pub over_segments : limits.segments < p.path.count → parts_result base ref p ≡ refused RESULT 0
  unfolding parts_result need ◌>>◌
  over_segments h = rw (lt-leb p.path.count limits.segments h)

  pub over_bytes : limits.bytes < length (parts_of base ref p) → parts_result base ref p ≡ refused RESULT 0
  unfolding parts_result need ◌>>◌
  over_bytes h =
      rw (lt-leb (length (parts_of base ref p)) limits.bytes h)
      (by_test (λ (t : Bool). (need (t && false) RESULT 0 >> ok (parts_of base ref p)) ≡ refused RESULT 0) (leb p.path.count limits.segments) (λ _. refl) (λ _. refl))

  pub within_both : p.path.count ≤ limits.segments → length (parts_of base ref p) ≤ limits.bytes → parts_result base ref p ≡ ok (parts_of base ref p)
  unfolding parts_result need ◌>>◌
  within_both h k = rw (le-leb p.path.count limits.segments h, le-leb (length (parts_of base ref p)) limits.bytes k)

-- ---- inputs that were accepted, and parts of them, which are small and inside

pub accepted : (bs : Bytes) (f : Found) → Octets bs → read limits bs ≡ ok f → Accepted bs f
accepted bs f o e = record { laid = ok_at (laid limits bs o) e; size = ok_at (read_size limits bs) e }

pub parts_inside : (base ref : Bytes) (p : Parts) (c : Cri) → PartsAre base ref p c → PartsInside base ref p
parts_inside base ref p c h = record { front = h.front.inside; path = h.path.both.inside; tail = h.tail.both.inside }

further_most : (q : Option (List Bytes)) (f : Option Bytes) → further_items q f ≤ 2
further_most q (some f) = omega arith
further_most (some q) none = omega arith
further_most none none = omega arith

pub parts_small : {f g : Found} (base ref : Bytes) (p : Parts) (c : Cri) → read limits base ≡ ok f → read limits ref ≡ ok g → PartsAre base ref p c → PartsSmall p
parts_small base ref p c d e a =
    let m = ok_at (read_size limits base) d in
    let n = ok_at (read_size limits ref) e in
    let small : (b : Both) → BothInside base ref b → BothSmall b =
    λ b i. record { of_base = omega (arith, m, i.of_base); of_reference = omega (arith, n, i.of_reference) } in
    record {
      front = small p.front a.front.inside;
      path = small p.path.both a.path.both.inside;
      tail = small p.tail.both a.tail.both.inside;
      further = omega (arith, a.tail.count, further_most c.query c.fragment);
    }

-- ---- the call

pub call_parts : (base ref : Bytes) (b : Cri) (r : Reference) (p : Parts) → read_absolute limits base ≡ ok b → read_reference limits ref ≡ ok r → PartsAre base ref p (resolve b r)
    → resolve_call limits base ref ≡ parts_result base ref p
unfolding parts_result fits
call_parts base ref b r p d e h =
    resolved_is limits base ref b r d e
    ∙ ap₂ (λ (n : ℕ) (w : Bytes). need (leb n limits.segments && leb (length w) limits.bytes) RESULT 0 >> ok w) (sym h.path.count) (sym (parts_encode base ref p _ h))

-- ---- the base

-- a base that is read, and the CRI that it says
pub record BaseRead (bs : Bytes) (f : Found) : Type 0 where
  pub cri : Cri
  pub found : read limits bs ≡ ok f
  pub says : absolute (meaning bs f) ≡ some cri
  pub absolute : read_absolute limits bs ≡ ok cri

absolute_read : (bs : Bytes) (f : Found) (c : Cri) → read limits bs ≡ ok f → absolute (meaning bs f) ≡ some c → read_absolute limits bs ≡ ok c
unfolding read_absolute read_reference ◌>>=◌ given
absolute_read bs f c d e = rw (d, e)

pub base_says : (bs : Bytes) (f : Found) → read_base limits bs ≡ ok f → BaseRead bs f
base_says bs f e =
    let h = ok_at (base_read limits bs) e in
    let c = absolute_opening bs f h.1 in
    record { cri = c.0; found = h.0; says = c.1; absolute = absolute_read bs f c.0 h.0 c.1 }

pub base_refused : (base ref : Bytes) (n k : ℕ) → read_base limits base ≡ refused n k → resolve_call limits base ref ≡ refused n k
unfolding resolve_call read_base read_absolute read_reference need ◌>>◌ ◌>>=◌ given
base_refused base ref n k e = go (read limits base) refl e
  where
    judged : (g : Found) (t : Bool) → is_absolute g.opening ≡ t → read limits base ≡ ok g → (need t BASE 0 >> ok g) ≡ refused n k
        → resolve_call limits base ref ≡ refused n k
    judged g true a m e = refused_ok n k g (sym e)
    judged g false a m e = let d : BASE ≡ n = cc in let o : 0 ≡ k = cc in rw (m, relative_opening base g a) (ap₂ refused d o)

    go : (m : Res Found) → read limits base ≡ m → (as_base m >>= λ b. need (is_absolute b.opening) BASE 0 >> ok b) ≡ refused n k
        → resolve_call limits base ref ≡ refused n k
    go (refused i j) m e = let d : BASE ≡ n = cc in let o : j ≡ k = cc in rw m (ap₂ refused d o)
    go (ok g) m e = judged g (is_absolute g.opening) refl m e

pub reference_refused : (base ref : Bytes) (b : Cri) (n k : ℕ) → read_absolute limits base ≡ ok b → read limits ref ≡ refused n k → resolve_call limits base ref ≡ refused n k
unfolding resolve_call read_reference ◌>>=◌
reference_refused base ref b n k d e = rw (d, e)

pub read_reference_lem : (ref : Bytes) (f : Found) → read limits ref ≡ ok f → read_reference limits ref ≡ ok (meaning ref f)
unfolding read_reference ◌>>=◌
read_reference_lem ref f e = rw e
