-- A result resolved again loses its fragment, and an absolute reference may lose its path: what is left is valid, so it fits.
use Prim.Native.Nat.{suc, ◌≤◌}
use native.Mathlib.Omega.{arith}
use mathlib.Core.Path.{◌≡◌}
use mathlib.Core.List.{List, [], ◌∷◌, map}
use mathlib.Core.Option.{Option, none, some}
use lib.ListN.{length, length-append}
use borrow.Author.Tests.{le-leb}
use Rattle.rules.specs.Bytes.{Bytes, concat, hex}
use Rattle.rules.specs.Result.{ok}
use Rattle.rules.specs.Model.{Scheme, Authority, full, Reference, Limits, Cri, elements, reference, set_path, normal_path}
use Rattle.rules.specs.Head.{Array}
use Rattle.rules.specs.Meaning.{read_reference}
use Rattle.rules.specs.Encode.{text_item, array_item, texts_item, or_null, tail_items, with_opening, encode}
use Rattle.rules.specs.Valid.{Valid}
use Rattle.rules.specs.Promises.{unfragmented}
use Rattle.rules.proofs.Heads.{head_some}
use Rattle.rules.proofs.Reading.{tail_last}
use Rattle.rules.proofs.Laid.{head_length_lem, head_one}
use Rattle.rules.proofs.RowLengths.{array_length}
use Rattle.rules.proofs.Absolutes.{with_path}
use Rattle.rules.proofs.Resolving.{nothing}
use Rattle.rules.proofs.Compute.{computed}

-- ---- the reference 80

pub read_nothing_lem : (lim : Limits) → 1 ≤ lim.bytes → read_reference lim (hex "80") ≡ ok nothing
unfolding computed
read_nothing_lem lim h = rw (le-leb 1 lim.bytes h)

array_some : (xs : List Bytes) → 1 ≤ length (array_item xs)
array_some xs = omega (arith, array_length xs)

pub encode_some : (r : Reference) → 1 ≤ length (encode r)
unfolding encode
encode_some r = array_some _

-- ---- without the fragment, or without the path, an encoding is not longer

no_fragment : (p q : Option (List Bytes)) (f : Option Bytes) → length (concat (tail_items p q none)) ≤ length (concat (tail_items p q f))
unfolding tail_items concat or_null
no_fragment p q none = omega arith
no_fragment p (some q) (some f) = simp length-append (omega arith)
no_fragment (some p) none (some f) = simp length-append (omega arith)
no_fragment none none (some f) = omega arith

no_path : (p q : Option (List Bytes)) (f : Option Bytes) → length (concat (tail_items none q f)) ≤ length (concat (tail_items p q f))
unfolding tail_items concat or_null texts_item
no_path none q f = omega arith
no_path (some p) q (some f) = simp length-append (omega (arith, array_some (map text_item p)))
no_path (some p) (some q) none = simp length-append (omega (arith, array_some (map text_item p)))
no_path (some p) none none = omega arith

-- the outer array has a head of one byte
no_longer : (s : Option (Scheme Bytes)) (a : Authority Bytes) (xs ys : List Bytes) → length xs ≤ 3 → length (concat xs) ≤ length (concat ys)
    → length (array_item (with_opening (full s (some a)) xs)) ≤ length (array_item (with_opening (full s (some a)) ys))
unfolding array_item with_opening concat
no_longer s a xs ys few l =
    simp length-append (omega (arith, head_length_lem Array (suc (suc (length xs))), head_one (suc (suc (length xs))) (omega arith), head_some Array (suc (suc (length ys)))))

-- ---- so it is valid

pub valid_unfragmented : (lim : Limits) (c : Cri) → Valid lim (reference c) → Valid lim (reference (unfragmented c))
unfolding reference encode
valid_unfragmented lim c v =
    let p : Option (List Bytes) = set_path c.path in
    let l = no_longer (some c.scheme) c.authority _ _ (tail_last p c.query none).0 (no_fragment p c.query c.fragment) in
    record { opening = v.opening; path = v.path; query = v.query; fragment = tt; size = omega (arith, v.size) }

valid_no_path : (lim : Limits) (c : Cri) (p : Option (List Bytes)) → Valid lim (with_path c p) → Valid lim (with_path c none)
unfolding encode
valid_no_path lim c p v =
    let l = no_longer (some c.scheme) c.authority _ _ (tail_last none c.query c.fragment).0 (no_path p c.query c.fragment) in
    record { opening = v.opening; path = tt; query = v.query; fragment = v.fragment; size = omega (arith, v.size) }

-- a path in normal form is left off, or is the path
pub valid_normal : (lim : Limits) (c : Cri) (p : Option (List Bytes)) → Valid lim (with_path c p) → Valid lim (with_path c (set_path (normal_path (elements p))))
unfolding normal_path
valid_normal lim c none v = v
valid_normal lim c (some []) v = valid_no_path lim c (some []) v
valid_normal lim c (some ([] ∷ [])) v = valid_no_path lim c (some ([] ∷ [])) v
valid_normal lim c (some ([] ∷ (u ∷ ts))) v = v
valid_normal lim c (some ((b ∷ t) ∷ ts)) v = v
