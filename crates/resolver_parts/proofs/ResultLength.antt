-- How many bytes the parts of a result are.
use Prim.Native.Nat.{ℕ, ◌+◌, ◌≤◌}
use native.Mathlib.Omega.{arith}
use mathlib.Core.Path.{◌≡◌, ap, ◌∙◌}
use mathlib.Core.List.{◌++◌}
use lib.ListN.{length, length-append}
use Rattle.rules.specs.Bytes.{Bytes}
use Rattle.rules.specs.Head.{head_bytes, Array}
use Rattle.rules.specs.Reader.{taken}
use Rattle.rules.proofs.Tools.{length_part}
use Rattle.rules.proofs.Laid.{head_length_lem, head_one}
use Rattle.cbor.specs.Heads.{span_is}
use Rattle.resolver_parts.specs.declared.Both.{Both}
use Rattle.resolver_parts.specs.declared.Parts.{Parts}
use Rattle.resolver_parts.specs.Parts.{both_of, BothInside}
use Rattle.resolver_parts.specs.Written.{path_head, path_items, PartsInside, PartsSmall, parts_of}
use Rattle.resolver_parts.proofs.ResultItems.{items_most}

both_length : (base ref : Bytes) (b : Both) → BothInside base ref b → length (both_of base ref b) ≡ b.base.length + b.reference.length
unfolding both_of
both_length base ref b h =
    length-append (taken base (span_is b.base)) (taken ref (span_is b.reference))
    ∙ omega (arith, length_part base b.base.start b.base.length h.of_base, length_part ref b.reference.start b.reference.length h.of_reference)

module _ (p : Parts) where
  -- how many items there are
  abbrev pub count : ℕ
  count = 2 + path_items p.path.count p.tail.count + p.tail.count

  -- as the code counts them
  pub counted : {n : ℕ} → n ≡ path_items p.path.count p.tail.count → 2 + n + p.tail.count ≡ count
  counted e = ap (λ (n : ℕ). 2 + n + p.tail.count) e

  count_most : PartsSmall p → count ≤ 5
  count_most s = omega (arith, s.further, items_most p.path.count p.tail.count)

  head_size : PartsSmall p → length (head_bytes Array count) ≡ 1
  head_size s = head_length_lem Array count ∙ head_one count (omega (arith, count_most s))

module _ (base ref : Bytes) (p : Parts) where
  pub parts_length : PartsSmall p → PartsInside base ref p → length (parts_of base ref p)
      ≡ 1 + (p.front.base.length + p.front.reference.length) + length (path_head p.path.count p.tail.count)
      + (p.path.both.base.length + p.path.both.reference.length) + (p.tail.both.base.length + p.tail.both.reference.length)
  unfolding parts_of
  parts_length s h =
      let f : Bytes = both_of base ref p.front in
      let d : Bytes = path_head p.path.count p.tail.count in
      let t : Bytes = both_of base ref p.path.both in
      let i : Bytes = both_of base ref p.tail.both in
      omega (
        arith,
        length-append (head_bytes Array (count p)) (f ++ (d ++ (t ++ i))),
        length-append f (d ++ (t ++ i)),
        length-append d (t ++ i),
        length-append t i,
        head_size p s,
        both_length base ref p.front h.front,
        both_length base ref p.path.both h.path,
        both_length base ref p.tail.both h.tail,
      )

  -- what the places of the pieces follow from, with an outer head for n items
  pub record Sizes (n : ℕ) : Type 0 where
    pub total : length (parts_of base ref p)
        ≡ 1 + (p.front.base.length + p.front.reference.length) + length (path_head p.path.count p.tail.count)
        + (p.path.both.base.length + p.path.both.reference.length) + (p.tail.both.base.length + p.tail.both.reference.length)
    pub head : length (head_bytes Array n) ≡ 1
    pub front : length (both_of base ref p.front) ≡ p.front.base.length + p.front.reference.length
    pub path : length (both_of base ref p.path.both) ≡ p.path.both.base.length + p.path.both.reference.length

  pub sizes : PartsSmall p × PartsInside base ref p → {n : ℕ} → n ≡ path_items p.path.count p.tail.count → Sizes (2 + n + p.tail.count)
  sizes h e =
      record {
        total = parts_length h.0 h.1;
        head = ap (λ (n : ℕ). length (head_bytes Array n)) (counted p e) ∙ head_size p h.0;
        front = both_length base ref p.front h.1.front;
        path = both_length base ref p.path.both h.1.path;
      }
