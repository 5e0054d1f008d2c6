-- What is measured and written of the parts of a result.
use Rattle.std.specs.Prelude.{ℕ, zero, suc, ◌+◌, ◌≤◌, [], ◌++◌}
use Rattle.rules.specs.Bytes.{Bytes}
use Rattle.rules.specs.Model.{limits}
use Rattle.rules.specs.Head.{head_bytes, Array}
use Rattle.rules.specs.Encode.{null_item}
use Rattle.resolver_parts.specs.declared.Both.{Both}
use Rattle.resolver_parts.specs.declared.Parts.{Parts}
use Rattle.resolver_parts.specs.Parts.{both_of, BothInside}

-- what stands before the segments of a path, where `further` items follow: the array's head; null for no path; nothing where nothing follows
unfoldable pub path_head : ℕ → ℕ → Bytes
path_head (suc n) further = head_bytes Array (suc n)
path_head zero (suc k) = null_item
path_head zero zero = []

-- how many items a path is, before `further` others
unfoldable pub path_items : ℕ → ℕ → ℕ
path_items (suc n) further = 1
path_items zero (suc k) = 1
path_items zero zero = 0

-- all the parts lie inside
pub record PartsInside (base ref : Bytes) (p : Parts) : Type 0 where
  pub front : BothInside base ref p.front
  pub path : BothInside base ref p.path.both
  pub tail : BothInside base ref p.tail.both

-- no part is longer than an input may be
pub record BothSmall (b : Both) : Type 0 where
  pub of_base : b.base.length ≤ limits.bytes
  pub of_reference : b.reference.length ≤ limits.bytes

-- the same of all, and of the counts
pub record PartsSmall (p : Parts) : Type 0 where
  pub front : BothSmall p.front
  pub path : BothSmall p.path.both
  pub tail : BothSmall p.tail.both
  pub further : p.tail.count ≤ 2

-- the bytes that they say
unfoldable pub parts_of : Bytes → Bytes → Parts → Bytes
parts_of base ref p =
    head_bytes Array (2 + path_items p.path.count p.tail.count + p.tail.count)
    ++ (both_of base ref p.front
    ++ (path_head p.path.count p.tail.count
    ++ (both_of base ref p.path.both ++ both_of base ref p.tail.both)))
