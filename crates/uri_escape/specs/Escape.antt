-- What the code's classes and its table mean.
use Rattle.std.specs.Prelude.{ℕ, ◌+◌, Bool, not, cond, eqb}
use Rattle.std.specs.Int.Bits.{bit_and}
use Rattle.rules.specs.Text as T
use Rattle.uri_escape.specs.declared.Class.{Class}
use Rattle.uri_escape.specs.declared.Class.TheVariants.{Label, Segment, Parameter, Fragment}

-- a class, as the definitions have it
abbrev pub class_is : Class → T.Class
class_is Label = T.Label
class_is Segment = T.Segment
class_is Parameter = T.Parameter
class_is Fragment = T.Fragment

-- the bit of a class
abbrev pub bit_of : T.Class → ℕ
bit_of T.Label = 1
bit_of T.Segment = 2
bit_of T.Parameter = 4
bit_of T.Fragment = 8

-- whether an entry, or what entries have in common, has the bit of a class
unfoldable pub names : ℕ → T.Class → Bool
names e k = not (eqb (bit_and e (bit_of k)) 0)

-- 6.3: the entry of a byte is "@" and the bit of each class that it stands bare in
unfoldable pub entry : ℕ → ℕ
entry b = 0x40 + share T.Label + share T.Segment + share T.Parameter + share T.Fragment
  where
    share : T.Class → ℕ
    share k = cond (T.bare k b) (bit_of k) 0
