-- What the measuring program asks and is answered, in the terms of the rules.
use Rattle.std.specs.Prelude.{ℕ, zero, suc, ◌+◌, ◌-◌, Bool, cond, ◌||◌, length, leb}
use Rattle.rules.specs.Bytes.{Bytes}
use Rattle.rules.specs.Result.{Res, refused, ok, need, ◌>>=◌, ◌>>◌, CUT}
use Rattle.rules.specs.Head.{Kind, Number, Text, Head, is, read_head}
use Rattle.rules.specs.Text.{Class, Label, Segment, Parameter, Fragment}
use Rattle.bench.specs.declared.Answer.{Answer}

-- a class by its number
abbrev pub class_of : ℕ → Class
class_of zero = Label
class_of (suc zero) = Segment
class_of (suc (suc zero)) = Parameter
class_of (suc (suc (suc n))) = Fragment

-- the kinds of a label and a port
abbrev pub text_or_number : Kind → Bool
text_or_number k = is Text k || is Number k

-- the position after n bytes of content
unfoldable pub after_content : Bytes → ℕ → ℕ → ℕ → Res ℕ
after_content bs at next n = do
  need (leb n (length bs - next)) CUT at
  ok (next + n)

-- the position after a head and, of a text, its content
unfoldable pub after_head : Bytes → ℕ → Head → Res ℕ
after_head bs at h = cond (is Text h.kind) (after_content bs at h.next h.value) (ok h.next)

-- the position after the item at a position, where these kinds are allowed
unfoldable pub after_item : (Kind → Bool) → Bytes → ℕ → Res ℕ
after_item allowed bs at = read_head allowed bs at >>= after_head bs at

-- the position after n of them
unfoldable pub items : (Kind → Bool) → Bytes → ℕ → ℕ → Res ℕ
items allowed bs at zero = ok at
items allowed bs at (suc n) = after_item allowed bs at >>= (λ next. items allowed bs next n)

-- an answer
abbrev pub answer : Res ℕ → Answer
answer (refused n place) = record { number = n; next = 0 }
answer (ok next) = record { number = 0; next = next }
