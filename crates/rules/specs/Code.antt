-- Values of the code that are there or not, in the terms of the rules.
use Rattle.std.specs.Prelude.{Option, Some, None}
use Rattle.std.proofs.Math.Option as Math
use Rattle.std.proofs.Math.Option.{none, some}

-- nothing, or what the value says
abbrev pub option_is : {A B : Type 0} → (A → B) → Option A → Math.Option B
option_is f None = none
option_is f (Some x) = some (f x)

-- and back: nothing, or a value of the code
abbrev pub option_laid : {A B : Type 0} → (A → B) → Math.Option A → Option B
option_laid f none = None
option_laid f (some x) = Some (f x)
