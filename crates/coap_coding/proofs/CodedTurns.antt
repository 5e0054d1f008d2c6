-- The options of texts, as a loop writes and measures them: the option of the first text, and then the others.
use Prim.Native.Nat.{ℕ}
use mathlib.Core.Path.{◌≡◌, refl}
use mathlib.Core.List.{List, [], ◌∷◌, ◌++◌}
use Rattle.rules.specs.Bytes.{Bytes}
use Rattle.rules.specs.Options.{option_bytes}
use Rattle.put.specs.Wrote.{Wrote}
use Rattle.put.proofs.Wrote.{Left, Next, Count, CountNext}
use Rattle.put.proofs.Turns.{turn_next, turn_count, turns_done, turns_counted}
use Rattle.coap_coding.specs.Coded.{coded}

module _ (delta : ℕ) where
  each : (t : Bytes) (ts : List Bytes) → coded delta (t ∷ ts) ≡ option_bytes delta t ++ coded 0 ts
  unfolding coded
  each t ts = refl

  none : coded delta [] ≡ []
  unfolding coded
  none = refl

  module _ {t : Bytes} {left others : List Bytes} (e : left ≡ t ∷ others) where
    pub coded_next : {room room₀ w₀ : Bytes} {o at : ℕ} → Left room o (coded delta left) room₀ at w₀ → Next room o (option_bytes delta t) (coded 0 others) room₀ at w₀
    coded_next = turn_next (coded delta) (coded 0) (option_bytes delta) each e

    pub coded_count : {p m : ℕ} → Count p (coded delta left) m → CountNext p (option_bytes delta t) (coded 0 others) m
    coded_count = turn_count (coded delta) (coded 0) (option_bytes delta) each e

  module _ {left : List Bytes} (e : left ≡ []) where
    pub coded_done : {room room₀ w₀ : Bytes} {o at : ℕ} → Left room o (coded delta left) room₀ at w₀ → Wrote room₀ at w₀ room o
    coded_done = turns_done (coded delta) none e

    pub coded_counted : {p m : ℕ} → Count p (coded delta left) m → p ≡ m
    coded_counted = turns_counted (coded delta) none e
