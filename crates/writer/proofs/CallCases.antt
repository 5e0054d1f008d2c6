-- What writing answers, by what became of the encoding.
use Prim.Native.Nat.{ℕ, ◌<◌}
use mathlib.Core.Path.{◌≡◌, refl, sym}
use mathlib.Core.Bool.{Bool, true, false, ◌&&◌}
use mathlib.Core.List.{[]}
use lib.ListN.{length}
use lib.Dec.{leb}
use borrow.Author.Tests.{lt-leb, leb-false}
use Rattle.rules.specs.Bytes.{Bytes, all}
use Rattle.rules.specs.Result.{Res, refused, ok, need, ◌>>=◌, ◌>>◌, LIMIT}
use Rattle.rules.specs.Model.{Components, map_parts, limits}
use Rattle.rules.specs.Reader.{taken, Found, read}
use Rattle.rules.specs.Encode.{encode}
use Rattle.rules.specs.Writing.{counted, inside, all_texts, placeless}
use Rattle.rules.specs.Calls.{write_call}
use Rattle.rules.proofs.Steps.{need_no}
use Rattle.rules.proofs.Tools.{by_test}
use Rattle.writer.specs.Added.{added}

-- RULES 4.1: an encoding over the largest is 4
long_refused : (bs : Bytes) → limits.bytes < length bs → read limits bs ≡ refused LIMIT limits.bytes
unfolding read
long_refused bs h = sym (need_no _ _ _ _ (lt-leb (length bs) limits.bytes h))

-- the encoding judged, and copied
abbrev pub judged : Bytes → Res Bytes
judged w = placeless (read limits w) >> ok w

pub judged_refused : (w : Bytes) (n k : ℕ) → refused n k ≡ read limits w → refused n 0 ≡ judged w
unfolding ◌>>◌
judged_refused w n k e = rw (← e) refl

pub judged_ok : (w : Bytes) (f : Found) → ok f ≡ read limits w → ok w ≡ judged w
unfolding ◌>>◌
judged_ok w f e = rw (← e) refl

module _ (lent : Bytes) (c : Components) where
  abbrev w : Bytes
  w = encode (map_parts (taken lent) c)

  -- 9.2: a count over its size
  pub call_uncounted : counted limits c ≡ false → write_call limits c lent ≡ refused LIMIT 0
  unfolding write_call need ◌>>◌
  call_uncounted e = rw e refl

  -- the encoding is made from nothing, and judged
  pub call_made : counted limits c ≡ true → (added (all (inside lent) (all_texts c)) w [] >>= judged) ≡ write_call limits c lent
  unfolding added write_call need ◌>>◌ ◌>>=◌
  call_made n =
      rw n (by_test (λ (t : Bool). ((need (t && leb (length w) limits.bytes) LIMIT 0 >> ok w) >>= judged) ≡ (need t LIMIT 0 >> judged w)) (all (inside lent) (all_texts c))
      (λ _. by_test (λ (t : Bool). leb (length w) limits.bytes ≡ t → ((need t LIMIT 0 >> ok w) >>= judged) ≡ judged w) (leb (length w) limits.bytes)
      (λ _ _. refl)
      (λ _ e. rw (long_refused w (leb-false (length w) limits.bytes e)) refl) refl)
      (λ _. refl))
