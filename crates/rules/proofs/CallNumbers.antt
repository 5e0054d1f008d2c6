-- What each call answers, by cases: the room, reading, resolving, URI text, options, writing.
use Prim.Native.Nat.{ℕ, ◌+◌, ◌≤◌}
use native.Mathlib.Omega.{arith}
use mathlib.Core.Path.{◌≡◌, refl, sym, ap, ◌∙◌}
use mathlib.Core.Bool.{Bool, true, false, true≢false}
use mathlib.Core.Option.{Option, none, some}
use lib.ListN.{length, drop, length-append, length-drop}
use lib.Seq.{drop_at}
use lib.Dec.{ltb}
use borrow.Author.Tests.{le-ltb, lt-ltb, ltb-false}
use Rattle.rules.specs.Bytes.{Bytes, all}
use Rattle.rules.specs.Result.{Res, refused, ok, need, given, ◌>>=◌, ◌>>◌, ROOM}
use Rattle.rules.specs.Model.{Limits, Reference, Cri, Components, absolute, map_parts}
use Rattle.rules.specs.Reader.{Found, taken, read}
use Rattle.rules.specs.Meaning.{meaning, read_reference, read_absolute}
use Rattle.rules.specs.Encode.{encode}
use Rattle.rules.specs.Rules.{SchemeEntry, address_size}
use Rattle.rules.specs.Resolve.{as_base, resolve, fits}
use Rattle.rules.specs.Options.{coap_scheme}
use Rattle.rules.specs.Writing.{counted, inside, all_texts}
use Rattle.rules.specs.Calls.{length_of, outcome, after, absent, read_call, resolve_call, text_call, options_call, write_call}
use Rattle.rules.specs.Promises.{Untouched, RoomNumbers, Own, Decides}
use Rattle.rules.specs.Promises.{ReadAnswers, read_own, read_done, BaseRefused, base_own, base_relative, ResolveAnswers, resolve_8, resolve_own, resolve_9, resolve_done}
use Rattle.rules.specs.Promises.{TextAnswers, text_own, text_8, text_done, WriteAnswers, write_4_count, write_4_span, write_own, write_done}
use Rattle.rules.specs.Promises.{IsAddress, OptionsAnswers, options_12, options_own, options_8, options_11_scheme, options_11_fragment, options_done}
use Rattle.rules.proofs.Tools.{cond_split}
use Rattle.rules.proofs.Steps.{refused_ok}
use Rattle.rules.proofs.RefusalNumbers.{numbers}
use Rattle.rules.proofs.Addresses.{size_yes, size_no, size_is}

-- ---- the room

-- the length told lies inside the room
pub told_within : (u : Res Bytes) (n : ℕ) → length_of (outcome u n) ≤ n
unfolding outcome
told_within (refused m k) n = omega arith
told_within (ok w) n = cond_split (λ (d : Res ℕ). length_of d ≤ n) (ltb n (length w)) (λ t. omega arith) (λ t. ltb-false n (length w) t)

-- a done call has an output, which fits, and tells its length
pub told_done : (u : Res Bytes) (n m : ℕ) → outcome u n ≡ ok m → (w : Bytes) × (u ≡ ok w) × (m ≡ length w) × (length w ≤ n)
unfolding outcome
told_done (refused i k) n m e = refused_ok i k m e
told_done (ok w) n m e = go (ltb n (length w)) refl
  where
    go : (t : Bool) → ltb n (length w) ≡ t → (v : Bytes) × (◌≡◌ {A = Res Bytes} (ok w) (ok v)) × (m ≡ length v) × (length v ≤ n)
    go true d = refused_ok ROOM 0 m (rw d at e)
    go false d = let same : ok (length w) ≡ ok m = rw d at e in (w, refl, cc, ltb-false n (length w) d)

pub untouched : (u : Res Bytes) (room : Bytes) → Untouched u room
unfolding outcome after
untouched (refused m k) room = record { kept = λ n j e. (refl, refl); within = told_within (refused m k) (length room); past = refl; size = refl }
untouched (ok w) room = go (ltb (length room) (length w)) refl
  where
    go : (t : Bool) → ltb (length room) (length w) ≡ t → Untouched (ok w) room
    go true e = record { kept = λ n j h. rw e (refl, refl); within = told_within (ok w) (length room); past = rw e; size = rw e }
    go false e =
        record {
          kept = λ n j h. refused_ok n j (length w) (sym h ∙ rw e);
          within = told_within (ok w) (length room);
          past = rw e (drop_at w (drop (length w) room) (length w) refl);
          size =
              rw e
              (length-append w (drop (length w) room) ∙ ap (λ (n : ℕ). length w + n) (length-drop (length w) room)
              ∙ omega (arith, ltb-false (length room) (length w) e));
        }

pub room_numbers : (u : Res Bytes) (n : ℕ) → RoomNumbers u n
unfolding outcome
room_numbers u n =
    record { own = λ m k e. rw e; ten = λ w e l. rw (e, lt-ltb n (length w) l); done = λ w e l. rw (e, le-ltb n (length w) l) }

-- ---- reading

-- the same refusals for a reference
own_reference : (lim : Limits) (bs : Bytes) (n k : ℕ) → read_reference lim bs ≡ refused n k → Own n
unfolding read_reference ◌>>=◌
own_reference lim bs n k e = go (read lim bs) refl
  where
    go : (x : Res Found) → read lim bs ≡ x → Own n
    go (refused m j) d = let z : ◌≡◌ {A = Res Reference} (refused m j) (refused n k) = sym (rw d) ∙ e in numbers lim bs n k (d ∙ cc)
    go (ok f) d = refused_ok n k (meaning bs f) (sym e ∙ rw d)

pub read_answers : (lim : Limits) (bs : Bytes) → Decides (ReadAnswers lim bs) (read_call lim bs)
unfolding read_call ◌>>=◌
read_answers lim bs = record { told = go (read lim bs) refl; only = only }
  where
    go : (x : Res Found) → read lim bs ≡ x → ReadAnswers lim bs (read_call lim bs)
    go (refused n k) e = rw e (read_own (numbers lim bs n k e) e)
    go (ok f) e = rw e (read_done e)

    only : (x : Res Components) → ReadAnswers lim bs x → read_call lim bs ≡ x
    only _ (read_own h e) = rw e
    only _ (read_done e) = rw e

-- ---- a base

-- one that is absolute, or the place of its 8
pub data BaseRead (lim : Limits) (base : Bytes) : Type 0 where
  is_base : {b : Cri} → read_absolute lim base ≡ ok b → BaseRead lim base
  no_base : {k : ℕ} → BaseRefused lim base k → BaseRead lim base

pub base_read : (lim : Limits) (base : Bytes) → BaseRead lim base
unfolding read_absolute given ◌>>=◌
base_read lim base = go (read_reference lim base) refl
  where
    go : (x : Res Reference) → read_reference lim base ≡ x → BaseRead lim base
    go (refused n k) e = no_base (base_own (own_reference lim base n k e) e)
    go (ok r) e = opened (absolute r) refl
      where
        opened : (o : Option Cri) → absolute r ≡ o → BaseRead lim base
        opened none a = no_base (base_relative e a)
        opened (some c) a = is_base {b = c} (rw (e, a))

pub base_refused : (lim : Limits) (base : Bytes) (k : ℕ) → BaseRefused lim base k → as_base (read_absolute lim base) ≡ refused 8 k
unfolding read_absolute given ◌>>=◌
base_refused lim base k (base_own h e) = rw e
base_refused lim base _ (base_relative e a) = rw (e, a)

-- ---- resolving

pub resolve_answers : (lim : Limits) (base ref : Bytes) → Decides (ResolveAnswers lim base ref) (resolve_call lim base ref)
unfolding resolve_call ◌>>=◌ ◌>>◌ need
resolve_answers lim base ref = record { told = go (base_read lim base); only = only }
  where
    Answer : Type 0
    Answer = ResolveAnswers lim base ref (resolve_call lim base ref)

    go : BaseRead lim base → Answer
    go (no_base {k = k} e) = rw (base_refused lim base k e) (resolve_8 e)
    go (is_base {b = b} e) = reads (read_reference lim ref) refl
      where
        reads : (x : Res Reference) → read_reference lim ref ≡ x → Answer
        reads (refused n k) d = rw (e, d) (resolve_own e (own_reference lim ref n k d) d)
        reads (ok r) d = fitted (fits lim (resolve b r)) refl
          where
            fitted : (t : Bool) → fits lim (resolve b r) ≡ t → Answer
            fitted true f = rw (e, d, f) (resolve_done e d f)
            fitted false f = rw (e, d, f) (resolve_9 e d f)

    only : (u : Res Bytes) → ResolveAnswers lim base ref u → resolve_call lim base ref ≡ u
    only _ (resolve_8 {k = k} e) = rw (base_refused lim base k e)
    only _ (resolve_own e h d) = rw (e, d)
    only _ (resolve_9 e d f) = rw (e, d, f)
    only _ (resolve_done e d f) = rw (e, d, f)

-- ---- URI text

pub text_answers : (lim : Limits) (bs : Bytes) → Decides (TextAnswers lim bs) (text_call lim bs)
unfolding text_call read_absolute given ◌>>=◌
text_answers lim bs = record { told = go (read_reference lim bs) refl; only = only }
  where
    go : (x : Res Reference) → read_reference lim bs ≡ x → TextAnswers lim bs (text_call lim bs)
    go (refused n k) e = rw e (text_own (own_reference lim bs n k e) e)
    go (ok r) e = opened (absolute r) refl
      where
        opened : (o : Option Cri) → absolute r ≡ o → TextAnswers lim bs (text_call lim bs)
        opened none a = rw (e, a) (text_8 e a)
        opened (some c) a = rw (e, a) (text_done e a)

    only : (u : Res Bytes) → TextAnswers lim bs u → text_call lim bs ≡ u
    only _ (text_own h e) = rw e
    only _ (text_8 e a) = rw (e, a)
    only _ (text_done e a) = rw (e, a)

-- ---- options

pub options_answers : (lim : Limits) (bs to_address : Bytes) (to_port : ℕ)
    → Decides (OptionsAnswers lim bs to_address to_port) (options_call lim bs to_address to_port)
unfolding options_call read_absolute given ◌>>=◌ ◌>>◌ need
options_answers lim bs to_address to_port = record { told = go (address_size (length to_address)) refl; only = only }
  where
    Answer : Type 0
    Answer = OptionsAnswers lim bs to_address to_port (options_call lim bs to_address to_port)

    go : (t : Bool) → address_size (length to_address) ≡ t → Answer
    go false i = rw i (options_12 (λ a. true≢false (sym (size_yes (length to_address) a) ∙ i)))
    go true i = reads (read_reference lim bs) refl
      where
        at : IsAddress to_address
        at = size_is (length to_address) i

        reads : (x : Res Reference) → read_reference lim bs ≡ x → Answer
        reads (refused n k) e = rw (i, e) (options_own at (own_reference lim bs n k e) e)
        reads (ok r) e = opened (absolute r) refl
          where
            opened : (o : Option Cri) → absolute r ≡ o → Answer
            opened none a = rw (i, e, a) (options_8 at e a)
            opened (some c) a = schemed (coap_scheme c.scheme) refl
              where
                schemed : (o : Option SchemeEntry) → coap_scheme c.scheme ≡ o → Answer
                schemed none s = rw (i, e, a, s) (options_11_scheme {c = c} at (rw (e, a)) s)
                schemed (some y) s = fragment c.fragment refl
                  where
                    fragment : (o : Option Bytes) → c.fragment ≡ o → Answer
                    fragment none f = rw (i, e, a, s, ap absent f) (options_done {c = c} at (rw (e, a)) s f)
                    fragment (some t) f = rw (i, e, a, s, ap absent f) (options_11_fragment {c = c} at (rw (e, a)) s f)

    only : (u : Res Bytes) → OptionsAnswers lim bs to_address to_port u → options_call lim bs to_address to_port ≡ u
    only _ (options_12 h) = rw (size_no (length to_address) h)
    only _ (options_own h o e) = rw (size_yes (length to_address) h, e)
    only _ (options_8 h e a) = rw (size_yes (length to_address) h, e, a)
    only _ (options_11_scheme h e s) = rw (size_yes (length to_address) h, e, s)
    only _ (options_11_fragment h e s f) = rw (size_yes (length to_address) h, e, s, ap absent f)
    only _ (options_done h e s f) = rw (size_yes (length to_address) h, e, s, ap absent f)

-- ---- writing

pub write_answers : (lim : Limits) (c : Components) (lent : Bytes) → Decides (WriteAnswers lim c lent) (write_call lim c lent)
unfolding write_call ◌>>=◌ ◌>>◌ need
write_answers lim c lent = record { told = go (counted lim c) refl; only = only }
  where
    Answer : Type 0
    Answer = WriteAnswers lim c lent (write_call lim c lent)

    go : (t : Bool) → counted lim c ≡ t → Answer
    go false n = rw n (write_4_count n)
    go true n = spanned (all (inside lent) (all_texts c)) refl
      where
        spanned : (t : Bool) → all (inside lent) (all_texts c) ≡ t → Answer
        spanned false i = rw (n, i) (write_4_span n i)
        spanned true i = judged (read lim (encode (map_parts (taken lent) c))) refl
          where
            judged : (x : Res Found) → read lim (encode (map_parts (taken lent) c)) ≡ x → Answer
            judged (refused m k) e = rw (n, i, e) (write_own n i (numbers lim _ m k e) e)
            judged (ok f) e = rw (n, i, e) (write_done n i e)

    only : (u : Res Bytes) → WriteAnswers lim c lent u → write_call lim c lent ≡ u
    only _ (write_4_count n) = rw n
    only _ (write_4_span n i) = rw (n, i)
    only _ (write_own n i h e) = rw (n, i, e)
    only _ (write_done n i e) = rw (n, i, e)
