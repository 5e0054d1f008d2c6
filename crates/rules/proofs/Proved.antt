-- Each promise of specs/Promises.antt, proved.
use Prim.Native.Nat.{ℕ, ◌+◌, ◌*◌, ◌≤◌}
use native.Mathlib.Omega.{arith}
use mathlib.Core.Path.{◌≡◌, refl, sym, ap, ◌∙◌, subst}
use mathlib.Core.List.{List}
use mathlib.Core.Option.{Option}
use lib.ListN.{length, drop}
use lib.Seq.{take_at}
use borrow.Author.Tests.{le-ltb}
use Rattle.rules.specs.Bytes.{Bytes, hex}
use Rattle.rules.specs.Result.{Res, ok, need, ◌>>◌}
use Rattle.rules.specs.Model.{Cri, reference, normal}
use Rattle.rules.specs.Meaning.{read_reference}
use Rattle.rules.specs.Encode.{encode}
use Rattle.rules.specs.Valid.{If, Valid}
use Rattle.rules.specs.Resolve.{resolve}
use Rattle.rules.specs.Text.{uri_text}
use Rattle.rules.specs.Options.{options, options_from, read_options}
use Rattle.rules.specs.Calls.{length_of, outcome, after, text_call, options_call}
use Rattle.rules.specs.Amended.{earlier_byte}
use Rattle.rules.specs.Cases.{starred, unstarred, slips, steps, refusals, accepted, sizes, texts, escaped, requests, codings, addresses, said_addresses, segment_rows, authority_rows, bases, label_bytes}
use Rattle.rules.specs.Promises as P
use Rattle.rules.specs.Promises.{shown, Writes, unfragmented}
use Rattle.rules.proofs.Steps.{ok_at}
use Rattle.rules.proofs.Reading.{canonical, complete, prefix_refused, prefix_accepted}
use Rattle.rules.proofs.RefusalNumbers.{numbers}
use Rattle.rules.proofs.RoundTrips.{read_write, write_read}
use Rattle.rules.proofs.Encoding.{encode_octets}
use Rattle.rules.proofs.Absolutes.{with_path, absolute_same, read_as, text_of, GoodCri, good_read, fits_valid, valid_fits, fits_read}
use Rattle.rules.proofs.Addresses.{address_exact}
use Rattle.rules.proofs.TextBack.{text_same}
use Rattle.rules.proofs.TextBound.{read_bound}
use Rattle.rules.proofs.Resolving.{nothing, resolve_nothing, resolve_empty, resolve_again, resolve_absolute, good_resolve, resolved_is, resolve_writes}
use Rattle.rules.proofs.ResolvedAgain.{encode_some, valid_unfragmented, valid_normal, read_nothing_lem}
use Rattle.rules.proofs.OptionsBack.{options_octets, options_read, IsOptions, is_options, requested_read}
use Rattle.rules.proofs.OptionsBound.{read_options_bound}
use Rattle.rules.proofs.Amended.{valid_earlier, earlier_valid}
use Rattle.rules.proofs.HostBack.{host_determined}
use Rattle.rules.proofs.CallNumbers.{untouched, room_numbers, read_answers, resolve_answers, text_answers, options_answers, write_answers}
use Rattle.rules.proofs.ViewNumbers.{segment_answers, authority_answers}
use Rattle.rules.proofs.Compute.{computed}

pub canonical_proved : P.Canonical
canonical_proved lim bs r h e = ok_at (canonical lim bs h) e

pub complete_proved : P.Complete
complete_proved lim small r v = (encode_octets lim small r v, complete lim small r v)

pub exact_proved : P.Exact
exact_proved lim small bs r h =
    (λ e. ok_at (canonical lim bs h) e, λ e. ap (read_reference lim) (sym e.0) ∙ complete lim small r e.1)

pub brackets_proved : P.Brackets
brackets_proved lim small bs r h =
    let exact = exact_proved lim small bs r h in (
      λ e. let x = exact.0 e in let b = valid_earlier lim r x.1 in (x.0, b.0, b.1),
      λ e. exact.1 (e.0, earlier_valid lim r e.1 e.2),
    )

pub numbers_proved : P.Numbers
numbers_proved = numbers

pub prefix_proved : P.Prefix
prefix_proved lim p q h size n k d e = prefix_refused lim p q h size n k d e

pub tail_proved : P.Tail
tail_proved lim p b q h size f e = prefix_accepted lim p b q h size f e

-- ---- demand 1

pub rooms_proved : P.Rooms
rooms_proved u room = (untouched u room, room_numbers u (length room))

pub call_numbers_proved : P.CallNumbers
call_numbers_proved =
    record {
      reading = read_answers;
      resolving = resolve_answers;
      printing = text_answers;
      requesting = options_answers;
      writing = write_answers;
      segments = segment_answers;
      authorities = authority_answers;
    }

-- ---- what a call writes

-- with room enough, what is written is written whole
pub enough : (u : Res Bytes) (w : Bytes) (n : ℕ) → u ≡ ok w → length w ≤ n → outcome u n ≡ ok (length w)
unfolding outcome
enough u w n e h = rw (e, le-ltb n (length w) h)

pub shown_enough : (u : Res Bytes) (w room : Bytes) → u ≡ ok w → length w ≤ length room → shown u room ≡ w
unfolding outcome after
shown_enough u w room e h = rw (e, le-ltb (length room) (length w) h) (take_at w (drop (length w) room) (length w) refl)

pub writes : (u : Res Bytes) (w : Bytes) → u ≡ ok w → Writes u w
writes u w e = record { output = e; told = λ room h. enough u w (length room) e h; bytes = λ room h. shown_enough u w room e h }

pub read_write_proved : P.ReadWrite
read_write_proved lim bs c h z = writes _ bs (read_write lim bs c h z)

pub write_read_proved : P.WriteRead
write_read_proved = write_read

-- ---- the URI text call on an accepted absolute input

pub demand3_proved : P.Demand3
demand3_proved lim a b c d ha hb ea eb x y hx hy =
    let u = text_of lim a c ea in
    let v = text_of lim b d eb in
    let m = enough (text_call lim a) (uri_text c) (length x) u hx in
    let n = enough (text_call lim b) (uri_text d) (length y) v hy in
    let s = shown_enough (text_call lim a) (uri_text c) x u hx in
    let t = shown_enough (text_call lim b) (uri_text d) y v hy in
    let same = text_same c d (good_read lim a c ha ea) (good_read lim b d hb eb) in
    record {
      first = m;
      second = n;
      first_text = s;
      second_text = t;
      same = (
        λ e. same.0 (sym s ∙ e.1 ∙ t),
        λ e. (ap length_of m ∙ ap length (same.1 e) ∙ sym (ap length_of n), s ∙ same.1 e ∙ sym t),
      );
    }

pub bound_proved : P.Bound
bound_proved lim bs c h e =
    let l : length (uri_text c) ≤ 3 * length bs + 13 = read_bound lim bs c h e in
    (l, λ n k. enough (text_call lim bs) (uri_text c) n (text_of lim bs c e) (omega arith))

pub address_exact_proved : P.AddressExact
address_exact_proved = address_exact

-- ---- resolving

pub resolving_proved : P.Resolving
unfolding need ◌>>◌
resolving_proved lim small base ref b r hb hr eb er =
    let c : Cri = resolve b r in
    let g : GoodCri c = good_resolve lim b r (good_read lim base b hb eb) (ok_at (canonical lim ref hr) er).1 in
    record {
      written = resolve_writes lim base ref b r c eb er refl;
      valid = fits_valid lim c g;
      again = fits_read lim small c g;
      refusal = λ e. rw (resolved_is lim base ref b r eb er, e);
    }

pub empty_reference_proved : P.EmptyReference
empty_reference_proved = resolve_nothing

pub empty_path_array_proved : P.EmptyPathArray
empty_path_array_proved = resolve_empty

pub resolved_again_proved : P.ResolvedAgain
resolved_again_proved lim small base ref b r hb hr eb er e =
    let c : Cri = resolve b r in
    let was = resolving_proved lim small base ref b r hb hr eb er in
    let v : Valid lim (reference c) = was.valid e in
    resolve_writes lim (encode (reference c)) (hex "80") c nothing (unfragmented c) (was.again e) (read_nothing_lem lim (omega (arith, v.size, encode_some (reference c))))
    (resolve_again b r) (valid_fits lim (unfragmented c) (valid_unfragmented lim c v))

pub absolute_reference_proved : P.AbsoluteReference
unfolding reference normal
absolute_reference_proved lim base ref b c h eb ec =
    let a = read_as lim ref c ec in
    let p : Option (List Bytes) = a.said.path in
    let same : a.said ≡ with_path c p = absolute_same a.said c a.is in
    let v : Valid lim (with_path c p) = subst (Valid lim) same (ok_at (canonical lim ref h) a.read).1 in
    resolve_writes lim base ref b a.said (normal c) eb a.read (ap (resolve b) same ∙ resolve_absolute b c p a.is.path)
    (valid_fits lim (normal c) (rw a.is.path at (valid_normal lim c p v)))

-- ---- options

pub options_back_proved : P.OptionsBack
options_back_proved os k = (options_octets 0 os k.each, options_read os k)

pub options_exact_proved : P.OptionsExact
unfolding read_options
options_exact_proved bs os h = (
  λ e. let i = subst (If (IsOptions 0 bs)) e (is_options (length bs) 0 bs h) in (i.bytes, record { rising = i.rising; each = i.each }),
  λ e. ap read_options (sym e.0) ∙ options_read os e.1,
)

pub options_read_proved : P.OptionsRead
options_read_proved lim bs to_address to_port w h e = ok_at (requested_read lim bs to_address to_port h) e

pub host_determined_proved : P.HostDetermined
host_determined_proved = host_determined

pub options_bound_proved : P.OptionsBound
options_bound_proved lim bs to_address to_port w h e =
    let q : P.Requested lim bs to_address to_port w = options_read_proved lim bs to_address to_port w h e in
    let coded : options_from 0 (options q.cri q.entry to_address to_port) ≡ w = ((options_exact_proved w _ q.octets).0 q.back).0 in
    let l : length w ≤ 2 * length bs + 16 = rw coded at (read_options_bound lim bs q.cri q.entry to_address to_port h q.read) in
    (l, λ n k. enough (options_call lim bs to_address to_port) w n e (omega arith))

-- ---- worked examples

pub starred_proved : P.Starred
unfolding computed starred
starred_proved = refl

pub examples_proved : P.Examples
unfolding computed unstarred slips steps refusals accepted sizes texts escaped requests codings addresses said_addresses segment_rows authority_rows bases label_bytes earlier_byte
examples_proved =
    record {
      rows = refl;
      slipped = refl;
      steps = refl;
      order = refl;
      accepted = refl;
      sizes = refl;
      texts = refl;
      escaped = refl;
      options = refl;
      codings = refl;
      ipv6 = refl;
      said = refl;
      segments = refl;
      authorities = refl;
      bases = refl;
      label_bytes = refl;
    }
