-- What the call answers, by what was found; and what is known of the positions in an accepted input.
use Prim.Native.Nat.{ℕ, ◌≤◌}
use native.Mathlib.Omega.{arith}
use Rattle.std.specs.Prelude as Code
use Rattle.std.specs.Prelude.{is_some}
use Rattle.std.specs.Option.{unwrap_or}
use mathlib.Core.Path.{◌≡◌, refl, sym, ap, ◌∙◌}
use mathlib.Core.Bool.{true, false}
use mathlib.Core.Option.{Option, none, some, get_or, map}
use lib.ListN.{length}
use Rattle.rules.specs.Bytes.{Bytes, Octets}
use Rattle.rules.specs.Result.{Res, refused, ok, need, given, ◌>>=◌, ◌>>◌, BASE, COAP, DEST}
use Rattle.rules.specs.Model.{Scheme, Reference, limits, Cri, elements, absolute}
use Rattle.rules.specs.Rules.{Sort, SchemeEntry, schemes, scheme_in, segment, parameter, address_size}
use Rattle.rules.specs.Reader.{contents, Slot, unset, set, HostAt, address_at, labels_at, AuthorityAt, SchemeAt, no_scheme, number_at, name_at, OpeningAt, discard_at, discard_all_at, full_at, Found, read}
use Rattle.rules.specs.Meaning.{meaning, read_reference, read_absolute, said_texts, said_text, said_host, said_authority, said_opening, said}
use Rattle.rules.specs.Valid.{If, GoodTexts, GoodHost, GoodOpening}
use Rattle.rules.specs.Options.{options, options_from, coap_scheme}
use Rattle.rules.specs.Calls.{absent, options_call}
use Rattle.rules.specs.Standing.{HostStands, OpeningStands, TextsStand}
use Rattle.rules.proofs.Tools.{each_map, never, within_low}
use Rattle.rules.proofs.Steps.{ok_at, bind_ok}
use Rattle.rules.proofs.Texts.{length_contents}
use Rattle.rules.proofs.Reading.{meaning_said, canonical}
use Rattle.rules.proofs.Standing.{read_size, stands}
use Rattle.rules.proofs.Absolutes.{read_absolute_lem}
use Rattle.rules.proofs.OptionsBack.{address_short, labels_short, good_short}
use Rattle.addresses.proofs.AddressTexts.{address_at_lem}
use Rattle.schemes.specs.Schemes.{default_port}
use Rattle.cbor.specs.declared.Span.{Span}
use Rattle.reader.specs.declared.Scheme as SchemeV
use Rattle.reader.specs.declared.Scheme.TheVariants as SchemeTV
use Rattle.reader.specs.declared.AuthorityAt as AuthorityV
use Rattle.reader.specs.declared.OpeningAt as OpeningT
use Rattle.reader.specs.declared.OpeningAt.TheVariants as OpeningV
use Rattle.reader.specs.Answers.{text_of, port_of, opening_of}
use Rattle.coap_values.specs.Values.{HostAsks, TextsAsk}
use Rattle.coap_options.specs.Requests.{options_at, default_answer, opening_answer, HasLabel, AuthorityAsks, OpeningAsks, Asks}

-- ---- what the call answers

module _ (bs to_address : Bytes) (to_port : ℕ) where
  pub address_refused : address_size (length to_address) ≡ false → options_call limits bs to_address to_port ≡ refused DEST 0
  unfolding options_call need ◌>>◌
  address_refused e = rw e

  -- on a CRI
  abbrev asked : Cri → Res Bytes
  asked c = given (coap_scheme c.scheme) COAP 0 >>= λ s. need (absent c.fragment) COAP 0 >> ok (options_from 0 (options c s to_address to_port))

  address_taken : address_size (length to_address) ≡ true → options_call limits bs to_address to_port ≡ (read_absolute limits bs >>= asked)
  unfolding options_call need ◌>>◌
  address_taken e = rw e

  pub input_refused : address_size (length to_address) ≡ true → (n k : ℕ) → read limits bs ≡ refused n k → options_call limits bs to_address to_port ≡ refused n k
  unfolding read_absolute read_reference ◌>>=◌
  input_refused a n k e = address_taken a ∙ rw e

  -- whose scheme is a number, by its entry in the table
  entry_answered : (s : Scheme Bytes) (m : Option SchemeEntry) (a : AuthorityAt) (p q g : Slot) →
      let c : Cri = record { scheme = s; authority = said_authority bs a; path = elements (said_texts bs p); query = said_texts bs q; fragment = said_text bs g } in
      (given m COAP 0 >>= λ s. need (absent c.fragment) COAP 0 >> ok (options_from 0 (options c s to_address to_port)))
      ≡ default_answer (map (λ (e : SchemeEntry). e.port) m) g (λ (d : ℕ). options_at bs a.host (get_or a.port d) p q to_address to_port)
  unfolding given need ◌>>=◌ ◌>>◌ options options_at default_answer
  entry_answered s none a p q g = refl
  entry_answered s (some e) a p q unset = refl
  entry_answered s (some e) a p q (set at n) = refl

  opening_answered : (o : OpeningAt) (p q g : Slot)
      → (given (absolute (said bs o p q g)) BASE 0 >>= asked) ≡ opening_answer bs o (record { opening = o; path = p; query = q; fragment = g }) to_address to_port
  unfolding given ◌>>=◌ absolute default_port
  opening_answered (discard_at k) p q g = refl
  opening_answered discard_all_at p q g = refl
  opening_answered (full_at no_scheme a) p q g = refl
  opening_answered (full_at (number_at n) a) p q g = entry_answered _ (scheme_in schemes n) a p q g
  opening_answered (full_at (name_at at n) a) p q g = refl

  pub found_answered : address_size (length to_address) ≡ true → (f : Found) → read limits bs ≡ ok f → options_call limits bs to_address to_port ≡ opening_answer bs f.opening f to_address to_port
  found_answered a f e =
      address_taken a
      ∙ ap (λ (m : Res Cri). m >>= asked) (read_absolute_lem limits bs f e ∙ ap (λ (r : Reference). given (absolute r) BASE 0) (meaning_said bs f.opening f.path f.query f.fragment))
      ∙ opening_answered f.opening f.path f.query f.fragment

-- on what was found, case by case
module _ {m : Option ℕ} (w : ℕ → Bytes) where
  pub default_none : (g : Slot) → none ≡ m → default_answer m g w ≡ refused COAP 0
  unfolding default_answer
  default_none g e = rw (← e)

  module _ {d : ℕ} (e : some d ≡ m) where
    pub default_fragment : (g : Code.Option Span) → is_some g ≡ true → default_answer m (text_of g) w ≡ refused COAP 0
    unfolding default_answer
    default_fragment Code.None f = never f
    default_fragment (Code.Some s) f = rw (← e)

    pub default_some : (g : Code.Option Span) → is_some g ≡ false → ok (w d) ≡ default_answer m (text_of g) w
    unfolding default_answer
    default_some Code.None f = rw (← e)
    default_some (Code.Some s) f = never (sym f)

-- the port, or else the default
pub port_or : (p : Code.Option ℕ) (d : ℕ) → unwrap_or p d ≡ get_or (port_of p) d
port_or Code.None d = refl
port_or (Code.Some p) d = refl

module _ (bs : Bytes) (f : Found) (to_address : Bytes) (to_port : ℕ) where
  pub answers_discard : (o : OpeningT.OpeningAt) → ((s : Code.Option SchemeV.Scheme) (a : AuthorityV.AuthorityAt) → o ≡ OpeningV.Full s a → ⊥)
      → opening_answer bs (opening_of o) f to_address to_port ≡ refused BASE 0
  answers_discard (OpeningV.Discard k) h = refl
  answers_discard OpeningV.DiscardAll h = refl
  answers_discard (OpeningV.Full s a) h = absurd (h s a refl)

  module _ {o : OpeningT.OpeningAt} {s : Code.Option SchemeV.Scheme} {a : AuthorityV.AuthorityAt} (e : o ≡ OpeningV.Full s a) where
    pub answers_none : s ≡ Code.None → opening_answer bs (opening_of o) f to_address to_port ≡ refused BASE 0
    answers_none d = rw (e, d)

    pub answers_name : {x : SchemeV.Scheme} {n : Span} → s ≡ Code.Some x → x ≡ SchemeTV.Name n → opening_answer bs (opening_of o) f to_address to_port ≡ refused COAP 0
    answers_name d i = rw (e, d, i)

-- ---- what is known of the positions

pub full_asks : (bs : Bytes) {o : OpeningAt} {s : SchemeAt} {a : AuthorityAt} → o ≡ full_at s a → OpeningAsks bs o → AuthorityAsks bs a
full_asks bs e h = rw e at h

module _ (bs : Bytes) where
  host_asks : (h : HostAt) → HostStands bs h → GoodHost (said_host bs h) → HostAsks bs h × HasLabel h
  host_asks (address_at at n) h g = ((address_at_lem bs at n h g, (address_short _ g).size), tt)
  host_asks (labels_at at n) h g = (
    (h.each, (labels_short (contents bs at n) g.texts.each g.name).size),
    omega (arith, within_low 1 8 (length (contents bs at n)) g.texts.count, length_contents bs at n),
  )

  opening_asks : (o : OpeningAt) → OpeningStands bs o → GoodOpening (said_opening bs o) → OpeningAsks bs o
  opening_asks (discard_at k) h g = tt
  opening_asks discard_all_at h g = tt
  opening_asks (full_at s a) h g = (host_asks a.host h.1 g.1.host, g.1.port)

  texts_ask : (s : Sort) → s.high ≤ 255 → (most low high : ℕ) (p : Slot) → TextsStand most bs p → If (GoodTexts s low high) (said_texts bs p) → TextsAsk bs p
  texts_ask s l most low high unset h g = tt
  texts_ask s l most low high (set at n) h g = (h.each, each_map (λ t k. omega (arith, (good_short s l t k).size)) (contents bs at n) g.each)

  pub asks : (f : Found) → Octets bs → read limits bs ≡ ok f → Asks bs f
  unfolding read_reference
  asks f h e =
      let r : Reference = said bs f.opening f.path f.query f.fragment in
      let m : read_reference limits bs ≡ ok r = sym (bind_ok (read limits bs) (λ f. ok (meaning bs f)) f (sym e)) ∙ ap ok (meaning_said bs f.opening f.path f.query f.fragment) in
      let v = ok_at (canonical limits bs h) m in
      let s = ok_at (stands limits bs h) e in
      record {
        size = ok_at (read_size limits bs) e;
        opening = opening_asks f.opening s.opening v.1.opening;
        path = texts_ask segment (omega arith) limits.segments 0 limits.segments f.path s.path v.1.path;
        query = texts_ask parameter (omega arith) 16 1 16 f.query s.query v.1.query;
      }
