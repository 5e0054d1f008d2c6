-- What each view answers, by cases.
use Prim.Native.Nat.{ℕ, zero, suc, ◌-◌}
use native.Mathlib.Omega.{arith}
use mathlib.Core.Path.{◌≡◌, refl, sym, ap, ◌∙◌}
use mathlib.Core.List.{List, [], ◌∷◌, map}
use mathlib.Core.Option
use mathlib.Core.Option.{Option, none, some}
use lib.ListN.{take, drop, get_elem?}
use lib.Seq.{take_at}
use Rattle.rules.specs.Bytes.{Bytes, Octets}
use Rattle.rules.specs.Result.{Res, refused, ok, given, ◌>>=◌, ◌>>◌, NONE}
use Rattle.rules.specs.Model.{Authority, Span, Limits, Reference, Cri, absolute, elements}
use Rattle.rules.specs.Reader.{OpeningAt, discard_at, discard_all_at, full_at, Found, taken, read}
use Rattle.rules.specs.Meaning.{said_authority, said_opening, components, meaning, read_reference, read_absolute}
use Rattle.rules.specs.Encode.{authority_item}
use Rattle.rules.specs.Resolve.{opening_authority, as_base}
use Rattle.rules.specs.Views.{segment_view, Piece, authority_view, authority_span, segment_shown, piece_shown, verdict}
use Rattle.rules.specs.Laid.{OpeningLaid}
use Rattle.rules.specs.Promises.{Shows, base_own, base_relative}
use Rattle.rules.specs.Promises.{SegmentAnswers, segment_own, segment_18, segment_done}
use Rattle.rules.specs.Promises.{AuthorityAnswers, authority_8, authority_own, authority_of_reference, authority_of_base}
use Rattle.rules.proofs.Steps.{none_some, ok_at}
use Rattle.rules.proofs.Reading.{meaning_said}
use Rattle.rules.proofs.Absolutes.{absolute_is}
use Rattle.rules.proofs.Laid.{laid}
use Rattle.rules.proofs.RefusalNumbers.{numbers}
use Rattle.rules.proofs.CallNumbers.{base_refused}

-- ---- the n-th segment

elements_map : {A B : Type 0} (f : A → B) (o : Option (List A)) → elements (Option.map (map f) o) ≡ map f (elements o)
elements_map f none = refl
elements_map f (some xs) = refl

nth_map : {A B : Type 0} (f : A → B) (xs : List A) (n : ℕ) → get_elem? (map f xs) n ≡ Option.map f (get_elem? xs n)
nth_map f [] n = refl
nth_map f (x ∷ xs) zero = refl
nth_map f (x ∷ xs) (suc n) = nth_map f xs n

-- of the reference that an accepted input says, by where its segments stand
nth_said : (bs : Bytes) (f : Found) (n : ℕ)
    → get_elem? (elements (meaning bs f).path) n ≡ Option.map (taken bs) (get_elem? (elements (components bs f).path) n)
unfolding meaning
nth_said bs f n =
    ap (λ (xs : List Bytes). get_elem? xs n) (elements_map (taken bs) (components bs f).path)
    ∙ nth_map (taken bs) (elements (components bs f).path) n

-- its verdict, by that reference
given_map : {A B : Type 0} (f : A → B) (o : Option A) (n k : ℕ) → verdict (given o n k) ≡ verdict (given (Option.map f o) n k)
unfolding given
given_map f none n k = refl
given_map f (some a) n k = refl

segment_verdict : (lim : Limits) (bs : Bytes) (n : ℕ)
    → verdict (segment_view lim bs n) ≡ verdict (read_reference lim bs >>= λ r. given (get_elem? (elements r.path) n) NONE 0)
unfolding segment_view read_reference ◌>>=◌
segment_verdict lim bs n = go (read lim bs) refl
  where
    go : (x : Res Found) → read lim bs ≡ x
        → verdict (segment_view lim bs n) ≡ verdict (read_reference lim bs >>= λ r. given (get_elem? (elements r.path) n) NONE 0)
    go (refused m k) e = rw e
    go (ok f) e =
        rw e
        (given_map (taken bs) (get_elem? (elements (components bs f).path) n) NONE 0
        ∙ ap (λ (o : Option Bytes). verdict (given o NONE 0)) (sym (nth_said bs f n)))

pub segment_answers : (lim : Limits) (bs : Bytes) (n : ℕ)
    → Shows (SegmentAnswers lim bs n) (verdict (segment_view lim bs n)) (segment_shown (segment_view lim bs n))
unfolding segment_view read_reference given ◌>>=◌
segment_answers lim bs n = record { told = go (read lim bs) refl; only = only }
  where
    Answer : Type 0
    Answer = SegmentAnswers lim bs n (verdict (segment_view lim bs n)) (segment_shown (segment_view lim bs n))

    go : (x : Res Found) → read lim bs ≡ x → Answer
    go (refused m k) e = rw e (segment_own {k = k} (numbers lim bs m k e) (rw e))
    go (ok f) e = found (get_elem? (elements (components bs f).path) n) refl
      where
        found : (o : Option Span) → get_elem? (elements (components bs f).path) n ≡ o → Answer
        found none g = rw (e, g) (segment_18 {r = meaning bs f} (rw e) (nth_said bs f n ∙ rw g))
        found (some s) g = rw (e, g) (segment_done {r = meaning bs f} {s = s} (rw e) (nth_said bs f n ∙ rw g))

    only : (v : Res (Unit {0})) (s : Span) → SegmentAnswers lim bs n v s → verdict (segment_view lim bs n) ≡ v
    only _ _ (segment_own h e) = segment_verdict lim bs n ∙ rw e
    only _ _ (segment_18 e g) = segment_verdict lim bs n ∙ rw (e, g)
    only _ _ (segment_done e g) = segment_verdict lim bs n ∙ rw (e, g)

-- ---- the authority

-- the item of an authority, where an input has one
pub record Brings (bs : Bytes) (o : OpeningAt) (s : Span) : Type 0 where
  pub authority : Authority Bytes
  pub said : opening_authority (said_opening bs o) ≡ some authority
  pub item : taken bs s ≡ authority_item authority

brings : (bs : Bytes) (o : OpeningAt) → OpeningLaid bs o → (s : Span) → authority_span o ≡ some s → Brings bs o s
brings bs (discard_at k) l s e = none_some s e
brings bs discard_all_at l s e = none_some s e
brings bs (full_at c a) l s e =
    let w : Bytes = authority_item (said_authority bs a) in
    let at : ◌≡◌ {A = Span} (record { start = a.at; length = a.next - a.at }) s = cc in
    record {
      authority = said_authority bs a;
      said = refl;
      item =
          ap (taken bs) (sym at) ∙ ap (take (a.next - a.at)) l.authority.bytes
          ∙ take_at w (drop a.next bs) (a.next - a.at) (omega (arith, l.authority.ends));
    }

brings_none : (bs : Bytes) (o : OpeningAt) → authority_span o ≡ none → opening_authority (said_opening bs o) ≡ none
brings_none bs (discard_at k) e = refl
brings_none bs discard_all_at e = refl
brings_none bs (full_at c a) e = none_some _ (sym e)

opening_means : (bs : Bytes) (f : Found) → (meaning bs f).opening ≡ said_opening bs f.opening
opening_means bs f = ap (λ (r : Reference). r.opening) (meaning_said bs f.opening f.path f.query f.fragment)

authority_verdict : (lim : Limits) (base ref : Bytes)
    → verdict (authority_view lim base ref) ≡ verdict (as_base (read_absolute lim base) >>= λ b. read_reference lim ref)
unfolding authority_view read_absolute read_reference given ◌>>=◌ ◌>>◌
authority_verdict lim base ref = go (read lim base) refl
  where
    Same : Type 0
    Same = verdict (authority_view lim base ref) ≡ verdict (as_base (read_absolute lim base) >>= λ b. read_reference lim ref)

    go : (x : Res Found) → read lim base ≡ x → Same
    go (refused n k) e = rw e
    go (ok b) e = opened (absolute (meaning base b)) refl
      where
        opened : (o : Option Cri) → absolute (meaning base b) ≡ o → Same
        opened none a = rw (e, a)
        opened (some c) a = reads (read lim ref) refl
          where
            reads : (x : Res Found) → read lim ref ≡ x → Same
            reads (refused m k) d = rw (e, a, d)
            reads (ok r) d = rw (e, a, d)

pub authority_answers : (lim : Limits) (base ref : Bytes) → Octets base → Octets ref
    → Shows (AuthorityAnswers lim base ref) (verdict (authority_view lim base ref)) (piece_shown (authority_view lim base ref))
unfolding authority_view read_absolute read_reference given ◌>>=◌ ◌>>◌
authority_answers lim base ref hb hr = record { told = go (read lim base) refl; only = only }
  where
    Answer : Type 0
    Answer = AuthorityAnswers lim base ref (verdict (authority_view lim base ref)) (piece_shown (authority_view lim base ref))

    go : (x : Res Found) → read lim base ≡ x → Answer
    go (refused n k) e = rw e (authority_8 (base_own {k = k} (numbers lim base n k e) (rw e)))
    go (ok b) e = opened (absolute (meaning base b)) refl
      where
        opened : (o : Option Cri) → absolute (meaning base b) ≡ o → Answer
        opened none a = rw (e, a) (authority_8 (base_relative {r = meaning base b} (rw e) a))
        opened (some c) a = reads (read lim ref) refl
          where
            reads : (x : Res Found) → read lim ref ≡ x → Answer
            reads (refused m k) d = rw (e, a, d) (authority_own {b = c} {k = k} (rw (e, a)) (numbers lim ref m k d) (rw d))
            reads (ok r) d = own (authority_span r.opening) refl
              where
                own : (o : Option Span) → authority_span r.opening ≡ o → Answer
                own (some s) g =
                    let i = brings ref r.opening (ok_at (laid lim ref hr) d).opening s g in
                    rw (e, a, d, g)
                    (authority_of_reference {b = c} {r = meaning ref r} (rw (e, a)) (rw d) (ap opening_authority (opening_means ref r) ∙ i.said) i.item)
                own none g = other (authority_span b.opening) refl
                  where
                    based : opening_authority (said_opening base b.opening) ≡ some c.authority
                    based = sym (ap opening_authority (opening_means base b)) ∙ ap opening_authority (absolute_is (meaning base b) c a).opening

                    other : (o : Option Span) → authority_span b.opening ≡ o → Answer
                    other (some s) h =
                        let i = brings base b.opening (ok_at (laid lim base hb) e).opening s h in
                        let both : some i.authority ≡ some c.authority = sym i.said ∙ based in
                        let same : i.authority ≡ c.authority = cc in
                        rw (e, a, d, g, h)
                        (authority_of_base {b = c} {r = meaning ref r} (rw (e, a)) (rw d)
                        (ap opening_authority (opening_means ref r) ∙ brings_none ref r.opening g) (i.item ∙ ap authority_item same))
                    other none h = none_some c.authority (sym (brings_none base b.opening h) ∙ based)

    only : (v : Res (Unit {0})) (p : Piece) → AuthorityAnswers lim base ref v p → verdict (authority_view lim base ref) ≡ v
    only _ _ (authority_8 {k = k} e) = authority_verdict lim base ref ∙ rw (base_refused lim base k e)
    only _ _ (authority_own e h d) = authority_verdict lim base ref ∙ rw (e, d)
    only _ _ (authority_of_reference e d g i) = authority_verdict lim base ref ∙ rw (e, d)
    only _ _ (authority_of_base e d g i) = authority_verdict lim base ref ∙ rw (e, d)
