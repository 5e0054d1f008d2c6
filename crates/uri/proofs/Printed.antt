-- The text of an accepted absolute input: what is known of its positions, and that the pieces are the text of the rules.
use Prim.Native.Nat.{ℕ}
use native.Mathlib.Omega.{arith}
use mathlib.Core.Path.{◌≡◌, sym, ap, ◌∙◌}
use mathlib.Core.Bool.{true, false}
use mathlib.Core.List.{List, ◌∷◌, ◌++◌, append_assoc}
use mathlib.Core.Option.{Option, some}
use lib.ListN.{length}
use Rattle.rules.specs.Bytes.{Bytes, Octets, colon, slash}
use Rattle.rules.specs.Result.{refused, ok, given, ◌>>=◌, BASE}
use Rattle.rules.specs.Model.{Reference, limits, Cri, elements, absolute}
use Rattle.rules.specs.Reader.{Slot, unset, set, OpeningAt, discard_at, discard_all_at, full_at, Found, read}
use Rattle.rules.specs.Meaning.{meaning, read_reference, read_absolute, said_opening, said}
use Rattle.rules.specs.Valid.{GoodOpening}
use Rattle.rules.specs.Text.{scheme_text, authority_text, path_text, hierarchy_text, uri_text}
use Rattle.rules.specs.Calls.{text_call}
use Rattle.rules.specs.Standing.{OpeningStands, TextsStand}
use Rattle.rules.proofs.Steps.{ok_at, bind_ok}
use Rattle.rules.proofs.Reading.{meaning_said, canonical}
use Rattle.rules.proofs.Standing.{read_size, stands}
use Rattle.rules.proofs.Absolutes.{Absolute, absolute_is, with_path, absolute_same, read_absolute_lem, text_of}
use Rattle.rules.proofs.TextBound.{read_bound}
use Rattle.absolutes.specs.Bases.{is_absolute}
use Rattle.absolutes.proofs.AbsoluteOpenings.{absolute_opening, relative_opening}
use Rattle.uri_parts.specs.Pieces.{scheme_piece, path_piece, query_piece, fragment_piece, TextsPrint}
use Rattle.uri_parts.proofs.Pieces.{host_prints}
use Rattle.uri.specs.Printed.{origin_piece, text_pieces, text_at, OpeningPrints, Prints}

-- ---- the pieces of an absolute reference are its text

with_text : (c : Cri) (p : Option (List Bytes)) → elements p ≡ c.path → text_pieces (with_path c p) ≡ uri_text c
unfolding text_pieces origin_piece scheme_piece uri_text hierarchy_text authority_text
with_text c p e =
    let s : Bytes = scheme_text c.scheme in
    let a : Bytes = authority_text c.authority in
    let q : Bytes = query_piece c.query in
    let f : Bytes = fragment_piece c.fragment in
    let t : Bytes = q ++ f in
    rw e
    (append_assoc s (colon ∷ slash ∷ slash ∷ a) (path_piece (some c.path) ++ t)
    ∙ ap (λ (l : Bytes). s ++ (colon ∷ slash ∷ slash ∷ l)) (sym (append_assoc a (slash ∷ path_text c.path) t))
    ∙ sym (append_assoc s (colon ∷ slash ∷ slash ∷ (a ++ (slash ∷ path_text c.path))) t)
    ∙ sym (append_assoc (hierarchy_text c) q f))

pub pieces_text : (bs : Bytes) (f : Found) (c : Cri) → absolute (meaning bs f) ≡ some c → text_at bs f ≡ uri_text c
pieces_text bs f c e =
    let is : Absolute (meaning bs f) c = absolute_is (meaning bs f) c e in
    ap text_pieces (sym (meaning_said bs f.opening f.path f.query f.fragment) ∙ absolute_same (meaning bs f) c is) ∙ with_text c (meaning bs f).path is.path

-- ---- what is known of the positions

opening_prints : (bs : Bytes) (o : OpeningAt) → OpeningStands bs o → GoodOpening (said_opening bs o) → OpeningPrints bs o
opening_prints bs (discard_at k) h g = tt
opening_prints bs discard_all_at h g = tt
opening_prints bs (full_at s a) h g = (h.0, host_prints bs a.host h.1 g.1.host, g.1.port)

texts_print : (most : ℕ) (bs : Bytes) (p : Slot) → TextsStand most bs p → TextsPrint bs p
texts_print most bs unset h = tt
texts_print most bs (set at n) h = h.each

-- ---- what the call answers

pub text_refused : (bs : Bytes) (n k : ℕ) → read limits bs ≡ refused n k → text_call limits bs ≡ refused n k
unfolding text_call read_absolute read_reference ◌>>=◌
text_refused bs n k e = rw e

pub text_relative : (bs : Bytes) (f : Found) → read limits bs ≡ ok f → is_absolute f.opening ≡ false → text_call limits bs ≡ refused BASE 0
unfolding text_call given ◌>>=◌
text_relative bs f e t = rw (read_absolute_lem limits bs f e, relative_opening bs f t)

-- of an absolute input
module _ (bs : Bytes) (f : Found) (h : Octets bs) (e : read limits bs ≡ ok f) (t : is_absolute f.opening ≡ true) where
  abbrev cri_said : Cri
  cri_said = (absolute_opening bs f t).0

  says : absolute (meaning bs f) ≡ some cri_said
  says = (absolute_opening bs f t).1

  read_says : read_absolute limits bs ≡ ok cri_said
  unfolding given
  read_says = read_absolute_lem limits bs f e ∙ ap (λ (o : Option Cri). given o BASE 0) says

  -- the text is written
  pub text_written : text_call limits bs ≡ ok (text_at bs f)
  text_written = text_of limits bs cri_said read_says ∙ ap ok (sym (pieces_text bs f cri_said says))

  -- what is known of the positions
  pub prints : Prints bs f
  unfolding read_reference
  prints =
      let r : Reference = said bs f.opening f.path f.query f.fragment in
      let m : read_reference limits bs ≡ ok r = sym (bind_ok (read limits bs) (λ f. ok (meaning bs f)) f (sym e)) ∙ ap ok (meaning_said bs f.opening f.path f.query f.fragment) in
      let v = ok_at (canonical limits bs h) m in
      let s = ok_at (stands limits bs h) e in
      record {
        size = ok_at (read_size limits bs) e;
        most = omega (arith, ap length (pieces_text bs f cri_said says), read_bound limits bs cri_said h read_says);
        opening = opening_prints bs f.opening s.opening v.1.opening;
        path = texts_print limits.segments bs f.path s.path;
        query = texts_print 16 bs f.query s.query;
        fragment = s.fragment;
      }
