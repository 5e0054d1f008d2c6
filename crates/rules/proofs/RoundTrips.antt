-- Writing what was read gives its bytes again; reading what was written gives the same contents.
use Prim.Native.Nat.{ℕ, ◌^◌, ◌≤◌, ◌<◌}
use native.Mathlib.Omega.{arith}
use mathlib.Core.Path.{◌≡◌, refl, sym, ap, ◌∙◌}
use mathlib.Core.Bool.{true, ◌&&◌}
use mathlib.Core.List.{List, [], ◌∷◌, map}
use mathlib.Core.Option
use mathlib.Core.Option.{Option, none, some}
use lib.ListN.{length, length-map}
use lib.Dec.{leb}
use borrow.Author.Tests.{leb-true}
use Rattle.rules.specs.Bytes.{Bytes, Each, Octets}
use Rattle.rules.specs.Result.{Res, refused, ok, need, ◌>>◌}
use Rattle.rules.specs.Model.{Scheme, number, name, Host, address, labels, Opening, discard, discard_all, full, Span, Reference, Components, Limits, map_scheme, map_host, map_opening, map_parts, elements}
use Rattle.rules.specs.Reader.{taken, Found, read}
use Rattle.rules.specs.Meaning.{components, meaning, read_reference}
use Rattle.rules.specs.Encode.{encode}
use Rattle.rules.specs.Valid.{If}
use Rattle.rules.specs.Writing.{labels_of, opening_labels, all_texts, SizedScheme, SizedOpening, Sized, counted, Lie, placeless}
use Rattle.rules.specs.Calls.{read_call, write_call}
use Rattle.rules.specs.Promises.{Reread}
use Rattle.rules.specs.Standing.{FoundStands}
use Rattle.rules.proofs.Tools.{and_left, and_right, part_most}
use Rattle.rules.proofs.Steps.{Ok, no!, ok!, ok_need, ok_at, bind_ok}
use Rattle.rules.proofs.Texts.{FitText}
use Rattle.rules.proofs.Slots.{FitTexts}
use Rattle.rules.proofs.Authorities.{FitHost}
use Rattle.rules.proofs.Openings.{FitScheme, FitOpening}
use Rattle.rules.proofs.Reading.{canonical, Fit, says}
use Rattle.rules.proofs.Standing.{stands, all_counted, all_inside}
use Rattle.rules.proofs.RefusalNumbers.{call_accepted, accepted}

-- ---- writing what was read

-- components of which everything is in order, and whose encoding is accepted, are written
write_accepted : (lim : Limits) (c : Components) (lent : Bytes) (f : Found) → counted lim c ≡ true → Lie lent (all_texts c)
    → read lim (encode (map_parts (taken lent) c)) ≡ ok f → write_call lim c lent ≡ ok (encode (map_parts (taken lent) c))
unfolding write_call need ◌>>◌
write_accepted lim c lent f n i e = rw (n, i, e)

-- an accepted input is the encoding of what it says
read_encodes : (lim : Limits) (bs : Bytes) (f : Found) → Octets bs → read lim bs ≡ ok f → encode (map_parts (taken bs) (components bs f)) ≡ bs
unfolding read_reference meaning
read_encodes lim bs f h e = (ok_at (canonical lim bs h) (sym (bind_ok (read lim bs) (λ f. ok (meaning bs f)) f (sym e)))).0

pub read_write : (lim : Limits) (bs : Bytes) (c : Components) → Octets bs → read_call lim bs ≡ ok c → write_call lim c bs ≡ ok bs
read_write lim bs c h z =
    let a = accepted lim bs c z in
    let f : Found = a.0 in
    let e : read lim bs ≡ ok f = a.1 in
    let s : FoundStands lim bs f = ok_at (stands lim bs h) e in
    let same = read_encodes lim bs f h e in
    ap (λ (x : Components). write_call lim x bs) (sym a.2)
    ∙ write_accepted lim (components bs f) bs f (all_counted lim bs f s) (all_inside lim bs f s) (ap (read lim) same ∙ e)
    ∙ ap ok same

-- ---- reading what was written

-- what is written is the encoding, and it was accepted
record Written (lim : Limits) (c : Components) (lent w : Bytes) : Type 0 where
  pub counts : counted lim c ≡ true
  pub found : Found
  pub reads : read lim (encode (map_parts (taken lent) c)) ≡ ok found
  pub bytes : w ≡ encode (map_parts (taken lent) c)

written_ok : (lim : Limits) (c : Components) (lent : Bytes) → Ok (λ w. Written lim c lent w) (write_call lim c lent)
unfolding write_call ◌>>◌
written_ok lim c lent = ok_need _ _ _ _ (λ n. ok_need _ _ _ _ (λ i. go n (read lim (encode (map_parts (taken lent) c))) refl))
  where
    go : counted lim c ≡ true → (r : Res Found) → read lim (encode (map_parts (taken lent) c)) ≡ r
        → Ok (λ w. Written lim c lent w) (placeless r >> ok (encode (map_parts (taken lent) c)))
    go n (refused k at) e = no!
    go n (ok f) e = ok! (record { counts = n; found = f; reads = e; bytes = refl })

-- heads can carry the numbers, lengths and counts of components that are sized and counted
module _ (lent : Bytes) (small : length lent < 2 ^ 64) where
  fit_taken : (s : Span) → FitText (taken lent s)
  fit_taken s = omega (arith, part_most lent s.start s.length)

  fit_each : (ss : List Span) → Each FitText (map (taken lent) ss)
  fit_each [] = tt
  fit_each (s ∷ ss) = (fit_taken s, fit_each ss)

  fit_list : (o : Option (List Span)) → length (elements o) < 2 ^ 64 → If FitTexts (Option.map (map (taken lent)) o)
  fit_list none h = tt
  fit_list (some ss) h = (omega (arith, length-map ss (taken lent)), fit_each ss)

  fit_text : (o : Option Span) → If FitText (Option.map (taken lent) o)
  fit_text none = tt
  fit_text (some s) = fit_taken s

  fit_named : (o : Option (Scheme Span)) → If SizedScheme o → If FitScheme (Option.map (map_scheme (taken lent)) o)
  fit_named none h = tt
  fit_named (some (number n)) h = h
  fit_named (some (name s)) h = fit_taken s

  fit_host : (h : Host Span) → length (labels_of h) ≤ 8 → FitHost (map_host (taken lent) h)
  fit_host (address s) l = fit_taken s
  fit_host (labels ss) l = (omega (arith, length-map ss (taken lent)), fit_each ss)

  fit_opened : (o : Opening Span) → SizedOpening o → length (opening_labels o) ≤ 8 → FitOpening (map_opening (taken lent) o)
  fit_opened (discard k) h l = h
  fit_opened discard_all h l = tt
  fit_opened (full s none) h l = (fit_named s h.0, tt)
  fit_opened (full s (some a)) h l = (fit_named s h.0, record { host = fit_host a.host l; port = h.1 })

  fit_components : (lim : Limits) → lim.segments < 2 ^ 64 → (c : Components) → Sized c → counted lim c ≡ true → Fit (map_parts (taken lent) c)
  unfolding counted
  fit_components lim most c z n =
      let ls : ℕ = length (opening_labels c.opening) in
      let ps : ℕ = length (elements c.path) in
      let qs : ℕ = length (elements c.query) in
      let m : (leb ps lim.segments && leb qs 16) ≡ true = and_right (leb ls 8) _ n in
      record {
        opening = fit_opened c.opening z (leb-true ls 8 (and_left (leb ls 8) _ n));
        path = fit_list c.path (omega (arith, leb-true ps lim.segments (and_left (leb ps lim.segments) _ m)));
        query = fit_list c.query (omega (arith, leb-true qs 16 (and_right (leb ps lim.segments) _ m)));
        fragment = fit_text c.fragment;
      }

pub write_read : (lim : Limits) → lim.segments < 2 ^ 64 → (c : Components) (lent w : Bytes) → length lent < 2 ^ 64 → Sized c → write_call lim c lent ≡ ok w
    → Reread lim c lent w
unfolding meaning
write_read lim most c lent w small z e =
    let x : Written lim c lent w = ok_at (written_ok lim c lent) e in
    let r : Reference = map_parts (taken lent) c in
    let f : Found = x.found in
    rw x.bytes
    (record {
      components = components (encode r) f;
      accepted = sym (call_accepted lim (encode r) f x.reads);
      contents = ok_at (says lim r (fit_components lent small lim most c z x.counts)) x.reads;
    })
