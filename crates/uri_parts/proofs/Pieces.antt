-- What each part of a URI text is, by what stands at its place.
use Prim.Native.Nat.{ℕ}
use mathlib.Core.Path.{◌≡◌}
use mathlib.Core.List.{[], ◌∷◌, ◌++◌, map}
use mathlib.Core.Option.{Option, none, some}
use Rattle.rules.specs.Bytes.{Bytes, part, dot, colon, slash, question, hash, ampersand, join}
use Rattle.rules.specs.Rules.{schemes, scheme_in}
use Rattle.rules.specs.Reader.{contents, Slot, unset, set, HostAt, address_at, labels_at, SchemeAt, no_scheme, number_at, name_at}
use Rattle.rules.specs.Meaning.{said_texts, said_text, said_host, said_scheme}
use Rattle.rules.specs.Numeral.{decimal}
use Rattle.rules.specs.Address.{address_text}
use Rattle.rules.specs.Valid.{GoodHost}
use Rattle.rules.specs.Text.{Label, Segment, Parameter, Fragment, escape, marked, entry_name, scheme_text, host_text, path_text, query_text}
use Rattle.rules.specs.Standing.{HostStands}
use Rattle.addresses.proofs.AddressTexts.{address_at_lem}
use Rattle.uri_parts.specs.Pieces.{scheme_piece, host_piece, port_piece, path_piece, query_piece, fragment_piece, HostPrints}

-- ---- scheme

module _ (bs : Bytes) where
  pub scheme_none : {x : SchemeAt} → x ≡ no_scheme → [] ≡ scheme_piece (said_scheme bs x)
  unfolding scheme_piece
  scheme_none e = rw e

  pub scheme_number_lem : {x : SchemeAt} {n : ℕ} → x ≡ number_at n → entry_name (scheme_in schemes n) ≡ scheme_piece (said_scheme bs x)
  unfolding scheme_piece scheme_text
  scheme_number_lem e = rw e

  pub scheme_name_lem : {x : SchemeAt} {at n : ℕ} → x ≡ name_at at n → part bs at n ≡ scheme_piece (said_scheme bs x)
  unfolding scheme_piece scheme_text
  scheme_name_lem e = rw e

-- ---- host and port

module _ (bs : Bytes) where
  pub host_address : {x : HostAt} {at n : ℕ} → x ≡ address_at at n → (slash ∷ []) ++ address_text (part bs at n) ≡ host_piece (said_host bs x)
  unfolding host_text
  host_address e = rw e

  pub host_labels : {x : HostAt} {at n : ℕ} → x ≡ labels_at at n → slash ∷ join dot (map (escape Label) (contents bs at n)) ≡ host_piece (said_host bs x)
  unfolding host_text
  host_labels e = rw e

-- what is known of a host in an accepted input
pub host_prints : (bs : Bytes) (h : HostAt) → HostStands bs h → GoodHost (said_host bs h) → HostPrints bs h
host_prints bs (address_at at n) h g = address_at_lem bs at n h g
host_prints bs (labels_at at n) h g = h.each

pub port_none : {p : Option ℕ} → p ≡ none → [] ≡ port_piece p
unfolding marked
port_none e = rw e

pub port_some : {p : Option ℕ} {n : ℕ} → p ≡ some n → (colon ∷ []) ++ decimal n ≡ port_piece p
unfolding marked
port_some e = rw e

-- ---- path, query, fragment

module _ (bs : Bytes) where
  pub path_unset : {p : Slot} → p ≡ unset → slash ∷ [] ≡ path_piece (said_texts bs p)
  unfolding path_text join
  path_unset e = rw e

  pub path_set : {p : Slot} {at n : ℕ} → p ≡ set at n → slash ∷ join slash (map (escape Segment) (contents bs at n)) ≡ path_piece (said_texts bs p)
  unfolding path_text
  path_set e = rw e

  pub query_unset : {q : Slot} → q ≡ unset → [] ≡ query_piece (said_texts bs q)
  unfolding marked
  query_unset e = rw e

  pub query_set : {q : Slot} {at n : ℕ} → q ≡ set at n → question ∷ join ampersand (map (escape Parameter) (contents bs at n)) ≡ query_piece (said_texts bs q)
  unfolding marked query_text
  query_set e = rw e

  pub fragment_unset : {f : Slot} → f ≡ unset → [] ≡ fragment_piece (said_text bs f)
  unfolding marked
  fragment_unset e = rw e

  pub fragment_set : {f : Slot} {at n : ℕ} → f ≡ set at n → (hash ∷ []) ++ escape Fragment (part bs at n) ≡ fragment_piece (said_text bs f)
  unfolding marked
  fragment_set e = rw e
