-- What the text is, by what stands at the places of its parts, and how long it is.
use Prim.Native.Nat.{ℕ, ◌+◌}
use native.Mathlib.Omega.{arith}
use mathlib.Core.Path.{◌≡◌, ap}
use mathlib.Core.List.{[], ◌∷◌, ◌++◌}
use lib.ListN.{length, length-append}
use Rattle.rules.specs.Bytes.{Bytes, colon, slash}
use Rattle.rules.specs.Reader.{AuthorityAt, SchemeAt, OpeningAt, discard_at, discard_all_at, full_at, Found}
use Rattle.rules.specs.Meaning.{said_texts, said_text, said_host, said_scheme, said_opening}
use Rattle.rules.specs.Valid.{GoodPort}
use Rattle.rules.specs.Standing.{SchemeStands}
use Rattle.uri_parts.specs.Pieces.{scheme_piece, host_piece, port_piece, path_piece, query_piece, fragment_piece, HostPrints}
use Rattle.uri.specs.Printed.{origin_piece, text_pieces, text_at, OpeningPrints}

module _ (bs : Bytes) where
  pub origin_discard : {o : OpeningAt} {k : ℕ} → o ≡ discard_at k → [] ≡ origin_piece (said_opening bs o)
  unfolding origin_piece
  origin_discard e = rw e

  pub origin_all : {o : OpeningAt} → o ≡ discard_all_at → [] ≡ origin_piece (said_opening bs o)
  unfolding origin_piece
  origin_all e = rw e

  pub origin_full : {o : OpeningAt} {s : SchemeAt} {a : AuthorityAt} → o ≡ full_at s a
      → scheme_piece (said_scheme bs s) ++ ((colon ∷ slash ∷ []) ++ (host_piece (said_host bs a.host) ++ port_piece a.port)) ≡ origin_piece (said_opening bs o)
  unfolding origin_piece
  origin_full e = rw e

  pub full_prints : {o : OpeningAt} {s : SchemeAt} {a : AuthorityAt} → o ≡ full_at s a → OpeningPrints bs o
      → SchemeStands bs s × HostPrints bs a.host × GoodPort a.port
  full_prints e h = rw e at h

  pub origin_sum : {o : OpeningAt} {s : SchemeAt} {a : AuthorityAt} → o ≡ full_at s a
      → length (origin_piece (said_opening bs o)) ≡ length (scheme_piece (said_scheme bs s)) + 2 + length (host_piece (said_host bs a.host)) + length (port_piece a.port)
  origin_sum {o} {s} {a} e =
      let h : Bytes = host_piece (said_host bs a.host) in
      let p : Bytes = port_piece a.port in
      omega (arith, ap length (origin_full e), length-append (scheme_piece (said_scheme bs s)) (colon ∷ slash ∷ (h ++ p)), length-append h p)

  pub text_sum : (f : Found)
      → length (text_at bs f)
      ≡ length (origin_piece (said_opening bs f.opening)) + length (path_piece (said_texts bs f.path)) + length (query_piece (said_texts bs f.query)) + length (fragment_piece (said_text bs f.fragment))
  unfolding text_pieces
  text_sum f =
      let o : Bytes = origin_piece (said_opening bs f.opening) in
      let p : Bytes = path_piece (said_texts bs f.path) in
      let q : Bytes = query_piece (said_texts bs f.query) in
      let g : Bytes = fragment_piece (said_text bs f.fragment) in
      omega (arith, length-append o (p ++ (q ++ g)), length-append p (q ++ g), length-append q g)
