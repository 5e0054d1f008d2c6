-- The URI text of what was read, part by part as it is written, and what is known of where the parts stand in an accepted input.
use Rattle.std.specs.Prelude.{◌+◌, ◌*◌, ◌≤◌, [], ◌∷◌, ◌++◌, length}
use Rattle.std.proofs.Math.Option.{none, some}
use Rattle.rules.specs.Bytes.{Bytes, colon, slash}
use Rattle.rules.specs.Model.{Opening, discard, discard_all, full, Reference, limits}
use Rattle.rules.specs.Reader.{OpeningAt, discard_at, discard_all_at, full_at, Found}
use Rattle.rules.specs.Meaning.{said}
use Rattle.rules.specs.Valid.{GoodPort}
use Rattle.rules.specs.Standing.{SchemeStands, TextStands}
use Rattle.uri_parts.specs.Pieces.{scheme_piece, host_piece, port_piece, path_piece, query_piece, fragment_piece, HostPrints, TextsPrint}

-- RULES 6.1: scheme name, "://", host and port; nothing for a discard
unfoldable pub origin_piece : Opening Bytes → Bytes
origin_piece (discard k) = []
origin_piece discard_all = []
origin_piece (full s none) = []
origin_piece (full s (some a)) = scheme_piece s ++ ((colon ∷ slash ∷ []) ++ (host_piece a.host ++ port_piece a.port))

-- then path, query and fragment
unfoldable pub text_pieces : Reference → Bytes
text_pieces r = origin_piece r.opening ++ (path_piece r.path ++ (query_piece r.query ++ fragment_piece r.fragment))

-- of what stands at positions
abbrev pub text_at : Bytes → Found → Bytes
text_at bs f = text_pieces (said bs f.opening f.path f.query f.fragment)

-- what is known of scheme, host and port
abbrev pub OpeningPrints : Bytes → OpeningAt → Type 0
OpeningPrints bs (discard_at k) = Unit {0}
OpeningPrints bs discard_all_at = Unit {0}
OpeningPrints bs (full_at s a) = SchemeStands bs s × HostPrints bs a.host × GoodPort a.port

-- and of the whole; RULES 6.6: the text has at most 3n + 13 bytes
pub record Prints (bs : Bytes) (f : Found) : Type 0 where
  pub size : length bs ≤ limits.bytes
  pub most : length (text_at bs f) ≤ 3 * length bs + 13
  pub opening : OpeningPrints bs f.opening
  pub path : TextsPrint bs f.path
  pub query : TextsPrint bs f.query
  pub fragment : TextStands bs f.fragment
