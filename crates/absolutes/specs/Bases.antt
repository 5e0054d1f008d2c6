-- The base, as the calls read it.
use Rattle.std.specs.Prelude.{Bool, true, false}
use Rattle.rules.specs.Bytes.{Bytes}
use Rattle.rules.specs.Result.{Res, ok, need, ◌>>=◌, ◌>>◌, BASE}
use Rattle.rules.specs.Model.{Limits}
use Rattle.rules.specs.Reader.{no_scheme, number_at, name_at, OpeningAt, discard_at, discard_all_at, full_at, Found, read}
use Rattle.rules.specs.Resolve.{as_base}

-- RULES 1.12: scheme and authority both present and not null
abbrev pub is_absolute : OpeningAt → Bool
is_absolute (discard_at k) = false
is_absolute discard_all_at = false
is_absolute (full_at no_scheme a) = false
is_absolute (full_at (number_at n) a) = true
is_absolute (full_at (name_at at n) a) = true

-- RULES 3.3, 10.2: 8 for a base that the reader refuses or that is not absolute
unfoldable pub read_base : Limits → Bytes → Res Found
read_base lim bs = do
  b ← as_base (read lim bs)
  need (is_absolute b.opening) BASE 0
  ok b
