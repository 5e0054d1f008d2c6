-- What an encoding is once a piece is added to it.
use Rattle.std.specs.Prelude.{◌-◌, Bool, ◌&&◌, ◌++◌, length, leb}
use Rattle.rules.specs.Bytes.{Bytes}
use Rattle.rules.specs.Result.{Res, ok, need, ◌>>◌, LIMIT}
use Rattle.rules.specs.Model.{limits}

-- RULES 4.1, 9.2: bs and then w, where the texts of w lie inside the lent bytes, and w fits into what bs leaves of the largest encoding
unfoldable pub added : Bool → Bytes → Bytes → Res Bytes
added lie w bs = need (lie && leb (length w) (limits.bytes - length bs)) LIMIT 0 >> ok (bs ++ w)
