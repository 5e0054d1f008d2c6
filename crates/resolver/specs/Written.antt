-- What a call answers that writes the parts of a result.
use Rattle.std.specs.Prelude.{◌&&◌, length, leb}
use Rattle.rules.specs.Bytes.{Bytes}
use Rattle.rules.specs.Result.{Res, ok, need, ◌>>◌, RESULT}
use Rattle.rules.specs.Model.{limits}
use Rattle.resolver_parts.specs.declared.Parts.{Parts}
use Rattle.resolver_parts.specs.Written.{parts_of}

-- RULES 5.5: 9 where there are too many segments or bytes
unfoldable pub parts_result : Bytes → Bytes → Parts → Res Bytes
parts_result base ref p = do
  need (leb p.path.count limits.segments && leb (length (parts_of base ref p)) limits.bytes) RESULT 0
  ok (parts_of base ref p)
