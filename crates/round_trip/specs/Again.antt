-- What writing a reference that was read answers.
use Rattle.rules.specs.Bytes.{Bytes}
use Rattle.rules.specs.Result.{Res, ok, ◌>>◌}
use Rattle.rules.specs.Model.{Limits}
use Rattle.rules.specs.Reader.{read}

-- the reader's refusal; or, of an accepted input, its bytes again
unfoldable pub again : Limits → Bytes → Res Bytes
again lim bs = read lim bs >> ok bs
