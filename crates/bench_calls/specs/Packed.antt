-- What the measuring program is told, as one number.
use Rattle.std.specs.Prelude.{ℕ, ◌+◌, ◌*◌, ◌%◌, length}
use Rattle.rules.specs.Result.{Res, refused, ok}
use Rattle.rules.specs.Model.{Components, elements}

-- a refusal's number and 256 times its place
abbrev pub packed_refusal : ℕ → ℕ → ℕ
packed_refusal n k = n + 256 * (k % 65536)

-- 256 times the length; or the refusal
abbrev pub packed : Res ℕ → ℕ
packed (refused n k) = packed_refusal n k
packed (ok m) = 256 * (m % 65536)

-- 0; or the refusal
abbrev pub packed_read : Res Components → ℕ
packed_read (refused n k) = packed_refusal n k
packed_read (ok c) = 0

-- how many segments were read: none where the input is refused
abbrev pub segment_count : Res Components → ℕ
segment_count (refused n k) = 0
segment_count (ok c) = length (elements c.path)
