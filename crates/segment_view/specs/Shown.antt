-- Parts of a slice.
use Rattle.std.specs.Prelude.{◌+◌, ◌≡◌}
use Rattle.std.specs.Borrow.{Bor}
use Rattle.rules.specs.Bytes.{Bytes}
use Rattle.rules.specs.Model as Model
use Rattle.rules.specs.Reader.{taken}

-- r is that part of s: it points into s, at the span's start, and shows the span's bytes
abbrev pub PartOf : Bor Bytes → Bor Bytes → Model.Span → Type 0
PartOf s r span = (r.ref_ptr ≡ (s.ref_ptr.0, span.start + s.ref_ptr.1)) × (r.now ≡ taken s.now span)
