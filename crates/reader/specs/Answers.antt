-- What the code's values (`.._of`) and answers (`.._is`) say, in the terms of the rules, and the last parts of two readers, which are functions of their own.
use Rattle.std.specs.Prelude.{ℕ, ◌-◌, ◌||◌, Option, Some, None, Result, Ok, Err, length, leb}
use Rattle.std.proofs.Math.Option as Math
use Rattle.rules.specs.Bytes.{Bytes}
use Rattle.rules.specs.Result.{Res, ok, need, ◌>>=◌, ◌>>◌, when◌then◌else◌, TAIL}
use Rattle.rules.specs.Model.{Limits, most_parameters}
use Rattle.rules.specs.Head as H
use Rattle.rules.specs.Rules.{segment, parameter}
use Rattle.rules.specs.Reader as R
use Rattle.rules.specs.Code.{option_is}
use Rattle.refusals.specs.declared.Refusal.{Refusal}
use Rattle.refusals.specs.Answers.{refusal_is}
use Rattle.cbor.specs.declared.Span.{Span}
use Rattle.cbor_rows.specs.declared.Row.{Row}
use Rattle.reader.specs.declared.HostAt.{HostAt}
use Rattle.reader.specs.declared.HostAt.TheVariants as HostAtV
use Rattle.reader.specs.declared.Names.{Names}
use Rattle.reader.specs.declared.AuthorityAt.{AuthorityAt}
use Rattle.reader.specs.declared.Scheme.{Scheme}
use Rattle.reader.specs.declared.Scheme.TheVariants as SchemeV
use Rattle.reader.specs.declared.OpeningAt.{OpeningAt}
use Rattle.reader.specs.declared.OpeningAt.TheVariants as OpeningAtV
use Rattle.reader.specs.declared.First.{First}
use Rattle.reader.specs.declared.First.TheVariants as FirstV
use Rattle.reader.specs.declared.Opened.{Opened}
use Rattle.reader.specs.declared.Found.{Found}

-- ---- path, query, fragment

-- where a path or a query stands
abbrev pub slot_of : Option Row → R.Slot
slot_of None = R.unset
slot_of (Some r) = R.set r.at r.count

-- where a fragment stands
abbrev pub text_of : Option Span → R.Slot
text_of None = R.unset
text_of (Some s) = R.set s.start s.length

-- unset, before a position; or set
abbrev pub unset_before : ℕ → R.SlotAt
unset_before next = record { slot = R.unset; next = next }

abbrev pub set_before : Row × ℕ → R.SlotAt
set_before (r, next) = record { slot = R.set r.at r.count; next = next }

-- a path or a query, and the position after it
abbrev pub slot_is : Option Row × ℕ → R.SlotAt
slot_is (r, next) = record { slot = slot_of r; next = next }

-- a fragment, and the position after it
abbrev pub fragment_is : Option Span × ℕ → R.SlotAt
fragment_is (s, next) = record { slot = text_of s; next = next }

-- ---- authority

-- where an address or labels stand
abbrev pub host_of : HostAt → R.HostAt
host_of (HostAtV.Address s) = R.address_at s.start s.length
host_of (HostAtV.Labels r) = R.labels_at r.at r.count

-- the port's number, if it is set
abbrev pub port_of : Option ℕ → Math.Option ℕ
port_of = option_is (λ n. n)

-- how many labels, the port, and the position after it
abbrev pub names_is : Names → R.Names
names_is n = record { count = n.count; port = port_of n.port; next = n.next }

-- where an authority stands, and its port
abbrev pub authority_of : AuthorityAt → R.AuthorityAt
authority_of a = record { at = a.at; host = host_of a.host; port = port_of a.port; next = a.next }

-- the last part of `read_authority`: its n items, the first of them at a position
unfoldable pub read_host : Bytes → ℕ → ℕ → ℕ → Res R.AuthorityAt
read_host bs start at items = do
  h ← H.read_head (λ k. H.is H.ByteString k || H.is H.Text k) bs at
  when H.is H.Text h.kind then R.labels_host bs start at (items - 1) h else R.address_host bs start at (items - 1) h

-- ---- the opening

-- the scheme's number, or where its name stands
abbrev pub scheme_of : Option Scheme → R.SchemeAt
scheme_of None = R.no_scheme
scheme_of (Some (SchemeV.Number n)) = R.number_at n
scheme_of (Some (SchemeV.Name s)) = R.name_at s.start s.length

-- a discard, or scheme and authority
abbrev pub opening_of : OpeningAt → R.OpeningAt
opening_of (OpeningAtV.Discard k) = R.discard_at k
opening_of OpeningAtV.DiscardAll = R.discard_all_at
opening_of (OpeningAtV.Full s a) = R.full_at (scheme_of s) (authority_of a)

-- the first of `count` items at a position, and what follows: nothing more of the opening; or the authority
abbrev pub first_is : Bytes → ℕ → ℕ → Result (First × ℕ) Refusal → Res R.Opened
first_is bs at count (Ok (FirstV.Discard o, next)) = ok (record { opening = opening_of o; next = next; left = count - 1 })
first_is bs at count (Ok (FirstV.Scheme s, next)) = R.after_scheme bs at count (scheme_of s) next
first_is bs at count (Err r) = refusal_is r

-- the opening, the position after it, and how many items are left
abbrev pub opened_is : Opened → R.Opened
opened_is o = record { opening = opening_of o.opening; next = o.next; left = o.left }

-- ---- the whole

-- where everything stands
abbrev pub found_of : Found → R.Found
found_of f = record { opening = opening_of f.opening; path = slot_of f.path; query = slot_of f.query; fragment = text_of f.fragment }

-- the last parts of `read`: path, query and fragment, of which `left` items are left, and the end
unfoldable pub read_rest : Limits → Bytes → R.OpeningAt → ℕ → ℕ → Res R.Found
read_rest lim bs opening at left = do
  p ← R.read_array segment 0 lim.segments bs at left
  q ← R.read_array parameter 1 most_parameters bs p.next (left - 1)
  f ← R.read_fragment bs q.next (left - 2)
  need (leb (length bs) f.next) TAIL f.next
  ok (record { opening = opening; path = p.slot; query = q.slot; fragment = f.slot })
