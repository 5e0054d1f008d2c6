-- The reading of URI text back, for the proof that a text determines its CRI.
-- It takes more texts than are written: bare bytes that should be escaped, escapes of bytes that may be bare, and anything in brackets.
use Prim.Native.Nat.{ℕ}
use mathlib.Core.Bool.{cond, ◌&&◌}
use mathlib.Core.Option.{Option, none, some}
use mathlib.Core.List.{List, [], ◌∷◌, map, tail}
use lib.Dec.{ltb, eqb}
use Rattle.rules.specs.Bytes.{Bytes, dot, colon, slash, question, hash, ampersand, same, filled, starts, upto, split}
use Rattle.rules.specs.Model.{Scheme, number, name, Host, address, labels, Authority, Cri, elements, normal_path}
use Rattle.rules.specs.Rules.{SchemeEntry, schemes, looks_ipv4}
use Rattle.rules.specs.Numeral.{decimal, value}
use Rattle.rules.specs.Address.{left_bracket, right_bracket}
use Rattle.rules.specs.ReadAddress.{ipv6_bytes}
use Rattle.rules.proofs.Escapes.{cons_o, unescape, after}

infixl 20 ◌>>=◌
abbrev pub ◌>>=◌ : {A B : Type 0} → Option A → (A → Option B) → Option B
none >>= f = none
some x >>= f = f x

-- the number of a scheme's name
unfoldable pub number_in : List SchemeEntry → Bytes → Option ℕ
number_in [] t = none
number_in (e ∷ es) t = cond (same t e.name) (some e.number) (number_in es t)

abbrev pub named : Option ℕ → Bytes → Scheme Bytes
named none t = name t
named (some n) t = number n

unfoldable pub un_scheme : Bytes → Scheme Bytes
un_scheme t = named (number_in schemes t) t

-- each part of a joined text, unescaped
unfoldable pub unescapes : List Bytes → Option (List Bytes)
unfolding unescape
unescapes [] = some []
unescapes (p ∷ ps) = unescape p >>= λ x. cons_o x (unescapes ps)

unfoldable pub un_parts : ℕ → Bytes → Option (List Bytes)
unfolding unescapes split
un_parts d t = unescapes (split d t)

-- what may be left off
abbrev pub opened : {A : Type 0} → (Bytes → Option A) → Option Bytes → Option (Option A)
opened f none = some none
opened f (some t) = f t >>= λ x. some (some x)

unfoldable pub un_port : Bytes → Option ℕ
unfolding value decimal
un_port t = let n : ℕ = value 10 t in cond (ltb n 65536 && same (decimal n) t) (some n) none

-- four labels that look like an IPv4 address are one
unfoldable pub un_host : List Bytes → Host Bytes
unfolding looks_ipv4
un_host ls = cond (looks_ipv4 ls) (address (map (value 10) ls)) (labels ls)

unfoldable pub un_name : Bytes → Option (Authority Bytes)
un_name t = un_parts dot (upto colon t) >>= λ ls. opened un_port (after colon t) >>= λ p. some (record { host = un_host ls; port = p })

-- after "[": the address, "]", and nothing more but a port
unfoldable pub un_bracket : Bytes → Option (Authority Bytes)
un_bracket t =
    after right_bracket t >>= λ r. cond (filled (upto colon r)) none (opened un_port (after colon r) >>= λ p.
    some (record { host = address (ipv6_bytes (upto right_bracket t)); port = p }))

unfoldable pub un_authority : Bytes → Option (Authority Bytes)
un_authority t = cond (starts left_bracket t) (un_bracket (tail t)) (un_name t)

unfoldable pub slashes : Bytes → Option Bytes
slashes [] = none
slashes (c ∷ []) = none
slashes (c ∷ d ∷ t) = cond (eqb c slash && eqb d slash) (some t) none

-- the CRI of a text, its path in normal form
unfoldable pub un_text : Bytes → Option Cri
un_text t =
    let u : Bytes = upto hash t in
    let m : Bytes = upto question u in
    after colon m >>= slashes >>= λ r.
    un_authority (upto slash r) >>= λ a.
    opened (un_parts slash) (after slash r) >>= λ ps.
    opened (un_parts ampersand) (after question u) >>= λ q.
    opened unescape (after hash t) >>= λ f.
    some (record { scheme = un_scheme (upto colon m); authority = a; path = normal_path (elements ps); query = q; fragment = f })
