-- RULES 6: the URI text of a CRI.
use Rattle.std.specs.Prelude.{ℕ, ◌+◌, ◌/◌, ◌%◌, Bool, not, cond, ◌&&◌, ◌||◌, List, [], ◌∷◌, ◌++◌, map, ltb, eqb}
use Rattle.std.proofs.Math.Option
use Rattle.std.proofs.Math.Option.{Option, none, some}
use Rattle.rules.specs.Bytes.{Bytes, ascii, dot, colon, slash, question, hash, ampersand, percent, member, join}
use Rattle.rules.specs.Model.{Scheme, number, name, Host, address, labels, Authority, Cri}
use Rattle.rules.specs.Rules.{lower, upper, digit, SchemeEntry, schemes, scheme_in}
use Rattle.rules.specs.Numeral.{decimal}
use Rattle.rules.specs.Address.{address_text}

-- ---- bytes that stand bare, and escapes

-- where a byte stands
pub data Class : Type 0 where
  Label Segment Parameter Fragment : Class

-- 6.3: letters, digits, "-._~" and "!$&'()*+,;="
abbrev pub plain : ℕ → Bool
plain b = lower b || upper b || digit b || member b (ascii "-._~!$&'()*+,;=")

-- 6.3: segments add ":" and "@"; parameters add "/" and "?" to that but lose "&"; fragments are as segments with "/" and "?"
unfoldable pub bare : Class → ℕ → Bool
bare Label b = plain b
bare Segment b = plain b || member b (ascii ":@")
bare Parameter b = (plain b || member b (ascii ":@/?")) && not (eqb b ampersand)
bare Fragment b = plain b || member b (ascii ":@/?")

-- "0" to "9", "A" to "F"
unfoldable pub hex_digit : ℕ → ℕ
hex_digit n = cond (ltb n 10) (0x30 + n) (0x37 + n)

-- 6.4: every byte that is not bare is "%" and two upper-case hex digits
unfoldable pub escape_byte : Class → ℕ → Bytes
escape_byte k b = cond (bare k b) (b ∷ []) (percent ∷ hex_digit (b / 16) ∷ hex_digit (b % 16) ∷ [])

-- the bytes of a text, each bare or escaped
unfoldable pub escape : Class → Bytes → Bytes
escape k [] = []
escape k (b ∷ bs) = escape_byte k b ++ escape k bs

-- ---- 6.1: the text

-- a mark and what follows it, where that is set
unfoldable pub marked : ℕ → Option Bytes → Bytes
marked d none = []
marked d (some t) = d ∷ t

-- the name of a table's entry
abbrev pub entry_name : Option SchemeEntry → Bytes
entry_name none = []
entry_name (some e) = e.name

-- 6.2: a scheme number prints as its name
unfoldable pub scheme_text : Scheme Bytes → Bytes
scheme_text (number n) = entry_name (scheme_in schemes n)
scheme_text (name t) = t

-- 6.2: labels are joined by "."
unfoldable pub host_text : Host Bytes → Bytes
host_text (address bs) = address_text bs
host_text (labels ls) = join dot (map (escape Label) ls)

-- ":" and decimal port if present
unfoldable pub authority_text : Authority Bytes → Bytes
authority_text a = host_text a.host ++ marked colon (Option.map decimal a.port)

-- the segments joined by "/"
unfoldable pub path_text : List Bytes → Bytes
path_text ts = join slash (map (escape Segment) ts)

-- parameters joined by "&"
unfoldable pub query_text : List Bytes → Bytes
query_text ts = join ampersand (map (escape Parameter) ts)

-- scheme name, "://", authority, "/", path
unfoldable pub hierarchy_text : Cri → Bytes
hierarchy_text c = scheme_text c.scheme ++ (colon ∷ slash ∷ slash ∷ (authority_text c.authority ++ (slash ∷ path_text c.path)))

-- then "?" and the query if set, "#" and the fragment if set
unfoldable pub uri_text : Cri → Bytes
uri_text c =
    hierarchy_text c
    ++ marked question (Option.map query_text c.query)
    ++ marked hash (Option.map (escape Fragment) c.fragment)
