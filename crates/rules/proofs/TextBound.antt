-- The bound: the text of an absolute input of n bytes has at most 3n + 13 bytes, for any limits.
use Prim.Native.Nat.{ℕ, suc, ◌+◌, ◌-◌, ◌*◌, ◌≤◌}
use native.Mathlib.Omega.{arith}
use mathlib.Core.Path.{◌≡◌, refl}
use mathlib.Core.Option
use mathlib.Core.Option.{Option, none, some}
use mathlib.Core.List.{List, [], ◌∷◌, ◌++◌, map}
use lib.ListN.{length, length-append}
use lib.Dec.{leb, ltb}
use borrow.Author.Tests.{leb-true, ltb-true, ltb-false}
use Rattle.rules.specs.Bytes.{Bytes, Octets, dot, colon, slash, question, hash, ampersand, all, concat, join}
use Rattle.rules.specs.Result.{ok}
use Rattle.rules.specs.Model.{Scheme, number, name, Host, address, labels, Authority, Limits, Cri, elements}
use Rattle.rules.specs.Rules.{schemes, scheme_in, known_scheme}
use Rattle.rules.specs.Head.{Number, Negative, ByteString, head_bytes}
use Rattle.rules.specs.Meaning.{read_absolute}
use Rattle.rules.specs.Encode.{text_item, texts_item, or_null, tail_items, port_items, host_items, authority_item, scheme_item, with_opening, encode}
use Rattle.rules.specs.Valid.{GoodAddress, GoodHost, GoodScheme}
use Rattle.rules.specs.Numeral.{decimal}
use Rattle.rules.specs.Address.{ipv4_text, ipv6_text, right_bracket, address_text}
use Rattle.rules.specs.Text.{Class, Label, Segment, Parameter, Fragment, escape, marked, entry_name, scheme_text, host_text, authority_text, path_text, query_text, hierarchy_text, uri_text}
use Rattle.rules.proofs.Tools.{by_test, concat_append}
use Rattle.rules.proofs.Heads.{head_some, head_two}
use Rattle.rules.proofs.Openings.{of_schemes}
use Rattle.rules.proofs.RowLengths.{text_length, array_length}
use Rattle.rules.proofs.Absolutes.{with_path, GoodCri, good_read, EncodedAs, encoded_as}
use Rattle.rules.proofs.Escapes.{escape_length}
use Rattle.rules.proofs.Numerals.{decimal_length, decimal_two, decimal_three}
use Rattle.rules.proofs.Addresses.{by_size, ipv6_length}

-- ---- items

pub bytes_length : (t : Bytes) → length t + 1 ≤ length (concat (host_items (address t)))
unfolding host_items concat
bytes_length t = simp length-append (omega (arith, head_some ByteString (length t)))

-- an item's length, where what is unset is left off
abbrev pub item_length : {A : Type 0} → (A → Bytes) → Option A → ℕ
item_length f none = 0
item_length f (some a) = length (f a)

or_null_lem : {A : Type 0} (f : A → Bytes) (o : Option A) → item_length f o ≤ length (or_null f o)
unfolding or_null
or_null_lem f none = omega arith
or_null_lem f (some a) = omega arith

tail_items_lem : (p q : Option (List Bytes)) (f : Option Bytes) → item_length texts_item p + item_length texts_item q + item_length text_item f ≤ length (concat (tail_items p q f))
unfolding tail_items concat
tail_items_lem p q (some f) = simp length-append (omega (arith, or_null_lem texts_item p, or_null_lem texts_item q))
tail_items_lem p (some q) none = simp length-append (omega (arith, or_null_lem texts_item p))
tail_items_lem (some p) none none = simp length-append (omega arith)
tail_items_lem none none none = omega arith

authority_items_lem : (a : Authority Bytes) → length (concat (host_items a.host)) + length (concat (port_items a.port)) + 1 ≤ length (authority_item a)
unfolding authority_item
authority_items_lem a =
    let H : List Bytes = host_items a.host in
    let P : List Bytes = port_items a.port in
    rw length-append at (rw (concat_append H P) at (array_length (H ++ P)))

-- the items of a CRI's reference, and the heads of its two arrays
pub encode_items : (c : Cri) (p : Option (List Bytes))
    → length (scheme_item c.scheme) + length (concat (host_items c.authority.host)) + length (concat (port_items c.authority.port)) + item_length texts_item p + item_length texts_item c.query + item_length text_item c.fragment + 2
    ≤ length (encode (with_path c p))
unfolding encode with_opening or_null concat
encode_items c p =
    let every : List Bytes = scheme_item c.scheme ∷ authority_item c.authority ∷ tail_items p c.query c.fragment in
    omega (arith, simp length-append at (array_length every), authority_items_lem c.authority, tail_items_lem p c.query c.fragment)

join_length : (k : Class) (d : ℕ) (ps : List Bytes) → length (join d (map (escape k) ps)) ≤ 3 * length (concat (map text_item ps))
unfolding join concat
join_length k d [] = omega arith
join_length k d (p ∷ []) = simp length-append (omega (arith, escape_length k p, text_length p))
join_length k d (p ∷ q ∷ ps) =
    let ih : length (join d (map (escape k) (q ∷ ps))) ≤ 3 * length (concat (map text_item (q ∷ ps))) = join_length k d (q ∷ ps) in
    rw (length-append (escape k p) (d ∷ join d (map (escape k) (q ∷ ps))), length-append (text_item p) (concat (map text_item (q ∷ ps))))
    (omega (arith, escape_length k p, text_length p))

-- ---- scheme, host and port

scheme_length : (s : Scheme Bytes) → GoodScheme s → length (scheme_text s) ≤ 3 * length (scheme_item s) + 6
unfolding scheme_text scheme_item scheme_in schemes known_scheme all
scheme_length (number n) h =
    let l : length (entry_name (scheme_in schemes n)) ≤ 9 = leb-true _ _ (of_schemes (λ n. leb (length (entry_name (scheme_in schemes n))) 9) schemes refl n h) in
    omega (arith, head_some Negative n)
scheme_length (name t) h = omega (arith, text_length t)

pub ipv4_length : (bs : Bytes) → Octets bs → length (join dot (map decimal bs)) ≤ 4 * length bs - 1
unfolding join
ipv4_length [] h = omega arith
ipv4_length (b ∷ []) h = omega (arith, decimal_three b h.0)
ipv4_length (b ∷ a ∷ bs) h =
    rw (length-append (decimal b) (dot ∷ join dot (map decimal (a ∷ bs)))) (omega (arith, decimal_three b h.0, ipv4_length (a ∷ bs) h.1))

pub address_length : (bs : Bytes) → GoodAddress bs → length (address_text bs) ≤ 3 * (length bs + 1)
unfolding ipv4_text
address_length bs h =
    by_size (λ (t : Bytes). length t ≤ 3 * (length bs + 1)) bs h
    (λ e. omega (arith, ipv4_length bs h.octets))
    (λ e. rw (length-append (ipv6_text bs) (right_bracket ∷ [])) (omega (arith, ipv6_length bs e)))

host_length : (h : Host Bytes) → GoodHost h → length (host_text h) ≤ 3 * length (concat (host_items h))
unfolding host_text host_items concat
host_length (labels ls) h = join_length Label dot ls
host_length (address bs) h = omega (arith, bytes_length bs, address_length bs h)

port_length : (p : Option ℕ) → length (marked colon (Option.map decimal p)) ≤ 3 * length (concat (port_items p))
unfolding marked port_items concat
port_length none = omega arith
port_length (some n) =
    rw (length-append (head_bytes Number n) [])
    (by_test (λ t. (ltb n 24 ≡ t) → suc (length (decimal n)) ≤ 3 * (length (head_bytes Number n) + 0)) (ltb n 24)
    (λ e k. omega (arith, decimal_two n (ltb-true n 24 e), head_some Number n))
    (λ e k. omega (arith, decimal_length n, head_two Number n (ltb-false n 24 e))) refl)

-- ---- path, query and fragment

texts_length : (k : Class) (d : ℕ) (ps : List Bytes) → length (join d (map (escape k) ps)) + 3 ≤ 3 * length (texts_item ps)
unfolding texts_item
texts_length k d ps = omega (arith, join_length k d ps, array_length (map text_item ps))

path_length : (p : Option (List Bytes)) → length (path_text (elements p)) ≤ 3 * item_length texts_item p
unfolding path_text join
path_length none = omega arith
path_length (some ps) = omega (arith, texts_length Segment slash ps)

query_length : (q : Option (List Bytes)) → length (marked question (Option.map query_text q)) ≤ 3 * item_length texts_item q
unfolding marked query_text
query_length none = omega arith
query_length (some ps) = omega (arith, texts_length Parameter ampersand ps)

fragment_length : (f : Option Bytes) → length (marked hash (Option.map (escape Fragment) f)) ≤ 3 * item_length text_item f
unfolding marked
fragment_length none = omega arith
fragment_length (some f) = omega (arith, escape_length Fragment f, text_length f)

-- ---- the whole

pub cri_bound : (c : Cri) (p : Option (List Bytes)) → elements p ≡ c.path → GoodCri c
    → length (uri_text c) ≤ 3 * length (encode (with_path c p)) + 13
unfolding uri_text hierarchy_text authority_text
cri_bound c p e g =
    rw (← e) (simp length-append
    (omega (arith, encode_items c p, scheme_length c.scheme g.scheme, host_length c.authority.host g.authority.host, port_length c.authority.port, path_length p, query_length c.query, fragment_length c.fragment)))

pub read_bound : (lim : Limits) (bs : Bytes) (c : Cri) → Octets bs → read_absolute lim bs ≡ ok c → length (uri_text c) ≤ 3 * length bs + 13
read_bound lim bs c h e =
    let r : EncodedAs bs c = encoded_as lim bs c h e in
    rw r.bytes at (cri_bound c r.path r.is (good_read lim bs c h e))
