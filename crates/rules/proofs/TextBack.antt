-- The text of a valid CRI reads as the CRI, its path in normal form. So two have one text exactly when they are the same.
use mathlib.Core.Logic.{◌↔◌}
use mathlib.Core.Path.{◌≡◌, refl, sym, ap, ap₂, ◌∙◌}
use Prim.Native.Nat.{ℕ, ◌≤◌, ◌<◌}
use native.Mathlib.Omega.{arith}
use mathlib.Core.Bool.{Bool, true, false, not, ◌&&◌}
use mathlib.Core.Option
use mathlib.Core.Option.{Option, none, some}
use mathlib.Core.List.{List, [], ◌∷◌, ◌++◌, map, append_assoc}
use lib.ListN.{length, length-map}
use lib.Dec.{leb, eqb}
use borrow.Author.Tests.{eqb-true, lt-ltb, not-true}
use Rattle.rules.specs.Bytes.{Bytes, Each, Octets, byte, ascii, dot, colon, slash, question, hash, ampersand, within, all, same, filled, starts, join}
use Rattle.rules.specs.Model.{Scheme, number, name, Host, address, labels, Authority, Cri, normal_path, normal, Same}
use Rattle.rules.specs.Rules.{label, segment, parameter, fragment_text, SchemeEntry, schemes, scheme_in, known_scheme, scheme_byte, starts_lower, scheme_rule, label_byte, label_rule, octet, looks_ipv4, name_rule}
use Rattle.rules.specs.Valid.{If, Good, GoodTexts, GoodHost, GoodAuthority, GoodScheme}
use Rattle.rules.specs.Numeral.{digit_byte, decimal}
use Rattle.rules.specs.Address.{ipv4_text, ipv6_text, left_bracket, right_bracket}
use Rattle.rules.specs.Text.{Class, Label, Segment, Parameter, Fragment, bare, hex_digit, escape, marked, entry_name, scheme_text, host_text, authority_text, path_text, query_text, hierarchy_text, uri_text}
use Rattle.rules.proofs.Tools.{and_left, and_right, All, each_append, each_map, each_all, all_octets, all_below, all_of, same_refl, some_filled, within_low}
use Rattle.rules.proofs.Openings.{of_schemes}
use Rattle.rules.proofs.Utf8Bytes.{good_octets, goods_octets}
use Rattle.rules.proofs.Absolutes.{GoodCri}
use Rattle.rules.proofs.Escapes.{lacks, lacks_of, all_lacks, unescape, unescape_escape, escape_all, escapes_lack, escape_bare, Free, upto_cut, after_cut, free, fill, split_join, join_all}
use Rattle.rules.proofs.Numerals.{decimal_value, decimal_all, decimals_all, decimals_values, decimal_octet}
use Rattle.rules.proofs.Addresses.{by_size, ipv6_back, ipv6_all, six_free}
use Rattle.rules.proofs.UnText.{number_in, un_scheme, unescapes, un_parts, opened, un_port, un_host, un_name, un_bracket, un_authority, slashes, un_text}

-- ---- parts: escaped, joined, split and unescaped

unescapes_escapes : (k : Class) (ps : List Bytes) → Each Octets ps → unescapes (map (escape k) ps) ≡ some ps
unfolding unescapes
unescapes_escapes k [] h = refl
unescapes_escapes k (p ∷ ps) h = rw (unescape_escape k p h.0, unescapes_escapes k ps h.1)

unescapes_fill : (k : Class) (ps : List Bytes) → Each Octets ps → unescapes (fill (map (escape k) ps)) ≡ some (fill ps)
unfolding unescapes
unescapes_fill k [] h = refl
unescapes_fill k (p ∷ ps) h = unescapes_escapes k (p ∷ ps) h

un_parts_join : (k : Class) (d : ℕ) (ps : List Bytes) → Each Octets ps → Each (Free d) (map (escape k) ps)
    → un_parts d (join d (map (escape k) ps)) ≡ some (fill ps)
unfolding un_parts
un_parts_join k d ps h f = rw (split_join d (map (escape k) ps) f) (unescapes_fill k ps h)

module _ (ds : Bytes) (d : ℕ) (z : lacks ds d ≡ false) where
  lack_free : (xs : Bytes) → All (lacks ds) xs → Free d xs
  lack_free xs h = free (lacks ds) d z xs h

  lacks_free : (ps : List Bytes) → Each (All (lacks ds)) ps → Each (Free d) ps
  lacks_free ps h = each_map lack_free ps h

all_of_lem : (p : ℕ → Bool) (xs : Bytes) → all_of p xs ≡ true → All p xs
all_of_lem p [] h = tt
all_of_lem p (x ∷ xs) h = (and_left (p x) _ h, all_of_lem p xs (and_right (p x) _ h))

-- ---- scheme

back_to : ℕ → Option ℕ → Bool
back_to n none = false
back_to n (some m) = eqb m n

back_eq : (n : ℕ) (o : Option ℕ) → back_to n o ≡ true → o ≡ some n
unfolding back_to
back_eq n none h = cc
back_eq n (some m) h = ap some (eqb-true m n h)

-- a text that is none of the names has no number
no_number : (es : List SchemeEntry) (t : Bytes) → all (λ (e : SchemeEntry). not (same t e.name)) es ≡ true → number_in es t ≡ none
unfolding all number_in
no_number [] t h = refl
no_number (e ∷ es) t h = rw (not-true (same t e.name) (and_left _ _ h), no_number es t (and_right (not (same t e.name)) _ h))

scheme_rule_lem : (t : Bytes) → scheme_rule t ≡ true → (all scheme_byte t ≡ true) × (all (λ (e : SchemeEntry). not (same t e.name)) schemes ≡ true)
unfolding scheme_rule
scheme_rule_lem t e =
    let r = and_right (starts_lower t) (all scheme_byte t && all (λ (e : SchemeEntry). not (same t e.name)) schemes) e in
    (and_left (all scheme_byte t) _ r, and_right (all scheme_byte t) _ r)

scheme_back : (s : Scheme Bytes) → GoodScheme s → un_scheme (scheme_text s) ≡ s
unfolding un_scheme scheme_text back_to number_in scheme_in schemes all known_scheme
scheme_back (number n) h =
    rw (back_eq n (number_in schemes (entry_name (scheme_in schemes n))) (of_schemes (λ n. back_to n (number_in schemes (entry_name (scheme_in schemes n)))) schemes refl n h))
scheme_back (name t) h = rw (no_number schemes t (scheme_rule_lem t h.rule).1)

abbrev scheme_lack : Bytes
scheme_lack = ascii ":?#"

scheme_lacks : (s : Scheme Bytes) → GoodScheme s → All (lacks scheme_lack) (scheme_text s)
unfolding scheme_text scheme_byte scheme_in schemes all known_scheme
scheme_lacks (number n) h =
    all_of_lem (lacks scheme_lack) (entry_name (scheme_in schemes n)) (of_schemes (λ n. all_of (lacks scheme_lack) (entry_name (scheme_in schemes n))) schemes refl n h)
scheme_lacks (name t) h = all_lacks scheme_byte scheme_lack refl t (each_all scheme_byte t (scheme_rule_lem t h.rule).0)

-- ---- host and port

port_back : (p : Option ℕ) → If (λ n. n ≤ 65535) p → opened un_port (Option.map decimal p) ≡ some p
unfolding un_port
port_back none h = refl
port_back (some n) h =
    let l : n < 65536 = omega arith in
    rw (decimal_value n l, lt-ltb n 65536 l, same_refl (decimal n))

port_all : (q : ℕ → Bool) → q colon ≡ true → all_below 10 (λ n. q (digit_byte n)) ≡ true → (p : Option ℕ) → All q (marked colon (Option.map decimal p))
unfolding marked
port_all q z x none = tt
port_all q z x (some n) = (z, decimal_all q x n)

abbrev host_lack : Bytes
host_lack = ascii ":[/?#"

abbrev name_lack : Bytes
name_lack = dot ∷ host_lack

abbrev path_lack : Bytes
path_lack = ascii "/?#"

abbrev tail_lack : Bytes
tail_lack = ascii "?#"

starts_not : (d : ℕ) (xs : Bytes) (o : Option Bytes) → eqb colon d ≡ false → Free d xs → starts d (xs ++ marked colon o) ≡ false
unfolding marked
starts_not d [] none z h = refl
starts_not d [] (some x) z h = z
starts_not d (c ∷ xs) o z h = h.0

pub fill_some : (ps : List Bytes) → filled ps ≡ true → fill ps ≡ ps
fill_some [] h = cc
fill_some (p ∷ ps) h = refl

pub counted_filled : (high : ℕ) (ls : List Bytes) → within 1 high (length ls) ≡ true → filled ls ≡ true
counted_filled high ls h = some_filled ls (within_low 1 high (length ls) h)

-- a name: labels, and also the four decimals of an IPv4 address
module _ (ls : List Bytes) (few : filled ls ≡ true) (bytes : Each Octets ls) (lack : Each (All (lacks name_lack)) (map (escape Label) ls)) where
  name_lacks : All (lacks host_lack) (join dot (map (escape Label) ls))
  name_lacks = join_all (lacks host_lack) dot refl (map (escape Label) ls) (each_map (all_lacks (lacks name_lack) host_lack refl) (map (escape Label) ls) lack)

  name_back : (p : Option ℕ) → If (λ n. n ≤ 65535) p
      → un_authority (join dot (map (escape Label) ls) ++ marked colon (Option.map decimal p)) ≡ some (record { host = un_host ls; port = p })
  unfolding un_authority un_name
  name_back p h =
      let t : Bytes = join dot (map (escape Label) ls) in
      let fc : Free colon t = lack_free host_lack colon refl t name_lacks in
      let fb : Free left_bracket t = lack_free host_lack left_bracket refl t name_lacks in
      rw (
        starts_not left_bracket t (Option.map decimal p) refl fb,
        upto_cut colon t (Option.map decimal p) fc,
        after_cut colon t (Option.map decimal p) fc,
        un_parts_join Label dot ls bytes (lacks_free name_lack dot refl (map (escape Label) ls) lack),
        fill_some ls few,
        port_back p h,
      )

  name_all : (p : Option ℕ) → All (lacks path_lack) (join dot (map (escape Label) ls) ++ marked colon (Option.map decimal p))
  unfolding digit_byte
  name_all p =
      each_append _ (join dot (map (escape Label) ls)) _ (all_lacks (lacks host_lack) path_lack refl (join dot (map (escape Label) ls)) name_lacks) (port_all (lacks path_lack) refl refl p)

-- an address in brackets
module _ (bs : Bytes) (e : length bs ≡ 16) (h : Octets bs) where
  six_back : (p : Option ℕ) → If (λ n. n ≤ 65535) p
      → un_authority (left_bracket ∷ (ipv6_text bs ++ (right_bracket ∷ [])) ++ marked colon (Option.map decimal p)) ≡ some (record { host = address bs; port = p })
  unfolding un_authority digit_byte marked un_bracket
  six_back p k =
      let o : Bytes = marked colon (Option.map decimal p) in
      let f : Free right_bracket (ipv6_text bs) = six_free bs in
      rw (
        append_assoc (ipv6_text bs) (right_bracket ∷ []) o,
        after_cut right_bracket (ipv6_text bs) (some o) f,
        upto_cut right_bracket (ipv6_text bs) (some o) f,
        upto_cut colon [] (Option.map decimal p) tt,
        after_cut colon [] (Option.map decimal p) tt,
        ipv6_back bs e h,
        port_back p k,
      )

  six_all : (p : Option ℕ) → All (lacks path_lack) (left_bracket ∷ (ipv6_text bs ++ (right_bracket ∷ [])) ++ marked colon (Option.map decimal p))
  unfolding digit_byte
  six_all p =
      let q : ℕ → Bool = lacks path_lack in
      (refl, each_append _ (ipv6_text bs ++ (right_bracket ∷ [])) _ (each_append _ (ipv6_text bs) _ (ipv6_all q refl refl refl bs) (refl, tt)) (port_all q refl refl p))

-- IPv4: its decimals are labels that need no escape
decimals_bare : (bs : Bytes) → map (escape Label) (map decimal bs) ≡ map decimal bs
unfolding bare digit_byte
decimals_bare [] = refl
decimals_bare (b ∷ bs) = ap₂ (λ (x : Bytes) (xs : List Bytes). x ∷ xs) (escape_bare Label (decimal b) (decimal_all (bare Label) refl b)) (decimals_bare bs)

decimals_bytes : (bs : Bytes) → Each Octets (map decimal bs)
unfolding digit_byte
decimals_bytes bs = each_map all_octets (map decimal bs) (decimals_all byte refl bs)

decimals_octets : (bs : Bytes) → Octets bs → all octet (map decimal bs) ≡ true
unfolding all
decimals_octets [] h = refl
decimals_octets (b ∷ bs) h = rw (decimal_octet b h.0, decimals_octets bs h.1)

pub decimals_host : (bs : Bytes) → length bs ≡ 4 → Octets bs → un_host (map decimal bs) ≡ address bs
unfolding un_host
decimals_host bs e h = rw (length-map bs decimal, e, decimals_octets bs h, decimals_values bs h)

pub decimals_some : (bs : Bytes) → length bs ≡ 4 → filled (map decimal bs) ≡ true
decimals_some bs e = some_filled (map decimal bs) (omega (arith, length-map bs decimal))

-- labels
label_lacks : (l : Bytes) → Good label l → All (lacks name_lack) (escape Label l)
unfolding bare hex_digit label_rule label_byte
label_lacks l g =
    escape_all Label (lacks name_lack) refl refl l
    (both l (good_octets label l g) (each_all label_byte l g.rule))
  where
    both : (l : Bytes) → Octets l → Each (λ b. label_byte b ≡ true) l → Each (λ b. (b < 256) × (bare Label b ≡ true → lacks name_lack b ≡ true)) l
    both [] h k = tt
    both (b ∷ l) h k =
        ((h.0, λ e. rw (not-true (eqb b dot) (and_left _ _ k.0)) (lacks_of (bare Label) host_lack refl b e)), both l h.1 k.1)

labels_lack : (ls : List Bytes) → Each (Good label) ls → Each (All (lacks name_lack)) (map (escape Label) ls)
labels_lack [] h = tt
labels_lack (l ∷ ls) h = (label_lacks l h.0, labels_lack ls h.1)

pub labels_host_lem : (ls : List Bytes) → name_rule ls ≡ true → un_host ls ≡ labels ls
unfolding un_host name_rule
labels_host_lem ls h = rw (not-true (looks_ipv4 ls) (and_right (leb (length (join dot ls)) 255) _ h))

-- the text reads as the authority, and has no delimiter of what follows it
abbrev Back : Bytes → Authority Bytes → Type 0
Back t a = (un_authority t ≡ some a) × All (lacks path_lack) t

four_back : (bs : Bytes) (p : Option ℕ) → length bs ≡ 4 → Octets bs → If (λ n. n ≤ 65535) p → Back (join dot (map decimal bs) ++ marked colon (Option.map decimal p)) (record { host = address bs; port = p })
unfolding digit_byte
four_back bs p e h k =
    let lack : Each (All (lacks name_lack)) (map (escape Label) (map decimal bs)) = rw (decimals_bare bs) (decimals_all (lacks name_lack) refl bs) in
    let few : filled (map decimal bs) ≡ true = decimals_some bs e in
    let bytes : Each Octets (map decimal bs) = decimals_bytes bs in (
      rw (decimals_bare bs, decimals_host bs e h) at (name_back (map decimal bs) few bytes lack p k),
      rw (decimals_bare bs) at (name_all (map decimal bs) few bytes lack p),
    )

host_back : (h : Host Bytes) (p : Option ℕ) → GoodHost h → If (λ n. n ≤ 65535) p → Back (host_text h ++ marked colon (Option.map decimal p)) (record { host = h; port = p })
unfolding host_text ipv4_text
host_back (labels ls) p h k =
    let lack : Each (All (lacks name_lack)) (map (escape Label) ls) = labels_lack ls h.texts.each in
    let bytes : Each Octets ls = goods_octets label ls h.texts.each in
    let few : filled ls ≡ true = counted_filled 8 ls h.texts.count in
    (rw (labels_host_lem ls h.name) at (name_back ls few bytes lack p k), name_all ls few bytes lack p)
host_back (address bs) p h k =
    by_size (λ t. Back (t ++ marked colon (Option.map decimal p)) (record { host = address bs; port = p })) bs h
    (λ e. four_back bs p e h.octets k)
    (λ e. (six_back bs e h.octets p k, six_all bs e h.octets p))

authority_back : (a : Authority Bytes) → GoodAuthority a → Back (authority_text a) a
unfolding authority_text
authority_back a g = host_back a.host a.port g.host g.port

-- ---- path, query and fragment

segments_lack : (ps : List Bytes) → Each Octets ps → Each (All (lacks path_lack)) (map (escape Segment) ps)
unfolding bare hex_digit
segments_lack ps h = escapes_lack Segment path_lack refl refl refl ps h

path_back : (ps : List Bytes) → Each Octets ps → un_parts slash (path_text ps) ≡ some (fill ps)
unfolding path_text
path_back ps h = un_parts_join Segment slash ps h (lacks_free path_lack slash refl (map (escape Segment) ps) (segments_lack ps h))

path_all : (ps : List Bytes) → Each Octets ps → All (lacks tail_lack) (path_text ps)
unfolding path_text
path_all ps h =
    join_all (lacks tail_lack) slash refl (map (escape Segment) ps)
    (each_map (all_lacks (lacks path_lack) tail_lack refl) (map (escape Segment) ps) (segments_lack ps h))

normal_fill : (ps : List Bytes) → normal_path (fill ps) ≡ normal_path ps
unfolding normal_path
normal_fill [] = refl
normal_fill (p ∷ ps) = refl

abbrev query_lack : Bytes
query_lack = ascii "&#"

parameters_lack : (ps : List Bytes) → Each Octets ps → Each (All (lacks query_lack)) (map (escape Parameter) ps)
unfolding bare hex_digit
parameters_lack ps h = escapes_lack Parameter query_lack refl refl refl ps h

abbrev Parameters : List Bytes → Type 0
Parameters ps = (filled ps ≡ true) × Each Octets ps

parameters_octets : (q : Option (List Bytes)) → If (GoodTexts parameter 1 16) q → If Parameters q
parameters_octets none g = tt
parameters_octets (some ps) g = (counted_filled 16 ps g.count, goods_octets parameter ps g.each)

fragment_octets : (f : Option Bytes) → If (Good fragment_text) f → If Octets f
fragment_octets none g = tt
fragment_octets (some t) g = good_octets fragment_text t g

query_back : (q : Option (List Bytes)) → If Parameters q → opened (un_parts ampersand) (Option.map query_text q) ≡ some q
unfolding query_text
query_back none h = refl
query_back (some ps) h =
    rw (un_parts_join Parameter ampersand ps h.1 (lacks_free query_lack ampersand refl (map (escape Parameter) ps) (parameters_lack ps h.1)), fill_some ps h.0)

query_all : (q : Option (List Bytes)) → If Parameters q → All (lacks (hash ∷ [])) (marked question (Option.map query_text q))
unfolding marked query_text
query_all none h = tt
query_all (some ps) h = (
  refl,
  join_all (lacks (hash ∷ [])) ampersand refl (map (escape Parameter) ps)
      (each_map (all_lacks (lacks query_lack) (hash ∷ []) refl) (map (escape Parameter) ps) (parameters_lack ps h.1)),
)

fragment_back : (f : Option Bytes) → If Octets f → opened unescape (Option.map (escape Fragment) f) ≡ some f
fragment_back none h = refl
fragment_back (some x) h = rw (unescape_escape Fragment x h)

-- ---- the whole

hierarchy_all : (c : Cri) → GoodCri c → All (lacks tail_lack) (hierarchy_text c)
unfolding hierarchy_text
hierarchy_all c v =
    let A : Bytes = authority_text c.authority in
    each_append _ (scheme_text c.scheme) _ (all_lacks (lacks scheme_lack) tail_lack refl (scheme_text c.scheme) (scheme_lacks c.scheme v.scheme)) (
      refl,
      (
        refl,
        (
          refl,
          each_append _ A _ (all_lacks (lacks path_lack) tail_lack refl A (authority_back c.authority v.authority).1)
              (refl, path_all c.path (goods_octets segment c.path v.path)),
        ),
      ),
    )

pub text_back : (c : Cri) → GoodCri c → un_text (uri_text c) ≡ some (normal c)
unfolding un_text uri_text normal hierarchy_text marked slashes
text_back c v =
    let S : Bytes = scheme_text c.scheme in
    let A : Bytes = authority_text c.authority in
    let P : Bytes = path_text c.path in
    let M : Bytes = hierarchy_text c in
    let q : Option Bytes = Option.map query_text c.query in
    let f : Option Bytes = Option.map (escape Fragment) c.fragment in
    let a = authority_back c.authority v.authority in
    let m-all : All (lacks tail_lack) M = hierarchy_all c v in
    let fh : Free hash (M ++ marked question q) =
    each_append _ M _ (lack_free tail_lack hash refl M m-all) (lack_free (hash ∷ []) hash refl (marked question q) (query_all c.query (parameters_octets c.query v.query))) in
    let fq : Free question M = lack_free tail_lack question refl M m-all in
    let fc : Free colon S = lack_free scheme_lack colon refl S (scheme_lacks c.scheme v.scheme) in
    let fs : Free slash A = lack_free path_lack slash refl A a.1 in
    let R : Bytes = A ++ (slash ∷ P) in
    rw (
      upto_cut hash (M ++ marked question q) f fh,
      after_cut hash (M ++ marked question q) f fh,
      upto_cut question M q fq,
      after_cut question M q fq,
      upto_cut colon S (some (slash ∷ slash ∷ R)) fc,
      after_cut colon S (some (slash ∷ slash ∷ R)) fc,
      upto_cut slash A (some P) fs,
      after_cut slash A (some P) fs,
      a.0,
      path_back c.path (goods_octets segment c.path v.path),
      query_back c.query (parameters_octets c.query v.query),
      fragment_back c.fragment (fragment_octets c.fragment v.fragment),
      scheme_back c.scheme v.scheme,
      normal_fill c.path,
    )

-- ---- demand 3, over the definitions

path_normal : (ps : List Bytes) → path_text (normal_path ps) ≡ path_text ps
unfolding path_text normal_path join escape
path_normal [] = refl
path_normal ([] ∷ []) = refl
path_normal ([] ∷ (q ∷ ps)) = refl
path_normal ((c ∷ p) ∷ ps) = refl

pub text_normal : (c : Cri) → uri_text (normal c) ≡ uri_text c
unfolding uri_text normal hierarchy_text
text_normal c = rw (path_normal c.path)

pub same_normal : (a b : Cri) → Same a b ↔ (normal a ≡ normal b)
unfolding normal
same_normal a b = (
  λ s i. record {
    scheme = s.scheme i;
    authority = record { host = s.host i; port = s.port i };
    path = s.path i;
    query = s.query i;
    fragment = s.fragment i;
  },
  λ e. record {
    scheme = ap (λ (c : Cri). c.scheme) e;
    host = ap (λ (c : Cri). c.authority.host) e;
    port = ap (λ (c : Cri). c.authority.port) e;
    path = ap (λ (c : Cri). c.path) e;
    query = ap (λ (c : Cri). c.query) e;
    fragment = ap (λ (c : Cri). c.fragment) e;
  },
)

pub text_same : (a b : Cri) → GoodCri a → GoodCri b → (uri_text a ≡ uri_text b) ↔ Same a b
text_same a b va vb = (
  λ e. let x : un_text (uri_text a) ≡ some (normal a) = text_back a va in
      let y : un_text (uri_text b) ≡ some (normal b) = text_back b vb in
      let n : normal a ≡ normal b = cc in (same_normal a b).1 n,
  λ s. sym (text_normal a) ∙ ap uri_text ((same_normal a b).0 s) ∙ text_normal b,
)
