-- CoAP options: what is coded is read back, only codings are read, and the options of a CRI that was read can be coded.
use Prim.Native.Nat.{ℕ, zero, suc, ◌+◌, ◌-◌, ◌*◌, ◌/◌, ◌%◌, ◌≤◌, ◌<◌}
use native.Mathlib.Omega.{arith}
use mathlib.Core.Path.{◌≡◌, refl, sym, ap, ap₂, ◌∙◌, subst}
use mathlib.Core.Bool.{Bool, true, false, ◌&&◌}
use mathlib.Core.Option.{Option, none, some, get_or, bind}
use mathlib.Core.List.{List, [], ◌∷◌, ◌++◌, map, append_assoc, append-nil}
use lib.ListN.{length, take, drop, length-append, take-append-drop}
use lib.Seq.{length-take-le, take_at, drop_at}
use lib.Dec.{leb, ltb, eqb}
use borrow.Author.Tests.{eqb-true, leb-true, le-leb, lt-ltb, le-ltb}
use Rattle.rules.specs.Bytes.{Bytes, Each, Octets, byte, dot, all, same, join}
use Rattle.rules.specs.Result.{Res, refused, ok, COAP, DEST}
use Rattle.rules.specs.Model.{Scheme, number, name, Host, address, labels, Limits, Cri, elements, normal_path}
use Rattle.rules.specs.Rules.{Sort, SchemeEntry, schemes, scheme_in, label, segment, parameter, name_rule}
use Rattle.rules.specs.Meaning.{read_absolute}
use Rattle.rules.specs.Valid.{If, Good, GoodTexts, GoodAddress, GoodHost}
use Rattle.rules.specs.Numeral.{digit_byte}
use Rattle.rules.specs.Address.{ipv4_text, ipv6_text, right_bracket, address_text}
use Rattle.rules.specs.Options.{CoapOption, option, uri_host, port_bytes, uri_port, options, coap_scheme, nibble, extension, option_bytes, options_from, Extended, reads, one_byte_more, two_bytes_more, extended, OptionAt, option_at, read_option, read_options_from, read_options, Rising, GoodOption, Codable}
use Rattle.rules.specs.Calls.{absent, options_call}
use Rattle.rules.specs.Promises.{Requested}
use Rattle.rules.proofs.Tools.{tests, and_left, and_right, never, cond_split, within_high, each_append, each_map, each_all, each_take, each_drop, all_octets, octets_all}
use Rattle.rules.proofs.Steps.{none_some, Ok, no!, ok!, ok_bind, ok_need, ok_given}
use Rattle.rules.proofs.Authorities.{address_most}
use Rattle.rules.proofs.Absolutes.{GoodCri, good_read}
use Rattle.rules.proofs.Utf8Bytes.{good_octets, goods_octets}
use Rattle.rules.proofs.Escapes.{join_all}
use Rattle.rules.proofs.Addresses.{ipv4_all, ipv6_all}
use Rattle.rules.proofs.TextBound.{address_length}
use Rattle.rules.proofs.Resolving.{normal_each}

-- ---- one number: a delta or a length

-- it is read from its nibble and its extension
pub extended_back : (n : ℕ) (rest : Bytes) → extended (nibble n) (extension n ++ rest) ≡ reads n rest
unfolding extended nibble extension one_byte_more two_bytes_more
extended_back n rest = go (ltb n 13) (ltb n 269) refl refl
  where
    go : (s t : Bool) → ltb n 13 ≡ s → ltb n 269 ≡ t → extended (nibble n) (extension n ++ rest) ≡ reads n rest
    go true t e d = rw (e, e)
    go false true e d = rw (e, d) (ap (λ (m : ℕ). reads m rest) (omega tests))
    go false false e d = rw (e, d) (ap (λ (m : ℕ). reads m rest) (omega tests))

-- 15 is never written
pub nibble_below : (n : ℕ) → nibble n < 15
unfolding nibble
nibble_below n = cond_split (λ k. k < 15) (ltb n 13) (λ e. omega tests) (λ e. cond_split (λ k. k < 15) (ltb n 269) (λ d. omega arith) (λ d. omega arith))

-- one byte or two, or none
pub extension_length : (n : ℕ) → length (extension n) ≤ 2
unfolding extension
extension_length n = cond_split (λ (x : Bytes). length x ≤ 2) (ltb n 13) (λ e. omega arith) (λ e. cond_split (λ (x : Bytes). length x ≤ 2) (ltb n 269) (λ d. omega arith) (λ d. omega arith))

-- up to 65804 its extension is made of bytes
pub extension_octets : (n : ℕ) → n ≤ 65804 → Octets (extension n)
unfolding extension
extension_octets n h = cond_split Octets (ltb n 13) (λ e. tt) (λ e. cond_split Octets (ltb n 269) (λ d. (omega tests, tt)) (λ d. (omega tests, (omega tests, tt))))

-- what is read from a nibble and bytes stands there as it is coded
pub record IsExtended (k : ℕ) (bs : Bytes) (x : Extended) : Type 0 where
  pub nibbled : k ≡ nibble x.number
  pub bytes : bs ≡ extension x.number ++ x.rest
  pub size : x.number ≤ 65804
  pub octets : Octets x.rest

-- the three forms: in the nibble, in one byte more, in two
small_number : (n : ℕ) → ltb n 13 ≡ true → (nibble n ≡ n) × (extension n ≡ [])
unfolding nibble extension
small_number n e = (rw e, rw e)

one_number : (a : ℕ) → a < 256 → (nibble (a + 13) ≡ 13) × (extension (a + 13) ≡ a ∷ [])
unfolding nibble extension
one_number a h =
    let z : ltb (a + 13) 13 ≡ false = le-ltb (a + 13) 13 (omega arith) in
    let y : ltb (a + 13) 269 ≡ true = lt-ltb (a + 13) 269 (omega arith) in
    let x : a + 13 - 13 ≡ a = omega arith in
    (rw (z, y), rw (z, y, x))

two_number : (a b : ℕ) → b < 256 → (nibble (a * 256 + b + 269) ≡ 14) × (extension (a * 256 + b + 269) ≡ a ∷ b ∷ [])
unfolding nibble extension
two_number a b h =
    let n : ℕ = a * 256 + b + 269 in
    let z : ltb n 13 ≡ false = le-ltb n 13 (omega arith) in
    let y : ltb n 269 ≡ false = le-ltb n 269 (omega arith) in
    let x : (n - 269) / 256 ≡ a = omega arith in
    let w : (n - 269) % 256 ≡ b = omega arith in
    (rw (z, y), rw (z, y, x, w))

one : (k : ℕ) (bs : Bytes) → k ≡ 13 → Octets bs → If (IsExtended k bs) (one_byte_more bs)
unfolding one_byte_more
one k [] e h = tt
one k (a ∷ bs) e h =
    let n = one_number a h.0 in
    record { nibbled = e ∙ sym n.0; bytes = rw n.1; size = omega arith; octets = h.1 }

two : (k : ℕ) (bs : Bytes) → k ≡ 14 → Octets bs → If (IsExtended k bs) (two_bytes_more bs)
unfolding two_bytes_more
two k [] e h = tt
two k (a ∷ []) e h = tt
two k (a ∷ b ∷ bs) e h =
    let n = two_number a b h.1.0 in
    record { nibbled = e ∙ sym n.0; bytes = rw n.1; size = omega arith; octets = h.1.1 }

-- in each form
pub is_extended : (k : ℕ) (bs : Bytes) → Octets bs → If (IsExtended k bs) (extended k bs)
unfolding extended
is_extended k bs h =
    cond_split (If (IsExtended k bs)) (ltb k 13) (λ e. let n = small_number k e in record { nibbled = sym n.0; bytes = rw n.1; size = omega tests; octets = h })
    (λ e. cond_split (If (IsExtended k bs)) (eqb k 13) (λ d. one k bs (eqb-true k 13 d) h)
    (λ d. cond_split (If (IsExtended k bs)) (eqb k 14) (λ c. two k bs (eqb-true k 14 c) h) (λ c. tt)))

-- ---- one option

-- appended from the right
grouped : {A : Type 0} (a b c d : List A) → a ++ b ++ c ++ d ≡ a ++ (b ++ (c ++ d))
grouped a b c d = simp append_assoc

-- a step that has a value
bind_some : {A B : Type 0} (o : Option A) (f : A → Option B) (a : A) → o ≡ some a → bind o f ≡ f a
unfolding bind
bind_some o f a e = rw e

-- its value is taken, whatever follows
value_back : (n : ℕ) (v rest : Bytes) → n ≤ 65535 → option_at n (length v) (v ++ rest) ≡ some (record { option = option n v; rest = rest })
unfolding option_at
value_back n v rest h =
    rw (le-leb n 65535 h, le-leb (length v) (length (v ++ rest)) (omega (arith, length-append v rest)), take_at v rest (length v) refl, drop_at v rest (length v) refl)

-- it is read from its coding, whatever follows
pub option_back : (before n : ℕ) (v rest : Bytes) → before ≤ n → n ≤ 65535
    → read_option before (nibble (n - before) * 16 + nibble (length v)) (extension (n - before) ++ extension (length v) ++ v ++ rest)
    ≡ some (record { option = option n v; rest = rest })
unfolding read_option
option_back before n v rest l h =
    let delta : ℕ = n - before in
    let size : ℕ = length v in
    let q : (nibble delta * 16 + nibble size) / 16 ≡ nibble delta = omega (arith, nibble_below delta, nibble_below size) in
    let r : (nibble delta * 16 + nibble size) % 16 ≡ nibble size = omega (arith, nibble_below delta, nibble_below size) in
    let m : before + delta ≡ n = omega arith in
    rw (q, r, grouped (extension delta) (extension size) v rest)
    (bind_some _ _ _ (extended_back delta (extension size ++ (v ++ rest)))
    ∙ bind_some _ _ _ (extended_back size (v ++ rest))
    ∙ rw m (value_back n v rest h))

-- how long its coding is
pub option_length : (delta : ℕ) (v : Bytes) → length (option_bytes delta v) ≡ suc (length (extension delta) + length (extension (length v)) + length v)
unfolding option_bytes
option_length delta v = simp length-append

-- up to 65804 for both numbers its coding is made of bytes
pub option_octets : (delta : ℕ) (v : Bytes) → delta ≤ 65804 → length v ≤ 65804 → Octets v → Octets (option_bytes delta v)
unfolding option_bytes
option_octets delta v d l h =
    (omega (arith, nibble_below delta, nibble_below (length v)), each_append _ (extension delta ++ extension (length v)) v (each_append _ (extension delta) _ (extension_octets delta d) (extension_octets (length v) l)) h)

-- what is read as an option stands there as it is coded
pub record IsOption (before b : ℕ) (bs : Bytes) (o : OptionAt) : Type 0 where
  pub rising : before ≤ o.option.number
  pub good : GoodOption o.option
  pub bytes : b ∷ bs ≡ option_bytes (o.option.number - before) o.option.value ++ o.rest
  pub octets : Octets o.rest

-- a statement of what is read is kept by a further step
if_bind : {A B : Type 0} (P : A → Type 0) (Q : B → Type 0) (o : Option A) (f : A → Option B) → If P o → ((a : A) → P a → If Q (f a)) → If Q (bind o f)
unfolding bind
if_bind P Q none f h g = tt
if_bind P Q (some a) f h g = g a h

-- and its number, its value and the bytes after it are good
pub is_option : (before b : ℕ) (bs : Bytes) → Octets bs → If (IsOption before b bs) (read_option before b bs)
unfolding read_option option_at option_bytes
is_option before b bs h =
    if_bind (IsExtended (b / 16) bs) (IsOption before b bs) (extended (b / 16) bs) _ (is_extended (b / 16) bs h)
    (λ x i. if_bind (IsExtended (b % 16) x.rest) (IsOption before b bs) (extended (b % 16) x.rest) _ (is_extended (b % 16) x.rest i.octets)
    (λ y j. cond_split (If (IsOption before b bs)) (leb (before + x.number) 65535 && leb y.number (length y.rest))
    (λ e. whole x y i j (leb-true _ _ (and_left _ _ e)) (leb-true _ _ (and_right (leb (before + x.number) 65535) _ e))) (λ e. tt)))
  where
    whole : (x y : Extended) → IsExtended (b / 16) bs x → IsExtended (b % 16) x.rest y → before + x.number ≤ 65535 → y.number ≤ length y.rest
        → IsOption before b bs (record { option = option (before + x.number) (take y.number y.rest); rest = drop y.number y.rest })
    whole x y i j n l =
        let v : Bytes = take y.number y.rest in
        let z : length v ≡ y.number = length-take-le y.number y.rest l in
        let d : before + x.number - before ≡ x.number = omega arith in
        let first : b ≡ nibble x.number * 16 + nibble y.number = omega arith in
        let tail : y.rest ≡ v ++ drop y.number y.rest = sym (take-append-drop y.number y.rest) in
        let later : bs ≡ extension x.number ++ (extension y.number ++ (v ++ drop y.number y.rest)) =
        i.bytes ∙ ap (λ (l : Bytes). extension x.number ++ l) (j.bytes ∙ ap (λ (l : Bytes). extension y.number ++ l) tail) in
        record {
          rising = omega arith;
          good = record { number = n; size = omega arith; octets = each_take _ y.number y.rest j.octets };
          bytes = rw (d, z) (ap₂ (λ (c : ℕ) (l : Bytes). c ∷ l) first (later ∙ sym (grouped (extension x.number) (extension y.number) v _)));
          octets = each_drop _ y.number y.rest j.octets;
        }

-- ---- all of them

-- options are read from their coding, with n at least its length
pub options_back : (n before : ℕ) (os : List CoapOption) → Rising before os → Each GoodOption os → length (options_from before os) ≤ n
    → read_options_from n before (options_from before os) ≡ some os
unfolding read_options_from options_from option_bytes bind
options_back zero before [] r g l = refl
options_back (suc n) before [] r g l = refl
options_back zero before (o ∷ os) r g l = let z : ◌≡◌ {A = ℕ} 0 1 = omega arith in cc
options_back (suc n) before (o ∷ os) r g l =
    let later : Bytes = options_from o.number os in
    let fits : length later ≤ n = omega (arith, length-append (extension (o.number - before) ++ extension (length o.value) ++ o.value) later) in
    rw (option_back before o.number o.value later r.0 g.0.number, options_back n o.number os r.1 g.1 fits)

-- their coding is made of bytes
pub options_octets : (before : ℕ) (os : List CoapOption) → Each GoodOption os → Octets (options_from before os)
unfolding options_from
options_octets before [] g = tt
options_octets before (o ∷ os) g =
    each_append _ (option_bytes (o.number - before) o.value) _
    (option_octets (o.number - before) o.value (omega (arith, g.0.number)) g.0.size g.0.octets) (options_octets o.number os g.1)

-- what is read as options stands there as it is coded
pub record IsOptions (before : ℕ) (bs : Bytes) (os : List CoapOption) : Type 0 where
  pub bytes : options_from before os ≡ bs
  pub rising : Rising before os
  pub each : Each GoodOption os

-- whatever n is
pub is_options : (n before : ℕ) (bs : Bytes) → Octets bs → If (IsOptions before bs) (read_options_from n before bs)
unfolding read_options_from options_from
is_options zero before [] h = record { bytes = refl; rising = tt; each = tt }
is_options zero before (b ∷ bs) h = tt
is_options (suc n) before [] h = record { bytes = refl; rising = tt; each = tt }
is_options (suc n) before (b ∷ bs) h =
    if_bind (IsOption before b bs) (IsOptions before (b ∷ bs)) (read_option before b bs) _ (is_option before b bs h.1)
    (λ o i. if_bind (IsOptions o.option.number o.rest) (IsOptions before (b ∷ bs)) (read_options_from n o.option.number o.rest) _ (is_options n o.option.number o.rest i.octets)
    (λ os j. record {
      bytes = ap (λ (l : Bytes). option_bytes (o.option.number - before) o.option.value ++ l) j.bytes ∙ sym i.bytes;
      rising = (i.rising, j.rising);
      each = (i.good, j.each);
    }))

-- the number of the last option
abbrev pub last_number : ℕ → List CoapOption → ℕ
last_number before [] = before
last_number before (o ∷ os) = last_number o.number os

-- the coding of options one after the other
pub options_append : (before : ℕ) (xs ys : List CoapOption) → options_from before (xs ++ ys) ≡ options_from before xs ++ options_from (last_number before xs) ys
unfolding options_from
options_append before [] ys = refl
options_append before (x ∷ xs) ys =
    ap (λ (l : Bytes). option_bytes (x.number - before) x.value ++ l) (options_append x.number xs ys) ∙ sym (append_assoc (option_bytes (x.number - before) x.value) _ _)

-- ---- the options of a CRI that was read

-- a value that is made of at most 255 bytes
pub record ShortValue (v : Bytes) : Type 0 where
  pub size : length v ≤ 255
  pub octets : Octets v

-- a text of a sort that has at most 255 bytes
pub good_short : (s : Sort) → s.high ≤ 255 → (t : Bytes) → Good s t → ShortValue t
good_short s h t g = record { size = omega (arith, within_high s.low s.high (length t) g.size); octets = good_octets s t g }

-- the values: an address as text, joined labels, a port, and each parameter
address_octets : (bs : Bytes) → Octets (address_text bs)
unfolding address_text digit_byte
address_octets bs =
    cond_split Octets (eqb (length bs) 4) (λ e. all_octets (ipv4_text bs) (ipv4_all byte refl refl bs))
    (λ e. (omega arith, each_append _ (ipv6_text bs) (right_bracket ∷ []) (all_octets (ipv6_text bs) (ipv6_all byte refl refl refl bs)) (omega arith, tt)))

pub address_short : (bs : Bytes) → GoodAddress bs → ShortValue (address_text bs)
address_short bs g = record { size = omega (arith, address_most bs g, address_length bs g); octets = address_octets bs }

pub labels_short : (ls : List Bytes) → Each (Good label) ls → name_rule ls ≡ true → ShortValue (join dot ls)
unfolding name_rule
labels_short ls g e =
    record {
      size = leb-true _ _ (and_left (leb (length (join dot ls)) 255) _ e);
      octets = all_octets (join dot ls) (join_all byte dot refl ls (each_map octets_all ls (goods_octets label ls g)));
    }

pub port_two : (p : ℕ) → length (port_bytes p) ≤ 2
unfolding port_bytes
port_two p = cond_split (λ (v : Bytes). length v ≤ 2) (eqb p 0) (λ e. omega arith) (λ e. cond_split (λ (v : Bytes). length v ≤ 2) (ltb p 256) (λ l. omega arith) (λ l. omega arith))

port_octets : (p : ℕ) → p ≤ 65535 → Octets (port_bytes p)
unfolding port_bytes
port_octets p h = cond_split Octets (eqb p 0) (λ e. tt) (λ e. cond_split Octets (ltb p 256) (λ l. (omega tests, tt)) (λ l. (omega tests, (omega tests, tt))))

-- options of one number, with such values
abbrev OptionRow : ℕ → List CoapOption → Type 0
OptionRow n os = Each (λ o. (o.number ≡ n) × ShortValue o.value) os

-- each text as an option of one number
row_of : (n : ℕ) (ts : List Bytes) → Each ShortValue ts → OptionRow n (map (option n) ts)
row_of n [] h = tt
row_of n (t ∷ ts) h = ((refl, h.0), row_of n ts h.1)

-- 7.1, 7.2
host_row : (h : Host Bytes) (to_address : Bytes) → GoodHost h → OptionRow 3 (uri_host h to_address)
unfolding uri_host
host_row (labels ls) to_address g = ((refl, labels_short ls g.texts.each g.name), tt)
host_row (address a) to_address g = cond_split (OptionRow 3) (same a to_address) (λ e. tt) (λ e. ((refl, address_short a g), tt))

port_row : (p to_port : ℕ) → p ≤ 65535 → OptionRow 7 (uri_port p to_port)
unfolding uri_port
port_row p to_port h = cond_split (OptionRow 7) (eqb p to_port) (λ e. tt) (λ e. ((refl, record { size = omega (arith, port_two p); octets = port_octets p h }), tt))

query_short : (q : Option (List Bytes)) → If (GoodTexts parameter 1 16) q → Each ShortValue (elements q)
query_short none g = tt
query_short (some ts) g = each_map (good_short parameter (omega arith)) ts g.each

-- a fact of each entry of the table is a fact of a number's entry
pub entry_in : (P : SchemeEntry → Type 0) (es : List SchemeEntry) (n : ℕ) → Each P es → If P (scheme_in es n)
unfolding scheme_in
entry_in P [] n h = tt
entry_in P (e ∷ es) n h = cond_split (If P) (eqb n e.number) (λ t. h.0) (λ f. entry_in P es n h.1)

-- a default port is one of 16 bits
pub default_port_lem : (s : Scheme Bytes) (e : SchemeEntry) → coap_scheme s ≡ some e → e.port ≤ 65535
unfolding schemes all
default_port_lem (name t) e h = none_some e h
default_port_lem (number n) e h =
    let fit : SchemeEntry → Type 0 = λ e. leb e.port 65535 ≡ true in
    leb-true _ _ (subst (If fit) h (entry_in fit schemes n (each_all (λ (e : SchemeEntry). leb e.port 65535) schemes refl)))

-- the port, or else the default
pub port_most : (p : Option ℕ) (d : ℕ) → If (λ p. p ≤ 65535) p → d ≤ 65535 → get_or p d ≤ 65535
port_most none d g h = h
port_most (some p) d g h = g

-- rows of larger and larger numbers
rising_lower : (before m : ℕ) (os : List CoapOption) → before ≤ m → Rising m os → Rising before os
rising_lower before m [] l r = tt
rising_lower before m (o ∷ os) l r = (omega (arith, r.0), r.1)

rising_row : (before n : ℕ) (xs ys : List CoapOption) → before ≤ n → OptionRow n xs → Rising n ys → Rising before (xs ++ ys)
rising_row before n [] ys l h r = rising_lower before n ys l r
rising_row before n (x ∷ xs) ys l h r = (omega (arith, h.0.0), rising_row x.number n xs ys (omega (arith, h.0.0)) h.1 r)

-- what is known of the options of a CRI
pub record UriOption (o : CoapOption) : Type 0 where
  pub number : o.number ≤ 15
  pub short : ShortValue o.value

pub record UriOptions (os : List CoapOption) : Type 0 where
  pub rising : Rising 0 os
  pub each : Each UriOption os

-- one row of them, and the four
row_uri : (n : ℕ) → n ≤ 15 → (os : List CoapOption) → OptionRow n os → Each UriOption os
row_uri n l os h = each_map (λ o k. record { number = omega arith; short = k.1 }) os h

four_rows : (H P S Q : List CoapOption) → OptionRow 3 H → OptionRow 7 P → OptionRow 11 S → OptionRow 15 Q → UriOptions (H ++ P ++ S ++ Q)
four_rows H P S Q h p s q =
    let last : Rising 11 Q = rw append-nil at (rising_row 11 15 Q [] (omega arith) q tt) in
    rw (grouped H P S Q)
    (record {
      rising = rising_row 0 3 H (P ++ (S ++ Q)) (omega arith) h (rising_row 3 7 P (S ++ Q) (omega arith) p (rising_row 7 11 S Q (omega arith) s last));
      each =
          each_append UriOption H (P ++ (S ++ Q)) (row_uri 3 (omega arith) H h)
          (each_append UriOption P (S ++ Q) (row_uri 7 (omega arith) P p) (each_append UriOption S Q (row_uri 11 (omega arith) S s) (row_uri 15 (omega arith) Q q)));
    })

-- their numbers never fall and are at most 15, their values have at most 255 bytes
pub cri_options : (c : Cri) (e : SchemeEntry) (to_address : Bytes) (to_port : ℕ) → GoodCri c → coap_scheme c.scheme ≡ some e
    → UriOptions (options c e to_address to_port)
unfolding options
cri_options c e to_address to_port g s =
    let p : ℕ = get_or c.authority.port e.port in
    let most : p ≤ 65535 = port_most c.authority.port e.port g.authority.port (default_port_lem c.scheme e s) in
    let segments : Each ShortValue c.path = each_map (good_short segment (omega arith)) c.path g.path in
    four_rows (uri_host c.authority.host to_address) (uri_port p to_port) (map (option 11) (normal_path c.path)) (map (option 15) (elements c.query))
    (host_row c.authority.host to_address g.authority.host) (port_row p to_port most) (row_of 11 (normal_path c.path) (normal_each ShortValue c.path segments))
    (row_of 15 (elements c.query) (query_short c.query g.query))

-- so they can be coded
pub codable : (os : List CoapOption) → UriOptions os → Codable os
codable os u =
    record { rising = u.rising; each = each_map (λ o k. record { number = omega arith; size = omega arith; octets = k.short.octets }) os u.each }

-- ---- the call

-- the tests of the call
absent_none : {A : Type 0} (o : Option A) → absent o ≡ true → o ≡ none
absent_none none e = refl
absent_none (some a) e = never e

ok_self : {A : Type 0} (m : Res A) → Ok (λ a. m ≡ ok a) m
ok_self (refused n k) = no!
ok_self (ok a) = ok! refl

-- the coding is read
pub options_read : (os : List CoapOption) → Codable os → read_options (options_from 0 os) ≡ some os
unfolding read_options
options_read os k = options_back (length (options_from 0 os)) 0 os k.rising k.each (omega arith)

-- what the call writes is read as the options of what it read
pub requested_read : (lim : Limits) (bs to_address : Bytes) (to_port : ℕ) → Octets bs
    → Ok (Requested lim bs to_address to_port) (options_call lim bs to_address to_port)
unfolding options_call
requested_read lim bs to_address to_port h =
    ok_need _ DEST 0 _ (λ z. ok_bind (read_absolute lim bs) _ (ok_self (read_absolute lim bs))
    (λ c r. ok_bind {P = λ e. coap_scheme c.scheme ≡ some e} _ _ (ok_given (coap_scheme c.scheme) COAP 0 (λ e s. s))
    (λ e s. ok_need _ COAP 0 _ (λ a.
    let k : Codable (options c e to_address to_port) = codable _ (cri_options c e to_address to_port (good_read lim bs c h r) s) in
    ok! (record {
      cri = c;
      entry = e;
      read = r;
      scheme = s;
      fragment = absent_none c.fragment a;
      octets = options_octets 0 _ k.each;
      back = options_read _ k;
    })))))
