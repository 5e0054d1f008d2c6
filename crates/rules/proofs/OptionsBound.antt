-- The bound: the options of an absolute input of n bytes have at most 2n + 16 bytes, for any limits and any destination.
use Prim.Native.Nat.{ℕ, ◌+◌, ◌-◌, ◌*◌, ◌≤◌}
use native.Mathlib.Omega.{arith}
use mathlib.Core.Path.{◌≡◌}
use mathlib.Core.Bool.{Bool, true, false, cond}
use mathlib.Core.Option.{Option, none, some, get_or}
use mathlib.Core.List.{List, [], ◌∷◌, ◌++◌, map}
use lib.ListN.{length, length-append}
use lib.Dec.{ltb, eqb}
use Rattle.rules.specs.Bytes.{Bytes, Octets, dot, same, concat, join}
use Rattle.rules.specs.Result.{ok}
use Rattle.rules.specs.Model.{Scheme, number, name, Host, address, labels, Limits, Cri, elements, normal_path}
use Rattle.rules.specs.Rules.{SchemeEntry}
use Rattle.rules.specs.Head.{Negative}
use Rattle.rules.specs.Meaning.{read_absolute}
use Rattle.rules.specs.Encode.{text_item, texts_item, host_items, scheme_item, encode}
use Rattle.rules.specs.Valid.{GoodHost}
use Rattle.rules.specs.Address.{address_text}
use Rattle.rules.specs.Options.{CoapOption, option, uri_host, port_bytes, uri_port, options, extension, option_bytes, options_from}
use Rattle.rules.specs.Laid.{texts}
use Rattle.rules.proofs.Tools.{tests, cond_split}
use Rattle.rules.proofs.Heads.{head_some}
use Rattle.rules.proofs.Authorities.{address_most}
use Rattle.rules.proofs.RowLengths.{text_length, array_length}
use Rattle.rules.proofs.Absolutes.{with_path, GoodCri, good_read, EncodedAs, encoded_as}
use Rattle.rules.proofs.TextBound.{item_length, encode_items, bytes_length, address_length}
use Rattle.rules.proofs.OptionsBack.{extension_length, option_length, last_number, options_append, port_two}

-- ---- one option

-- no byte more below 13, and one below 269
extension_few : (n : ℕ) → 256 * length (extension n) ≤ n + 243
unfolding extension
extension_few n =
    let P : Bytes → Type 0 = λ x. 256 * length x ≤ n + 243 in
    cond_split P (ltb n 13) (λ e. omega arith) (λ e. cond_split P (ltb n 269) (λ d. omega tests) (λ d. omega tests))

-- an option that is left out if t holds
optional_length : (t : Bool) (before n : ℕ) (v : Bytes)
    → length (options_from before (cond t [] (option n v ∷ []))) ≤ 1 + length (extension (n - before)) + length (extension (length v)) + length v
unfolding options_from
optional_length true before n v = omega arith
optional_length false before n v = omega (arith, length-append (option_bytes (n - before) v) [], option_length (n - before) v)

-- ---- host and port

join_texts : (d : ℕ) (ts : List Bytes) → length (join d ts) ≤ length (texts ts)
unfolding join concat
join_texts d [] = omega arith
join_texts d (t ∷ []) = simp length-append (omega (arith, text_length t))
join_texts d (t ∷ u ∷ ts) =
    rw (length-append t (d ∷ join d (u ∷ ts)), length-append (text_item t) (texts (u ∷ ts))) (omega (arith, text_length t, join_texts d (u ∷ ts)))

host_options : (h : Host Bytes) (to_address : Bytes) → GoodHost h → length (options_from 0 (uri_host h to_address)) ≤ 2 * length (concat (host_items h)) + 19
unfolding uri_host host_items
host_options (labels ls) to_address g =
    let v : Bytes = join dot ls in
    omega (arith, optional_length false 0 3 v, extension_few 3, extension_few (length v), join_texts dot ls)
host_options (address a) to_address g =
    let v : Bytes = address_text a in
    omega (arith, optional_length (same a to_address) 0 3 v, extension_few 3, extension_few (length v), address_length a g, address_most a g, bytes_length a)

port_options : (before p to_port : ℕ) → length (options_from before (uri_port p to_port)) ≤ 3
unfolding uri_port
port_options before p to_port =
    let v : Bytes = port_bytes p in
    omega (arith, optional_length (eqb p to_port) before 7 v, extension_few (7 - before), extension_few (length v), port_two p)

-- ---- path and query

-- texts as options of one number: only the first can have a delta
row_length : (before n : ℕ) (ts : List Bytes) → length (options_from before (map (option n) ts)) ≤ 2 * length (texts ts) + length (extension (n - before))
unfolding options_from concat
row_length before n [] = omega arith
row_length before n (t ∷ ts) =
    rw (length-append (option_bytes (n - before) t) (options_from n (map (option n) ts)), length-append (text_item t) (texts ts))
    (omega (arith, option_length (n - before) t, extension_few (length t), text_length t, row_length n n ts, extension_few (n - n)))

-- the head of the array pays for that delta
texts_options : (before n : ℕ) (ts us : List Bytes) → length (texts ts) ≤ length (texts us) → length (options_from before (map (option n) ts)) ≤ 2 * length (texts_item us)
unfolding texts_item
texts_options before n ts us l = omega (arith, row_length before n ts, extension_length (n - before), array_length (map text_item us))

normal_texts : (ts : List Bytes) → length (texts (normal_path ts)) ≤ length (texts ts)
unfolding normal_path concat
normal_texts [] = omega arith
normal_texts ([] ∷ []) = omega arith
normal_texts ([] ∷ (u ∷ ts)) = omega arith
normal_texts ((b ∷ t) ∷ ts) = omega arith

path_options : (before : ℕ) (p : Option (List Bytes)) → length (options_from before (map (option 11) (normal_path (elements p)))) ≤ 2 * item_length texts_item p
unfolding normal_path options_from
path_options before none = omega arith
path_options before (some ts) = texts_options before 11 (normal_path ts) ts (normal_texts ts)

query_options : (before : ℕ) (q : Option (List Bytes)) → length (options_from before (map (option 15) (elements q))) ≤ 2 * item_length texts_item q
unfolding options_from
query_options before none = omega arith
query_options before (some ts) = texts_options before 15 ts ts (omega arith)

-- ---- the whole

scheme_some : (s : Scheme Bytes) → 1 ≤ length (scheme_item s)
unfolding scheme_item
scheme_some (number n) = head_some Negative n
scheme_some (name t) = omega (arith, text_length t)

pub cri_options_bound : (c : Cri) (p : Option (List Bytes)) (s : SchemeEntry) (to_address : Bytes) (to_port : ℕ) → elements p ≡ c.path → GoodCri c
    → length (options_from 0 (options c s to_address to_port)) ≤ 2 * length (encode (with_path c p)) + 16
unfolding options
cri_options_bound c p s to_address to_port e g =
    let port : ℕ = get_or c.authority.port s.port in
    let H : List CoapOption = uri_host c.authority.host to_address in
    let P : List CoapOption = uri_port port to_port in
    let S : List CoapOption = map (option 11) (normal_path (elements p)) in
    let Q : List CoapOption = map (option 15) (elements c.query) in
    rw (← e) (rw (options_append 0 (H ++ P ++ S) Q, options_append 0 (H ++ P) S, options_append 0 H P) (simp length-append
    (omega (arith, encode_items c p, scheme_some c.scheme, host_options c.authority.host to_address g.authority.host, port_options (last_number 0 H) port to_port, path_options (last_number 0 (H ++ P)) p, query_options (last_number 0 (H ++ P ++ S)) c.query))))

pub read_options_bound : (lim : Limits) (bs : Bytes) (c : Cri) (s : SchemeEntry) (to_address : Bytes) (to_port : ℕ) → Octets bs → read_absolute lim bs ≡ ok c
    → length (options_from 0 (options c s to_address to_port)) ≤ 2 * length bs + 16
read_options_bound lim bs c s to_address to_port h e =
    let r : EncodedAs bs c = encoded_as lim bs c h e in
    rw r.bytes at (cri_options_bound c r.path s to_address to_port r.is (good_read lim bs c h e))
