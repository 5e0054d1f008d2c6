-- The encoding of a valid reference is made of bytes.
use Prim.Native.Nat.{ℕ, zero, suc, ◌^◌, ◌<◌}
use native.Mathlib.Omega.{arith}
use mathlib.Core.List.{List, [], ◌∷◌, ◌++◌, map}
use mathlib.Core.Option.{Option, none, some}
use lib.ListN.{length, length-map}
use lib.Dec.{lit<}
use Rattle.rules.specs.Bytes.{Bytes, Each, Octets, concat}
use Rattle.rules.specs.Model.{Scheme, number, name, Host, address, labels, Authority, Opening, discard, discard_all, full, Reference, Limits}
use Rattle.rules.specs.Head.{Number, Negative, ByteString, Text, Array, head_bytes}
use Rattle.rules.specs.Rules.{Sort, label, scheme_name, segment, parameter, fragment_text}
use Rattle.rules.specs.Encode.{text_item, array_item, texts_item, null_item, true_item, or_null, tail_items, port_items, host_items, authority_item, scheme_item, discard_alone, with_opening, encode}
use Rattle.rules.specs.Valid.{If, Good, GoodTexts, GoodAuthority, GoodHost, GoodScheme, GoodOpening, Valid}
use Rattle.rules.proofs.Tools.{each_append, each_concat}
use Rattle.rules.proofs.Heads.{octets_head}
use Rattle.rules.proofs.Texts.{FitText}
use Rattle.rules.proofs.Slots.{FitTexts}
use Rattle.rules.proofs.Authorities.{FitPort, FitHost, FitAuthority, items_most}
use Rattle.rules.proofs.Openings.{FitScheme, FitOpening, opens_count, opens_of}
use Rattle.rules.proofs.Reading.{Fit, fit_valid, tail_last}
use Rattle.rules.proofs.Utf8Bytes.{good_octets}

null_octets : Octets null_item
null_octets = (lit< tt, tt)

true_octets : Octets true_item
true_octets = (lit< tt, tt)

text_octets : (s : Sort) (t : Bytes) → FitText t → Good s t → Octets (text_item t)
unfolding text_item
text_octets s t f g = each_append _ (head_bytes Text (length t)) t (octets_head Text (length t) f) (good_octets s t g)

texts_octets : (s : Sort) (ts : List Bytes) → Each FitText ts → Each (Good s) ts → Each Octets (map text_item ts)
texts_octets s [] f g = tt
texts_octets s (t ∷ ts) f g = (text_octets s t f.0 g.0, texts_octets s ts f.1 g.1)

array_octets : (xs : List Bytes) → length xs < 2 ^ 64 → Each Octets xs → Octets (array_item xs)
unfolding array_item
array_octets xs f h = each_append _ (head_bytes Array (length xs)) (concat xs) (octets_head Array (length xs) f) (each_concat _ xs h)

texts_item_octets : (s : Sort) (low high : ℕ) (ts : List Bytes) → FitTexts ts → GoodTexts s low high ts → Octets (texts_item ts)
unfolding texts_item
texts_item_octets s low high ts f g = array_octets (map text_item ts) (omega (arith, length-map ts text_item, f.0)) (texts_octets s ts f.1 g.each)

or_null_octets : {A : Type 0} {P Q : A → Type 0} (e : A → Bytes) → ((a : A) → P a → Q a → Octets (e a)) → (o : Option A) → If P o → If Q o → Octets (or_null e o)
unfolding or_null
or_null_octets e h none f g = null_octets
or_null_octets e h (some a) f g = h a f g

port_octets : (p : Option ℕ) → FitPort p → Each Octets (port_items p)
unfolding port_items
port_octets none f = tt
port_octets (some p) f = (octets_head Number p f, tt)

host_octets : (h : Host Bytes) → FitHost h → GoodHost h → Each Octets (host_items h)
unfolding host_items
host_octets (address a) f g = (each_append _ (head_bytes ByteString (length a)) a (octets_head ByteString (length a) f) g.octets, tt)
host_octets (labels ts) f g = texts_octets label ts f.1 g.texts.each

authority_octets : (a : Authority Bytes) → FitAuthority a → GoodAuthority a → Octets (authority_item a)
unfolding authority_item
authority_octets a f g =
    array_octets (host_items a.host ++ port_items a.port) (omega (arith, items_most a f))
    (each_append _ (host_items a.host) (port_items a.port) (host_octets a.host f.host g.host) (port_octets a.port f.port))

scheme_octets : (s : Scheme Bytes) → FitScheme s → GoodScheme s → Octets (scheme_item s)
unfolding scheme_item
scheme_octets (number n) f g = octets_head Negative n f
scheme_octets (name t) f g = text_octets scheme_name t f g

opening_octets : (o : Opening Bytes) (xs : List Bytes) → FitOpening o → GoodOpening o → Each Octets xs → Each Octets (with_opening o xs)
unfolding with_opening discard_alone
opening_octets (discard zero) [] f g h = tt
opening_octets (discard (suc k)) [] f g h = (octets_head Number (suc k) f, tt)
opening_octets (discard k) (x ∷ xs) f g h = (octets_head Number k f, h)
opening_octets discard_all xs f g h = (true_octets, h)
opening_octets (full s none) xs f g h = absurd g
opening_octets (full s (some a)) xs f g h = (or_null_octets scheme_item scheme_octets s f.0 g.0, (authority_octets a f.1 g.1, h))

-- path, query and fragment of a valid reference
tail_octets : (lim : Limits) (p q : Option (List Bytes)) (t : Option Bytes) → If FitTexts p → If FitTexts q → If FitText t
    → If (GoodTexts segment 0 lim.segments) p → If (GoodTexts parameter 1 16) q → If (Good fragment_text) t → Each Octets (tail_items p q t)
unfolding tail_items
tail_octets lim p q (some t) f f' f'' g g' g'' = (or_null_octets texts_item (texts_item_octets segment _ _) p f g, (or_null_octets texts_item (texts_item_octets parameter _ _) q f' g', (text_octets fragment_text t f'' g'', tt)))
tail_octets lim p (some q) none f f' f'' g g' g'' = (or_null_octets texts_item (texts_item_octets segment _ _) p f g, (texts_item_octets parameter _ _ q f' g', tt))
tail_octets lim (some p) none none f f' f'' g g' g'' = (texts_item_octets segment _ _ p f g, tt)
tail_octets lim none none none f f' f'' g g' g'' = tt

pub encode_octets : (lim : Limits) → lim.segments < 2 ^ 64 → (r : Reference) → Valid lim r → Octets (encode r)
unfolding encode
encode_octets lim small r v =
    let f : Fit r = fit_valid lim small r v in
    let items : List Bytes = tail_items r.path r.query r.fragment in
    let few = opens_count (opens_of r.opening items (tail_last r.path r.query r.fragment).0) in
    array_octets (with_opening r.opening items) (omega (arith, few))
    (opening_octets r.opening items f.opening v.opening
    (tail_octets lim r.path r.query r.fragment f.path f.query f.fragment v.path v.query v.fragment))
