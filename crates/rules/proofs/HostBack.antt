-- The value of Uri-Host is read back as the host, so it determines the host.
use mathlib.Core.Path.{◌≡◌, refl, sym, ap, ◌∙◌}
use mathlib.Core.Bool.{Bool, true, false, cond}
use mathlib.Core.List.{List, [], ◌∷◌, map}
use Rattle.rules.specs.Bytes.{Bytes, Each, dot, same, filled, starts, split, join}
use Rattle.rules.specs.Model.{Host, address, labels}
use Rattle.rules.specs.Rules.{label_byte, label_rule, label}
use Rattle.rules.specs.Valid.{Good, GoodHost}
use Rattle.rules.specs.Numeral.{digit_byte, decimal}
use Rattle.rules.specs.Address.{ipv4_text, left_bracket, address_text}
use Rattle.rules.specs.ReadAddress.{address_bytes}
use Rattle.rules.specs.Options.{CoapOption, option, uri_host}
use Rattle.rules.proofs.Tools.{never, by_test, All, each_map, each_all}
use Rattle.rules.proofs.Escapes.{lacks, all_lacks, Free, starts_free, free, split_join, join_all}
use Rattle.rules.proofs.Numerals.{decimals_all}
use Rattle.rules.proofs.Addresses.{by_size, address_back}
use Rattle.rules.proofs.UnText.{un_host}
use Rattle.rules.proofs.TextBack.{fill_some, counted_filled, decimals_host, decimals_some, labels_host_lem}

-- RULES 7.1: what Uri-Host has
abbrev host_value : Host Bytes → Bytes
host_value (labels ls) = join dot ls
host_value (address a) = address_text a

-- the host that a value says
unfoldable un_value : Bytes → Host Bytes
un_value t = cond (starts left_bracket t) (address (address_bytes t)) (un_host (split dot t))

-- what no label holds
abbrev lack : Bytes
lack = dot ∷ left_bracket ∷ []

-- labels, and the four decimals of an IPv4 address
name_value : (ls : List Bytes) → filled ls ≡ true → Each (All (lacks lack)) ls → un_value (join dot ls) ≡ un_host ls
unfolding un_value
name_value ls few h =
    let dots : Each (Free dot) ls = each_map (free (lacks lack) dot refl) ls h in
    let bare : All (lacks (left_bracket ∷ [])) (join dot ls) =
    join_all (lacks (left_bracket ∷ [])) dot refl ls (each_map (all_lacks (lacks lack) (left_bracket ∷ []) refl) ls h) in
    rw (starts_free left_bracket (join dot ls) (free (lacks (left_bracket ∷ [])) left_bracket refl (join dot ls) bare), split_join dot ls dots, fill_some ls few)

labels_lack : (ls : List Bytes) → Each (Good label) ls → Each (All (lacks lack)) ls
unfolding label_rule label_byte
labels_lack [] g = tt
labels_lack (l ∷ ls) g = (all_lacks label_byte lack refl l (each_all label_byte l g.0.rule), labels_lack ls g.1)

value_back : (h : Host Bytes) → GoodHost h → un_value (host_value h) ≡ h
unfolding un_value ipv4_text digit_byte
value_back (labels ls) g =
    name_value ls (counted_filled 8 ls g.texts.count) (labels_lack ls g.texts.each) ∙ labels_host_lem ls g.name
value_back (address bs) g =
    by_size (λ t. address_bytes t ≡ bs → un_value t ≡ address bs) bs g
    (λ e _. name_value (map decimal bs) (decimals_some bs e) (decimals_all (lacks lack) refl bs) ∙ decimals_host bs e g.octets)
    (λ e back. ap address back)
    (address_back bs g)

-- the value of the first option
abbrev value_in : List CoapOption → Bytes
value_in [] = []
value_in (o ∷ os) = o.value

value_of_lem : (h : Host Bytes) (to_address v : Bytes) → uri_host h to_address ≡ option 3 v ∷ [] → host_value h ≡ v
unfolding uri_host
value_of_lem (labels ls) to_address v e = ap value_in e
value_of_lem (address a) to_address v e =
    by_test (λ t. cond t [] (option 3 (address_text a) ∷ []) ≡ option 3 v ∷ [] → address_text a ≡ v) (same a to_address)
    (λ _ e. absurd (no_option v e)) (λ _ e. ap value_in e) e
  where
    no_option : (v : Bytes) → ◌≡◌ {A = List CoapOption} [] (option 3 v ∷ []) → ⊥
    no_option v e = never (ap is_none e)
      where
        is_none : List CoapOption → Bool
        is_none [] = false
        is_none (o ∷ os) = true

pub host_determined : (h k : Host Bytes) (to_address v : Bytes) → GoodHost h → GoodHost k → uri_host h to_address ≡ option 3 v ∷ []
    → uri_host k to_address ≡ option 3 v ∷ [] → h ≡ k
host_determined h k to_address v g f d e =
    sym (value_back h g) ∙ ap un_value (value_of_lem h to_address v d ∙ sym (value_of_lem k to_address v e)) ∙ value_back k f
