-- The laws of the authority.
use Prim.Native.Nat.{ℕ, zero, suc, ◌+◌, ◌-◌, ◌^◌, ◌≤◌, ◌<◌}
use native.Mathlib.Omega.{arith}
use native.Mathlib.Nat.{add-zero}
use mathlib.Core.Path.{◌≡◌, refl, sym, ap, ap₂, ◌∙◌, subst}
use mathlib.Core.Bool.{Bool, true, not, ◌||◌}
use mathlib.Core.List.{List, [], ◌∷◌, ◌++◌, append_assoc, append-nil, map}
use mathlib.Core.Option.{Option, none, some}
use lib.ListN.{length, drop, length-append, length-map}
use lib.Dec.{leb, eqb, lit≤, lit<}
use borrow.Author.Tests.{leb-true, le-leb, ltb-true, lt-ltb}
use Rattle.rules.specs.Bytes.{Bytes, Each, Octets, within, concat}
use Rattle.rules.specs.Result.{ok, need, ◌>>=◌, ◌>>◌, when◌then◌else◌}
use Rattle.rules.specs.Model.{Host, address, labels, Authority}
use Rattle.rules.specs.Head.{Kind, Number, ByteString, Text, Array, code_of, is, Head, kind_at, head_at, read_head, head_bytes}
use Rattle.rules.specs.Rules.{label, name_rule, address_size}
use Rattle.rules.specs.Reader.{end_at, spans, contents, labels_at, AuthorityAt, Names, read_nothing, port_body, read_port, label_body, read_names, address_host, labels_host, read_authority, content_at}
use Rattle.rules.specs.Meaning.{said_host, said_authority}
use Rattle.rules.specs.Encode.{text_item, array_item, port_items, host_items, authority_item}
use Rattle.rules.specs.Valid.{If, Good, GoodAddress, GoodLabels, GoodHost, GoodAuthority, GoodPort}
use Rattle.rules.specs.Standing.{RowAt}
use Rattle.rules.proofs.Tools.{tests, never, by_test, each_map, or_left, or_right, within_low, within_high, is_within, length_part, octets_part}
use Rattle.rules.proofs.Steps.{Ok, ok!, ok_bind, ok_map, ok_if, ok_need, Yes, yes!, yes_bind, yes_map, yes_then, yes_else, yes_need, yes_ok, Stable, same!, stable_bind, stable_bind_ok, stable_if, stable_need}
use Rattle.rules.proofs.Heads.{is_kind, Stands, ok_head, yes_head, head_spells, next_inside, Spelled, spelled, head_stable, head_ok}
use Rattle.rules.proofs.Texts.{TextAt, ok_text_body, TextWas, FitText, good_64, yes_text_body, spelled_text, text_body_stable, ok_content, yes_content, content_stable, item_spells, item_was, length_contents, contents_more}
use Rattle.rules.proofs.Slots.{item_one}

-- ---- an authority that is accepted

pub cons_spells : (x : Bytes) (xs : List Bytes) (l m r : Bytes) → l ≡ x ++ m → m ≡ concat xs ++ r → l ≡ concat (x ∷ xs) ++ r
unfolding concat
cons_spells x xs l m r e e' = e ∙ ap (λ (y : Bytes). x ++ y) e' ∙ sym (append_assoc x (concat xs) r)

ok_nothing : (bs : Bytes) (at left : ℕ) → Ok (λ next. (next ≡ at) × (left ≡ 0)) (read_nothing bs at left)
unfolding read_nothing
ok_nothing bs at zero = ok! (refl, refl)
ok_nothing bs at (suc left) = ok_head _ _ _ _ (λ r. never r.kind)

-- where `left` items are left, this port
pub record PortAt (bs : Bytes) (at left : ℕ) (r : Names) : Type 0 where
  pub spells : drop at bs ≡ concat (port_items r.port) ++ drop r.next bs
  pub items : length (port_items r.port) ≡ left
  pub good : GoodPort r.port
  pub inside : at ≤ length bs → r.next ≤ length bs

ok_port_body : {allowed : Kind → Bool} (bs : Bytes) (at left n : ℕ) → Octets bs → Stands allowed bs at → kind_at bs at ≡ Number
    → Ok (λ r. (r.count ≡ n) × PortAt bs at (suc left) r) (port_body bs at left n (head_at bs at))
unfolding port_body port_items concat
ok_port_body bs at left n sm r e =
    let h : Head = head_at bs at in
    ok_need _ _ _ _ (λ w. ok_bind _ _ (ok_nothing bs h.next left) (λ next z.
    ok! (
      refl,
      record {
        spells = head_spells bs at sm r Number tt e ∙ ap₂ (λ (x : Bytes) (m : ℕ). x ++ drop m bs) (sym (append-nil (head_bytes Number h.value))) (sym z.0);
        items = ap suc (sym z.1);
        good = leb-true _ _ w;
        inside = λ i. omega (arith, z.0, next_inside bs at r);
      },
    )))

pub ok_port : (bs : Bytes) (at left : ℕ) → Octets bs → Ok (λ r. PortAt bs at left r) (read_port bs at left)
unfolding read_port port_items concat
ok_port bs at zero sm = ok! (record { spells = refl; items = refl; good = tt; inside = λ h. h })
ok_port bs at (suc left) sm = ok_head _ _ _ _ (λ r. ok_map (ok_port_body bs at left 0 sm r (is_kind Number _ r.kind)) (λ n p. p.1))

pub ok_label_body : {allowed : Kind → Bool} (n : ℕ) (bs : Bytes) (at : ℕ) → Octets bs → Stands allowed bs at → kind_at bs at ≡ Text
    → Ok (λ next. (n < 8) × TextAt label bs at next) (label_body n bs at (head_at bs at))
unfolding label_body
ok_label_body n bs at sm r e = ok_need _ _ _ _ (λ w. ok_map (ok_text_body label bs at sm r e) (λ next t. (ltb-true _ _ w, t)))

-- after n labels, and where `left` items are left: the labels that follow, and the port
pub record NamesAt (bs : Bytes) (at left n : ℕ) (r : Names) : Type 0 where
  pub more : ℕ
  pub count : r.count ≡ n + more
  pub spells : drop at bs ≡ concat (map text_item (contents bs at more) ++ port_items r.port) ++ drop r.next bs
  pub items : more + length (port_items r.port) ≡ left
  pub most : n ≤ 8 → r.count ≤ 8
  pub good : Each (Good label) (contents bs at more)
  pub port : GoodPort r.port
  pub stand : RowAt bs at more
  pub inside : at ≤ length bs → r.next ≤ length bs
  pub stay : (q : Bytes) → contents (bs ++ q) at more ≡ contents bs at more

pub ok_names : (bs : Bytes) (at left n : ℕ) → Octets bs → Ok (λ r. NamesAt bs at left n r) (read_names bs at left n)
unfolding read_names contents spans port_items concat head_at
ok_names bs at zero n sm = ok! (record { more = 0; count = sym (add-zero n); spells = refl; items = refl; most = λ h. h; good = tt; port = tt; stand = tt; inside = λ h. h; stay = λ q. refl })
ok_names bs at (suc left) n sm =
    ok_head _ _ _ _ (λ r. ok_if _ _ _
    (λ y. ok_bind _ _ (ok_label_body n bs at sm r (is_kind Text _ y)) (λ mid t. ok_map (ok_names bs mid left (suc n) sm) (λ a q.
    let q' : NamesAt bs (end_at bs at) left (suc n) a = subst (λ (m : ℕ). NamesAt bs m left (suc n) a) t.1.ends q in
    record {
      more = suc q'.more;
      count = omega (arith, q'.count);
      spells = cons_spells (text_item (content_at bs at)) (map text_item (contents bs (end_at bs at) q'.more) ++ port_items a.port) _ _ (drop a.next bs) (t.1.spells ∙ ap (λ (m : ℕ). text_item (content_at bs at) ++ drop m bs) t.1.ends) q'.spells;
      items = omega (arith, q'.items);
      most = λ h. q'.most t.0;
      good = (t.1.good, q'.good);
      port = q'.port;
      stand = (t.1.stands, q'.stand);
      inside = λ h. q'.inside t.1.stands.inside;
      stay = λ more. contents_more bs more at q'.more t.1.stands.inside (q'.stay more);
    })))
    (λ f. ok_map (ok_port_body bs at left n sm r (is_kind Number _ (or_right _ _ r.kind f))) (λ a p.
    record { more = 0; count = omega (arith, p.0); spells = p.1.spells; items = omega (arith, p.1.items); most = λ h. omega (arith, p.0); good = tt; port = p.1.good; stand = tt; inside = p.1.inside; stay = λ q. refl })))

-- the first label and those after it stand one after the other
pub labels_row : (bs : Bytes) (at mid left : ℕ) (r : Names) → TextAt label bs at mid → NamesAt bs mid left 1 r → RowAt bs at r.count
labels_row bs at mid left r t q =
    let c : suc q.more ≡ r.count = omega (arith, q.count) in
    subst (RowAt bs at) c (t.stands, subst (λ (m : ℕ). RowAt bs m q.more) t.ends q.stand)

-- the items of the authority, of which `left` stand after the first
pub record InsideAt (bs : Bytes) (at left : ℕ) (a : AuthorityAt) : Type 0 where
  pub spells : drop at bs ≡ concat (host_items (said_host bs a.host) ++ port_items a.port) ++ drop a.next bs
  pub items : length (host_items (said_host bs a.host) ++ port_items a.port) ≡ suc left
  pub host : GoodHost (said_host bs a.host)
  pub port : GoodPort a.port
  pub inside : a.next ≤ length bs

ok_address_host : {allowed : Kind → Bool} (bs : Bytes) (start at left : ℕ) → Octets bs → Stands allowed bs at → kind_at bs at ≡ ByteString
    → Ok (λ a. InsideAt bs at left a) (address_host bs start at left (head_at bs at))
unfolding address_host host_items
ok_address_host bs start at left sm r e =
    let h : Head = head_at bs at in
    ok_need _ _ _ _ (λ w. ok_content _ _ _ _ (λ l. ok_bind _ _ (ok_port bs (end_at bs at) left sm) (λ p q.
    ok! (record {
      spells = cons_spells (head_bytes ByteString (length (content_at bs at)) ++ content_at bs at) (port_items p.port) _ _ (drop p.next bs)
          (item_spells bs at sm r ByteString tt e l) q.spells;
      items = ap suc q.items;
      host = record {
        size = subst (λ (n : ℕ). address_size n ≡ true) (sym (length_part bs h.next h.value l)) w;
        octets = octets_part bs h.next h.value sm;
      };
      port = q.good;
      inside = q.inside l;
    }))))

ok_labels_host : {allowed : Kind → Bool} (bs : Bytes) (start at left : ℕ) → Octets bs → Stands allowed bs at → kind_at bs at ≡ Text
    → Ok (λ a. InsideAt bs at left a) (labels_host bs start at left (head_at bs at))
unfolding labels_host host_items contents spans
ok_labels_host bs start at left sm r e =
    ok_bind _ _ (ok_label_body 0 bs at sm r e) (λ mid t. ok_bind _ _ (ok_names bs mid left 1 sm) (λ p q. ok_need _ _ _ _ (λ w.
    ok! (all_labels mid t p q w))))
  where
    all_labels : (mid : ℕ) → (0 < 8) × TextAt label bs at mid → (p : Names) → NamesAt bs mid left 1 p → name_rule (contents bs at p.count) ≡ true
        → InsideAt bs at left (record { at = start; host = labels_at at p.count; port = p.port; next = p.next })
    all_labels mid t p q w =
        let q' : NamesAt bs (end_at bs at) left 1 p = subst (λ (m : ℕ). NamesAt bs m left 1 p) t.1.ends q in
        let others : List Bytes = contents bs (end_at bs at) q'.more in
        let c : p.count ≡ suc q'.more = omega (arith, q'.count) in
        let cs : contents bs at p.count ≡ content_at bs at ∷ others = ap (contents bs at) c in
        let one : length (contents bs at p.count) ≡ p.count = length_contents bs at p.count in
        record {
          spells =
              cons_spells (text_item (content_at bs at)) (map text_item others ++ port_items p.port) _ _ (drop p.next bs)
              (t.1.spells ∙ ap (λ (m : ℕ). text_item (content_at bs at) ++ drop m bs) t.1.ends) q'.spells
              ∙ ap (λ (ts : List Bytes). concat (map text_item ts ++ port_items p.port) ++ drop p.next bs) (sym cs);
          items = length-append (map text_item (contents bs at p.count)) (port_items p.port) ∙ omega (arith, length-map (contents bs at p.count) text_item, one, c, q'.items);
          host = record {
            texts = record {
              count = is_within 1 8 (length (contents bs at p.count)) (omega (arith, one, c)) (omega (arith, one, q'.most (lit≤ tt)));
              each = subst (λ (ts : List Bytes). Each (Good label) ts) (sym cs) (t.1.good, q'.good);
            };
            name = w;
          };
          port = q'.port;
          inside = q'.inside t.1.stands.inside;
        }

pub record AuthorityIs (bs : Bytes) (at : ℕ) (a : AuthorityAt) : Type 0 where
  pub spells : drop at bs ≡ authority_item (said_authority bs a) ++ drop a.next bs
  pub good : GoodAuthority (said_authority bs a)
  pub inside : a.next ≤ length bs

authority_is_lem : {allowed : Kind → Bool} (bs : Bytes) (at : ℕ) (a : AuthorityAt) → Octets bs → Stands allowed bs at → kind_at bs at ≡ Array → within 1 9 (head_at bs at).value ≡ true
    → InsideAt bs (head_at bs at).next ((head_at bs at).value - 1) a → AuthorityIs bs at a
unfolding authority_item array_item
authority_is_lem bs at a sm r e w i =
    let h : Head = head_at bs at in
    let items : List Bytes = host_items (said_host bs a.host) ++ port_items a.port in
    let n : length items ≡ h.value = omega (arith, i.items, within_low 1 9 h.value w) in
    record {
      spells = head_spells bs at sm r Array tt e
          ∙ ap₂ (λ (v : ℕ) (xs : Bytes). head_bytes Array v ++ xs) (sym n) i.spells
          ∙ sym (append_assoc (head_bytes Array (length items)) (concat items) (drop a.next bs));
      good = record { host = i.host; port = i.port };
      inside = i.inside;
    }

pub ok_authority : (bs : Bytes) (at : ℕ) → Octets bs → Ok (λ a. AuthorityIs bs at a) (read_authority bs at)
unfolding read_authority head_at
ok_authority bs at sm =
    ok_head _ _ _ _ (λ r. ok_need _ _ _ _ (λ w. ok_head _ _ _ _ (λ r'. ok_if _ _ _
    (λ y. ok_map (ok_labels_host bs at (head_at bs at).next ((head_at bs at).value - 1) sm r' (is_kind Text _ y)) (λ a i. authority_is_lem bs at a sm r (is_kind Array _ r.kind) w i))
    (λ f. ok_map (ok_address_host bs at (head_at bs at).next ((head_at bs at).value - 1) sm r' (is_kind ByteString _ (or_left _ _ r'.kind f))) (λ a i. authority_is_lem bs at a sm r (is_kind Array _ r.kind) w i)))))

-- ---- an authority that was written is accepted where it is good, and what is accepted is the authority

-- a number that a head can carry, where it is set
abbrev pub FitPort : Option ℕ → Type 0
FitPort = If (λ p. p < 2 ^ 64)

-- a length, or a count and lengths, that heads can carry
abbrev pub FitHost : Host Bytes → Type 0
FitHost (address x) = FitText x
FitHost (labels ts) = (length ts ≤ 8) × Each FitText ts

pub record FitAuthority (a : Authority Bytes) : Type 0 where
  pub host : FitHost a.host
  pub port : FitPort a.port

pub record PortWas (o : Option ℕ) (bs rest : Bytes) (r : Names) : Type 0 where
  pub says : r.port ≡ o
  pub after : drop r.next bs ≡ rest

-- the first of several items that were written
pub first_item : (x : Bytes) (xs : List Bytes) (l rest : Bytes) → l ≡ concat (x ∷ xs) ++ rest → l ≡ x ++ (concat xs ++ rest)
unfolding concat
first_item x xs l rest e = e ∙ append_assoc x (concat xs) rest

spelled_port : (v : ℕ) (bs : Bytes) (at : ℕ) (rest : Bytes) → v < 2 ^ 64 → drop at bs ≡ concat (port_items (some v)) ++ rest → Spelled Number v bs at rest
unfolding port_items
spelled_port v bs at rest f e = spelled Number v bs at rest f (item_one (head_bytes Number v) _ rest e)

yes_port_body : {G : Type 0} (v n : ℕ) (bs : Bytes) (at : ℕ) (rest : Bytes) → (G → v ≤ 65535) → Spelled Number v bs at rest
    → Yes G (λ r. (r.count ≡ n) × PortWas (some v) bs rest r) (port_body bs at 0 n (head_at bs at))
unfolding port_body read_nothing ◌>>=◌
yes_port_body v n bs at rest good w =
    yes_need _ _ _ _ (λ g. subst (λ (x : ℕ). leb x 65535 ≡ true) (sym w.value) (le-leb v 65535 (good g)))
    (λ t. yes! (refl, record { says = ap some w.value; after = w.rest }))

yes_port : {G : Type 0} (o : Option ℕ) (bs : Bytes) (at : ℕ) (rest : Bytes) → FitPort o → (G → GoodPort o) → drop at bs ≡ concat (port_items o) ++ rest
    → Yes G (λ r. PortWas o bs rest r) (read_port bs at (length (port_items o)))
unfolding read_port port_items concat code_of
yes_port none bs at rest f good e = yes! (record { says = refl; after = e })
yes_port (some v) bs at rest f good e =
    let w = spelled_port v bs at rest f e in
    yes_head _ _ _ _ (w.stands (is Number) refl) (yes_map (yes_port_body v 0 bs at rest good w) (λ r p. p.1))

pub record NamesWas (ts : List Bytes) (n : ℕ) (o : Option ℕ) (bs : Bytes) (at : ℕ) (rest : Bytes) (r : Names) : Type 0 where
  pub count : r.count ≡ n + length ts
  pub says : contents bs at (length ts) ≡ ts
  pub port : r.port ≡ o
  pub after : drop r.next bs ≡ rest

yes_label_body : {G : Type 0} (n : ℕ) (t bs : Bytes) (at : ℕ) (rest : Bytes) → Spelled Text (length t) bs at (t ++ rest) → (G → n < 8) → (G → Good label t)
    → Yes G (λ next. TextWas t bs at rest next) (label_body n bs at (head_at bs at))
unfolding label_body
yes_label_body n t bs at rest w few good = yes_need _ _ _ _ (λ g. lt-ltb _ _ (few g)) (λ a. yes_text_body label t bs at rest w good)

-- after n labels, these and a port
record GoodNames (ts : List Bytes) (n : ℕ) (o : Option ℕ) : Type 0 where
  pub count : n + length ts ≤ 8
  pub each : Each (Good label) ts
  pub port : GoodPort o

next_names : (t : Bytes) (ts : List Bytes) (n : ℕ) (o : Option ℕ) → GoodNames (t ∷ ts) n o → GoodNames ts (suc n) o
next_names t ts n o g = record { count = omega (arith, g.count); each = g.each.1; port = g.port }

yes_names : {G : Type 0} (ts : List Bytes) (n : ℕ) (o : Option ℕ) (bs : Bytes) (at : ℕ) (rest : Bytes) → Each FitText ts → FitPort o → (G → GoodNames ts n o)
    → drop at bs ≡ concat (map text_item ts ++ port_items o) ++ rest
    → Yes G (λ r. NamesWas ts n o bs at rest r) (read_names bs at (length (map text_item ts ++ port_items o)) n)
unfolding read_names contents spans concat port_items code_of
yes_names [] n none bs at rest f p good e = yes! (record { count = sym (add-zero n); says = refl; port = refl; after = e })
yes_names [] n (some v) bs at rest f p good e =
    let w = spelled_port v bs at rest p e in
    yes_head _ _ _ _ (w.stands (λ k. is Text k || is Number k) refl)
    (yes_else _ _ _ (subst (λ (k : Kind). not (is Text k) ≡ true) (sym w.kind) refl)
    (yes_map (yes_port_body v n bs at rest (λ g. (good g).port) w) (λ r q. record { count = q.0 ∙ sym (add-zero n); says = refl; port = q.1.says; after = q.1.after })))
yes_names (t ∷ ts) n o bs at rest f p good e =
    let others : List Bytes = map text_item ts ++ port_items o in
    let w = spelled_text t bs at (concat others ++ rest) f.0 (first_item (text_item t) others _ rest e) in
    yes_head _ _ _ _ (w.stands (λ k. is Text k || is Number k) refl)
    (yes_then _ _ _ (subst (λ (k : Kind). is Text k ≡ true) (sym w.kind) refl)
    (yes_bind _ _ (yes_label_body n t bs at (concat others ++ rest) w (λ g. omega (arith, (good g).count)) (λ g. (good g).each.0)) (λ mid x.
    yes_map (yes_names ts (suc n) o bs mid rest f.1 p (λ g. next_names t ts n o (good g)) x.after) (λ r y.
    record {
      count = omega (arith, y.count);
      says = ap₂ (λ (z : Bytes) (zs : List Bytes). z ∷ zs) x.says (ap (λ (m : ℕ). contents bs m (length ts)) (sym x.ends) ∙ y.says);
      port = y.port;
      after = y.after;
    }))))

pub record AuthorityWas (a : Authority Bytes) (bs rest : Bytes) (r : AuthorityAt) : Type 0 where
  pub says : said_authority bs r ≡ a
  pub after : drop r.next bs ≡ rest

-- an authority is its host and its port
pub same_authority : {h h' : Host Bytes} {o o' : Option ℕ} → h ≡ h' → o ≡ o' → ◌≡◌ {A = Authority Bytes} (record { host = h; port = o }) (record { host = h'; port = o' })
same_authority e e' = λ i. record { host = e i; port = e' i }

yes_address_host : {G : Type 0} (x : Bytes) (o : Option ℕ) (bs : Bytes) (start at left : ℕ) (rest : Bytes) → FitPort o → (G → GoodAddress x) → (G → GoodPort o)
    → left ≡ length (port_items o) → Spelled ByteString (length x) bs at (x ++ (concat (port_items o) ++ rest))
    → Yes G (λ r. AuthorityWas (record { host = address x; port = o }) bs rest r) (address_host bs start at left (head_at bs at))
unfolding address_host
yes_address_host x o bs start at left rest p good port n w =
    let i = item_was ByteString x bs at (concat (port_items o) ++ rest) w in
    yes_need _ _ _ _ (λ g. subst (λ (m : ℕ). address_size m ≡ true) (sym w.value) (good g).size)
    (λ t. yes_content _ _ _ _ i.2
    (rw n (yes_bind _ _ (yes_port o bs (end_at bs at) rest p port i.1) (λ r q.
    yes! (record { says = same_authority (ap address i.0) q.says; after = q.after })))))

other_names : (t : Bytes) (ts : List Bytes) (o : Option ℕ) → GoodLabels (t ∷ ts) → GoodPort o → GoodNames ts 1 o
other_names t ts o g p = record { count = omega (arith, within_high 1 8 (length (t ∷ ts)) g.texts.count); each = g.texts.each.1; port = p }

yes_labels_host : {G : Type 0} (t : Bytes) (ts : List Bytes) (o : Option ℕ) (bs : Bytes) (start at left : ℕ) (rest : Bytes) → Each FitText ts → FitPort o
    → (G → GoodLabels (t ∷ ts)) → (G → GoodPort o) → left ≡ length (map text_item ts ++ port_items o)
    → Spelled Text (length t) bs at (t ++ (concat (map text_item ts ++ port_items o) ++ rest))
    → Yes G (λ r. AuthorityWas (record { host = labels (t ∷ ts); port = o }) bs rest r) (labels_host bs start at left (head_at bs at))
unfolding labels_host contents spans
yes_labels_host t ts o bs start at left rest f p good port n w =
    yes_bind _ _ (yes_label_body 0 t bs at _ w (λ g. lit< tt) (λ g. (good g).texts.each.0)) (λ mid x.
    rw n (yes_bind _ _ (yes_names ts 1 o bs mid rest f p (λ g. other_names t ts o (good g) (port g)) x.after) (λ r y.
    let c : r.count ≡ suc (length ts) = omega (arith, y.count) in
    let cs : contents bs at r.count ≡ t ∷ ts =
    ap (contents bs at) c ∙ ap₂ (λ (z : Bytes) (zs : List Bytes). z ∷ zs) x.says (ap (λ (m : ℕ). contents bs m (length ts)) (sym x.ends) ∙ y.says) in
    yes_need _ _ _ _ (λ g. subst (λ (l : List Bytes). name_rule l ≡ true) (sym cs) (good g).name)
    (λ t. yes! (record { says = same_authority (ap labels cs) y.port; after = y.after })))))

pub spelled_array : (xs : List Bytes) (bs : Bytes) (at : ℕ) (rest : Bytes) → length xs < 2 ^ 64 → drop at bs ≡ array_item xs ++ rest → Spelled Array (length xs) bs at (concat xs ++ rest)
unfolding array_item
spelled_array xs bs at rest f e = spelled Array (length xs) bs at (concat xs ++ rest) f (e ∙ append_assoc (head_bytes Array (length xs)) (concat xs) rest)

port_items_lem : (o : Option ℕ) → length (port_items o) ≤ 1
unfolding port_items
port_items_lem none = omega arith
port_items_lem (some v) = omega arith

pub address_most : (bs : Bytes) → GoodAddress bs → length bs ≤ 16
address_most bs g =
    by_test (λ t. (t || eqb (length bs) 16) ≡ true → length bs ≤ 16) (eqb (length bs) 4) (λ e z. omega tests) (λ e z. omega tests) g.size

host_some : (h : Host Bytes) → GoodHost h → 1 ≤ length (host_items h)
unfolding host_items
host_some (address x) g = lit≤ tt
host_some (labels ts) g = omega (arith, length-map ts text_item, within_low 1 8 (length ts) g.texts.count)

host_most : (h : Host Bytes) → FitHost h → length (host_items h) ≤ 8
unfolding host_items
host_most (address x) f = lit≤ tt
host_most (labels ts) f = omega (arith, length-map ts text_item, f.0)

items_some : (a : Authority Bytes) → GoodAuthority a → 1 ≤ length (host_items a.host ++ port_items a.port)
items_some a g = omega (arith, length-append (host_items a.host) (port_items a.port), host_some a.host g.host)

pub items_most : (a : Authority Bytes) → FitAuthority a → length (host_items a.host ++ port_items a.port) ≤ 9
items_most a f = omega (arith, length-append (host_items a.host) (port_items a.port), host_most a.host f.host, port_items_lem a.port)

-- no authority begins with a port
no_host : (v : ℕ) (bs : Bytes) (at : ℕ) (rest : Bytes) → Spelled Number v bs at rest → Stands (λ k. is ByteString k || is Text k) bs at → ⊥
unfolding code_of head_at
no_host v bs at rest w r = never (subst (λ (k : Kind). (is ByteString k || is Text k) ≡ true) w.kind r.kind)

yes_inside : {G : Type 0} (h : Host Bytes) (o : Option ℕ) (bs : Bytes) (start at left : ℕ) (rest : Bytes) → FitHost h → FitPort o → (G → GoodHost h) → (G → GoodPort o)
    → 1 ≤ length (host_items h ++ port_items o) → left ≡ length (host_items h ++ port_items o) - 1 → drop at bs ≡ concat (host_items h ++ port_items o) ++ rest
    → Yes G (λ r. AuthorityWas (record { host = h; port = o }) bs rest r)
    (read_head (λ k. is ByteString k || is Text k) bs at >>= (λ f. when is Text f.kind then labels_host bs start at left f else address_host bs start at left f))
unfolding host_items code_of port_items
yes_inside (address x) o bs start at left rest f p good port first n e =
    let w = spelled ByteString (length x) bs at (x ++ (concat (port_items o) ++ rest)) f
    (first_item (head_bytes ByteString (length x) ++ x) (port_items o) _ rest e ∙ append_assoc (head_bytes ByteString (length x)) x (concat (port_items o) ++ rest)) in
    yes_head _ _ _ _ (w.stands (λ k. is ByteString k || is Text k) refl)
    (yes_else _ _ _ (subst (λ (k : Kind). not (is Text k) ≡ true) (sym w.kind) refl) (yes_address_host x o bs start at left rest p good port (omega (arith, n)) w))
yes_inside (labels []) none bs start at left rest f p good port first n e = absurd (omega arith)
yes_inside (labels []) (some v) bs start at left rest f p good port first n e =
    yes_ok (λ g. never (good g).texts.count) (ok_head _ _ _ _ (λ r. absurd (no_host v bs at rest (spelled_port v bs at rest p e) r)))
yes_inside (labels (t ∷ ts)) o bs start at left rest f p good port first n e =
    let others : List Bytes = map text_item ts ++ port_items o in
    let w = spelled_text t bs at (concat others ++ rest) f.1.0 (first_item (text_item t) others _ rest e) in
    yes_head _ _ _ _ (w.stands (λ k. is ByteString k || is Text k) refl)
    (yes_then _ _ _ (subst (λ (k : Kind). is Text k ≡ true) (sym w.kind) refl) (yes_labels_host t ts o bs start at left rest f.1.1 p good port (omega (arith, n)) w))

pub yes_authority : {G : Type 0} (a : Authority Bytes) (bs : Bytes) (at : ℕ) (rest : Bytes) → FitAuthority a → (G → GoodAuthority a) → drop at bs ≡ authority_item a ++ rest
    → Yes G (λ r. AuthorityWas a bs rest r) (read_authority bs at)
unfolding read_authority authority_item code_of
yes_authority a bs at rest f good e =
    let items : List Bytes = host_items a.host ++ port_items a.port in
    let most : length items ≤ 9 = items_most a f in
    let w = spelled_array items bs at rest (omega arith) e in
    let v : ℕ = (head_at bs at).value in
    yes_head _ _ _ _ (w.stands (is Array) refl)
    (yes_need _ _ _ _ (λ g. is_within 1 9 v (omega (arith, items_some a (good g), w.value)) (omega (arith, w.value)))
    (λ t. yes_inside a.host a.port bs at (head_at bs at).next ((head_at bs at).value - 1) rest f.host f.port (λ g. (good g).host) (λ g. (good g).port)
    (omega (arith, within_low 1 9 v t, w.value)) (ap (λ (v : ℕ). v - 1) w.value) w.rest))

-- a good authority fits

fit_host : (h : Host Bytes) → GoodHost h → FitHost h
fit_host (address x) g = omega (arith, address_most x g)
fit_host (labels ts) g = (within_high 1 8 (length ts) g.texts.count, each_map (good_64 {s = label} (lit< tt)) ts g.texts.each)

fit_port : (o : Option ℕ) → GoodPort o → FitPort o
fit_port none g = tt
fit_port (some v) g = omega arith

pub fit_authority : (a : Authority Bytes) → GoodAuthority a → FitAuthority a
fit_authority a g = record { host = fit_host a.host g.host; port = fit_port a.port g.port }

-- ---- more bytes at the end

nothing_stable : (p q : Bytes) (at left : ℕ) → Stable (read_nothing p at left) (read_nothing (p ++ q) at left)
unfolding read_nothing
nothing_stable p q at zero = same!
nothing_stable p q at (suc left) = stable_bind _ _ _ _ (head_stable _ p q at) (λ h. same!)

port_body_stable : (p q : Bytes) (at left n : ℕ) (h : Head) → Stable (port_body p at left n h) (port_body (p ++ q) at left n h)
unfolding port_body
port_body_stable p q at left n h = stable_need _ _ _ _ _ (λ w. stable_bind _ _ _ _ (nothing_stable p q h.next left) (λ next. same!))

port_stable : (p q : Bytes) (at left : ℕ) → Stable (read_port p at left) (read_port (p ++ q) at left)
unfolding read_port
port_stable p q at zero = same!
port_stable p q at (suc left) = stable_bind _ _ _ _ (head_stable _ p q at) (λ h. port_body_stable p q at left 0 h)

label_body_stable : (n : ℕ) (p q : Bytes) (at : ℕ) (h : Head) → Stable (label_body n p at h) (label_body n (p ++ q) at h)
unfolding label_body
label_body_stable n p q at h = stable_need _ _ _ _ _ (λ w. text_body_stable label p q at h)

names_stable : (p q : Bytes) (at left n : ℕ) → Stable (read_names p at left n) (read_names (p ++ q) at left n)
unfolding read_names
names_stable p q at zero n = same!
names_stable p q at (suc left) n =
    stable_bind _ _ _ _ (head_stable _ p q at) (λ h. stable_if _ _ _ _ _
    (λ t. stable_bind _ _ _ _ (label_body_stable n p q at h) (λ next. names_stable p q next left (suc n)))
    (λ f. port_body_stable p q at left n h))

labels_host_stable : {allowed : Kind → Bool} (p q : Bytes) (start at left : ℕ) → Octets p → Stands allowed p at → kind_at p at ≡ Text
    → Stable (labels_host p start at left (head_at p at)) (labels_host (p ++ q) start at left (head_at p at))
unfolding labels_host
labels_host_stable p q start at left sm r e =
    stable_bind_ok _ _ _ _ (ok_label_body 0 p at sm r e) (label_body_stable 0 p q at (head_at p at)) (λ mid t.
    stable_bind_ok _ _ _ _ (ok_names p mid left 1 sm) (names_stable p q mid left 1) (λ n y.
    last_rule mid n t y))
  where
    last_rule : (mid : ℕ) (n : Names) → (0 < 8) × TextAt label p at mid → NamesAt p mid left 1 n
        → Stable (need (name_rule (contents p at n.count)) 6 start >> ok (record { at = start; host = labels_at at n.count; port = n.port; next = n.next }))
        (◌>>◌ {B = AuthorityAt} (need (name_rule (contents (p ++ q) at n.count)) 6 start) (ok (record { at = start; host = labels_at at n.count; port = n.port; next = n.next })))
    last_rule mid n t y =
        let y' : NamesAt p (end_at p at) left 1 n = subst (λ (m : ℕ). NamesAt p m left 1 n) t.1.ends y in
        let c : n.count ≡ suc y'.more = omega (arith, y'.count) in
        let e : contents (p ++ q) at n.count ≡ contents p at n.count =
        ap (contents (p ++ q) at) c ∙ contents_more p q at y'.more t.1.stands.inside (y'.stay q) ∙ ap (contents p at) (sym c) in
        rw e same!

address_host_stable : (p q : Bytes) (start at left : ℕ) (h : Head) → Stable (address_host p start at left h) (address_host (p ++ q) start at left h)
unfolding address_host
address_host_stable p q start at left h =
    stable_need _ _ _ _ _ (λ w. stable_bind _ _ _ _ (content_stable p q at h) (λ t.
    stable_bind _ _ _ _ (port_stable p q (h.next + h.value) left) (λ r. same!)))

pub authority_stable : (p q : Bytes) (at : ℕ) → Octets p → Stable (read_authority p at) (read_authority (p ++ q) at)
unfolding read_authority head_at
authority_stable p q at sm =
    stable_bind _ _ _ _ (head_stable _ p q at) (λ a. stable_need _ _ _ _ _ (λ w.
    stable_bind_ok _ _ _ _ (head_ok _ p a.next) (head_stable _ p q a.next) (λ h r.
    rw r.0 (stable_if _ _ _ _ _
    (λ t. labels_host_stable p q at a.next (a.value - 1) sm r.1 (is_kind Text _ t))
    (λ f. address_host_stable p q at a.next (a.value - 1) (head_at p a.next))))))
