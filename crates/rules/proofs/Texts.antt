-- The laws of texts and of texts in a row.
use Prim.Native.Nat.{ℕ, zero, suc, ◌+◌, ◌^◌, ◌≤◌, ◌<◌}
use native.Mathlib.Omega.{arith}
use mathlib.Core.Path.{◌≡◌, refl, sym, ap, ap₂, ◌∙◌, subst}
use mathlib.Core.Bool.{Bool, true}
use mathlib.Core.List.{List, [], ◌∷◌, ◌++◌, append_assoc, map}
use lib.ListN.{length, drop, length-drop, length-append, length-map}
use borrow.Author.Tests.{leb-true, le-leb}
use Rattle.rules.specs.Bytes.{Bytes, Each, Octets, part, within, concat}
use Rattle.rules.specs.Result.{Res, ok, ◌>>=◌}
use Rattle.rules.specs.Utf8.{utf8}
use Rattle.rules.specs.Head.{Kind, Text, code_of, is, Head, kind_at, head_at, head_bytes}
use Rattle.rules.specs.Rules.{Sort}
use Rattle.rules.specs.Reader.{read_content, end_at, spans, taken, contents, text_body, read_text, read_row, content_at}
use Rattle.rules.specs.Encode.{text_item}
use Rattle.rules.specs.Valid.{Good}
use Rattle.rules.specs.Standing.{ItemStands, RowAt}
use Rattle.rules.proofs.Tools.{within_high, length_part, split_part, drop_at_drop, take_at_drop, part_more, leb_more}
use Rattle.rules.proofs.Steps.{Ok, ok!, ok_bind, ok_map, ok_need, Yes, yes!, yes_bind, yes_map, yes_need, Stable, same!, stable_bind, stable_need, stable_cut}
use Rattle.rules.proofs.Heads.{is_kind, Known, Stands, ok_head, yes_head, head_spells, Spelled, spelled, head_stable, head_at_more}

-- ---- content

content_ok : (bs : Bytes) (at : ℕ) (h : Head) → Ok (λ t. (t ≡ part bs h.next h.value) × (h.next + h.value ≤ length bs)) (read_content bs at h)
unfolding read_content
content_ok bs at h = ok_need _ _ _ _ (λ t. ok! (refl, leb-true _ _ t))

content_yes : {G : Type 0} (bs : Bytes) (at : ℕ) (h : Head) → h.next + h.value ≤ length bs → Yes G (λ t. t ≡ part bs h.next h.value) (read_content bs at h)
unfolding read_content
content_yes bs at h l = yes_need _ _ _ _ (λ g. le-leb _ _ l) (λ t. yes! refl)

pub content_stable : (p q : Bytes) (at : ℕ) (h : Head) → Stable (read_content p at h) (read_content (p ++ q) at h)
unfolding read_content
content_stable p q at h =
    stable_cut _ _ _ _ _ (leb_more p q (h.next + h.value)) (λ d. same_part (part_more p q h.next h.value (leb-true _ _ d)))
  where
    same_part : {x y : Bytes} → y ≡ x → Stable (ok x) (ok y)
    same_part {x} e = subst (λ (z : Bytes). Stable (ok x) (ok z)) (sym e) same!

module _ {B : Type 0} {Q : B → Type 0} (bs : Bytes) (at : ℕ) (h : Head) (f : Bytes → Res B) where
  pub ok_content : (h.next + h.value ≤ length bs → Ok Q (f (part bs h.next h.value))) → Ok Q (read_content bs at h >>= f)
  ok_content g = ok_bind _ _ (content_ok bs at h) (λ t r. rw r.0 (g r.1))

  pub yes_content : {G : Type 0} → h.next + h.value ≤ length bs → Yes G Q (f (part bs h.next h.value)) → Yes G Q (read_content bs at h >>= f)
  yes_content l g = yes_bind _ _ (content_yes bs at h l) (λ t e. rw e g)

-- ---- a text that is accepted

pub record TextAt (s : Sort) (bs : Bytes) (at next : ℕ) : Type 0 where
  pub ends : next ≡ end_at bs at
  pub stands : ItemStands bs at
  pub spells : drop at bs ≡ text_item (content_at bs at) ++ drop next bs
  pub good : Good s (content_at bs at)

-- an item's head and its content, together
pub item_spells : {allowed : Kind → Bool} (bs : Bytes) (at : ℕ) → Octets bs → Stands allowed bs at → (k : Kind) → Known k → kind_at bs at ≡ k → end_at bs at ≤ length bs
    → drop at bs ≡ (head_bytes k (length (content_at bs at)) ++ content_at bs at) ++ drop (end_at bs at) bs
item_spells bs at s r k n e l =
    head_spells bs at s r k n e
    ∙ ap₂ (λ (v : ℕ) (xs : Bytes). head_bytes k v ++ xs) (sym (length_part bs (head_at bs at).next (head_at bs at).value l)) (split_part bs (head_at bs at).next (head_at bs at).value)
    ∙ sym (append_assoc (head_bytes k (length (content_at bs at))) (content_at bs at) (drop (end_at bs at) bs))

pub ok_text_body : {allowed : Kind → Bool} (s : Sort) (bs : Bytes) (at : ℕ) → Octets bs → Stands allowed bs at → kind_at bs at ≡ Text
    → Ok (λ next. TextAt s bs at next) (text_body s bs at (head_at bs at))
unfolding text_body text_item
ok_text_body s bs at sm r e =
    ok_need _ _ _ _ (λ w. ok_content _ _ _ _ (λ l. ok_need _ _ _ _ (λ u. ok_need _ _ _ _ (λ k.
    ok! (record {
      ends = refl;
      stands = record { info = r.info; inside = l };
      spells = item_spells bs at sm r Text tt e l;
      good = record { size = subst (λ (n : ℕ). within s.low s.high n ≡ true) (sym (length_part bs (head_at bs at).next (head_at bs at).value l)) w; encoded = u; rule = k };
    })))))

pub ok_text : (s : Sort) (bs : Bytes) (at : ℕ) → Octets bs → Ok (λ next. TextAt s bs at next) (read_text s bs at)
unfolding read_text
ok_text s bs at sm = ok_head _ _ _ _ (λ r. ok_text_body s bs at sm r (is_kind Text _ r.kind))

-- ---- texts in a row that are accepted

pub record TextsAt (s : Sort) (bs : Bytes) (at n next : ℕ) : Type 0 where
  pub spells : drop at bs ≡ concat (map text_item (contents bs at n)) ++ drop next bs
  pub good : Each (Good s) (contents bs at n)
  pub stand : RowAt bs at n
  pub inside : at ≤ length bs → next ≤ length bs

pub ok_texts : (s : Sort) (bs : Bytes) (at n : ℕ) → Octets bs → Ok (λ next. TextsAt s bs at n next) (read_row s bs at n)
unfolding read_row contents spans concat
ok_texts s bs at zero sm = ok! (record { spells = refl; good = tt; stand = tt; inside = λ h. h })
ok_texts s bs at (suc n) sm =
    ok_bind _ _ (ok_text s bs at sm) (λ mid t. ok_map (ok_texts s bs mid n sm) (λ next r.
    let r' : TextsAt s bs (end_at bs at) n next = subst (λ (m : ℕ). TextsAt s bs m n next) t.ends r in
    let w : Bytes = text_item (content_at bs at) in
    record {
      spells =
          t.spells ∙ ap (λ (m : ℕ). w ++ drop m bs) t.ends ∙ ap (λ (l : Bytes). w ++ l) r'.spells
          ∙ sym (append_assoc w (concat (map text_item (contents bs (end_at bs at) n))) (drop next bs));
      good = (t.good, r'.good);
      stand = (t.stands, r'.stand);
      inside = λ h. r'.inside t.stands.inside;
    }))

-- ---- a text that was written is accepted where it is good, and what is accepted is the text

-- a length that a head can carry
abbrev pub FitText : Bytes → Type 0
FitText t = length t < 2 ^ 64

-- it ends where the rest begins, and its content is the text
pub record TextWas (t : Bytes) (bs : Bytes) (at : ℕ) (rest : Bytes) (next : ℕ) : Type 0 where
  pub after : drop next bs ≡ rest
  pub ends : next ≡ end_at bs at
  pub says : content_at bs at ≡ t

-- content of the length that the head says
pub item_was : (k : Kind) (t bs : Bytes) (at : ℕ) (rest : Bytes) → Spelled k (length t) bs at (t ++ rest)
    → (content_at bs at ≡ t) × (drop (end_at bs at) bs ≡ rest) × (end_at bs at ≤ length bs)
item_was k t bs at rest w =
    let h : Head = head_at bs at in
    let e : drop h.next bs ≡ t ++ rest = w.rest in
    let v : h.value ≡ length t = w.value in (
      take_at_drop bs h.next h.value t rest (sym v) e,
      drop_at_drop bs h.next h.value t rest (sym v) e,
      omega (arith, w.inside, w.value, length-drop h.next bs, ap length e, length-append t rest),
    )

pub yes_text_body : {G : Type 0} (s : Sort) (t bs : Bytes) (at : ℕ) (rest : Bytes) → Spelled Text (length t) bs at (t ++ rest) → (G → Good s t)
    → Yes G (λ next. TextWas t bs at rest next) (text_body s bs at (head_at bs at))
unfolding text_body
yes_text_body s t bs at rest w good =
    let i = item_was Text t bs at rest w in
    yes_need _ _ _ _ (λ g. subst (λ (n : ℕ). within s.low s.high n ≡ true) (sym w.value) (good g).size)
    (λ a. yes_content _ _ _ _ i.2
    (yes_need _ _ _ _ (λ g. subst (λ (x : Bytes). utf8 x ≡ true) (sym i.0) (good g).encoded)
    (λ b. yes_need _ _ _ _ (λ g. subst (λ (x : Bytes). s.rule x ≡ true) (sym i.0) (good g).rule)
    (λ c. yes! (record { after = i.1; ends = refl; says = i.0 })))))

pub spelled_text : (t bs : Bytes) (at : ℕ) (rest : Bytes) → FitText t → drop at bs ≡ text_item t ++ rest → Spelled Text (length t) bs at (t ++ rest)
unfolding text_item
spelled_text t bs at rest f e = spelled Text (length t) bs at (t ++ rest) f (e ∙ append_assoc (head_bytes Text (length t)) t rest)

pub good_64 : {s : Sort} → s.high < 2 ^ 64 → (t : Bytes) → Good s t → FitText t
good_64 {s} f t g = omega (arith, within_high s.low s.high (length t) g.size)

pub yes_text : {G : Type 0} (s : Sort) (t bs : Bytes) (at : ℕ) (rest : Bytes) → FitText t → (G → Good s t) → drop at bs ≡ text_item t ++ rest
    → Yes G (λ next. TextWas t bs at rest next) (read_text s bs at)
unfolding read_text code_of
yes_text s t bs at rest f good e =
    let w = spelled_text t bs at rest f e in
    yes_head _ _ _ _ (w.stands (is Text) refl) (yes_text_body s t bs at rest w good)

-- ---- the same of texts in a row

pub yes_texts : {G : Type 0} (s : Sort) (ts : List Bytes) (bs : Bytes) (at : ℕ) (rest : Bytes) → Each FitText ts → (G → Each (Good s) ts)
    → drop at bs ≡ concat (map text_item ts) ++ rest
    → Yes G (λ next. (drop next bs ≡ rest) × (contents bs at (length ts) ≡ ts)) (read_row s bs at (length ts))
unfolding read_row contents spans concat
yes_texts s [] bs at rest f good e = yes! (e, refl)
yes_texts s (t ∷ ts) bs at rest f good e =
    yes_bind _ _ (yes_text s t bs at (concat (map text_item ts) ++ rest) f.0 (λ g. (good g).0) (e ∙ append_assoc (text_item t) (concat (map text_item ts)) rest))
    (λ mid w. yes_map (yes_texts s ts bs mid rest f.1 (λ g. (good g).1) w.after) (λ next r.
    (r.0, ap₂ (λ (x : Bytes) (xs : List Bytes). x ∷ xs) w.says (ap (λ (m : ℕ). contents bs m (length ts)) (sym w.ends) ∙ r.1))))

-- ---- more bytes at the end

pub text_body_stable : (s : Sort) (p q : Bytes) (at : ℕ) (h : Head) → Stable (text_body s p at h) (text_body s (p ++ q) at h)
unfolding text_body
text_body_stable s p q at h = stable_need _ _ _ _ _ (λ a. stable_bind _ _ _ _ (content_stable p q at h) (λ t. same!))

pub text_stable : (s : Sort) (p q : Bytes) (at : ℕ) → Stable (read_text s p at) (read_text s (p ++ q) at)
unfolding read_text
text_stable s p q at = stable_bind _ _ _ _ (head_stable (is Text) p q at) (λ h. text_body_stable s p q at h)

pub texts_stable : (s : Sort) (p q : Bytes) (at n : ℕ) → Stable (read_row s p at n) (read_row s (p ++ q) at n)
unfolding read_row
texts_stable s p q at zero = same!
texts_stable s p q at (suc n) = stable_bind _ _ _ _ (text_stable s p q at) (λ next. texts_stable s p q next n)

-- what stands at a position stands there with more bytes at the end
pub content_at_more : (p q : Bytes) (at : ℕ) → end_at p at ≤ length p → (content_at (p ++ q) at ≡ content_at p at) × (end_at (p ++ q) at ≡ end_at p at)
content_at_more p q at h =
    let e : head_at (p ++ q) at ≡ head_at p at = head_at_more p q at (omega arith) in (
      ap (λ (x : Head). part (p ++ q) x.next x.value) e ∙ part_more p q (head_at p at).next (head_at p at).value h,
      ap (λ (x : Head). x.next + x.value) e,
    )

pub length_spans : (bs : Bytes) (at n : ℕ) → length (spans bs at n) ≡ n
unfolding spans
length_spans bs at zero = refl
length_spans bs at (suc n) = ap suc (length_spans bs (end_at bs at) n)

pub length_contents : (bs : Bytes) (at n : ℕ) → length (contents bs at n) ≡ n
unfolding contents
length_contents bs at n = length-map (spans bs at n) (taken bs) ∙ length_spans bs at n

pub contents_more : (bs q : Bytes) (at n : ℕ) → end_at bs at ≤ length bs → contents (bs ++ q) (end_at bs at) n ≡ contents bs (end_at bs at) n → contents (bs ++ q) at (suc n) ≡ contents bs at (suc n)
unfolding contents spans
contents_more bs q at n l e =
    let c = content_at_more bs q at l in
    ap₂ (λ (x : Bytes) (m : ℕ). x ∷ contents (bs ++ q) m n) c.0 c.1 ∙ ap (λ (xs : List Bytes). content_at bs at ∷ xs) e
