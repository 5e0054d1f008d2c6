-- The reader's refusals are numbered 1 to 7; and what the call of reading answers.
use Prim.Native.Nat.{ℕ, zero, suc, ◌≤◌}
use mathlib.Core.Path.{◌≡◌, refl, subst, ◌∙◌}
use mathlib.Core.Bool.{Bool, true, false}
use Rattle.rules.specs.Bytes.{Bytes, within}
use Rattle.rules.specs.Result.{Res, refused, ok, ◌>>=◌, ◌>>◌, need, when◌then◌else◌}
use Rattle.rules.specs.Model.{Limits, Components}
use Rattle.rules.specs.Head.{Kind, Number, Negative, ByteString, Text, Array, True, Null, Other, Head, read_head}
use Rattle.rules.specs.Rules.{Sort}
use Rattle.rules.specs.Reader.{read_content, text_body, read_text, read_row, null_body, array_body, read_array, fragment_body, read_fragment, read_nothing, port_body, read_port, label_body, read_names, address_host, labels_host, read_authority, SchemeAt, after_scheme, opening_body, read_opening, Found, read}
use Rattle.rules.specs.Meaning.{components}
use Rattle.rules.specs.Calls.{read_call}
use Rattle.rules.proofs.Tools.{within_low, within_high}
use Rattle.rules.proofs.Steps.{refused_ok}

-- a refusal with a number from 1 to 7, or a value
data Numbered {A : Type 0} : Res A → Type 0 where
  number! : {n k : ℕ} → within 1 7 n ≡ true → Numbered (refused n k)
  value! : {a : A} → Numbered (ok a)

-- ---- one step

numbered_bind : {A B : Type 0} {m : Res A} {f : A → Res B} → Numbered m → ((a : A) → Numbered (f a)) → Numbered (m >>= f)
unfolding ◌>>=◌
numbered_bind (number! e) g = number! e
numbered_bind (value! {a = a}) g = g a

numbered_need : {A : Type 0} (t : Bool) (n k : ℕ) {r : Res A} → within 1 7 n ≡ true → Numbered r → Numbered (need t n k >> r)
unfolding ◌>>◌ need
numbered_need true n k e h = h
numbered_need false n k e h = number! e

numbered_if : {A : Type 0} (t : Bool) {a b : Res A} → Numbered a → Numbered b → Numbered (when t then a else b)
unfolding when◌then◌else◌
numbered_if true h g = h
numbered_if false h g = g

-- ---- each definition of the reader

head_numbered : (allowed : Kind → Bool) (bs : Bytes) (at : ℕ) → Numbered (read_head allowed bs at)
unfolding read_head
head_numbered allowed bs at = numbered_need _ _ _ refl (numbered_need _ _ _ refl (numbered_need _ _ _ refl (numbered_need _ _ _ refl (numbered_need _ _ _ refl value!))))

content_numbered : (bs : Bytes) (at : ℕ) (h : Head) → Numbered (read_content bs at h)
unfolding read_content
content_numbered bs at h = numbered_need _ _ _ refl value!

text_body_numbered : (s : Sort) (bs : Bytes) (at : ℕ) (h : Head) → Numbered (text_body s bs at h)
unfolding text_body
text_body_numbered s bs at h = numbered_need _ _ _ refl (numbered_bind (content_numbered bs at h) (λ t. numbered_need _ _ _ refl (numbered_need _ _ _ refl value!)))

texts_numbered : (s : Sort) (bs : Bytes) (at n : ℕ) → Numbered (read_row s bs at n)
unfolding read_row read_text
texts_numbered s bs at zero = value!
texts_numbered s bs at (suc n) = numbered_bind (numbered_bind (head_numbered _ bs at) (λ h. text_body_numbered s bs at h)) (λ next. texts_numbered s bs next n)

null_numbered : (at left : ℕ) (h : Head) → Numbered (null_body at left h)
unfolding null_body
null_numbered at left h = numbered_need _ _ _ refl value!

array_numbered : (s : Sort) (low high : ℕ) (bs : Bytes) (at left : ℕ) → Numbered (read_array s low high bs at left)
unfolding read_array array_body
array_numbered s low high bs at zero = value!
array_numbered s low high bs at (suc left) =
    numbered_bind (head_numbered _ bs at) (λ h. numbered_if _ (null_numbered at left h) (numbered_need _ _ _ refl (numbered_bind (texts_numbered s bs h.next h.value) (λ next. value!))))

fragment_numbered : (bs : Bytes) (at left : ℕ) → Numbered (read_fragment bs at left)
unfolding read_fragment fragment_body
fragment_numbered bs at zero = value!
fragment_numbered bs at (suc left) = numbered_bind (head_numbered _ bs at) (λ h. numbered_if _ (null_numbered at left h) (numbered_bind (text_body_numbered _ bs at h) (λ next. value!)))

nothing_numbered : (bs : Bytes) (at left : ℕ) → Numbered (read_nothing bs at left)
unfolding read_nothing
nothing_numbered bs at zero = value!
nothing_numbered bs at (suc left) = numbered_bind (head_numbered _ bs at) (λ h. number! refl)

port_body_numbered : (bs : Bytes) (at left n : ℕ) (h : Head) → Numbered (port_body bs at left n h)
unfolding port_body
port_body_numbered bs at left n h = numbered_need _ _ _ refl (numbered_bind (nothing_numbered bs h.next left) (λ next. value!))

port_numbered : (bs : Bytes) (at left : ℕ) → Numbered (read_port bs at left)
unfolding read_port
port_numbered bs at zero = value!
port_numbered bs at (suc left) = numbered_bind (head_numbered _ bs at) (λ h. port_body_numbered bs at left 0 h)

label_body_numbered : (n : ℕ) (bs : Bytes) (at : ℕ) (h : Head) → Numbered (label_body n bs at h)
unfolding label_body
label_body_numbered n bs at h = numbered_need _ _ _ refl (text_body_numbered _ bs at h)

names_numbered : (bs : Bytes) (at left n : ℕ) → Numbered (read_names bs at left n)
unfolding read_names
names_numbered bs at zero n = value!
names_numbered bs at (suc left) n =
    numbered_bind (head_numbered _ bs at) (λ h. numbered_if _ (numbered_bind (label_body_numbered n bs at h) (λ next. names_numbered bs next left (suc n))) (port_body_numbered bs at left n h))

authority_numbered : (bs : Bytes) (at : ℕ) → Numbered (read_authority bs at)
unfolding read_authority labels_host address_host
authority_numbered bs at =
    numbered_bind (head_numbered _ bs at) (λ a. numbered_need _ _ _ refl (numbered_bind (head_numbered _ bs a.next) (λ h. numbered_if _
    (numbered_bind (label_body_numbered 0 bs _ h) (λ next. numbered_bind (names_numbered bs next _ 1) (λ p. numbered_need _ _ _ refl value!)))
    (numbered_need _ _ _ refl (numbered_bind (content_numbered bs _ h) (λ t. numbered_bind (port_numbered bs _ _) (λ p. value!)))))))

after_scheme_numbered : (bs : Bytes) (at count : ℕ) (s : SchemeAt) (next : ℕ) → Numbered (after_scheme bs at count s next)
unfolding after_scheme
after_scheme_numbered bs at count s next = numbered_need _ _ _ refl (numbered_bind (authority_numbered bs next) (λ a. value!))

opening_body_numbered : (bs : Bytes) (at count : ℕ) (h : Head) (k : Kind) → Numbered (opening_body bs at count h k)
unfolding opening_body
opening_body_numbered bs at count h Number = numbered_need _ _ _ refl (numbered_need _ _ _ refl (numbered_need _ _ _ refl value!))
opening_body_numbered bs at count h Negative = numbered_need _ _ _ refl (after_scheme_numbered bs at count _ _)
opening_body_numbered bs at count h ByteString = number! refl
opening_body_numbered bs at count h Text = numbered_bind (text_body_numbered _ bs at h) (λ next. after_scheme_numbered bs at count _ next)
opening_body_numbered bs at count h Array = number! refl
opening_body_numbered bs at count h True = numbered_need _ _ _ refl value!
opening_body_numbered bs at count h Null = after_scheme_numbered bs at count _ _
opening_body_numbered bs at count h Other = number! refl

opening_numbered : (bs : Bytes) (at count : ℕ) → Numbered (read_opening bs at count)
unfolding read_opening
opening_numbered bs at zero = value!
opening_numbered bs at (suc n) = numbered_bind (head_numbered _ bs at) (λ h. opening_body_numbered bs at (suc n) h h.kind)

read_numbered : (lim : Limits) (bs : Bytes) → Numbered (read lim bs)
unfolding read
read_numbered lim bs =
    numbered_need _ _ _ refl (numbered_bind (head_numbered _ bs 0) (λ a. numbered_need _ _ _ refl (numbered_bind (opening_numbered bs _ _) (λ o.
    numbered_bind (array_numbered _ _ _ bs _ _) (λ p. numbered_bind (array_numbered _ _ _ bs _ _) (λ q. numbered_bind (fragment_numbered bs _ _) (λ f. numbered_need _ _ _ refl value!)))))))

-- ---- what that says of an answer

numbered_at : {A : Type 0} (n k : ℕ) → Numbered {A = A} (refused n k) → (1 ≤ n) × (n ≤ 7)
numbered_at n k (number! e) = (within_low 1 7 n e, within_high 1 7 n e)

pub numbers : (lim : Limits) (bs : Bytes) (n k : ℕ) → read lim bs ≡ refused n k → (1 ≤ n) × (n ≤ 7)
numbers lim bs n k e = numbered_at n k (subst Numbered e (read_numbered lim bs))

-- ---- what a call of reading answers

pub call_accepted : (lim : Limits) (bs : Bytes) (f : Found) → read lim bs ≡ ok f → ok (components bs f) ≡ read_call lim bs
unfolding read_call ◌>>=◌
call_accepted lim bs f e = rw e

pub call_refused : (lim : Limits) (bs : Bytes) (n k : ℕ) → read lim bs ≡ refused n k → refused n k ≡ read_call lim bs
unfolding read_call ◌>>=◌
call_refused lim bs n k e = rw e

-- its components are those of what was found
pub accepted : (lim : Limits) (bs : Bytes) (c : Components) → read_call lim bs ≡ ok c → (f : Found) × (read lim bs ≡ ok f) × (components bs f ≡ c)
accepted lim bs c e = go (read lim bs) refl
  where
    go : (r : Res Found) → read lim bs ≡ r → (f : Found) × (read lim bs ≡ ok f) × (components bs f ≡ c)
    go (refused n k) d = refused_ok n k c (call_refused lim bs n k d ∙ e)
    go (ok f) d = let same : ok (components bs f) ≡ ok c = call_accepted lim bs f d ∙ e in (f, d, cc)
