-- What the values are, by what stands at their places.
use Prim.Native.Nat.{ℕ, ◌+◌, ◌-◌, ◌%◌, ◌≤◌, ◌<◌}
use native.Mathlib.Omega.{arith}
use Rattle.std.specs.Prelude as Code
use Rattle.std.specs.Option.{unwrap_or}
use mathlib.Core.Path.{◌≡◌, refl, sym, ap, ◌∙◌}
use mathlib.Core.Bool.{true, false}
use mathlib.Core.List.{List, [], ◌∷◌, ◌++◌, map}
use mathlib.Core.Option.{Option, none, some}
use lib.ListN.{length}
use lib.Dec.{ltb, eqb}
use borrow.Author.Tests.{ltb-true, eq-eqb, ne_eqb, lt-ltb, le-ltb}
use Rattle.rules.specs.Bytes.{Bytes, part, big_endian, dot, same, concat, join}
use Rattle.rules.specs.Model.{elements, normal_path}
use Rattle.rules.specs.Address.{address_text}
use Rattle.rules.specs.Options.{port_bytes}
use Rattle.rules.specs.Reader.{span_at, spans, contents, HostAt, address_at, labels_at}
use Rattle.rules.specs.Meaning.{said_texts, said_host}
use Rattle.rules.proofs.Escapes.{join_each}
use Rattle.rules.proofs.Tools.{cond_split, length_part}
use Rattle.rules.proofs.RowWalk.{First, first, none_left}
use Rattle.rules.proofs.Texts.{length_contents}
use Rattle.put.specs.Wrote.{Wrote}
use Rattle.put.proofs.Wrote.{Left, Next, left_all, wrote_length, wrote_taken}
use Rattle.put.proofs.Turns.{turn_next, turns_done}
use Rattle.cbor_rows.specs.declared.Row.{Row}
use Rattle.reader.specs.Answers.{slot_of}
use Rattle.coap_values.specs.Values.{host_value, port_value, TextsAsk, Valued, RowOf}

-- ---- a value that was written

pub valued_none : {src : Bytes} {v : Option Bytes} → none ≡ v → Valued src Code.None v
valued_none e = record { says = e; inside = tt; small = tt }

pub valued_wrote : {a b w : Bytes} {v : Option Bytes} {k : ℕ} → some w ≡ v → length w ≤ length a → length w ≤ 255 → Wrote a 0 w b k → Valued b (Code.Some k) v
valued_wrote {a} {b} {w} {v} {k} e h s p =
    record {
      says = ap some (wrote_taken p h) ∙ e;
      inside = omega (arith, p.place, wrote_length p);
      small = omega (arith, p.place);
    }

-- ---- Uri-Host

-- each text after a "."
abbrev pub dotted : List Bytes → Bytes
dotted ts = concat (map (λ (t : Bytes). dot ∷ t) ts)

dotted_each : (t : Bytes) (ts : List Bytes) → dotted (t ∷ ts) ≡ (dot ∷ t) ++ dotted ts
unfolding concat
dotted_each t ts = refl

dotted_none : dotted [] ≡ []
unfolding concat
dotted_none = refl

-- the first label, and then each further one after a "."
pub labels_first : {room : Bytes} {ts others : List Bytes} {t : Bytes} → ts ≡ t ∷ others → Next room 0 t (dotted others) room 0 (join dot ts)
labels_first {room} {ts} {others} {t} e = record { left = rw (ap (join dot) e ∙ join_each dot t others) left_all }

module _ {room room₀ w₀ : Bytes} {o at : ℕ} {left : List Bytes} where
  pub labels_next : {others : List Bytes} {t : Bytes} → left ≡ t ∷ others → Left room o (dotted left) room₀ at w₀ → Next room o (dot ∷ t) (dotted others) room₀ at w₀
  labels_next e = turn_next dotted dotted (λ (t : Bytes). dot ∷ t) dotted_each e

  pub labels_done : left ≡ [] → Left room o (dotted left) room₀ at w₀ → Wrote room₀ at w₀ room o
  labels_done e = turns_done dotted dotted_none e

pub no_labels : (ts : List Bytes) → ts ≡ [] → [] ≡ join dot ts
unfolding join
no_labels ts e = rw e

module _ (bs d : Bytes) where
  pub host_same : {x : HostAt} {at n : ℕ} {t : Bytes} → x ≡ address_at at n → t ≡ part bs at n → same t d ≡ true → none ≡ host_value (said_host bs x) d
  unfolding host_value
  host_same e f t = rw (e, ← f, t)

  pub host_address : {x : HostAt} {at n : ℕ} {t : Bytes} → x ≡ address_at at n → t ≡ part bs at n → same t d ≡ false → some (address_text t) ≡ host_value (said_host bs x) d
  unfolding host_value
  host_address e f t = rw (e, ← f, t)

  pub host_labels : {x : HostAt} {at n : ℕ} → x ≡ labels_at at n → some (join dot (contents bs at n)) ≡ host_value (said_host bs x) d
  unfolding host_value
  host_labels e = rw e

-- ---- Uri-Port

pub port_width_zero : (p : ℕ) → p ≡ 0 → length (port_bytes p) ≡ 0
unfolding port_bytes
port_width_zero p e = rw (eq-eqb p 0 e)

pub port_width_one : (p : ℕ) → 0 < p → p < 256 → length (port_bytes p) ≡ 1
unfolding port_bytes
port_width_one p o h = rw (ne_eqb p 0 (λ e. omega arith), lt-ltb p 256 h)

pub port_width_two : (p : ℕ) → 256 ≤ p → length (port_bytes p) ≡ 2
unfolding port_bytes
port_width_two p h = rw (ne_eqb p 0 (λ e. omega arith), le-ltb p 256 h)

pub port_width_most : (p : ℕ) → length (port_bytes p) ≤ 2
unfolding port_bytes
port_width_most p =
    cond_split (λ (w : Bytes). length w ≤ 2) (eqb p 0) (λ t. omega arith)
    (λ t. cond_split (λ (w : Bytes). length w ≤ 2) (ltb p 256) (λ u. omega arith) (λ u. omega arith))

-- its bytes, the highest first
pub port_big : (p : ℕ) → p ≤ 65535 → big_endian (length (port_bytes p)) p [] ≡ port_bytes p
unfolding port_bytes big_endian
port_big p h =
    cond_split (λ (w : Bytes). big_endian (length w) p [] ≡ w) (eqb p 0) (λ t. refl)
    (λ t. cond_split (λ (w : Bytes). big_endian (length w) p [] ≡ w) (ltb p 256)
    (λ u. let l : p < 256 = ltb-true p 256 u in ap (λ (x : ℕ). x ∷ []) (omega arith))
    (λ u. ap (λ (x : ℕ). x ∷ p % 256 ∷ []) (omega arith)))

pub port_same : (p d : ℕ) → p ≡ d → none ≡ port_value p d
unfolding port_value
port_same p d e = rw (eq-eqb p d e)

pub port_other : (p d : ℕ) → (p ≡ d → ⊥) → some (port_bytes p) ≡ port_value p d
unfolding port_value
port_other p d e = rw (ne_eqb p d e)

-- ---- Uri-Path and Uri-Query

none_row : (bs : Bytes) (ts : List Bytes) → [] ≡ ts → RowOf bs 0 0 ts
unfolding contents spans
none_row bs ts e = record { says = e; stand = tt; small = tt }

-- of a path or a query that is set, its texts; else none
pub texts_row : (bs : Bytes) (x : Code.Option Row) (r : Row) → r ≡ unwrap_or x (record { at = 0; count = 0 }) → TextsAsk bs (slot_of x) → RowOf bs r.at r.count (elements (said_texts bs (slot_of x)))
texts_row bs Code.None r e h = rw e (none_row bs [] refl)
texts_row bs (Code.Some y) r e h = rw e (record { says = refl; stand = h.0; small = h.1 })

module _ {bs : Bytes} {at n : ℕ} {ts : List Bytes} (r : RowOf bs at n ts) where
  -- a path that is not changed
  kept : normal_path ts ≡ ts → RowOf bs at n (normal_path ts)
  kept e = record { says = r.says ∙ sym e; stand = r.stand; small = r.small }

  -- one segment
  module _ (start k : ℕ) (o : n ≡ 1) (e : record { start = start; length = k } ≡ span_at bs at) where
    lone : First bs at n start k
    lone = first bs at n start k (omega arith) r.stand e

    one_text : ts ≡ part bs start k ∷ []
    one_text = sym r.says ∙ lone.content ∙ ap (λ (ts : List Bytes). part bs start k ∷ ts) (none_left bs (start + k) (n - 1) (omega arith))

    pub lone_empty : k ≡ 0 → RowOf bs 0 0 (normal_path ts)
    unfolding normal_path
    lone_empty z = none_row bs _ (rw (one_text, z))

    pub lone_full : (k ≡ 0 → ⊥) → RowOf bs at n (normal_path ts)
    unfolding normal_path
    lone_full z = kept (rw one_text (full (part bs start k) (λ l. z (sym (length_part bs start k lone.inside) ∙ l))))
      where
        full : (t : Bytes) → (length t ≡ 0 → ⊥) → normal_path (t ∷ []) ≡ t ∷ []
        full [] z = absurd (z refl)
        full (b ∷ t) z = refl

  -- none or several
  pub not_one : (n ≡ 1 → ⊥) → RowOf bs at n (normal_path ts)
  unfolding normal_path
  not_one z = kept (other ts (λ l. z (omega (arith, l, ap length r.says, length_contents bs at n))))
    where
      other : (ts : List Bytes) → (length ts ≡ 1 → ⊥) → normal_path ts ≡ ts
      other [] z = refl
      other (t ∷ []) z = absurd (z refl)
      other ([] ∷ u ∷ ts) z = refl
      other ((b ∷ t) ∷ u ∷ ts) z = refl
