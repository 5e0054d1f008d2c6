-- What is written is read again with the same contents.
use Prim.Native.Nat.{ℕ, ◌^◌, ◌≤◌, ◌<◌}
use native.Mathlib.Omega.{arith}
use mathlib.Core.Path.{◌≡◌, sym, ap, ap₂, ◌∙◌}
use mathlib.Core.List.{List}
use lib.ListN.{length, take}
use mir.Val.{Val}
use denote.Laws.{Is}
use denote.Enum.Declared as Enum
use denote.Struct.Declared as Struct
use Rattle.std.specs.Prelude.{Result, Ok, Err}
use Rattle.rules.specs.Bytes.{Bytes}
use Rattle.rules.specs.Model as Model
use Rattle.rules.specs.Model.{limits, map_parts}
use Rattle.rules.specs.Reader.{taken}
use Rattle.rules.specs.Valid.{If}
use Rattle.rules.specs.Result.{Res, ok}
use Rattle.rules.specs.Writing.{SizedScheme, SizedOpening, Sized}
use Rattle.rules.specs.Calls.{length_of, outcome, after, read_call, write_call}
use Rattle.rules.proofs.Steps.{refused_ok}
use Rattle.rules.proofs.CallNumbers.{told_within, told_done}
use Rattle.rules.proofs.Proved.{shown_enough, write_read_proved}
use Rattle.reader.specs.declared.Scheme.{Scheme}
use Rattle.reader.specs.declared.Scheme.TheVariants as SchemeV
use Rattle.reader.specs.Answers.{port_of}
use Rattle.components.specs.declared.Authority.{Authority}
use Rattle.components.specs.declared.Opening.{Opening}
use Rattle.components.specs.declared.Opening.TheVariants as OpeningV
use Rattle.components.specs.declared.Components.{Components}
use Rattle.components.specs.Content.{scheme_of, authority_of, opening_of, components_of}
use Rattle.components.specs.Layout.{components_laid, reading_laid, spans_after}
use denote.Builtin.{u64}
use Rattle.std.specs.Prelude as P
use Rattle.std.specs.Prelude.{Some, None}
use Rattle.std.specs.contracts.option.Option as OptionT
use Rattle.reader.specs.contracts.Scheme as SchemeT
use Rattle.components.specs.contracts.Authority as AuthorityT
use Rattle.components.specs.contracts.Opening as OpeningT
use Rattle.components.specs.contracts.Components as ComponentsT
use Rattle.refusals.specs.declared.Refusal.{Refusal}
use Rattle.refusals.specs.Answers.{number_of, answer_is}
use Rattle.outcomes.specs.Answers.{outcome_is}
use Rattle.round_trip.specs.declared.ReadBack.{ReadBack}
use Rattle.round_trip.specs.Rereading.{SameContents}
use Rattle.round_trip.proofs.Rewriting.{said}

-- ---- RULES 9.1: discard, port and scheme number are 64 bits wide, as every value of their types is

scheme_sized : (s : P.Option Scheme) {vs : List Val} → Is (Enum.row (OptionT.the_type SchemeT.the_row)) s vs → If SizedScheme (scheme_of s)
scheme_sized None g = tt
scheme_sized (Some (SchemeV.Number n)) g = omega arith
scheme_sized (Some (SchemeV.Name t)) g = tt

port_sized : (p : P.Option ℕ) {vs : List Val} → Is (Enum.row (OptionT.the_type u64)) p vs → If (λ p. p < 2 ^ 64) (port_of p)
port_sized None g = tt
port_sized (Some p) g = omega arith

authority_sized : (xs : List ℕ) (a : P.Option Authority) {vs : List Val} → Is (Enum.row (OptionT.the_type (Struct.row AuthorityT.the_type))) a vs
    → If (λ a. If (λ p. p < 2 ^ 64) a.port) (authority_of xs a)
authority_sized xs None g = tt
authority_sized xs (Some a) g = port_sized a.port g.1.1.1.1.0.1.1.1.0

opening_sized : (xs : List ℕ) (o : Opening) {vs : List Val} → Is (Enum.row OpeningT.the_type) o vs → SizedOpening (opening_of xs o)
opening_sized xs (OpeningV.Discard k) g = omega arith
opening_sized xs OpeningV.DiscardAll g = tt
opening_sized xs (OpeningV.Full s a) g = (scheme_sized s g.1.1.1.1.0, authority_sized xs a g.1.1.1.1.1.0)

pub components_sized : (xs : List ℕ) (c : Components) {vs : List Val} → Is (Struct.row ComponentsT.the_type) c vs → Sized (components_of xs c)
components_sized xs c g = opening_sized xs c.opening g.1.1.0

-- ---- reading what was written

-- an answer that says components holds them
laid_answer : (r : Result Components Refusal) (c : Model.Components) → answer_is (λ c. c) r ≡ ok (components_laid c) → r ≡ Ok (components_laid c)
laid_answer (Ok x) c e = cc
laid_answer (Err x) c e = refused_ok (number_of x.reason) x.place (components_laid c) e

-- the length lies inside the room
pub length_within : (u : Res Bytes) (n : ℕ) (d : Res ℕ) → d ≡ outcome u n → length_of d ≤ n
length_within u n d e = rw e (told_within u n)

module _ (c : Components) (xs : List ℕ) (lent room left : Bytes) (r : ReadBack) (found ys : List ℕ) where
  abbrev call : Res Bytes
  call = write_call limits (components_of xs c) lent

  abbrev read : Res Model.Components
  read = read_call limits (take (length_of (outcome_is r.written)) left)

  pub same_contents : Sized (components_of xs c) → length lent < 2 ^ 64 → (outcome_is r.written ≡ outcome call (length room)) × (left ≡ after call room)
      → answer_is (λ c. c) r.reading ≡ reading_laid read → ys ≡ spans_after read found
      → (n : ℕ) → outcome_is r.written ≡ ok n → SameContents c xs lent (take n left) r.reading ys
  same_contents z small wrote told stored n e =
      let bs : Bytes = take n left in
      let d : outcome call (length room) ≡ ok n = sym wrote.0 ∙ e in
      let w = told_done call (length room) n d in
      let whole : bs ≡ w.0 = ap₂ (λ (n : ℕ) (s : Bytes). take n s) (ap length_of (sym d)) wrote.1 ∙ shown_enough _ w.0 room w.1 w.3 in
      let again = write_read_proved limits (omega arith) (components_of xs c) lent bs small z (w.1 ∙ ap ok (sym whole)) in
      let is : read ≡ ok again.components = ap (λ m. read_call limits (take (length_of m) left)) e ∙ again.accepted in
      let laid = laid_answer r.reading again.components (told ∙ ap reading_laid is) in
      let spans : ys ≡ spans_after (ok again.components) found = stored ∙ ap (λ m. spans_after m found) is in
      record {
        components = components_laid again.components;
        accepted = laid;
        contents =
            ap (λ (l : List ℕ). map_parts (taken bs) (components_of l (components_laid again.components))) spans
            ∙ ap (map_parts (taken bs)) (said again.components found)
            ∙ again.contents;
      }
