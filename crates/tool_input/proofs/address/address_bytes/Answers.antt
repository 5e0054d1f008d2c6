-- `tool_input::address_bytes` meets its contract: the bytes of an IPv6 address, and the refusal of a text that is none.
use native.Mathlib.Omega.{arith}
use native.Mathlib.Nat.{zero-add}
use mathlib.Core.Path.{◌≡◌, sym, refl, ap, ◌∙◌}
use Rattle.std.proofs.Common.{inl, inr, length, drop, ◌++◌}
use Rattle.std.specs.Net.Addr.{ipv6_octets}
use Rattle.std.proofs.lemmas.List.{length-take-le}
use Rattle.std.proofs.lemmas.List.Edits.{sets-eq}
use Rattle.tool_input.proofs.address.address_bytes.Goals as goal

pub returns-then-contains-clause-ipv6 : goal.returns-then-contains-clause-ipv6
returns-then-contains-clause-ipv6 c e h =
    let room = c.args.room.now in
    let written = c.copy_from_slice.ensures.after ∙ c.octets.ensures in
    let size : length (ipv6_octets c.in-Ok.address) ≡ 16 =
    sym (ap length written) ∙ c.copy_from_slice.ensures.len ∙ length-take-le 16 room e in
    let all = rw (zero-add, size) at (sets-eq (ipv6_octets c.in-Ok.address) room 0 (omega (arith, size, e))) in
    rw (sym c.without_brackets.ensures)
    (inl (c.in-Ok.address, c.in-Ok.ensures, refl, ap (λ v. v ++ drop 16 room) written ∙ sym all))

pub returns-in_default-clause-ipv6 : goal.returns-in_default-clause-ipv6
returns-in_default-clause-ipv6 c e h = rw (sym c.without_brackets.ensures) (inr (c.in_default.ensures, refl, refl))

pub returns-in_default-clause-ipv6_alone : goal.returns-in_default-clause-ipv6_alone
returns-in_default-clause-ipv6_alone c e h = rw (sym c.without_brackets.ensures) (inr (c.in_default.ensures, refl, refl))
