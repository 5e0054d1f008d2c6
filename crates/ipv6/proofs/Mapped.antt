-- The text of an address, by its form.
use Prim.Native.Nat.{◌-◌, ◌≤◌}
use native.Mathlib.Omega.{arith}
use mathlib.Core.Path.{◌≡◌, sym, ap, ◌∙◌}
use mathlib.Core.Bool.{true, false}
use mathlib.Core.List.{◌++◌}
use lib.ListN.{length, get_or, take, drop, length-drop}
use lib.Seq.{take_all, get_or-take}
use lib.Dec.{lit≤}
use Rattle.rules.specs.Bytes.{Bytes, ascii}
use Rattle.rules.specs.Address.{ipv4_text, hex_text, mapped_start, mapped, mixed_text, ipv6_text}
use Rattle.rules.proofs.Tools.{same_true, cond_yes, cond_no}
use Rattle.rules.proofs.Addresses.{ipv6_length}

module _ (bs : Bytes) where
  -- the last four bytes as the code cuts them
  pub mixed_form : length bs ≡ 16 → mapped bs ≡ true → ipv6_text bs ≡ ascii "::ffff:" ++ ipv4_text (take (length bs - 12) (drop 12 bs))
  unfolding ipv6_text mixed_text
  mixed_form h m =
      cond_yes _ _ _ m ∙ ap (λ (t : Bytes). ascii "::ffff:" ++ ipv4_text t) (sym (take_all (length bs - 12) (drop 12 bs) (omega (arith, length-drop 12 bs))))

  pub hex_form : mapped bs ≡ false → ipv6_text bs ≡ hex_text bs
  unfolding ipv6_text
  hex_form m = cond_no _ _ _ m

  -- how long it is at most
  pub ipv6_fits : length bs ≡ 16 → length (ipv6_text bs) ≤ 49
  ipv6_fits h = ipv6_length bs h

  pub mapped_last : mapped bs ≡ true → get_or bs 11 0 ≡ 0xff
  unfolding mapped
  mapped_last m = sym (get_or-take 12 bs 11 0 (lit≤ tt)) ∙ ap (λ (t : Bytes). get_or t 11 0) (same_true (take 12 bs) mapped_start m)
