-- The misses that a put lists, each with its device.
use Rattle.std.proofs.Common.{◌≡◌, ◌≢◌, ℕ, ◌<◌, ◌≤◌, ◌==◌, Contains, List, get_or, length, map, sym, ap, ◌∙◌, arith}
use Rattle.std.specs.List.{AllPairs, count_by}
use Rattle.std.proofs.lemmas.List.{get_or-map, length-map}
use Rattle.std.proofs.lemmas.List.Elements.{Contains-get_or}
use Rattle.sw_message.specs.declared.miss.Miss.{Miss}
use Rattle.sw_message.specs.declared.target.Target.{Target}
use Rattle.sw_quorum.proofs.Places.{apart-from_once}

abbrev pub with_device : Target × Miss → ℕ × Miss
with_device one = (one.0.device, one.1)

module _ (missed : List (Target × Miss)) where
  within-listed : (i : ℕ) → i < length (map with_device missed) → i < length missed
  within-listed i within = omega (arith, within, length-map missed with_device)

  -- a miss is listed
  pub is-listed : (one : Target × Miss) → Contains missed one → Contains (map with_device missed) (with_device one)
  is-listed one (i, within, is) = (i, omega (arith, within, length-map missed with_device), get_or-map with_device missed i one (with_device one) within ∙ ap with_device is)

  -- and what is listed is a miss
  pub from-listed : (device : ℕ) (miss : Miss) → Contains (map with_device missed) (device, miss) → (one : Target × Miss) × Contains missed one × (with_device one ≡ (device, miss))
  from-listed device miss (i, within, is) =
      let any : Target × Miss = (record { index = 0; device = device }, miss) in
      let there = within-listed i within in
      (get_or missed i any, Contains-get_or missed i any there, sym (get_or-map with_device missed i any (device, miss) there) ∙ is)

  -- where no device missed twice, none is listed twice
  pub listed-apart : ((device : ℕ) → count_by (λ (one : Target × Miss). one.0.device == device) missed ≤ 1) → AllPairs (λ (one other : ℕ × Miss). one.0 ≢ other.0) (map with_device missed)
  listed-apart once i j d less within same =
      let any : Target × Miss = (record { index = 0; device = d.0 }, d.1) in
      let there = within-listed j within in
      apart-from_once (λ (one : Target × Miss). one.0.device) missed once i j any less there
      (ap (λ (one : ℕ × Miss). one.0) (sym (get_or-map with_device missed i any d (omega (arith, less, there)))) ∙ same ∙ ap (λ (one : ℕ × Miss). one.0) (get_or-map with_device missed j any d there))
