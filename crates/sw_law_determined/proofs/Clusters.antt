-- What the members of a ring say is one cluster: its devices are theirs in the one order in which ids rise.
use Rattle.std.proofs.Common.{◌≡◌, ⊎_elim, ℕ, suc, ◌+◌, ◌<◌, Contains, List, [], ◌∷◌, get_or, refl, sym, ap, subst, ◌∙◌, arith}
use native.Mathlib.Numerals.{unary_clauses}
use Rattle.std.specs.List.{slice_index}
use Rattle.std.specs.List.Sorted.{IsStrictlyIncreasing}
use Rattle.std.proofs.lemmas.List.{get_or-map, length-map}
use Rattle.std.proofs.lemmas.List.Kept.{AllPairs-from_increasing}
use Rattle.std.proofs.lemmas.List.Sorted.{Contains-permutation, IsPermutation-sym}
use Rattle.sw_diskfile.proofs.Lists.{Contains-cases, Contains-first, Contains-later, Contains-none}
use Rattle.sw_ring.specs.Cluster.{ClusterModel, IsCluster}
use Rattle.sw_ring.specs.Members.{RingMembers}
use Rattle.sw_ring.specs.Rules.{device_ids}
use Rattle.sw_ring.specs.declared.device.Device.{Device}

abbrev Rises : List Device → Type 0
Rises devices = IsStrictlyIncreasing (device_ids devices)

abbrev AreAmong : List Device → List Device → Type 0
AreAmong devices others = (device : Device) → Contains devices device → Contains others device

-- the first is below each later one
below : (first : Device) (devices : List Device) → Rises (first ∷ devices) → (device : Device) → Contains devices device → first.id < device.id
below first devices rises device (place, within, is) =
    let all = AllPairs-from_increasing (device_ids (first ∷ devices)) rises in
    let less : first.id < get_or (device_ids devices) place first.id = all 0 (suc place) first.id (omega arith) (omega (arith, within, length-map devices (λ (one : Device). one.id))) in
    let id_is : get_or (device_ids devices) place first.id ≡ device.id = get_or-map (λ (one : Device). one.id) devices place device first.id within ∙ ap (λ (one : Device). one.id) is in
    omega (arith, less, id_is)

later_rise : (first : Device) (devices : List Device) → Rises (first ∷ devices) → Rises devices
later_rise first devices rises = λ k within.
    subst (λ (next : ℕ). slice_index (device_ids devices) k < slice_index (device_ids devices) next) (sym (next_is k))
    (simp unary_clauses at (rises (suc k) (omega (arith, within))))
  where
    next_is : (k : ℕ) → k + 1 ≡ suc k
    next_is k = simp unary_clauses refl

same_devices : (devices others : List Device) → Rises devices → Rises others → AreAmong devices others → AreAmong others devices → devices ≡ others
same_devices [] [] rises rise among back = refl
same_devices [] (other ∷ others) rises rise among back = absurd (Contains-none other (back other (Contains-first other others)))
same_devices (first ∷ devices) [] rises rise among back = absurd (Contains-none first (among first (Contains-first first devices)))
same_devices (first ∷ devices) (other ∷ others) rises rise among back =
    let one : first ≡ other = first_is in
    rw one (ap (λ (rest : List Device). other ∷ rest) (same_devices devices others (later_rise first devices rises) (later_rise other others rise)
    (λ device there. rest_of first devices other others rises one device there (among device (Contains-later first devices device there)))
    (λ device there. rest_of other others first devices rise (sym one) device there (back device (Contains-later other others device there)))))
  where
    first_is : first ≡ other
    first_is = ⊎_elim sym
        (λ there. ⊎_elim (λ is. is)
        (λ here. let less = below other others rise first there in let more = below first devices rises other here in absurd (omega arith))
        (Contains-cases first devices other (back other (Contains-first other others))))
        (Contains-cases other others first (among first (Contains-first first devices)))

    rest_of : (a : Device) (rest : List Device) (b : Device) (bs : List Device) → Rises (a ∷ rest) → a ≡ b → (device : Device) → Contains rest device → Contains (b ∷ bs) device → Contains bs device
    rest_of a rest b bs rises same device there has = ⊎_elim
        (λ is. let less = below a rest rises device there in let id : a.id ≡ device.id = ap (λ (one : Device). one.id) (same ∙ is) in absurd (omega arith))
        (λ later. later)
        (Contains-cases b bs device has)

pub one_cluster : (members : RingMembers) (one other : ClusterModel) → IsCluster members one → IsCluster members other → one ≡ other
one_cluster members one other is are =
    let devices : one.devices ≡ other.devices = same_devices one.devices other.devices is.ascending are.ascending
    (λ device there. Contains-permutation members.devices other.devices device are.devices (Contains-permutation one.devices members.devices device (IsPermutation-sym members.devices one.devices is.devices) there))
    (λ device there. Contains-permutation members.devices one.devices device is.devices (Contains-permutation other.devices members.devices device (IsPermutation-sym members.devices other.devices are.devices) there)) in
    rw (is.part_power ∙ sym are.part_power) (rw (is.prefix ∙ sym are.prefix) (rw (is.suffix ∙ sym are.suffix) (rw (is.policy ∙ sym are.policy) (rw devices (rw (is.rows ∙ sym are.rows) refl)))))
