use Rattle.std.proofs.Common.{◌≡◌, List, ℕ, map, subst, rules}
use Rattle.std.specs.List.Sorted.{IsPermutation}
use Rattle.std.proofs.lemmas.List.Filters.{dedup_is}
use Rattle.sw_sim_text.proofs.Missed.{device_in, devices_are}
use Rattle.sw_sim_text.proofs.devices.devices_of.Goals as goal

pub returns : goal.returns
returns c =
    let collected : c.in_ok-devices.devices.items ≡ map device_in c.args.misses.now = search rules in
    let sorted = c.sort_unstable.new.self.items in
    let moved = subst (λ (devices : List ℕ). IsPermutation devices sorted) collected c.sort_unstable.ensures.permutation in
    rw (dedup_is _ _ _ c.dedup.ensures.filtered) (devices_are c.args.misses.now sorted moved c.sort_unstable.ensures.sorted)
