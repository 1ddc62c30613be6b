use Rattle.std.proofs.Common.{◌≡◌, List, map, string_bytes, rules, subst}
use Rattle.std.specs.List.Sorted.{IsPermutation}
use Rattle.std.proofs.lemmas.Fn.{always_returns_same, filter_same}
use Rattle.std.proofs.lemmas.List.Filters.{dedup_is}
use Rattle.sw_hashpath.specs.Place.{PlaceModel}
use Rattle.sw_suffix.specs.Table.{same_place}
use Rattle.sw_objsrv.proofs.Surveyed.{hash_in, is_in, places_are}
use Rattle.sw_objsrv.proofs.surveying.places_of_part.Goals as goal

pub returns : goal.returns
returns c =
    let part = c.args.part in
    let sorted = c.sort_unstable_by_key.new.self.items in
    let here = filter_same _ (is_in part) _ (λ x b f' h. search rules) _ _ c.retain.ensures.filtered in
    let moved = subst (λ (places : List PlaceModel). IsPermutation places sorted) here c.sort_unstable_by_key.ensures.permutation in
    let up = c.sort_unstable_by_key.ensures.sorted hash_in (always_returns_same _ (λ a r. r ≡ hash_in a.0.now) _ (λ a r q k. search rules)) in
    rw (dedup_is same_place _ _ c.dedup.ensures.filtered)
    (places_are c.args.power (map string_bytes c.args.folders.now) c.in_ok-places.places.items (record { all = c.in_ok-places.ensures }) part sorted moved up)
