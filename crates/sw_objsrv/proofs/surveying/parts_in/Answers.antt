use Rattle.std.proofs.Common.{List, ℕ, map, string_bytes, ap, subst, ◌∙◌, arith}
use Rattle.std.specs.List.Sorted.{IsPermutation}
use Rattle.std.proofs.lemmas.List.{take_all}
use Rattle.std.proofs.lemmas.List.Filters.{dedup_is}
use Rattle.sw_objsrv.proofs.Surveyed.{part_in, parts_are}
use Rattle.sw_objsrv.proofs.surveying.parts_in.Goals as goal

pub returns : goal.returns
returns c =
    let whole = take_all c.loop-place.place-index c.deref-place-items.result.now (omega arith) ∙ c.deref-place-items.ensures.value in
    let sorted = c.sort_unstable.new.self.items in
    let moved = subst (λ (parts : List ℕ). IsPermutation parts sorted) (c.loop-place.invariant ∙ ap (map part_in) whole) c.sort_unstable.ensures.permutation in
    rw (dedup_is _ _ _ c.dedup.ensures.filtered)
    (parts_are c.args.power (map string_bytes c.args.folders.now) c.in_ok-places.places.items (record { all = c.in_ok-places.ensures }) sorted moved c.sort_unstable.ensures.sorted)
