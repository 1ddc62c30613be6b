-- The order of a table's floors: no place is before itself.
use Rattle.std.proofs.Common.{⊎_elim, arith}
use Rattle.std.specs.Cmp.{tied_itself}
use Rattle.std.proofs.lemmas.Cmp.{nat_list_cmp_total}
use Rattle.sw_hashpath.specs.Place.{PlaceModel}
use Rattle.sw_hashdir.specs.declared.floor.Floor.{Floor}
use Rattle.sw_suffix.specs.Table.{IsBefore}

pub IsBefore-never : (place : PlaceModel) (first second : Floor) → IsBefore (place, first) (place, second) → ⊥
IsBefore-never place first second before = ⊎_elim
    (λ part. absurd (omega (arith, part)))
    (λ level. ⊎_elim (λ suffix. absurd (omega (arith, suffix))) (λ hash. let less = hash.1 in let tied = tied_itself nat_list_cmp_total place.hash in absurd (cc)) level.1)
    before
