use Rattle.std.proofs.Common.{subst}
use Rattle.std.specs.List.{All}
use Rattle.std.proofs.lemmas.List.Elements.{All-map}
use Rattle.sw_hashpath.specs.Place.{IsPlace, PlaceModel}
use Rattle.sw_hashdir.specs.declared.floor.Floor.{Floor}
use Rattle.sw_suffix.specs.Entries.{key_place}
use Rattle.sw_suffix.specs.Table.{SuffixTableModel}
use Rattle.sw_suffix.specs.declared.key.Key.{Key}
use Rattle.sw_suffix.proofs.table.SuffixTable.hashes.Goals as goal

pub returns-clause-right : goal.returns-clause-right
returns-clause-right c =
    subst (λ (model : SuffixTableModel). All (λ floor. IsPlace model.power floor.0) model.floors) c.self.view_is
    (All-map (λ (floor : PlaceModel × Floor). IsPlace c.self.inside.power floor.0) (λ (entry : Key × Floor). (key_place entry.0, entry.1)) c.self.inside.floors.entries c.self.invariant.right)
