use Rattle.std.proofs.Common.{◌≡◌, ℕ, sym, ap, subst}
use Rattle.sw_hashpath.specs.Place.{IsPlace, PlaceModel}
use Rattle.sw_suffix.specs.Entries.{floors_of, key_place}
use Rattle.sw_suffix.specs.Table.{SuffixTableModel}
use Rattle.sw_suffix.proofs.Keeping.{kept_less}
use Rattle.sw_suffix.proofs.table.SuffixTable.set.Goals as goal

pub invariant_of-self-2 : goal.invariant_of-self-2
invariant_of-self-2 c =
    let power : c.self.inside.power ≡ c.args.self.now.power = ap (λ (model : SuffixTableModel). model.power) c.self.view_is in
    let right = subst (λ (place : PlaceModel). IsPlace c.self.inside.power place) (sym (ap key_place c.of-key.ensures)) (subst (λ (n : ℕ). IsPlace n c.args.place) (sym power) c.requires) in
    record {
      sound = c.in_ok-put.ensures.sound;
      right = c.in_ok-put.ensures.right c.self.inside.power c.self.invariant.right right;
      kept = kept_less (floors_of c.self.inside.floors.entries) (floors_of c.put.new.floors.entries) c.self.inside.kept.entries c.remove.new.self.entries c.of-key.result.part c.of-key.result.suffix
          c.self.invariant.kept c.in_ok-put.ensures.others c.remove.ensures.updates.0;
    }
