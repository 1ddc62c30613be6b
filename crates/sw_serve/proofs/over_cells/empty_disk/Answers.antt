use Rattle.std.proofs.Common.{Some, ap, refl, subst, sym, ◌∙◌}
use Rattle.std.proofs.lemmas.Option.{slice_get-get_or}
use Rattle.sw_disk.specs.Runs.{IfTold}
use Rattle.sw_memdisk.specs.Memory.{MemDiskModel, seen_of}
use Rattle.sw_law_replayed.specs.Keeping.{IsEmptyFor}
use Rattle.sw_sim_nodes.proofs.Making.{capacity_is}
use Rattle.sw_serve.proofs.over_cells.empty_disk.Goals as goal

pub returns : goal.returns
returns c =
    let cluster = c.args.cluster.now in
    let device = c.args.device.now in
    let has = c.requires.device in
    subst (λ (disk : MemDiskModel). IfTold (seen_of disk).told (IsEmptyFor cluster device.id)) (sym c.new.ensures) (record {
      empty = λ name. refl;
      capacity = capacity_is cluster c.requires.rules has.0 device (slice_get-get_or cluster.devices has.0 device has.1 ∙ ap Some has.2);
    })
