use Rattle.std.proofs.Common.{◌≡◌, ℕ, List, string_bytes, sym, subst}
use Rattle.sw_disk.specs.Runs.{IfTold}
use Rattle.sw_disk.specs.Answers.{HasFile}
use Rattle.sw_hashpath.specs.FileName.{file_name_text}
use Rattle.sw_hashpath.specs.declared.file_name.FileName.TheVariants.{Data}
use Rattle.sw_suffix.specs.Table.{floor_at}
use Rattle.sw_diskfile.specs.Changes.{IfBothTold, IsMadeStable}
use Rattle.sw_diskfile.specs.Names.{DropsName}
use Rattle.sw_objsrv.specs.Changing.{LeavesOrder}
use Rattle.sw_objsrv.proofs.AfterLook.{has_file}
use Rattle.sw_objsrv.proofs.Ended.{ok_from}
use Rattle.sw_objsrv.proofs.Floors.{floors_again}
use Rattle.sw_hashdir.proofs.Laws.{entry_there}
use Rattle.sw_objsrv.proofs.InOrder.{order_left}
use Rattle.sw_objsrv.proofs.removing.drop_found.Goals as goal

pub drop_entry-change-requires-clause-index : goal.drop_entry-change-requires-clause-index
drop_entry-change-requires-clause-index g c =
    let looked = c.args.looked.now in
    let entry = c.args.entry.now in
    looked.indexes entry.stamp entry.index entry.durable (entry_there looked.dir entry.stamp entry.index entry.durable c.requires.there)

pub drop_entry-change-requires-clause-there : goal.drop_entry-change-requires-clause-there
drop_entry-change-requires-clause-there g c =
    let looked = c.args.looked.now in
    let entry = c.args.entry.now in
    let name = Data entry.stamp entry.index entry.durable in
    subst (λ (folder : List ℕ). IfTold (g.D.Disk.seen c.args.disk.now).told (λ s. HasFile s folder (file_name_text name))) (sym c.deref.ensures)
    (has_file (g.D.Disk.seen c.args.disk.now).told (string_bytes looked.folder) looked.dir c.requires.directory name (entry_there looked.dir entry.stamp entry.index entry.durable c.requires.there))

pub returns-clause-order : goal.returns-clause-order
returns-clause-order g c =
    let folder = string_bytes c.args.looked.now.folder in
    let names = c.args.looked.now.dir in
    let entry = c.args.entry.now in
    let gone = Data entry.stamp entry.index entry.durable in
    let seen = g.D.Disk.seen in
    let disk = c.args.disk.now in
    let new = c.drop_entry-change.new.disk in
    let result = c.drop_entry-change.result in
    let floor = floor_at c.args.place.now c.settle.new.floors.floors in
    let Drops = IfBothTold (seen disk) (seen new) c.deref.result.now (DropsName gone) in
    let Stable = IfBothTold (seen disk) (seen new) c.deref.result.now IsMadeStable in
    ok_from result (Drops × Stable) (floor ≡ c.floor-after.result) (LeavesOrder folder names floor (seen disk).told (seen new).told)
    (ok_from result Drops Stable (Drops × Stable) c.drop_entry-change.ensures.directory c.drop_entry-change.ensures.stable (λ drops stable. (drops, stable))) c.settle.ensures.made
    (λ both is. rw is (order_left seen folder names g.D.Disk.tells disk new (g.met.D.Disk.telling disk) (g.met.D.Disk.telling new) gone c.in_ok-without.field-0 c.floor-after.result c.in_ok-without.ensures c.floor-after.ensures c.requires.directory
    (subst (λ (f : List ℕ). IfBothTold (seen disk) (seen new) f (DropsName gone)) c.deref.ensures both.0)
    (subst (λ (f : List ℕ). IfBothTold (seen disk) (seen new) f IsMadeStable) c.deref.ensures both.1)))

pub returns-clause-floors : goal.returns-clause-floors
returns-clause-floors g c =
    floors_again c.drop_entry-change.result c.args.place.now c.floor-before.result c.args.floors.now.floors c.reserve.new.floors.floors c.settle.new.floors.floors
    c.floor-before.ensures c.settle.ensures.unmade c.in_ok-reserve.ensures.others c.settle.ensures.others
