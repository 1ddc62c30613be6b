use Rattle.std.proofs.Common.{◌≡◌, inl, inr, ℕ, ◌≤◌, Bool, length, List, Option, Some, None, refl, sym, ◌∙◌, ap, subst, arith}
use Rattle.std.proofs.lemmas.Result.{err_from_is_err_and}
use Rattle.sw_disk.specs.Runs.{IfTold}
use Rattle.sw_hashpath.specs.Place.{IsPlace, PlaceModel}
use Rattle.sw_hashdir.specs.declared.floor.Floor.{Floor}
use Rattle.sw_suffix.specs.Table.{floor_at}
use Rattle.sw_diskfile.specs.Normal.{Tidies}
use Rattle.sw_message.specs.Message.{is_primary}
use Rattle.sw_objsrv.specs.Folder.{IsInOrder}
use Rattle.sw_objsrv.specs.Mounting.{fault_of}
use Rattle.sw_objsrv.proofs.MountedFloors.{tidied_told}
use Rattle.sw_hashpath.proofs.Folders.{one_place}
use Rattle.sw_objsrv.proofs.PlaceFolders.{folder_short}
use Rattle.sw_objsrv.proofs.mounting.mount_folder.Goals as goal

pub tidy-requires : goal.tidy-requires
tidy-requires g c =
    let found = c.in-Some.ensures.found in
    let few : c.part_power-power.result ≤ 16 = omega (arith, c.part_power-power.ensures.power, c.part_power-power.ensures.rules.part_power) in
    subst (λ (folder : List ℕ). length folder ≤ 64) (sym found.0) (folder_short c.part_power-power.result c.in-Some.place found.1 few)

pub returns-in_err-dir-clause-tidies : goal.returns-in_err-dir-clause-tidies
returns-in_err-dir-clause-tidies g c =
    let p = err_from_is_err_and c.from_residual.result c.from_residual.ensures.1 in
    let found = c.in-Some.ensures.found in
    let cluster = c.args.cluster.now in
    inr (
      c.in-Some.place,
      (subst (λ (n : ℕ). IsPlace n c.in-Some.place) c.part_power-power.ensures.power found.1, found.0),
      inr (inr (
        c.in_err-dir.field-0.0,
        ap fault_of p.1 ∙ ap (λ fault. Some fault) p.2,
        subst (λ (primary : Bool). Tidies g.D.Disk.seen g.D.Disk.left_since c.args.folder.now primary (Some c.in_err-dir.field-0.0) c.args.disk.now c.tidy.new.disk) c.is_primary-is_primary.ensures c.in_err-dir.ensures.runs,
      )),
    )

pub returns-in_err-set-clause-tidies : goal.returns-in_err-set-clause-tidies
returns-in_err-set-clause-tidies g c =
    let p = err_from_is_err_and c.from_residual-in_err-set.result c.from_residual-in_err-set.ensures.1 in
    let found = c.in-Some.ensures.found in
    inr (
      c.in-Some.place,
      (subst (λ (n : ℕ). IsPlace n c.in-Some.place) c.part_power-power.ensures.power found.1, found.0),
      inr (inl (
        ap fault_of p.1 ∙ ap (λ fault. Some fault) p.2,
        subst (λ (primary : Bool). Tidies g.D.Disk.seen g.D.Disk.left_since c.args.folder.now primary None c.args.disk.now c.tidy.new.disk) c.is_primary-is_primary.ensures c.in_ok-dir.ensures.runs,
      )),
    )

pub returns-clause-tidies : goal.returns-clause-tidies
returns-clause-tidies g c =
    let found = c.in-Some.ensures.found in
    inr (
      c.in-Some.place,
      (subst (λ (n : ℕ). IsPlace n c.in-Some.place) c.part_power-power.ensures.power found.1, found.0),
      inl (
        c.tidy.new.disk,
        subst (λ (primary : Bool). Tidies g.D.Disk.seen g.D.Disk.left_since c.args.folder.now primary None c.args.disk.now c.tidy.new.disk) c.is_primary-is_primary.ensures c.in_ok-dir.ensures.runs,
        (refl, refl),
      ),
    )

pub returns-clause-order : goal.returns-clause-order
returns-clause-order g c = λ place is.
    let cluster = c.args.cluster.now in
    let folder = c.args.folder.now in
    let found = c.in-Some.ensures.found in
    let here : PlaceModel = c.in-Some.place in
    let one : here ≡ place = one_place cluster.part_power here place (subst (λ (n : ℕ). IsPlace n here) c.part_power-power.ensures.power found.1) is.0 (sym found.0 ∙ is.1) in
    let order = tidied_told g.D.Disk.tells c.is_primary-is_primary.result c.in_ok-dir.dir c.floor.result folder (g.D.Disk.seen c.args.disk.now).told (g.D.Disk.seen c.tidy.new.disk).told
    (g.met.D.Disk.telling c.args.disk.now) (g.met.D.Disk.telling c.tidy.new.disk) c.floor.ensures c.in_ok-dir.ensures.directory c.in_ok-dir.ensures.tidied c.in_ok-dir.ensures.stable in
    subst (λ (p : PlaceModel). IfTold (g.D.Disk.seen c.tidy.new.disk).told (λ state. IsInOrder (is_primary cluster c.args.device p) (floor_at p c.set.new.self.floors) (state.folder folder))) one
    (subst (λ (floor : Option Floor). IfTold (g.D.Disk.seen c.tidy.new.disk).told (λ state. IsInOrder (is_primary cluster c.args.device here) floor (state.folder folder))) (sym c.in_ok-set.ensures.set.there)
    (subst (λ (primary : Bool). IfTold (g.D.Disk.seen c.tidy.new.disk).told (λ state. IsInOrder primary c.floor.result (state.folder folder))) c.is_primary-is_primary.ensures order))
