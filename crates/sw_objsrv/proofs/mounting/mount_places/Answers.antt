use Rattle.std.proofs.Common.{◌≡◌, ◌≢◌, inl, inr, ⊎_elim, ℕ, ◌+◌, ◌<◌, Contains, List, [], ◌∷◌, ◌++◌, get_or, length, take, drop, string_bytes, Global, String, Option, Some, None, refl, sym, ◌∙◌, ap, subst, arith}
use Rattle.std.proofs.lemmas.List.{map-append, map_push, take-append-drop, take_all, take_more}
use Rattle.std.proofs.lemmas.Result.{err_from_is_err_and}
use Rattle.sw_disk.specs.Answers.{AreFolders, texts_of}
use Rattle.sw_disk.specs.Runs.{IfTold}
use Rattle.sw_disk.proofs.Used.{listed_accounted}
use Rattle.sw_hashpath.specs.Place.{PlaceModel}
use Rattle.sw_hashdir.specs.declared.floor.Floor.{Floor}
use Rattle.sw_suffix.specs.Table.{SuffixTableModel}
use Rattle.sw_diskfile.proofs.Lists.{Contains-cases, Contains-none}
use Rattle.sw_objsrv.specs.Mounting.{TidiesEach, fault_of}
use Rattle.sw_objsrv.specs.declared.fault.MountFault.{MountFault}
use Rattle.sw_objsrv.proofs.Accounting.{mount_accounted}
use Rattle.sw_objsrv.proofs.Keeping.{IsDisk}
use Rattle.sw_objsrv.proofs.Mounted.{all_in_order, mounts}
use Rattle.sw_objsrv.proofs.MountedFloors.{HaveFloors, floors_more, floors_none}
use Rattle.sw_objsrv.proofs.Tidying.{each_more, each_stopped, keeps_each}
use Rattle.sw_objsrv.proofs.mounting.mount_places.Given.{Over}
use Rattle.sw_objsrv.proofs.mounting.mount_places.Goals as goal

laws : (g : Over) → IsDisk g.D.Disk.seen g.D.Disk.left_since g.D.Disk.tells
laws g = record { telling = g.met.D.Disk.telling; now = g.met.D.Disk.now; only_now = g.met.D.Disk.only_now; earlier = g.met.D.Disk.earlier }

texts_more : (items : List (String Global)) (i : ℕ) (item : String Global) (text : List ℕ) → i < length items → item ≡ get_or items i item → text ≡ string_bytes item → texts_of (take (i + 1) items) ≡ texts_of (take i items) ++ text ∷ []
texts_more items i item text within is printed =
    ap texts_of (take_more items i item within) ∙ map_push string_bytes (take i items) (get_or items i item) ∙ ap (λ (t : List ℕ). texts_of (take i items) ++ t ∷ []) (ap string_bytes (sym is) ∙ sym printed)

texts_rest : (items : List (String Global)) (i : ℕ) (front : List (List ℕ)) → texts_of (take (i + 1) items) ≡ front → front ++ texts_of (drop (i + 1) items) ≡ texts_of items
texts_rest items i front is =
    ap (λ (ts : List (List ℕ)). ts ++ texts_of (drop (i + 1) items)) (sym is) ∙ sym (map-append string_bytes (take (i + 1) items) (drop (i + 1) items)) ∙ ap texts_of (take-append-drop (i + 1) items)

only_one : (folder name : List ℕ) → Contains (folder ∷ []) name → name ≡ folder
only_one folder name has = ⊎_elim (λ same. sym same) (λ later. absurd (Contains-none name later)) (Contains-cases folder [] name has)

no_fault : (fault : MountFault) (some : Option MountFault) → some ≡ Some fault → some ≡ None → ⊥
no_fault fault some is none = cc

pub returns-in_err-folders-clause-mounts : goal.returns-in_err-folders-clause-mounts
returns-in_err-folders-clause-mounts g c =
    let p = err_from_is_err_and c.from_residual.result c.from_residual.ensures.1 in
    let fault = ap fault_of p.1 ∙ ap (λ (f : MountFault). Some f) p.2 in
    mounts g.D.Disk.seen g.D.Disk.left_since c.args.cluster.now c.args.device g.D.Disk.tells (laws g) (fault_of c.from_residual.result) [] c.args.disk.now c.folders.new.self
    (inl (c.in_err-folders.field-0.0, fault, c.in_err-folders.ensures.runs)) (λ none. absurd (no_fault _ (fault_of c.from_residual.result) fault none))

pub loop-folder-init : goal.loop-folder-init
loop-folder-init g c = record {
  tidies = (refl, refl);
  floors = subst (λ (floors : List (PlaceModel × Floor)). HaveFloors c.args.cluster.now c.args.device [] floors (g.D.Disk.seen c.folders.new.self).told) (sym (ap (λ (table : SuffixTableModel). table.floors) c.new-floors.ensures))
      (floors_none c.args.cluster.now c.args.device (g.D.Disk.seen c.folders.new.self).told);
  power = ap (λ (table : SuffixTableModel). table.power) c.new-floors.ensures ∙ c.part_power-power.ensures.power;
}

pub mount_folder-requires : goal.mount_folder-requires
mount_folder-requires g c = c.loop-folder.invariant.power

pub returns-in_err-mount_folder-clause-mounts : goal.returns-in_err-mount_folder-clause-mounts
returns-in_err-mount_folder-clause-mounts g c =
    let p = err_from_is_err_and c.from_residual-in_err-mount_folder.result c.from_residual-in_err-mount_folder.ensures.1 in
    let seen = g.D.Disk.seen in
    let cluster = c.args.cluster.now in
    let items = c.deref-folder-items.result.now in
    let i = c.loop-folder.folder-index in
    let fault : MountFault = c.in_err-mount_folder.field-0.0 in
    let is : fault_of c.from_residual-in_err-mount_folder.result ≡ Some fault = ap fault_of p.1 ∙ ap (λ (f : MountFault). Some f) p.2 in
    let more = texts_more items i c.folder-item.result c.as_str.result.now c.loop-folder-test.true c.folder-item.is c.as_str.ensures.value in
    let stopped = each_stopped seen g.D.Disk.left_since cluster c.args.device (texts_of (take i items) ++ c.as_str.result.now ∷ []) (texts_of (drop (i + 1) items)) fault c.folders.new.self c.mount_folder.new.disk
    (each_more seen g.D.Disk.left_since cluster c.args.device (texts_of (take i items)) (c.as_str.result.now ∷ []) (Some fault) c.folders.new.self c.loop-folder.disk c.mount_folder.new.disk c.loop-folder.invariant.tidies c.in_err-mount_folder.ensures.tidies) in
    let each = subst (λ (folders : List (List ℕ)). TidiesEach seen g.D.Disk.left_since cluster c.args.device folders (Some fault) c.folders.new.self c.mount_folder.new.disk) (texts_rest items i _ more) stopped in
    let are = subst (λ (l : List (String Global)). IfTold (seen c.args.disk.now).told (λ state. AreFolders state (texts_of l))) (sym c.deref-folder-items.ensures.value) c.in_ok-folders.ensures.folders in
    mounts seen g.D.Disk.left_since cluster c.args.device g.D.Disk.tells (laws g) (fault_of c.from_residual-in_err-mount_folder.result) [] c.args.disk.now c.mount_folder.new.disk
    (inr (
      texts_of items,
      are,
      c.folders.new.self,
      c.in_ok-folders.ensures.runs,
      subst (λ (f : Option MountFault). TidiesEach seen g.D.Disk.left_since cluster c.args.device (texts_of items) f c.folders.new.self c.mount_folder.new.disk) (sym is) each,
    ))
    (λ none. absurd (no_fault fault (fault_of c.from_residual-in_err-mount_folder.result) is none))

pub loop-folder-preserved : goal.loop-folder-preserved
loop-folder-preserved g c =
    let seen = g.D.Disk.seen in
    let cluster = c.args.cluster.now in
    let items = c.deref-folder-items.result.now in
    let i = c.loop-folder.folder-index in
    let folder = c.as_str.result.now in
    let before = c.loop-folder.disk in
    let after = c.mount_folder.new.disk in
    let done = c.in_ok-mount_folder.ensures in
    let more = texts_more items i c.folder-item.result folder c.loop-folder-test.true c.folder-item.is c.as_str.ensures.value in
    let kept = keeps_each seen g.D.Disk.left_since cluster c.args.device g.D.Disk.tells (laws g) (λ name. name ≢ folder) (folder ∷ []) None before after (λ name place differs is has. differs (only_one folder name has)) done.tidies in
    record {
      tidies = subst (λ (folders : List (List ℕ)). TidiesEach seen g.D.Disk.left_since cluster c.args.device folders None c.folders.new.self after) (sym more)
          (each_more seen g.D.Disk.left_since cluster c.args.device (texts_of (take i items)) (folder ∷ []) None c.folders.new.self before after c.loop-folder.invariant.tidies done.tidies);
      floors = subst (λ (folders : List (List ℕ)). HaveFloors cluster c.args.device folders c.mount_folder.new.floors.floors (seen after).told) (sym more)
          (floors_more cluster c.args.device seen g.D.Disk.left_since g.D.Disk.tells (laws g) before after (texts_of (take i items)) folder c.loop-folder.floors.floors c.mount_folder.new.floors.floors kept c.loop-folder.invariant.floors done.order done.others);
      power = done.power ∙ c.loop-folder.invariant.power;
    }

pub returns-clause-order : goal.returns-clause-order
returns-clause-order g c =
    let seen = g.D.Disk.seen in
    let cluster = c.args.cluster.now in
    let items = c.deref-folder-items.result.now in
    let i = c.loop-folder.folder-index in
    let all = take_all i items (omega (arith, c.loop-folder-test.false)) in
    let are = subst (λ (l : List (String Global)). IfTold (seen c.args.disk.now).told (λ state. AreFolders state (texts_of l))) (sym (all ∙ c.deref-folder-items.ensures.value)) c.in_ok-folders.ensures.folders in
    all_in_order seen g.D.Disk.left_since cluster c.args.device g.D.Disk.tells (laws g) (texts_of (take i items)) c.loop-folder.floors.floors c.args.disk.now c.folders.new.self c.loop-folder.disk are c.in_ok-folders.ensures.runs
    c.loop-folder.invariant.tidies c.loop-folder.invariant.floors

pub returns-clause-mounts : goal.returns-clause-mounts
returns-clause-mounts g c =
    let seen = g.D.Disk.seen in
    let cluster = c.args.cluster.now in
    let items = c.deref-folder-items.result.now in
    let i = c.loop-folder.folder-index in
    let all = take_all i items (omega (arith, c.loop-folder-test.false)) in
    let are = subst (λ (l : List (String Global)). IfTold (seen c.args.disk.now).told (λ state. AreFolders state (texts_of l))) (sym (all ∙ c.deref-folder-items.ensures.value)) c.in_ok-folders.ensures.folders in
    mounts seen g.D.Disk.left_since cluster c.args.device g.D.Disk.tells (laws g) None c.loop-folder.floors.floors c.args.disk.now c.loop-folder.disk
    (inr (texts_of (take i items), are, c.folders.new.self, c.in_ok-folders.ensures.runs, c.loop-folder.invariant.tidies)) (λ _. returns-clause-order g c)

-- what was listed is what is used
pub returns-clause-accounted : goal.returns-clause-accounted
returns-clause-accounted g c =
    let listed = listed_accounted (g.D.Disk.seen c.args.disk.now).told (texts_of c.in_ok-folders.folders.items) c.in_ok-folders.ensures.folders c.in_ok-folders.ensures.used in
    mount_accounted g.D.Disk.seen g.D.Disk.left_since c.args.cluster.now c.args.device None c.args.disk.now c.loop-folder.disk (returns-clause-mounts g c).calls listed

pub returns-clause-power : goal.returns-clause-power
returns-clause-power g c = c.loop-folder.invariant.power
