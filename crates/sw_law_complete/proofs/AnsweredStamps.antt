-- No name on a disk shows a floor that beats the stamp that was drawn last.
use Rattle.std.proofs.Common.{◌≡◌, ◌≢◌, ◌⊎◌, inl, inr, ℕ, ◌≤◌, ◌<◌, true, false, Contains, Some, Option, List, sym, ap, subst, ◌∙◌, arith}
use Rattle.sw_disk.specs.Answers.{names_of}
use Rattle.sw_disk.specs.Folder.{File}
use Rattle.sw_hashpath.specs.FileName.{IsFileName, file_name_text}
use Rattle.sw_hashpath.specs.Place.{IsPlace, PlaceModel, folder_of}
use Rattle.sw_hashpath.specs.declared.file_name.FileName.{FileName}
use Rattle.sw_hashpath.specs.declared.file_name.FileName.TheVariants.{Data, Tombstone}
use Rattle.sw_hashdir.specs.Directory.{HasFloor, IsDirectory, StandsAbove}
use Rattle.sw_hashdir.specs.declared.floor.Floor.{Floor}
use Rattle.sw_hashdir.specs.declared.floor.FloorKind.TheVariants as kind
use Rattle.sw_diskfile.proofs.Lists.{Contains-map, mapped}
use Rattle.sw_ring.specs.Cluster.{ClusterModel}
use Rattle.sw_message.specs.Learnt.{Booked, Marked}
use Rattle.sw_message.specs.Step.{Folders}
use Rattle.sw_law_claim.specs.Claim.{ShowsFloor}
use Rattle.sw_law_claim.proofs.Floors.{floor_name}
use Rattle.sw_law_scene.specs.Disks.{Disk, IsFoundOn, IsSide, Sure}
use Rattle.sw_law_scene.specs.Scene.{Scene, StartedDelete, StartedPut, disk_of, known_to}
use Rattle.sw_law_scene.specs.Sound.{IsDrawn, IsSoundScene}
use Rattle.sw_law_owed.specs.Decided.{Draw, IsNameBy, KeepsStamps, WasDeleted, WasPut}
use Rattle.sw_law_owed.proofs.Draws.{delete_draw, delete_drawn, put_draw, put_drawn}

-- ---- names

-- no name in a folder shows a floor that beats another
abbrev pub IsUnbeaten : (Floor → Type 0) → List File → Type 0
IsUnbeaten Beats files = (name : FileName) (floor : Floor) → IsFileName name → Contains (names_of files) (file_name_text name) → ShowsFloor name floor → Beats floor → ⊥

-- so no floor of it does
pub no_floor_beats : (Beats : Floor → Type 0) (files : List File) (names : List FileName) → IsDirectory (names_of files) names → IsUnbeaten Beats files → (floor : Floor) → HasFloor names floor → Beats floor → ⊥
no_floor_beats Beats files names directory unbeaten floor has beats =
    let shown = floor_name names floor.stamp floor.kind has in
    let spelt = (directory shown.0).0 shown.1 in
    unbeaten shown.0 floor spelt.0 spelt.1 shown.2 beats

-- ---- floors

-- the floor refuses a tombstone of a stamp
abbrev pub RefusesMark : ℕ → Floor → Type 0
RefusesMark stamp floor = (stamp < floor.stamp) ⊎ ((floor.stamp ≡ stamp) × (floor.kind ≡ kind.Durable))

-- where a disk is sure, a device works on what is there
pub is_side : (cluster : ClusterModel) (device : ℕ) (disk : Disk) (folders found : Folders) → disk ≡ Sure folders → IsFoundOn cluster device disk found → IsSide disk found
is_side cluster device disk folders found sure = subst (λ (one : Disk). IsFoundOn cluster device one found → IsSide one found) (sym sure) (λ same. same)

module _ (scene : Scene) (sound : IsSoundScene scene) (stamps : KeepsStamps scene) (stamp : ℕ) (last : scene.last ≡ Some stamp) where
  drawn : (other : ℕ) → IsDrawn scene.last other → other ≤ stamp
  drawn other is = subst (λ (one : Option ℕ). IsDrawn one other) last is

  put_below : (place : PlaceModel) (other by : ℕ) → WasPut scene place other by → other ≤ stamp
  put_below place other by (put, has, same, at_place, before) =
      omega (arith, same, drawn put.booked.stamp (sound.booked put.booked (Contains-map (λ (one : StartedPut). one.booked) scene.book put has)))

  delete_below : (place : PlaceModel) (other by : ℕ) → WasDeleted scene place other by → other ≤ stamp
  delete_below place other by (delete, has, same, at_place, before) =
      omega (arith, same, drawn delete.marked.stamp (sound.marked delete.marked (Contains-map (λ (one : StartedDelete). one.marked) scene.marks delete has)))

  -- a put and a delete don't have one stamp
  apart : (put : StartedPut) → Contains scene.book put → (delete : StartedDelete) → Contains scene.marks delete → put.booked.stamp ≢ delete.marked.stamp
  apart put first delete second same =
      let one = ap (λ (draw : Draw). draw.is_delete) (stamps.rise.same (put_draw put) (delete_draw delete) (put_drawn scene put first) (delete_drawn scene delete second) same) in
      cc

  module _ (Beats : Floor → Type 0) (fine : (place : PlaceModel) (name : FileName) (floor : Floor) → IsNameBy scene place scene.now name → ShowsFloor name floor → Beats floor → ⊥) where
    -- so it is of each folder that a disk may have
    on_disk : (device : ℕ) (folders : Folders) → IsSide (disk_of scene device) folders → (place : PlaceModel) → IsPlace scene.cluster.part_power place → IsUnbeaten Beats (folders (folder_of place))
    on_disk device folders side place is_place name floor spelt has shows beats = fine place name floor (stamps.disks device folders side place name is_place spelt has) shows beats

  -- ---- where it was drawn for a put

  module _ (put : Booked) (has : Contains (known_to scene).book put) (is : put.stamp ≡ stamp) where
    put_fine : (place : PlaceModel) (name : FileName) (floor : Floor) → IsNameBy scene place scene.now name → ShowsFloor name floor → StandsAbove floor stamp → ⊥
    put_fine place (Data other index true) floor by shows (inl more) = absurd (omega (arith, more, ap (λ (one : Floor). one.stamp) shows, put_below place other scene.now by.put))
    put_fine place (Data other index true) floor by shows (inr level) = let which = sym (ap (λ (one : Floor). one.kind) shows) ∙ level.1 in cc
    put_fine place (Data other index false) floor by shows above = absurd shows
    put_fine place (Tombstone other) floor by shows (inl more) = absurd (omega (arith, more, ap (λ (one : Floor). one.stamp) shows, delete_below place other scene.now by))
    put_fine place (Tombstone other) floor (delete, there, same, at_place, before) shows (inr level) =
        let own = mapped (λ (one : StartedPut). one.booked) scene.book put has in
        apart own.0 own.1 delete there (omega (arith, ap (λ (one : Booked). one.stamp) own.2, is, same, ap (λ (one : Floor). one.stamp) shows, level.0))

    -- no floor stands above it
    pub put_unbeaten : (device : ℕ) (folders : Folders) → IsSide (disk_of scene device) folders → (place : PlaceModel) → IsPlace scene.cluster.part_power place
        → IsUnbeaten (λ floor. StandsAbove floor stamp) (folders (folder_of place))
    put_unbeaten = on_disk (λ floor. StandsAbove floor stamp) put_fine

  -- ---- where it was drawn for a delete

  module _ (marked : Marked) (has : Contains (known_to scene).marks marked) (is : marked.stamp ≡ stamp) where
    delete_fine : (place : PlaceModel) (name : FileName) (floor : Floor) → IsNameBy scene place scene.now name → ShowsFloor name floor → RefusesMark stamp floor → ⊥
    delete_fine place (Data other index true) floor by shows (inl more) = absurd (omega (arith, more, ap (λ (one : Floor). one.stamp) shows, put_below place other scene.now by.put))
    delete_fine place (Data other index true) floor by shows (inr level) =
        let put = by.put in
        let own = mapped (λ (one : StartedDelete). one.marked) scene.marks marked has in
        apart put.0 put.1 own.0 own.1 (omega (arith, ap (λ (one : Marked). one.stamp) own.2, is, put.2, ap (λ (one : Floor). one.stamp) shows, level.0))
    delete_fine place (Data other index false) floor by shows beats = absurd shows
    delete_fine place (Tombstone other) floor by shows (inl more) = absurd (omega (arith, more, ap (λ (one : Floor). one.stamp) shows, delete_below place other scene.now by))
    delete_fine place (Tombstone other) floor by shows (inr level) = let which = sym (ap (λ (one : Floor). one.kind) shows) ∙ level.1 in cc

    -- no floor refuses its tombstone
    pub delete_unbeaten : (device : ℕ) (folders : Folders) → IsSide (disk_of scene device) folders → (place : PlaceModel) → IsPlace scene.cluster.part_power place
        → IsUnbeaten (RefusesMark stamp) (folders (folder_of place))
    delete_unbeaten = on_disk (RefusesMark stamp) delete_fine
