-- Floors: that of a directory, and those of a table, which are the floors of folders in order.
use Rattle.std.proofs.Common.{◌≡◌, ◌⊎◌, ◌<◌, ℕ, inl, inr, List, Some, None, refl, sym, subst, ⊎_elim, Bool, true, false, if◌then◌else◌, AllPairs, Contains, [], ◌∷◌, Option, ap, ◌∙◌, ◌≢◌, true≢false, Result, Ok, Err, OnErr}
use Rattle.sw_hashpath.specs.declared.file_name.FileName.{FileName}
use Rattle.sw_hashdir.specs.Directory.{IsFloor, StandsAbove, IsDirectory}
use Rattle.sw_hashdir.specs.declared.floor.Floor.{Floor}
use Rattle.sw_hashdir.specs.declared.floor.FloorKind.TheVariants as kind
use Rattle.sw_message.specs.Table.{Allows, HasDurableFloor, IsUncovered}
use Rattle.std.proofs.lemmas.List.Elements.{All-contains}
use Rattle.sw_disk.specs.Answers.{names_of}
use Rattle.sw_disk.specs.State.{State}
use Rattle.sw_hashpath.specs.Place.{IsPlace, PlaceModel, folder_of}
use Rattle.sw_suffix.specs.Table.{IsBefore, floor_at, same_place}
use Rattle.sw_suffix.proofs.Keys.{same_places}
use Rattle.sw_diskfile.proofs.Lists.{Contains-cases, Contains-first, Contains-later, Contains-none, first_before, rest_ascend}
use Rattle.sw_diskfile.proofs.Obsoletes.{floor_same, one_directory}
use Rattle.sw_ring.specs.Cluster.{ClusterModel}
use Rattle.sw_message.specs.Step.{AreFloors}
use Rattle.sw_objsrv.specs.Folder.{AreInOrder, HaveSameFloors, HaveSameOtherFloors}
use Rattle.sw_objsrv.specs.Handling.{AreKept, folders_of}
use Rattle.sw_disk.specs.declared.refusal.DiskRefusal.{DiskRefusal}
use Rattle.sw_hashdir.proofs.Laws.{one_floor}
use Rattle.sw_suffix.proofs.Laws.{IsBefore-never}

-- ---- the floor of a directory

-- of a directory that has none
pub none_covers : (names : List FileName) (stamp : ℕ) → IsFloor names None → IsUncovered names stamp
none_covers names stamp none = λ floor covers. none floor covers.0.0

-- of a directory whose floor does not stand above
pub below_covers : (names : List FileName) (stamp : ℕ) (floor : Floor) → IsFloor names (Some floor) → (StandsAbove floor stamp → ⊥) → IsUncovered names stamp
below_covers names stamp floor is not = λ other covers. not (subst (λ (f : Floor). StandsAbove f stamp) (one_floor names other floor covers.0 is) covers.1)

-- of a directory whose floor refuses no tombstone
pub none_refuses : (names : List FileName) (stamp : ℕ) → IsFloor names None → Allows names stamp
none_refuses names stamp none = λ floor refuses. none floor refuses.0.0

pub floor_allows : (names : List FileName) (stamp : ℕ) (floor : Floor) → IsFloor names (Some floor) → ((stamp < floor.stamp) ⊎ ((floor.stamp ≡ stamp) × (floor.kind ≡ kind.Durable)) → ⊥) → Allows names stamp
floor_allows names stamp floor is not = λ other refuses. not (subst (λ (f : Floor). (stamp < f.stamp) ⊎ ((f.stamp ≡ stamp) × (f.kind ≡ kind.Durable))) (one_floor names other floor refuses.0 is) refuses.1)

-- the floor's kind
pub none_durable : (names : List FileName) → IsFloor names None → HasDurableFloor names → ⊥
none_durable names none has = none has.0 has.1.0

pub floor_durable : (names : List FileName) (floor : Floor) → IsFloor names (Some floor) → HasDurableFloor names → floor.kind ≡ kind.Durable
floor_durable names floor is has = subst (λ (f : Floor). f.kind ≡ kind.Durable) (one_floor names has.0 floor has.1 is) has.2

-- ---- a place and its floor in a table

abbrev Floors : Type 0
Floors = List (PlaceModel × Floor)

module _ (place : PlaceModel) (floor : Floor) (floors : Floors) where
  abbrev at_first : Bool → Option Floor
  at_first is_same = if is_same then Some floor else floor_at place floors

  first_same : (is_same : Bool) → is_same ≡ true → at_first is_same ≡ Some floor
  first_same true same = refl
  first_same false same = absurd (cc)

  first_other : (is_same : Bool) → (is_same ≡ true → ⊥) → at_first is_same ≡ floor_at place floors
  first_other true differ = absurd (differ refl)
  first_other false differ = refl

floor_there : (place : PlaceModel) (floor : Floor) (floors : Floors) → AllPairs IsBefore floors → Contains floors (place, floor) → floor_at place floors ≡ Some floor
floor_there place floor [] ordered has = absurd (Contains-none (place, floor) has)
floor_there place floor (first ∷ floors) ordered has = ⊎_elim
    (λ here.
    first_same place first.1 floors (same_place first.0 place) ((same_places first.0 place).1 (ap (λ (f : PlaceModel × Floor). f.0) here))
    ∙ ap (λ (f : PlaceModel × Floor). Some f.1) here)
    (λ later.
    let before : IsBefore first (place, floor) = first_before IsBefore first floors ordered (place, floor) later in
    first_other place first.1 floors (same_place first.0 place)
    (λ same. IsBefore-never place first.1 floor (subst (λ (p : PlaceModel). IsBefore (p, first.1) (place, floor)) ((same_places first.0 place).0 same) before))
    ∙ floor_there place floor floors (rest_ascend IsBefore first floors ordered) later)
    (Contains-cases first floors (place, floor) has)

there_floor : (place : PlaceModel) (floor : Floor) (floors : Floors) → floor_at place floors ≡ Some floor → Contains floors (place, floor)
there_floor place floor [] is = absurd (cc)
there_floor place floor (first ∷ floors) is = pick (same_place first.0 place) refl is (there_floor place floor floors)
  where
    pick : (is_same : Bool) → same_place first.0 place ≡ is_same → (if is_same then Some first.1 else floor_at place floors) ≡ Some floor → (floor_at place floors ≡ Some floor → Contains floors (place, floor))
        → Contains (first ∷ floors) (place, floor)
    pick true same found more =
        let there : first.0 ≡ place = (same_places first.0 place).0 same in
        let floor_is : first.1 ≡ floor = cc in
        let first_is : (first.0, first.1) ≡ (place, floor) = ap (λ (p : PlaceModel). (p, first.1)) there ∙ ap (λ (f : Floor). (place, f)) floor_is in
        subst (Contains (first ∷ floors)) first_is (Contains-first first floors)
    pick false same found more = Contains-later first floors (place, floor) (more found)

-- ---- all floors, as those of folders in order

same_floor : (names : List FileName) (a : Option Floor) (b : Floor) → IsFloor names a → IsFloor names (Some b) → a ≡ Some b
same_floor names None b none is = absurd (none b is.0)
same_floor names (Some a) b first second = ap (λ (f : Floor). Some f) (one_floor names a b first second)

module _ (cluster : ClusterModel) (device : ℕ) (floors others : Floors) (state : State) (kept : AreKept cluster.part_power floors others) (orders : AreInOrder cluster device floors state) where
  table_is : (place : PlaceModel) → floor_at place others ≡ floor_at place floors
  table_is place = ap (floor_at place) kept.0

  abbrev IsOf : PlaceModel → Floor → Type 0
  IsOf place floor = IsPlace cluster.part_power place × (names : List FileName) × IsDirectory (names_of (folders_of state (folder_of place))) names × IsFloor names (Some floor)

  gives : (place : PlaceModel) (floor : Floor) → Contains others (place, floor) → IsOf place floor
  gives place floor has =
      let is_place : IsPlace cluster.part_power place = All-contains (λ (f : PlaceModel × Floor). IsPlace cluster.part_power f.0) others (place, floor) kept.2 has in
      let order = orders place is_place in
      let there = sym (table_is place) ∙ floor_there place floor others kept.1 has in
      (is_place, order.names, order.directory, subst (IsFloor order.names) there order.floor_is)

  takes : (place : PlaceModel) (floor : Floor) → IsOf place floor → Contains others (place, floor)
  takes place floor is =
      let order = orders place is.0 in
      let same = one_directory (names_of (folders_of state (folder_of place))) is.1 order.names is.2 order.directory in
      let floor_is = floor_same is.1 order.names same (Some floor) is.3 in
      there_floor place floor others (table_is place ∙ same_floor order.names (floor_at place floors) floor order.floor_is floor_is)

  pub are_floors : AreFloors cluster.part_power (folders_of state) others
  are_floors = record { all = λ place floor. (gives place floor, takes place floor); ordered = kept.1 }

-- ---- tables in which each place has the floor that it had

place_or_other : (a b : PlaceModel) → (a ≡ b) ⊎ (a ≢ b)
place_or_other a b = told (same_place a b) refl
  where
    told : (is_same : Bool) → same_place a b ≡ is_same → (a ≡ b) ⊎ (a ≢ b)
    told true e = inl ((same_places a b).0 e)
    told false e = inr (λ same. true≢false (sym ((same_places a b).1 same) ∙ e))

-- where a place has the floor again that it had, and no other place's was changed
pub floors_again : {T : Type 0} (result : Result T DiskRefusal) (place : PlaceModel) (before : Option Floor) (a b c : List (PlaceModel × Floor)) → before ≡ floor_at place a → OnErr result (floor_at place c ≡ before)
    → HaveSameOtherFloors place b a → HaveSameOtherFloors place c b → OnErr result (HaveSameFloors c a)
floors_again (Ok value) place before a b c was again first second = tt
floors_again (Err refusal) place before a b c was again first second = λ other. ⊎_elim
    (λ same. ap (λ p. floor_at p c) same ∙ again ∙ was ∙ ap (λ p. floor_at p a) (sym same))
    (λ differs. second other differs ∙ first other differs)
    (place_or_other other place)
