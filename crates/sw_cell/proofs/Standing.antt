-- What the disk may hold behind a history that its node stands for.
use Rattle.std.proofs.Common.{◌≡◌, ℕ, Bool, true, false, List, ◌∷◌, Option, None, Some, refl, sym, subst}
use Rattle.std.specs.Prelude.{IsSome}
use Rattle.sw_disk.specs.Runs.{IfTold, IsTelling, Seen}
use Rattle.sw_disk.specs.State.{State}
use Rattle.sw_ring.specs.Cluster.{ClusterModel}
use Rattle.sw_message.specs.Step.{Folders}
use Rattle.sw_objsrv.specs.Handling.{folders_of}
use Rattle.sw_objsrv.specs.Node.{NodeModel}
use Rattle.sw_law_scene.specs.Devices.{capacity_of}
use Rattle.sw_law_scene.specs.Disks.{Disk, Sure, Undecided}
use Rattle.sw_law_possible.proofs.Disks.{found_of}
use Rattle.sw_view.specs.History.{Replays}
use Rattle.sw_view.specs.declared.event.Event.{Event}
use Rattle.sw_view.specs.declared.event.Event.TheVariants.{Mounted}
use Rattle.sw_law_replayed.specs.Standing.{IsReplayed, StandsFor}

-- the disk may hold something behind the history
abbrev pub HasDisk : ClusterModel → (device : ℕ) → List Event → Type 0
HasDisk cluster device events = (disk : Disk) × Replays cluster device events disk

-- whatever it holds can be mounted
pub mounts_too : (cluster : ClusterModel) (device : ℕ) (events : List Event) → HasDisk cluster device events → HasDisk cluster device (Mounted ∷ events)
mounts_too cluster device events has = let found = found_of cluster device has.0 in (Sure found.0, (has.0, found.0, has.1, found.1, refl))

stands_disk : (cluster : ClusterModel) (device : ℕ) (events : List Event) (is_due : Bool) (folders : Folders) → StandsFor cluster device events is_due folders → HasDisk cluster device events
stands_disk cluster device events false folders stands = (Sure folders, stands)
stands_disk cluster device events true folders stands = (Undecided stands.0 stands.1, stands.3)

-- a fact of what a disk that tells holds
told_some : (told : Option State) (Is : State → Type 0) → IsSome told → IfTold told Is → (state : State) × Is state
told_some None Is some is = absurd (cc)
told_some (Some state) Is some is = (state, is)

module _ {D : Type 0} (seen : D → Seen) (cluster : ClusterModel) (events : List Event) (node : NodeModel D) where
  -- where the disk tells, the history has a disk
  pub replayed_disk : IsSome (seen node.disk).told → IsReplayed cluster seen events node → HasDisk cluster node.device events
  replayed_disk some is =
      let told = told_some (seen node.disk).told (λ state. StandsFor cluster node.device events node.is_due (folders_of state)) some is.folders in
      stands_disk cluster node.device events node.is_due (folders_of told.0) told.1

  -- where it tells nothing, its node stands for any history
  pub replayed_if : (tells : Bool) → IsTelling tells (seen node.disk).told → (tells ≡ true → IsReplayed cluster seen events node) → IsReplayed cluster seen events node
  replayed_if true telling is = is refl
  replayed_if false none is = record {
    folders = subst (λ told. IfTold told (λ state. StandsFor cluster node.device events node.is_due (folders_of state))) (sym none) tt;
    capacity = subst (λ told. IfTold told (λ state. state.capacity ≡ capacity_of cluster node.device)) (sym none) tt;
  }
