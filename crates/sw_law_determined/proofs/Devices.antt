-- What a device does of a message, and what a mount leaves of its folders, is one thing.
use Rattle.std.proofs.Common.{◌≡◌, ⊎_elim, ℕ, List, sym, ap, subst, ◌∙◌}
use Rattle.std.proofs.Math.Path.{fun_ext}
use Rattle.sw_hashpath.specs.Place.{folder_of}
use Rattle.sw_diskfile.proofs.Normal.{one_normal}
use Rattle.sw_ring.specs.Cluster.{ClusterModel}
use Rattle.sw_message.specs.Message.{is_primary}
use Rattle.sw_message.specs.Step.{Folders, IsNodeStep}
use Rattle.sw_message.specs.declared.message.Msg.{Msg}
use Rattle.sw_message.specs.declared.reply.Reply.{Reply}
use Rattle.sw_law_scene.specs.Devices.{IsDeviceStep, capacity_of}
use Rattle.sw_law_scene.specs.Disks.{IsMounted, IsOfNoPlace}
use Rattle.sw_law_determined.proofs.Files.{files_or_not}
use Rattle.sw_law_determined.proofs.Rooms.{one_room}

-- what the law of steps says
pub record StepLaw : Type 0 where
  pub reply : (cluster : ClusterModel) (device room : ℕ) (message : Msg) (before after other : Folders) (first second : Reply) → IsNodeStep cluster device room message before after first
      → IsNodeStep cluster device room message before other second → first ≡ second
  pub folders : (cluster : ClusterModel) (device room : ℕ) (message : Msg) (before after other : Folders) (first second : Reply) → IsNodeStep cluster device room message before after first
      → IsNodeStep cluster device room message before other second → (name : List ℕ) → after name ≡ other name

pub one_device_step : StepLaw → (cluster : ClusterModel) (device : ℕ) (msg : Msg) (before after other : Folders) (first second : Reply) → IsDeviceStep cluster device msg first before after
    → IsDeviceStep cluster device msg second before other → (first ≡ second) × (after ≡ other)
one_device_step law cluster device msg before after other first second x y =
    let step = subst (λ (room : ℕ). IsNodeStep cluster device room msg before other second) (one_room (capacity_of cluster device) before y.room x.room y.free x.free) y.step in (
      law.reply cluster device x.room msg before after other first second x.step step,
      fun_ext (λ name. law.folders cluster device x.room msg before after other first second x.step step name),
    )

module _ (cluster : ClusterModel) (device : ℕ) (before one other : Folders) (x : IsMounted cluster device before one) (y : IsMounted cluster device before other) where
  -- where they were not the same, the name would be that of no place
  not_apart : (name : List ℕ) → (one name ≡ other name → ⊥) → one name ≡ other name
  not_apart name differ =
      let none : IsOfNoPlace cluster name =
      λ place is_place same. differ (
      ap one same ∙ one_normal (is_primary cluster device place) (before (folder_of place)) (one (folder_of place)) (other (folder_of place)) (x.normal place is_place) (y.normal place is_place)
      ∙ sym (ap other same)
      ) in
      x.others name none ∙ sym (y.others name none)

  pub one_mounted : one ≡ other
  one_mounted = fun_ext (λ name. ⊎_elim (λ same. same) (λ differ. not_apart name differ) (files_or_not (one name) (other name)))
