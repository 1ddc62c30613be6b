-- What a device has of a name is shown: its archives can be read, and it is what the world of a script has there.
use Rattle.std.proofs.Common.{◌≡◌, ℕ, Bor, List, [], drop, length, take, None, Some, Option, refl, sym, ap, subst, ◌∙◌}
use Rattle.std.specs.Prelude.{Bool, IfSome, if◌then◌else◌}
use Rattle.std.specs.List.{All}
use Rattle.std.proofs.lemmas.List.{take-append-drop}
use Rattle.std.proofs.lemmas.List.Elements.{All-weaker}
use Rattle.sw_types.specs.Name.{NameModel}
use Rattle.sw_disk.proofs.Images.{all_changed-append}
use Rattle.sw_disk.specs.Folder.{Change, File, all_changed, files_of}
use Rattle.sw_hashpath.specs.Place.{IsPlace, PlaceModel, folder_of}
use Rattle.sw_memdisk.specs.Log.{Log, files_now, folder_of as folder_in}
use Rattle.sw_memdisk.specs.Memory.{MemDiskModel, log_at}
use Rattle.sw_ring.specs.Cluster.{ClusterModel, place_of_name}
use Rattle.sw_archive.specs.Archive.{IsArchive}
use Rattle.sw_archive.specs.Put.{IsPut, put_fields}
use Rattle.sw_archive.proofs.Archives.{put_is_archive}
use Rattle.sw_message.specs.Learnt.{Booked, IsSoundBook}
use Rattle.sw_message.specs.Message.{IsMember}
use Rattle.sw_law_scene.specs.Disks.{Disk, IsSide}
use Rattle.sw_law_scene.specs.Filed.{IsFiled}
use Rattle.sw_law_scene.specs.Scene.{known_to}
use Rattle.sw_core.proofs.Happening.{run-sound}
use Rattle.sw_sim_nodes.specs.Nodes.{MemNode, devices_of, files_at, node_of}
use Rattle.sw_script.specs.declared.event.Event.TheVariants as event
use Rattle.sw_script.specs.declared.fault.LineFault.TheVariants.{NoDevice}
use Rattle.sw_sim_world.specs.declared.told.Told.{Told}
use Rattle.sw_sim_world.specs.Leading.{DoesIt}
use Rattle.sw_sim_world.specs.ScriptedWorld.{ScriptedWorld}
use Rattle.sw_sim_world.specs.Show.{IsReadable, IsShown}
use Rattle.sw_sim_world.specs.Standing.{StandsFor, WorldModel}
use Rattle.sw_sim_world.proofs.DeviceEvents.{disk_is, is_one}
use Rattle.sw_sim_world.proofs.OneEvents.{no-event}

-- the files of a folder in memory, whether all changes of names are stable or not
files_of_now : (log : Log) → files_of (folder_in log) ≡ files_now log
files_of_now log =
    sym (all_changed-append (take (length log.stable_at) log.changes) (drop (length log.stable_at) log.changes) log.base)
    ∙ ap (λ (changes : List Change). all_changed changes log.base) (take-append-drop (length log.stable_at) log.changes)

-- a file that is an archive of a put can be read
readable-filed : (cluster : ClusterModel) (book : List Booked) (place : PlaceModel) → IsSoundBook cluster.policy book → (file : File) → IsFiled cluster book place file → IsReadable file
readable-filed cluster book place sound file filed stamp index durable is_name named =
    let put = filed stamp index durable is_name named in
    let name = put.booked.name in
    let object = put.booked.object in
    let may : IsPut cluster.policy stamp name object = subst (λ (one : ℕ). IsPut cluster.policy one name object) put.stamp_is (sound.puts put.booked put.known) in (
      put_fields cluster.policy stamp name object index,
      subst (λ (bytes : List ℕ). IsArchive bytes (put_fields cluster.policy stamp name object index)) (sym put.archive) (put_is_archive cluster.policy stamp name object index may put.index_below),
    )

-- the node whose disk was found
pub node-there : (nodes : List MemNode) (device : ℕ) (result : Option (Bor MemDiskModel)) (disk : Bor MemDiskModel) → result ≡ Some disk → IfSome result (λ one. (node : MemNode) × (node_of nodes device ≡ Some node) × (one.now ≡ node.disk))
    → (node : MemNode) × (node_of nodes device ≡ Some node) × (disk.now ≡ node.disk)
node-there nodes device result disk is there = subst (λ (found : Option (Bor MemDiskModel)). IfSome found (λ one. (node : MemNode) × (node_of nodes device ≡ Some node) × (one.now ≡ node.disk))) is there

module _ (model : WorldModel) (before : ScriptedWorld) (stands : StandsFor model before) (device : ℕ) (member : IsMember model.cluster device) (node : MemNode) (found : node_of model.nodes device ≡ Some node) (disk : MemDiskModel) (is_disk : disk ≡ node.disk)
    (place : PlaceModel) where
  -- what the device has in the folder of the place
  files_are : devices_of model.nodes device (folder_of place) ≡ files_now (log_at disk.folders (folder_of place))
  files_are =
      ap (λ (one : Option MemNode). files_at one (folder_of place)) found ∙ files_of_now (log_at node.disk.folders (folder_of place))
      ∙ ap (λ (one : MemDiskModel). files_now (log_at one.folders (folder_of place))) (sym is_disk)

  -- each archive there can be read
  pub readable : IsPlace model.cluster.part_power place → All IsReadable (files_now (log_at disk.folders (folder_of place)))
  readable right =
      let scene = before.world.scene in
      let sound = (run-sound model.cluster stands.events before.world stands.run).scene in
      let is_side = subst (λ (one : Disk). IsSide one (devices_of model.nodes device)) (sym (disk_is model before stands device member)) refl in
      let filed = sound.filed device (devices_of model.nodes device) is_side place (subst (λ (cluster : ClusterModel). IsPlace cluster.part_power place) (sym stands.cluster_is) right) in
      subst (All IsReadable) files_are
      (All-weaker (IsFiled scene.cluster (known_to scene).book place) IsReadable (readable-filed scene.cluster (known_to scene).book place sound.book) (devices_of model.nodes device (folder_of place)) filed)

  -- and it is what is shown
  pub shows-does : (name : NameModel) → place ≡ place_of_name model.cluster name → (told : Told) → told.sent ≡ [] → told.ends ≡ [] → IsShown device (files_now (log_at disk.folders (folder_of place))) told.shown
      → DoesIt (event.Show device name) before told model
  shows-does name is_place told no_sent no_ends shown =
      let folder = folder_of (place_of_name before.world.scene.cluster name) in
      let same : folder_of place ≡ folder = ap folder_of is_place ∙ ap (λ (cluster : ClusterModel). folder_of (place_of_name cluster name)) (sym stands.cluster_is) in
      no-event (event.Show device name) before (ap (λ (is_known : Bool). if is_known then None else Some NoDevice) (is_one model before stands device member)) refl told model refl (sym no_sent) no_ends (
        devices_of model.nodes device,
        disk_is model before stands device member,
        subst (λ (text : List ℕ). IsShown device (devices_of model.nodes device text) told.shown) same (subst (λ (files : List File). IsShown device files told.shown) (sym files_are) shown),
      )
      stands
