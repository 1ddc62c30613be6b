-- The duties of devices in a view: what becomes of what a device answered.
use Rattle.std.specs.Prelude.{◌≡◌, ◌⊎◌, ◌≤◌, ℕ, List, Contains, Some}
use Rattle.sw_hashpath.specs.Place.{PlaceModel, folder_of}
use Rattle.sw_ring.specs.Cluster.{ClusterModel}
use Rattle.sw_message.specs.Message.{is_primary, place_in}
use Rattle.sw_message.specs.Step.{Folders}
use Rattle.sw_message.specs.Warrant.{IsHome, IsPrimaryOf, ShowsAbove, ShowsDurable}
use Rattle.sw_message.specs.declared.message.Msg.{Msg}
use Rattle.sw_message.specs.declared.message.Msg.TheVariants as message
use Rattle.sw_message.specs.declared.reply.Reply.{Reply}
use Rattle.sw_message.specs.declared.reply.Reply.TheVariants as reply
use Rattle.sw_message.specs.declared.target.Target.{Target}
use Rattle.sw_law_claim.specs.Claim.{ADurableEntry, AnEntry, Claim, IsBorneBy, What}
use Rattle.sw_law_scene.specs.Disks.{Disk, IsSide}
use Rattle.sw_law_owed.specs.Duties.{Holds, HoldsOrStands}
use Rattle.sw_view.specs.History.{Replays}
use Rattle.sw_view.specs.View.{DrawnDelete, DrawnPut, View}
use Rattle.sw_view.specs.declared.event.Event.TheVariants.{Handled, Replaced}

-- ---- what is said of a device

-- its disk was replaced as a loss whose number is at least the mark of each put and delete of this stamp or an earlier one
abbrev pub IsReplacedSince : View → (device stamp : ℕ) → Type 0
IsReplacedSince view device stamp =
    (loss : ℕ) × Contains (view.history device) (Replaced loss)
    × ((put : DrawnPut) → Contains view.puts put → put.booked.stamp ≤ stamp → put.mark ≤ loss)
    × ((delete : DrawnDelete) → Contains view.deletes delete → delete.marked.stamp ≤ stamp → delete.mark ≤ loss)

-- of whatever its disk may hold after its history this is true
abbrev pub OnReplay : ClusterModel → View → (device : ℕ) → (Folders → Type 0) → Type 0
OnReplay cluster view device P = (disk : Disk) (side : Folders) → Replays cluster device (view.history device) disk → IsSide disk side → P side

-- whatever its disk may hold then, its folder of the place bears a claim
abbrev pub BearsAt : ClusterModel → View → (device : ℕ) → PlaceModel → Claim → Type 0
BearsAt cluster view device place claim =
    (disk : Disk) (side : Folders) → Replays cluster device (view.history device) disk → IsSide disk side → IsBorneBy (is_primary cluster device place) claim (side (folder_of place))

-- ---- in claims

-- The duty for an entry that a device answered for.
pub data IsDutyKept (cluster : ClusterModel) (view : View) (place : PlaceModel) (stamp : ℕ) (target : Target) (what : What) : Type 0 where
  ReplacedHere : IsReplacedSince view target.device stamp → IsDutyKept cluster view place stamp target what
  ReplacedThere : (primary : ℕ) → IsPrimaryOf cluster place target.index primary → IsReplacedSince view primary stamp → IsDutyKept cluster view place stamp target what
  -- the device holds it, or, where it is a primary, has a floor above
  Here : BearsAt cluster view target.device place (record { stamp = stamp; what = what }) → IsDutyKept cluster view place stamp target what
  -- the primary of its index has it durable or a floor above
  There : (primary : ℕ) → IsPrimaryOf cluster place target.index primary → BearsAt cluster view primary place (record { stamp = stamp; what = ADurableEntry target.index }) → IsDutyKept cluster view place stamp target what

pub record KeepsDuties (cluster : ClusterModel) (view : View) : Type 0 where
  -- of each fragment that the primary of its index or a handoff has stored
  pub stored : (place : PlaceModel) (stamp : ℕ) (target : Target) (bytes : List ℕ) → IsHome cluster place target
      → Contains (view.history target.device) (Handled (message.PutFrag place stamp target.index bytes) reply.Synced) → IsDutyKept cluster view place stamp target (AnEntry target.index)
  -- of each that it has made durable
  pub committed : (place : PlaceModel) (stamp : ℕ) (target : Target) → IsHome cluster place target
      → Contains (view.history target.device) (Handled (message.Commit place stamp target.index) reply.Committed) → IsDutyKept cluster view place stamp target (ADurableEntry target.index)
  -- and of what the primary of an index has shown
  pub shown : (place : PlaceModel) (stamp index device : ℕ) (msg : Msg) (given : Reply) → IsPrimaryOf cluster place index device → Contains (view.history device) (Handled msg given) → place_in msg ≡ Some place
      → ShowsDurable stamp index msg given ⊎ ShowsAbove stamp given → IsReplacedSince view device stamp ⊎ BearsAt cluster view device place (record { stamp = stamp; what = ADurableEntry index })

-- ---- in what disks hold

-- For an entry that a device answered for: its disk, or that of the primary of the index, was replaced; or it holds the entry; or the
-- primary of the index holds it durable or has a floor that stands above its stamp.
pub data IsHeldStill (cluster : ClusterModel) (view : View) (place : PlaceModel) (stamp : ℕ) (target : Target) (what : What) : Type 0 where
  ReplacedOwn : IsReplacedSince view target.device stamp → IsHeldStill cluster view place stamp target what
  ReplacedPrimary : (primary : ℕ) → IsPrimaryOf cluster place target.index primary → IsReplacedSince view primary stamp → IsHeldStill cluster view place stamp target what
  HeldHere : OnReplay cluster view target.device (Holds cluster target.device place stamp what) → IsHeldStill cluster view place stamp target what
  -- the device is itself the primary: of an undecided disk each side by itself
  HeldOwn : IsPrimaryOf cluster place target.index target.device
      → OnReplay cluster view target.device (λ folders. Holds cluster target.device place stamp what folders ⊎ HoldsOrStands cluster target.device place stamp target.index folders) → IsHeldStill cluster view place stamp target what
  HeldThere : (primary : ℕ) → IsPrimaryOf cluster place target.index primary → OnReplay cluster view primary (HoldsOrStands cluster primary place stamp target.index) → IsHeldStill cluster view place stamp target what

pub record KeepsHeld (cluster : ClusterModel) (view : View) : Type 0 where
  -- so of each fragment that was stored
  pub stored : (place : PlaceModel) (stamp : ℕ) (target : Target) (bytes : List ℕ) → IsHome cluster place target
      → Contains (view.history target.device) (Handled (message.PutFrag place stamp target.index bytes) reply.Synced) → IsHeldStill cluster view place stamp target (AnEntry target.index)
  -- of each that was made durable
  pub committed : (place : PlaceModel) (stamp : ℕ) (target : Target) → IsHome cluster place target
      → Contains (view.history target.device) (Handled (message.Commit place stamp target.index) reply.Committed) → IsHeldStill cluster view place stamp target (ADurableEntry target.index)
  -- and of what the primary of an index has shown
  pub shown : (place : PlaceModel) (stamp index device : ℕ) (msg : Msg) (given : Reply) → IsPrimaryOf cluster place index device → Contains (view.history device) (Handled msg given) → place_in msg ≡ Some place
      → ShowsDurable stamp index msg given ⊎ ShowsAbove stamp given → IsReplacedSince view device stamp ⊎ OnReplay cluster view device (HoldsOrStands cluster device place stamp index)
