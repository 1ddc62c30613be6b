-- What becomes of a claim along a history: the disk bears it still, or was replaced, or the entry was removed from a handoff.
use Rattle.std.proofs.Common.{◌≡◌, inl, inr, ⊎_elim, ℕ, ◌≤◌, true, false, Contains, List, [], ◌∷◌, Some, refl, sym, ap, subst, arith}
use Rattle.sw_types.specs.Stamp.{greatest_stamp}
use Rattle.sw_hashdir.specs.declared.floor.Floor.{Floor}
use Rattle.sw_hashpath.specs.Place.{IsPlace, PlaceModel, folder_of}
use Rattle.sw_hashpath.specs.declared.file_name.FileName.{FileName}
use Rattle.sw_hashpath.specs.declared.file_name.FileName.TheVariants.{Data, Tombstone}
use Rattle.sw_diskfile.proofs.Lists.{Contains-cases, Contains-first, Contains-later, Contains-none}
use Rattle.sw_ring.specs.Cluster.{ClusterModel}
use Rattle.sw_message.specs.Learnt.{Learnt, Marked}
use Rattle.sw_message.specs.Message.{IsPlaceOf, is_primary, place_in}
use Rattle.sw_message.specs.Step.{Folders}
use Rattle.sw_message.specs.declared.message.Msg.{Msg}
use Rattle.sw_message.specs.declared.message.Msg.TheVariants as message
use Rattle.sw_message.specs.declared.reply.Reply.{Reply}
use Rattle.sw_objsrv.specs.Handling.{IsStamped}
use Rattle.sw_law_claim.specs.Claim.{ADurableEntry, ATombstone, AnEntry, Claim, Claims, IsBearing, IsBorneBy, IsWhat, ShowsFloor, What}
use Rattle.sw_law_claim.proofs.Steps.{step_bears}
use Rattle.sw_law_scene.specs.Disks.{Disk, IsSide, Sure, Undecided}
use Rattle.sw_law_owed.proofs.Kept.{DiskBears, IsAway, away_or_not, failed_bears, found_bears, handled_bears, sure_bears}
use Rattle.sw_view.specs.History.{HasStampFrom, IsGuarded, Replays, stamp_of}
use Rattle.sw_view.specs.View.{IsFairEvent, IsFirm}
use Rattle.sw_view.specs.declared.event.Event.{Event}
use Rattle.sw_view.specs.declared.event.Event.TheVariants.{Faulted, Handled, Mounted, Replaced}
use Rattle.sw_view.proofs.Within.{before_of, guarded_before}

-- ---- stamps

-- a message that is firmly warranted has a stamp that there is
pub firm_stamped : (cluster : ClusterModel) (learnt : Learnt) → ((marked : Marked) → Contains learnt.marks marked → marked.stamp ≤ greatest_stamp) → (msg : Msg) → IsFirm cluster learnt msg → IsStamped msg
firm_stamped cluster learnt stamped (message.Delete place stamp) (marked, known, same, placed) = subst (λ (s : ℕ). s ≤ greatest_stamp) same (stamped marked known)
firm_stamped cluster learnt stamped msg firm = tt

-- a name that shows a floor has its stamp
floor_stamp : (name : FileName) (floor : Floor) → ShowsFloor name floor → floor.stamp ≡ stamp_of name
floor_stamp (Data stamp index true) floor is = ap (λ (one : Floor). one.stamp) is
floor_stamp (Data stamp index false) floor is = absurd is
floor_stamp (Tombstone stamp) floor is = ap (λ (one : Floor). one.stamp) is

-- a name of what is claimed has the stamp
what_stamp : (stamp : ℕ) (what : What) (name : FileName) → IsWhat stamp what name → stamp ≡ stamp_of name
what_stamp stamp (AnEntry index) name is = sym (ap stamp_of is.1)
what_stamp stamp (ADurableEntry index) name is = sym (ap stamp_of is)
what_stamp stamp ATombstone name is = sym (ap stamp_of is)

-- one that bears a claim has no lesser stamp
bearing_stamp : (primary : _) (claim : Claim) (name : FileName) → IsBearing primary claim name → claim.stamp ≤ stamp_of name
bearing_stamp primary claim name (inl what) = omega (arith, what_stamp claim.stamp claim.what name what)
bearing_stamp primary claim name (inr (is, floor, shows, above)) = let same = floor_stamp name floor shows in ⊎_elim (λ less. omega (arith, less, same)) (λ level. omega (arith, level.0, same)) above

-- ---- one event

-- a disk holds something
some_side : (disk : Disk) → (side : Folders) × IsSide disk side
some_side (Sure folders) = (folders, refl)
some_side (Undecided before after) = (before, inl refl)

-- ---- a claim

module _ (cluster : ClusterModel) (learnt : Learnt) (stamped : (marked : Marked) → Contains learnt.marks marked → marked.stamp ≤ greatest_stamp) (device : ℕ) (place : PlaceModel) (is_place : IsPlace cluster.part_power place)
    (claim : Claim) where
  abbrev DiskBorne : Disk → Type 0
  DiskBorne = DiskBears cluster device place claim

  -- the disk was replaced though it bore the claim
  abbrev pub IsLostIn : List Event → Type 0
  IsLostIn events = (loss : ℕ) × Contains events (Replaced loss) × ((stamp mark : ℕ) → stamp ≤ claim.stamp → IsGuarded cluster device stamp mark events → mark ≤ loss)

  -- what becomes of a claim
  pub data Fate (events : List Event) : Type 0 where
    Bears : ((disk : Disk) → Replays cluster device events disk → DiskBorne disk) → Fate events
    Lost : IsLostIn events → Fate events
    Away : (msg : Msg) → IsAway cluster device place claim msg → IsFirm cluster learnt msg → Fate events

  has_stamp : (side : Folders) (stamp : ℕ) → stamp ≤ claim.stamp → IsBorneBy (is_primary cluster device place) claim (side (folder_of place)) → HasStampFrom cluster stamp side
  has_stamp side stamp below is = (place, is.name, is_place, is.spelt, is.there, omega (arith, below, bearing_stamp (is_primary cluster device place) claim is.name is.bearing))

  pub lost_later : (event : Event) (past : List Event) → IsLostIn past → IsLostIn (event ∷ past)
  lost_later event past (loss, has, guard) = (loss, Contains-later event past (Replaced loss) has, λ stamp mark below is. guard stamp mark below (guarded_before cluster device event past stamp mark is))

  -- a message that may have taken effect leaves the claim, or asked the entry away
  on_message : (msg : Msg) (past events : List Event) → IsPlaceOf cluster (place_in msg) → IsFirm cluster learnt msg
      → ((IsStamped msg) → (IsAway cluster device place claim msg → ⊥) → (disk : Disk) → Replays cluster device events disk → DiskBorne disk) → Fate events
  on_message msg past events right firm stays = ⊎_elim
      (λ away. Away msg away firm)
      (λ not. Bears (stays (firm_stamped cluster learnt stamped msg firm) not))
      (away_or_not cluster device place is_place claim msg right)

  borne_on : (event : Event) (past : List Event) (disk : Disk) → IsFairEvent cluster learnt event → Replays cluster device (event ∷ past) disk → ((before : Disk) → Replays cluster device past before → DiskBorne before)
      → Fate (event ∷ past)
  borne_on (Handled msg reply) past disk fair replays borne =
      on_message msg past (Handled msg reply ∷ past) fair.0 fair.1 (λ stamp not after is.
      subst DiskBorne (sym is.4) (sure_bears cluster device place claim is.1
      (handled_bears cluster device place is_place claim msg fair.0 stamp not reply is.0 is.1 is.3 (borne (Sure is.0) is.2 is.0 refl))))
  borne_on (Faulted msg) past disk fair replays borne =
      on_message msg past (Faulted msg ∷ past) fair.0 fair.1 (λ stamp not after is.
      failed_bears cluster device place is_place claim msg fair.0 stamp not is.0 after is.2 (borne is.0 is.1))
  borne_on Mounted past disk fair replays borne = Bears (λ after is.
      subst DiskBorne (sym is.4) (sure_bears cluster device place claim is.1 (found_bears cluster device place is_place claim is.0 is.1 is.3 (borne is.0 is.2))))
  borne_on (Replaced loss) past disk fair replays borne = Lost (
    loss,
    Contains-first (Replaced loss) past,
    λ stamp mark below guard. let one = some_side replays.0 in guard.0 replays.0 one.0 replays.1 one.1 (has_stamp one.0 stamp below (borne replays.0 replays.1 one.0 one.1)),
  )

  -- what becomes of it with one event more
  fate_on : (event : Event) (past : List Event) (disk : Disk) → IsFairEvent cluster learnt event → Replays cluster device (event ∷ past) disk → Fate past → Fate (event ∷ past)
  fate_on event past disk fair replays (Bears borne) = borne_on event past disk fair replays borne
  fate_on event past disk fair replays (Lost lost) = Lost (lost_later event past lost)
  fate_on event past disk fair replays (Away msg away firm) = Away msg away firm

  module _ (msg : Msg) (reply : Reply) (there : place_in msg ≡ Some place) (claims : Claims (is_primary cluster device place) msg reply claim) where
    -- the reply itself
    made : (past : List Event) → IsFairEvent cluster learnt (Handled msg reply) → Fate (Handled msg reply ∷ past)
    made past fair = Bears (λ disk is.
        subst DiskBorne (sym is.4) (sure_bears cluster device place claim is.1
        (step_bears cluster device is.3.room msg is.0 is.1 reply claim place there is.3.step (firm_stamped cluster learnt stamped msg fair.1) claims)))

    -- since a reply of the history claimed it
    pub fate : (events : List Event) (disk : Disk) → ((event : Event) → Contains events event → IsFairEvent cluster learnt event) → Replays cluster device events disk → Contains events (Handled msg reply) → Fate events
    fate [] disk fair replays has = absurd (Contains-none (Handled msg reply) has)
    fate (event ∷ past) disk fair replays has = ⊎_elim
        (λ same. subst (λ one. Fate (one ∷ past)) (sym same) (made past (subst (IsFairEvent cluster learnt) same (fair event (Contains-first event past)))))
        (λ later.
        let before = before_of cluster device event past disk replays in
        fate_on event past disk (fair event (Contains-first event past)) replays (fate past before.0 (λ one among. fair one (Contains-later event past one among)) before.1 later))
        (Contains-cases event past (Handled msg reply) has)
