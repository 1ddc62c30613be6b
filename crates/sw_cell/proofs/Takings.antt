-- The disks of some first devices, each mounted as its node, and those that are left.
use Rattle.std.proofs.Common.{◌≡◌, ℕ, ◌+◌, ◌<◌, Contains, List, [], ◌∷◌, ◌++◌, length, map, drop, take, get_or, None, Some, false, inl, inr, refl, sym, ap, subst, ◌∙◌, arith}
use Rattle.std.specs.List.{AllZip, slice_get}
use Rattle.std.proofs.lemmas.List.{drop_more, length-take-le, take-append-drop}
use Rattle.std.proofs.lemmas.Option.{get_or_from_slice_get, slice_get-get_or}
use Rattle.sw_disk.specs.Runs.{IfTold, Past, Seen}
use Rattle.sw_ring.specs.Cluster.{ClusterModel, ids_of}
use Rattle.sw_ring.specs.Rules.{device_ids}
use Rattle.sw_ring.specs.declared.device.Device.{Device}
use Rattle.sw_ring.proofs.Among.{among-from_Contains}
use Rattle.sw_diskfile.proofs.Lists.{Contains-map}
use Rattle.sw_message.specs.Message.{IsMember}
use Rattle.sw_objsrv.specs.Mounting.{Mounts}
use Rattle.sw_objsrv.specs.Node.{IsNode, NodeModel}
use Rattle.sw_objsrv.specs.declared.fault.MountFault.TheVariants.{Failed}
use Rattle.sw_law_replayed.specs.Keeping.{IsEmptyFor}
use Rattle.sw_law_replayed.proofs.Mounting.{begins}
use Rattle.sw_cell.specs.Mounting.{FailsAt, HasBegun, HaveMounted}

-- a device of a cluster
pub is_member : (cluster : ClusterModel) (devices : List Device) (slot : ℕ) (none : Device) → devices ≡ cluster.devices → slot < length devices → IsMember cluster (get_or devices slot none).id
is_member cluster devices slot none listed within =
    let device = get_or devices slot none in
    let at : slice_get devices slot ≡ Some device = slice_get-get_or devices slot none within in
    let there : Contains (device_ids devices) device.id = Contains-map (λ (d : Device). d.id) devices device (slot, within, get_or_from_slice_get devices slot device device at) in
    among-from_Contains (ids_of cluster) device.id (subst (λ (all : List Device). Contains (device_ids all) device.id) listed there)

-- a list parts before the item at a place, and behind it
pub around : {A : Type 0} (all items : List A) (place : ℕ) (none : A) → items ≡ all → place < length items → all ≡ take place items ++ get_or items place none ∷ drop (place + 1) items
around all items place none same within = sym same ∙ sym (take-append-drop place items) ∙ ap (λ rest. take place items ++ rest) (drop_more items place none within)

module _ {D : Type 0} (seen : D → Seen) (left_since : D → Past) (cluster : ClusterModel) where
  -- a mount of a disk that is empty begins the history of its device
  pub has_begun : (device : Device) (disk : D) (node : NodeModel D) → IfTold (seen disk).told (IsEmptyFor cluster device.id) → IsNode cluster seen node → node.device ≡ device.id → node.is_due ≡ false
      → Mounts seen left_since cluster device.id None disk node.disk → HasBegun seen cluster device node
  has_begun device disk node empty is_node device_is mounted mounts = record {
    is_node = is_node;
    device_is = device_is;
    mounted = mounted;
    replayed = (begins seen left_since cluster disk node (subst (λ id. IfTold (seen disk).told (IsEmptyFor cluster id)) (sym device_is) empty) mounted
        (subst (λ id. Mounts seen left_since cluster id None disk node.disk) (sym device_is) mounts)).0;
  }

  -- these disks were given: each of the first devices mounted its own as its node, and these are left
  abbrev pub AreTaken : List Device → (given : List D) → List (NodeModel D) → (left : List D) → Type 0
  AreTaken [] given [] left = given ≡ left
  AreTaken (device ∷ devices) (disk ∷ given) (node ∷ nodes) left = HasBegun seen cluster device node × Mounts seen left_since cluster device.id None disk node.disk × AreTaken devices given nodes left
  AreTaken devices given nodes left = ⊥

  -- each node has begun
  pub have_begun : (devices : List Device) (given : List D) (nodes : List (NodeModel D)) (left : List D) → AreTaken devices given nodes left → AllZip (HasBegun seen cluster) devices nodes
  have_begun [] given [] left taken = tt
  have_begun [] given (node ∷ nodes) left taken = absurd taken
  have_begun (device ∷ devices) [] nodes left taken = absurd taken
  have_begun (device ∷ devices) (disk ∷ given) [] left taken = absurd taken
  have_begun (device ∷ devices) (disk ∷ given) (node ∷ nodes) left taken = (taken.0, have_begun devices given nodes left taken.2)

  -- and where no disk is left each mounted its own
  pub have_mounted : (devices : List Device) (given : List D) (nodes : List (NodeModel D)) (left : List D) → left ≡ [] → AreTaken devices given nodes left → HaveMounted seen left_since cluster devices given nodes
  have_mounted [] given [] left none taken = subst (λ (disks : List D). HaveMounted seen left_since cluster [] disks []) (sym (taken ∙ none)) tt
  have_mounted [] given (node ∷ nodes) left none taken = absurd taken
  have_mounted (device ∷ devices) [] nodes left none taken = absurd taken
  have_mounted (device ∷ devices) (disk ∷ given) [] left none taken = absurd taken
  have_mounted (device ∷ devices) (disk ∷ given) (node ∷ nodes) left none taken = (taken.1, have_mounted devices given nodes left none taken.2)

  -- there are as many nodes as devices, and all other disks are left
  pub so_many : (devices : List Device) (given : List D) (nodes : List (NodeModel D)) (left : List D) → AreTaken devices given nodes left → (length nodes ≡ length devices) × (length given ≡ length nodes + length left)
  so_many [] given [] left taken = let same = ap length taken in (refl, omega arith)
  so_many [] given (node ∷ nodes) left taken = absurd taken
  so_many (device ∷ devices) [] nodes left taken = absurd taken
  so_many (device ∷ devices) (disk ∷ given) [] left taken = absurd taken
  so_many (device ∷ devices) (disk ∷ given) (node ∷ nodes) left taken = let later = so_many devices given nodes left taken.2 in (omega arith, omega arith)

  -- while a device is left, so is a disk
  pub disk_left : (devices : List Device) (slot : ℕ) (given : List D) (nodes : List (NodeModel D)) (left : List D) → AreTaken (take slot devices) given nodes left → slot < length devices → length given ≡ length devices → length left ≡ 0 → ⊥
  disk_left devices slot given nodes left taken within each none =
      let many = so_many (take slot devices) given nodes left taken in
      let long = length-take-le slot devices (omega arith) in
      omega (arith, many.0, many.1)

  -- the first disk that is left was given for the next device
  pub of_next : (R : Device → D → Type 0) (devices : List Device) (given : List D) (nodes : List (NodeModel D)) (disk : D) (left : List D) (next : Device) (behind : List Device)
      → AreTaken devices given nodes (disk ∷ left) → AllZip R (devices ++ next ∷ behind) given → R next disk
  of_next R [] given [] disk left next behind taken all = (subst (AllZip R (next ∷ behind)) taken all).0
  of_next R [] given (node ∷ nodes) disk left next behind taken all = absurd taken
  of_next R (device ∷ devices) [] nodes disk left next behind taken all = absurd taken
  of_next R (device ∷ devices) (first ∷ given) [] disk left next behind taken all = absurd taken
  of_next R (device ∷ devices) (first ∷ given) (node ∷ nodes) disk left next behind taken all = of_next R devices given nodes disk left next behind taken.2 all.1

  -- one device more took its disk
  pub one_further : (devices : List Device) (given : List D) (nodes : List (NodeModel D)) (disk : D) (left : List D) (device : Device) (node : NodeModel D) → AreTaken devices given nodes (disk ∷ left)
      → HasBegun seen cluster device node → Mounts seen left_since cluster device.id None disk node.disk → AreTaken (devices ++ device ∷ []) given (nodes ++ node ∷ []) left
  one_further [] given [] disk left device node taken begun mounts = subst (λ (all : List D). AreTaken (device ∷ []) all (node ∷ []) left) (sym taken) (begun, mounts, refl)
  one_further [] given (other ∷ nodes) disk left device node taken begun mounts = absurd taken
  one_further (first ∷ devices) [] nodes disk left device node taken begun mounts = absurd taken
  one_further (first ∷ devices) (one ∷ given) [] disk left device node taken begun mounts = absurd taken
  one_further (first ∷ devices) (one ∷ given) (other ∷ nodes) disk left device node taken begun mounts = (taken.0, taken.1, one_further devices given nodes disk left device node taken.2 begun mounts)

  -- the disk of the next device could not be mounted, and comes back between those that were and those that are left
  pub fails_at : (devices : List Device) (given : List D) (nodes : List (NodeModel D)) (disk came : D) (left : List D) (device : Device) (behind : List Device) → AreTaken devices given nodes (disk ∷ left)
      → Mounts seen left_since cluster device.id (Some Failed) disk came → FailsAt seen left_since cluster device.id (devices ++ device ∷ behind) given (map (λ (node : NodeModel D). node.disk) nodes ++ came ∷ left)
  fails_at [] given [] disk came left device behind taken mounts =
      subst (λ (all : List D). FailsAt seen left_since cluster device.id (device ∷ behind) all (came ∷ left)) (sym taken) (inl (refl, mounts, refl))
  fails_at [] given (node ∷ nodes) disk came left device behind taken mounts = absurd taken
  fails_at (first ∷ devices) [] nodes disk came left device behind taken mounts = absurd taken
  fails_at (first ∷ devices) (one ∷ given) [] disk came left device behind taken mounts = absurd taken
  fails_at (first ∷ devices) (one ∷ given) (node ∷ nodes) disk came left device behind taken mounts = inr (taken.1, fails_at devices given nodes disk came left device behind taken.2 mounts)
