-- What was put, deleted, stored and decided by a step stays so as a scene goes on, and so does what is by it.
use Rattle.std.proofs.Common.{◌≡◌, ℕ, ◌≤◌, Bool, true, Contains, length, refl, sym, subst, arith}
use Rattle.std.proofs.lemmas.List.Elements.{All-weaker}
use Rattle.sw_hashdir.specs.Listing.{ListingModel}
use Rattle.sw_hashdir.specs.declared.floor.FloorKind.{FloorKind}
use Rattle.sw_hashdir.specs.declared.floor.FloorKind.TheVariants as kind
use Rattle.sw_hashpath.specs.Place.{IsPlace, PlaceModel}
use Rattle.sw_hashpath.specs.declared.file_name.FileName.{FileName}
use Rattle.sw_hashpath.specs.declared.file_name.FileName.TheVariants.{Data, Tombstone}
use Rattle.sw_ring.specs.Cluster.{ClusterModel, place_of_name}
use Rattle.sw_message.specs.Step.{Folders}
use Rattle.sw_message.specs.declared.message.Msg.{Msg}
use Rattle.sw_message.specs.declared.message.Msg.TheVariants as message
use Rattle.sw_message.specs.declared.reply.Reply.{Reply}
use Rattle.sw_message.specs.declared.reply.Reply.TheVariants as reply
use Rattle.sw_message.specs.declared.target.Target.{Target}
use Rattle.sw_law_scene.specs.Scene.{Answer, Message, Scene, StartedDelete, StartedPut}
use Rattle.sw_law_owed.specs.Promise.{Made, WasMade}
use Rattle.sw_law_owed.specs.Decided.{AreApart, AreNamesBy, IsEntryBy, IsFloorBy, IsListingBy, IsMessageBy, IsNameBy, IsReplyBy, WasDecided, WasDeleted, WasPut, WasStored}

-- the cluster is the same, each message, each put and each delete is still there, and time does not go back
pub record GoesOn (before after : Scene) : Type 0 where
  pub cluster : after.cluster ≡ before.cluster
  pub messages : (posted : Message) → Contains before.messages posted → Contains after.messages posted
  pub book : (put : StartedPut) → Contains before.book put → Contains after.book put
  pub marks : (delete : StartedDelete) → Contains before.marks delete → Contains after.marks delete
  pub now : before.now ≤ after.now

-- as time stands still
pub same_scene : (scene : Scene) → GoesOn scene scene
same_scene scene = record { cluster = refl; messages = λ posted has. has; book = λ put has. has; marks = λ delete has. has; now = omega arith }

module _ (before after : Scene) (goes : GoesOn before after) where
  -- a reply that was made
  made_still : (made : Made) → WasMade before made → WasMade after made
  made_still made (operation, sent, there, device, msg) = (operation, sent, goes.messages (Answer made.at operation sent made.reply) there, device, msg)

  module _ (by later : ℕ) (in_time : by ≤ later) (place : PlaceModel) where
    -- a put
    put_still : (stamp : ℕ) → WasPut before place stamp by → WasPut after place stamp later
    put_still stamp (put, there, same, placed, started) =
        (put, goes.book put there, same, subst (λ (cluster : ClusterModel). place_of_name cluster put.booked.name ≡ place) (sym goes.cluster) placed, omega (arith, started, in_time))

    -- a delete
    pub deleted_still : (stamp : ℕ) → WasDeleted before place stamp by → WasDeleted after place stamp later
    deleted_still stamp (delete, there, same, placed, started) =
        (delete, goes.marks delete there, same, subst (λ (cluster : ClusterModel). place_of_name cluster delete.marked.name ≡ place) (sym goes.cluster) placed, omega (arith, started, in_time))

    -- what a device stored
    stored_still : (stamp : ℕ) (target : Target) → WasStored before place stamp by target → WasStored after place stamp later target
    stored_still stamp target (made, was_made, earlier, device, bytes, msg, answer) = (made, made_still made was_made, omega (arith, earlier, in_time), device, bytes, msg, answer)

    -- what was decided
    pub decided_still : (stamp : ℕ) → WasDecided before place stamp by → WasDecided after place stamp later
    decided_still stamp was = record {
      targets = was.targets;
      enough = subst (λ (cluster : ClusterModel). cluster.policy.q ≤ length was.targets) (sym goes.cluster) was.enough;
      apart = subst (λ (cluster : ClusterModel). AreApart cluster place was.targets) (sym goes.cluster) was.apart;
      stored = All-weaker (WasStored before place stamp by) (WasStored after place stamp later) (stored_still stamp) was.targets was.stored;
    }

    -- an entry
    pub entry_still : (stamp : ℕ) (durable : Bool) → IsEntryBy before place stamp durable by → IsEntryBy after place stamp durable later
    entry_still stamp durable is = record { put = put_still stamp is.put; decided = λ at. decided_still stamp (is.decided at) }

    -- a name
    name_still : (name : FileName) → IsNameBy before place by name → IsNameBy after place later name
    name_still (Data stamp index durable) is = entry_still stamp durable is
    name_still (Tombstone stamp) is = deleted_still stamp is

    -- a listing
    listing_still : (listing : ListingModel) → IsListingBy before place by listing → IsListingBy after place later listing
    listing_still listing is = record {
      entries = λ entry has. entry_still entry.stamp entry.durable (is.entries entry has);
      tombstones = λ stamp has. deleted_still stamp (is.tombstones stamp has);
    }

    -- a floor
    floor_still : (stamp : ℕ) (k : FloorKind) → IsFloorBy before place by stamp k → IsFloorBy after place later stamp k
    floor_still stamp kind.Durable is = entry_still stamp true is
    floor_still stamp kind.Tombstone is = deleted_still stamp is

    -- a reply
    pub reply_still : (answer : Reply) → IsReplyBy before place by answer → IsReplyBy after place later answer
    reply_still (reply.Held listing) is = listing_still listing is
    reply_still (reply.Gone listing) is = listing_still listing is
    reply_still (reply.Superseded floor) is = floor_still floor.stamp floor.kind is
    reply_still other is = tt

  module _ (by later : ℕ) (in_time : by ≤ later) where
    -- the names in folders
    pub names_still : (folders : Folders) → AreNamesBy before by folders → AreNamesBy after later folders
    names_still folders names = λ place name is_place spelt has.
        name_still by later in_time place name (names place name (subst (λ (cluster : ClusterModel). IsPlace cluster.part_power place) goes.cluster is_place) spelt has)

    -- a message
    pub message_still : (msg : Msg) → IsMessageBy before by msg → IsMessageBy after later msg
    message_still (message.PutFrag place stamp index bytes) is = put_still by later in_time place stamp is
    message_still (message.Commit place stamp index) is = entry_still by later in_time place stamp true is
    message_still (message.Delete place stamp) is = deleted_still by later in_time place stamp is
    message_still other is = tt
