-- After a delete was acknowledged a later get tells of nothing older, with fewer devices out than marks.
use Rattle.std.proofs.Common.{◌≡◌, ⊎_elim, ℕ, ◌<◌, List, length, refl, sym, ap, subst, ◌∙◌, arith}
use Rattle.std.proofs.lemmas.List.Elements.{All-contains, All-weaker}
use Rattle.sw_hashpath.specs.Place.{PlaceModel}
use Rattle.sw_ring.specs.Cluster.{ClusterModel}
use Rattle.sw_message.specs.Floors.{tombstone_floor}
use Rattle.sw_message.specs.Message.{IsMember}
use Rattle.sw_message.specs.Transcript.{IsRun as IsRunOf, Step}
use Rattle.sw_message.specs.declared.message.Msg.TheVariants as message
use Rattle.sw_message.specs.declared.reply.Reply.TheVariants as reply
use Rattle.sw_quorum.proofs.Places.{handoffs_known, part_small}
use Rattle.sw_delete.specs.Causes as delete_causes
use Rattle.sw_delete.specs.Delete as deletes
use Rattle.sw_delete.specs.declared.end.DeleteEnd.TheVariants.{Deleted}
use Rattle.sw_delete.proofs.Ends.{deleted, settled}
use Rattle.sw_delete.proofs.Transcripts.{ended}
use Rattle.sw_get.specs.Causes.{LastRound}
use Rattle.sw_get.specs.declared.end.GetEnd.{GetEnd}
use Rattle.sw_operation.specs.Operating.{Begun, Delete, IsBegun, IsNext, cluster_of}
use Rattle.sw_law_homes.specs.Homes.{WasBuried}
use Rattle.sw_law_headline.specs.Headline.{IsAfterDelete, StaysDeleted}
use Rattle.sw_law_headline.proofs.After.{all_events, got, hears, is_place, new_sound, old_stands, place, promises, same_cluster, same_place, stamps, told-before, whole_run}
use Rattle.sw_law_homes.proofs.Buried.{buried as hears_buried}
use Rattle.sw_law_rounds.proofs.Reached.{IsReached}
use Rattle.sw_law_headline.proofs.Reached.{is-reached, not-older}

module _ (cluster : ClusterModel) (stamp marks : ℕ) (out : List ℕ) (end : GetEnd) (is : IsAfterDelete cluster stamp marks out end) where
  abbrev own_place : PlaceModel
  own_place = place cluster is.old is.new is.leads is.begun.name is.delete.start out end is.ends

  -- the delete of that world
  record IsDeleteOf (past : List Step) : Type 0 where
    valid : deletes.IsBegun is.begun
    run : IsRunOf (deletes.IsNext is.begun) past
    cluster_is : is.begun.cluster ≡ is.old.scene.cluster

  of_delete : (past : List Step) (begun : Begun) → begun ≡ Delete is.begun → IsBegun begun → IsRunOf (IsNext begun) past → cluster_of begun ≡ is.old.scene.cluster → IsDeleteOf past
  of_delete past begun same valid run cluster_is = record {
    valid = subst IsBegun same valid;
    run = subst (λ (one : Begun). IsRunOf (IsNext one) past) same run;
    cluster_is = subst (λ (one : Begun). cluster_of one ≡ is.old.scene.cluster) same cluster_is;
  }

  own : IsDeleteOf is.deleted.operation.past
  own =
      let stands = old_stands cluster is.old is.new is.leads is.deleted.operation is.deleted.there in
      of_delete is.deleted.operation.past is.deleted.operation.begun is.deleted.begun_is stands.valid stands.run stands.cluster

  -- has deleted with its marks
  cause : delete_causes.IsDeleted is.begun is.deleted.operation.past is.begun.stamp marks is.existed
  cause =
      let past = is.deleted.operation.past in
      let how = Deleted is.begun.stamp marks is.existed in
      deleted is.begun past own.valid own.run (ended is.begun past how is.deleted.ended) is.begun.stamp marks is.existed (settled is.begun past how is.deleted.ended)

  in_place : deletes.place_of is.begun ≡ own_place
  in_place = same_place cluster is.old is.new is.leads is.begun.name is.delete.start out end is.ends is.begun.cluster own.cluster_is

  -- each device of the place is one of the cluster
  member : (device : ℕ) → delete_causes.IsPlaced is.begun device → IsMember is.new.scene.cluster device
  member device placed = subst (λ (one : ClusterModel). IsMember one device) (same_cluster cluster is.old is.new is.leads is.begun.name is.delete.start out end is.ends is.begun.cluster own.cluster_is)
      (⊎_elim
      (λ primary.
      All-contains (IsMember is.begun.cluster) (deletes.primaries is.begun) device (own.valid.rules.known (deletes.place_of is.begun).part (part_small is.begun.cluster is.begun.name)) primary)
      (λ handoff. All-contains (IsMember is.begun.cluster) (deletes.handoffs is.begun) device (handoffs_known is.begun.cluster (deletes.place_of is.begun).part) handoff)
      placed)

  same_stamp : is.begun.stamp ≡ is.delete.marked.stamp
  same_stamp = is.stamp_is ∙ sym is.delete_is

  was_buried : (device : ℕ) → delete_causes.WasMarked is.begun is.deleted.operation.past device → WasBuried is.new.scene own_place is.delete.marked.stamp is.ends.operation.start device
  was_buried device was =
      let sent = deletes.delete_message is.begun was.0 device in
      let made = told-before cluster is.old is.new is.leads is.deleted.operation is.deleted.there sent (reply.Deleted was.1) was.2 in (
        record { at = made.0; device = device; msg = sent.msg; reply = reply.Deleted was.1 },
        made.2,
        omega (arith, made.1, is.ends.later),
        refl,
        ap (λ (one : PlaceModel). message.Delete one is.begun.stamp) in_place ∙ ap (λ (one : ℕ). message.Delete own_place one) same_stamp,
        (was.1, refl),
      )

  -- so the get hears of a floor that is high enough
  delete-reached : length out < marks → (last : LastRound is.ends.begun is.ends.operation.past) → IsReached is.ends.begun is.ends.operation.past last.turns stamp
  delete-reached fewer last =
      let hearing = hears cluster is.old is.new is.leads is.begun.name is.delete.start out end is.ends last in
      let all_members = All-weaker (delete_causes.IsPlaced is.begun) (IsMember is.new.scene.cluster) member cause.devices cause.marked.placed in
      let all_buried = All-weaker (delete_causes.WasMarked is.begun is.deleted.operation.past) (WasBuried is.new.scene own_place is.delete.marked.stamp is.ends.operation.start) was_buried cause.devices cause.marked.marked in
      let heard = hears_buried is.new.scene own_place is.ends.operation.start out hearing.heard is.delete cause.devices (new_sound cluster is.old is.new is.leads).scene (promises cluster is.old is.new is.leads)
      (stamps cluster is.old is.new is.leads) (is_place cluster is.old is.new is.leads is.begun.name is.delete.start out end is.ends) is.started hearing.are cause.marked.apart all_members all_buried
      (omega (arith, fewer, cause.marked.counted)) in
      subst (IsReached is.ends.begun is.ends.operation.past last.turns) is.delete_is
      (is-reached is.new is.ends.there.number is.ends.operation is.ends.begun (got cluster is.old is.new is.leads is.begun.name is.delete.start out end is.ends) last.turns is.delete.start is.ends.operation.start out hearing
      (tombstone_floor is.delete.marked.stamp) heard)

-- with fewer devices out than marks
pub stays_deleted : (cluster : ClusterModel) → StaysDeleted cluster
stays_deleted cluster stamp marks out end is fewer =
    not-older cluster (all_events cluster is.old is.new is.leads) is.new (whole_run cluster is.old is.new is.leads) is.ends.there.number is.ends.operation is.ends.there.there is.ends.begun is.ends.begun_is
    (got cluster is.old is.new is.leads is.begun.name is.delete.start out end is.ends) stamp (delete-reached cluster stamp marks out end is fewer) end is.ends.ended
