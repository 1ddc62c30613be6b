-- After a put was acknowledged a later get tells of nothing older, with fewer devices out than commits.
use Rattle.std.proofs.Common.{◌≡◌, ℕ, ◌<◌, List, length, refl, sym, ap, subst, ◌∙◌, arith}
use Rattle.std.specs.List.{All}
use Rattle.std.proofs.lemmas.List.Elements.{All-weaker}
use Rattle.sw_hashpath.specs.Place.{PlaceModel}
use Rattle.sw_ring.specs.Cluster.{ClusterModel}
use Rattle.sw_message.specs.Floors.{durable_at}
use Rattle.sw_message.specs.Transcript.{IsRun as IsRunOf, Step}
use Rattle.sw_message.specs.Warrant.{IsHome}
use Rattle.sw_message.specs.declared.message.Msg.TheVariants as message
use Rattle.sw_message.specs.declared.reply.Reply.TheVariants as reply
use Rattle.sw_message.specs.declared.target.Target.{Target}
use Rattle.sw_put.specs.Causes as put_causes
use Rattle.sw_put.specs.Put as puts
use Rattle.sw_put.specs.declared.end.PutEnd.TheVariants.{Created}
use Rattle.sw_put.proofs.Ends.{created, settled}
use Rattle.sw_put.proofs.Transcripts.{ended}
use Rattle.sw_get.specs.Causes.{LastRound}
use Rattle.sw_get.specs.declared.end.GetEnd.{GetEnd}
use Rattle.sw_operation.specs.Operating.{Begun, IsBegun, IsNext, Put, cluster_of}
use Rattle.sw_law_owed.specs.Decided.{AreApart}
use Rattle.sw_law_homes.specs.Homes.{WasCommitted}
use Rattle.sw_law_headline.specs.Headline.{IsAfterPut, NeverOlder}
use Rattle.sw_law_headline.proofs.After.{all_events, got, hears, is_place, new_sound, old_stands, place, promises, same_cluster, same_place, stamps, told-before, whole_run}
use Rattle.sw_law_homes.proofs.Committed.{committed as hears_committed}
use Rattle.sw_law_rounds.proofs.Reached.{IsReached}
use Rattle.sw_law_headline.proofs.Reached.{is-reached, not-older}

module _ (cluster : ClusterModel) (stamp commits : ℕ) (out : List ℕ) (end : GetEnd) (is : IsAfterPut cluster stamp commits out end) where
  abbrev own_place : PlaceModel
  own_place = place cluster is.old is.new is.leads is.begun.name is.put.start out end is.ends

  -- the put of that world
  record IsPutOf (past : List Step) : Type 0 where
    valid : puts.IsBegun is.begun
    run : IsRunOf (puts.IsNext is.begun) past
    cluster_is : is.begun.cluster ≡ is.old.scene.cluster

  of_put : (past : List Step) (begun : Begun) → begun ≡ Put is.begun → IsBegun begun → IsRunOf (IsNext begun) past → cluster_of begun ≡ is.old.scene.cluster → IsPutOf past
  of_put past begun same valid run cluster_is = record {
    valid = subst IsBegun same valid;
    run = subst (λ (one : Begun). IsRunOf (IsNext one) past) same run;
    cluster_is = subst (λ (one : Begun). cluster_of one ≡ is.old.scene.cluster) same cluster_is;
  }

  own : IsPutOf is.created.operation.past
  own =
      let stands = old_stands cluster is.old is.new is.leads is.created.operation is.created.there in
      of_put is.created.operation.past is.created.operation.begun is.created.begun_is stands.valid stands.run stands.cluster

  -- was created for its commits
  cause : put_causes.IsCreated is.begun is.created.operation.past is.begun.stamp commits
  cause =
      let past = is.created.operation.past in
      let how = Created is.begun.stamp commits in
      created is.begun past own.valid own.run (ended is.begun past how is.created.ended) is.begun.stamp commits (settled is.begun past how is.created.ended)

  in_place : puts.place_of is.begun ≡ own_place
  in_place = same_place cluster is.old is.new is.leads is.begun.name is.put.start out end is.ends is.begun.cluster own.cluster_is

  apart : AreApart is.new.scene.cluster own_place cause.targets
  apart = record {
    indices = cause.many.indices;
    devices = cause.devices;
    homes = subst (λ (one : ClusterModel). All (IsHome one own_place) cause.targets) (same_cluster cluster is.old is.new is.leads is.begun.name is.put.start out end is.ends is.begun.cluster own.cluster_is)
        (subst (λ (one : PlaceModel). All (IsHome is.begun.cluster one) cause.targets) in_place cause.homes);
  }

  same_stamp : is.begun.stamp ≡ is.put.booked.stamp
  same_stamp = is.stamp_is ∙ sym is.put_is

  was_committed : (target : Target) → put_causes.WasCommitted is.begun is.created.operation.past target → WasCommitted is.new.scene own_place is.put.booked.stamp is.ends.operation.start target
  was_committed target was =
      let made = told-before cluster is.old is.new is.leads is.created.operation is.created.there _ reply.Committed was.1 in (
        record { at = made.0; device = target.device; msg = message.Commit (puts.place_of is.begun) is.begun.stamp target.index; reply = reply.Committed },
        made.2,
        omega (arith, made.1, is.ends.later),
        refl,
        ap (λ (one : PlaceModel). message.Commit one is.begun.stamp target.index) in_place ∙ ap (λ (one : ℕ). message.Commit own_place one target.index) same_stamp,
        refl,
      )

  -- so the get hears of a floor that is high enough
  pub put-reached : length out < commits → (last : LastRound is.ends.begun is.ends.operation.past) → IsReached is.ends.begun is.ends.operation.past last.turns stamp
  put-reached fewer last =
      let hearing = hears cluster is.old is.new is.leads is.begun.name is.put.start out end is.ends last in
      let all_committed = All-weaker (put_causes.WasCommitted is.begun is.created.operation.past) (WasCommitted is.new.scene own_place is.put.booked.stamp is.ends.operation.start) was_committed cause.targets cause.committed in
      let heard = hears_committed is.new.scene own_place is.ends.operation.start out hearing.heard is.put cause.targets (new_sound cluster is.old is.new is.leads).scene (promises cluster is.old is.new is.leads)
      (stamps cluster is.old is.new is.leads) (is_place cluster is.old is.new is.leads is.begun.name is.put.start out end is.ends) is.started hearing.are apart all_committed (omega (arith, fewer, cause.many.counted)) in
      subst (IsReached is.ends.begun is.ends.operation.past last.turns) is.put_is
      (is-reached is.new is.ends.there.number is.ends.operation is.ends.begun (got cluster is.old is.new is.leads is.begun.name is.put.start out end is.ends) last.turns is.put.start is.ends.operation.start out hearing
      (durable_at is.put.booked.stamp) heard)

-- with fewer devices out than commits
pub never_older : (cluster : ClusterModel) → NeverOlder cluster
never_older cluster stamp commits out end is fewer =
    not-older cluster (all_events cluster is.old is.new is.leads) is.new (whole_run cluster is.old is.new is.leads) is.ends.there.number is.ends.operation is.ends.there.there is.ends.begun is.ends.begun_is
    (got cluster is.old is.new is.leads is.begun.name is.put.start out end is.ends) stamp (put-reached cluster stamp commits out end is fewer) end is.ends.ended
