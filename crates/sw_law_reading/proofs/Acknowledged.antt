-- A put that ended as created over a link is known to its view as acknowledged.
use Rattle.std.proofs.Common.{◌≡◌, All, Contains, sym, ap, subst, ◌∙◌, arith}
use Rattle.std.proofs.lemmas.List.Elements.{All-weaker}
use Rattle.sw_hashpath.specs.Place.{PlaceModel}
use Rattle.sw_ring.specs.Cluster.{ClusterModel, place_of_name}
use Rattle.sw_message.specs.Warrant.{IsHome}
use Rattle.sw_message.specs.declared.message.Msg.TheVariants as message
use Rattle.sw_message.specs.declared.reply.Reply.TheVariants as reply
use Rattle.sw_message.specs.declared.target.Target.{Target}
use Rattle.sw_put.specs.Causes as causes
use Rattle.sw_put.specs.Put as puts
use Rattle.sw_put.specs.declared.end.PutEnd.TheVariants.{Created}
use Rattle.sw_put.proofs.Ends.{created, settled}
use Rattle.sw_put.proofs.Transcripts.{ended}
use Rattle.sw_view.specs.declared.event.Event.TheVariants.{Handled}
use Rattle.sw_law_reading.specs.Reading.{CreatedOver}
use Rattle.sw_law_reading.proofs.Called.{grown, answered_event}

pub created_over : (cluster : ClusterModel) → CreatedOver cluster
created_over cluster before after begun past put commits valid cluster_is run calls known stamp_is name_is is =
    let cause : causes.IsCreated begun past begun.stamp commits = created begun past valid run (ended begun past (Created begun.stamp commits) is) begun.stamp commits (settled begun past (Created begun.stamp commits) is) in
    let place = place_of_name cluster put.booked.name in
    let places : puts.place_of begun ≡ place = ap (λ (c : ClusterModel). place_of_name c begun.name) cluster_is ∙ ap (place_of_name cluster) (sym name_is) in
    let Committed : Target → Type 0 = λ (target : Target). Contains (after.history target.device) (Handled (message.Commit place put.booked.stamp target.index) reply.Committed) in
    record {
      known = (grown cluster before past after calls).puts put known;
      targets = cause.targets;
      count = omega (arith, cause.many.counted);
      apart = record {
        indices = cause.many.indices;
        devices = cause.devices;
        homes = subst (λ (c : ClusterModel). All (IsHome c place) cause.targets) cluster_is (subst (λ (p : PlaceModel). All (IsHome begun.cluster p) cause.targets) places cause.homes);
      };
      committed = All-weaker (causes.WasCommitted begun past) Committed (λ target was.
          let event = answered_event cluster before past after calls _ reply.Committed was.1 in
          subst (λ (p : PlaceModel). Contains (after.history target.device) (Handled (message.Commit p put.booked.stamp target.index) reply.Committed)) places
          (subst (λ (s : _). Contains (after.history target.device) (Handled (message.Commit (puts.place_of begun) s target.index) reply.Committed)) (sym stamp_is) event)) cause.targets cause.committed;
    }
