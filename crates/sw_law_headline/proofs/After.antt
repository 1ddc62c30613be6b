-- A get that ended in a later world than another operation: what that was told had been made before the get began.
use Rattle.std.proofs.Common.{◌≡◌, ℕ, ◌<◌, Contains, List, ◌++◌, Some, refl, sym, ap, subst, ◌∙◌}
use Rattle.sw_types.specs.Name.{NameModel}
use Rattle.sw_hashpath.specs.Place.{IsPlace, PlaceModel}
use Rattle.sw_ring.specs.Cluster.{ClusterModel, place_of_name}
use Rattle.sw_message.specs.Transcript.{Closed}
use Rattle.sw_message.specs.declared.reply.Reply.{Reply}
use Rattle.sw_message.specs.declared.sent.Sent.{Sent}
use Rattle.sw_quorum.proofs.Places.{place_right}
use Rattle.sw_get.specs.Causes.{LastRound}
use Rattle.sw_get.specs.Get as gets
use Rattle.sw_get.specs.declared.end.GetEnd.{GetEnd}
use Rattle.sw_law_scene.specs.Scene.{Answer}
use Rattle.sw_core.specs.Event.{Event, IsRun}
use Rattle.sw_core.specs.Sound.{IsSoundWorld, Stands}
use Rattle.sw_core.specs.World.{Operating, World}
use Rattle.sw_core.proofs.Happening.{run-sound}
use Rattle.sw_core.proofs.Leads.{leads-append}
use Rattle.sw_law_owed.specs.Decided.{KeepsStamps}
use Rattle.sw_law_owed.specs.Promise.{KeepsPromises, WasMade}
use Rattle.sw_law_promise.proofs.Runs.{run_keeps}
use Rattle.sw_law_headline.specs.Headline.{EndsLater, IsOperation, LeadsOn}
use Rattle.sw_law_headline.proofs.Gets.{IsGot, is-got, since-start}
use Rattle.sw_law_headline.proofs.Growing.{leads-on}
use Rattle.sw_law_headline.proofs.Heard.{IsHearing, is-hearing}
use Rattle.sw_law_decided.proofs.Runs.{run_keeps as stamps_hold}
use Rattle.sw_law_rounds.proofs.Handed.{in_whole}

module _ (cluster : ClusterModel) (old new : World) (leads : LeadsOn cluster old new) where
  -- the events up to the later world
  abbrev pub all_events : List Event
  all_events = leads.earlier ++ leads.later

  -- the run that they are
  pub whole_run : IsRun cluster all_events new
  whole_run = record { rules = leads.run.rules; lead = leads-append _ leads.earlier old leads.later new leads.run.lead leads.lead }

  -- both worlds are sound
  pub old_sound : IsSoundWorld cluster old
  old_sound = run-sound cluster leads.earlier old leads.run

  pub new_sound : IsSoundWorld cluster new
  new_sound = run-sound cluster all_events new whole_run

  -- and the later one keeps what scenes keep
  pub promises : KeepsPromises new.scene
  promises = run_keeps cluster all_events new whole_run

  pub stamps : KeepsStamps new.scene
  stamps = stamps_hold cluster all_events new whole_run

  -- an operation of the earlier world stands there
  pub old_stands : (operation : Operating) (is : IsOperation old operation) → Stands old.scene is.number operation
  old_stands operation is = old_sound.operations is.number operation is.there

  -- what it was told had been made by then, as the later world knows
  pub told-before : (operation : Operating) → IsOperation old operation → (sent : Sent) (reply : Reply) → Contains operation.past (Closed sent (Some reply))
      → (at : ℕ) × (at < old.scene.now) × WasMade new.scene (record { at = at; device = sent.device; msg = sent.msg; reply = reply })
  told-before operation is sent reply has =
      let made = (old_stands operation is).told sent reply has in
      let still = (leads-on cluster old leads.later new old_sound leads.lead).messages (Answer made.0 is.number sent reply) made.2 in
      (made.0, old_sound.scene.before (Answer made.0 is.number sent reply) made.2, (is.number, sent, still, refl, refl))

  module _ (name : NameModel) (start : ℕ) (out : List ℕ) (end : GetEnd) (ends : EndsLater old new name start out end) where
    abbrev pub place : PlaceModel
    place = gets.place_of ends.begun

    -- the get
    pub got : IsGot new.scene ends.there.number ends.operation ends.begun
    got = is-got cluster all_events new whole_run ends.there.number ends.operation ends.there.there ends.begun ends.begun_is

    -- its place is one of the cluster
    pub is_place : IsPlace new.scene.cluster.part_power place
    is_place = subst (λ (one : ClusterModel). IsPlace one.part_power place) got.cluster (place_right ends.begun.cluster ends.begun.name)

    -- and that of each operation of the name
    pub same_cluster : (other : ClusterModel) → other ≡ old.scene.cluster → other ≡ new.scene.cluster
    same_cluster other same = same ∙ old_sound.same_cluster ∙ sym new_sound.same_cluster

    pub same_place : (other : ClusterModel) → other ≡ old.scene.cluster → place_of_name other name ≡ place
    same_place other same =
        ap (λ (one : ClusterModel). place_of_name one name) (same_cluster other same ∙ sym got.cluster) ∙ ap (place_of_name ends.begun.cluster) (sym ends.same_name)

    -- hears in its last round all but those that are out, none of it before its start
    pub hears : (last : LastRound ends.begun ends.operation.past) → IsHearing new ends.there.number ends.operation ends.begun got last.turns start ends.operation.start out
    hears last =
        is-hearing new ends.there.number ends.operation ends.begun got last.turns last.are last.all_answered start ends.operation.start
        (λ sent has. since-start new.scene ends.there.number ends.operation ends.begun got last.turns last.are sent (in_whole ends.begun last.turns _ has)) out ends.are_out
