-- A get beside which nothing steps is shown no change: so it keeps at most one event, and is not overtaken.
use Rattle.std.proofs.Common.{◌≡◌, ℕ, ◌≤◌, List, [], ◌∷◌, length, Contains, Some, refl, sym, subst}
use Rattle.sw_hashdir.specs.Listing.{ListingModel}
use Rattle.sw_ring.specs.Cluster.{ClusterModel}
use Rattle.sw_message.specs.Transcript.{Closed}
use Rattle.sw_message.specs.declared.reply.Reply.{Reply}
use Rattle.sw_message.specs.declared.reply.Reply.TheVariants as reply
use Rattle.sw_message.specs.declared.sent.Sent.{Sent}
use Rattle.sw_get.specs.Get as gets
use Rattle.sw_get.specs.declared.end.GetEnd.TheVariants.{Overtaken}
use Rattle.sw_get.specs.declared.round_end.KeptEvent.{KeptEvent}
use Rattle.sw_law_scene.specs.Scene.{disk_of}
use Rattle.sw_core.specs.Event.{Event, Lead, Start}
use Rattle.sw_operation.specs.Operating.{IsGetOf}
use Rattle.sw_core.specs.Sound.{IsSoundWorld, Stands}
use Rattle.sw_core.specs.World.{Operating, World, numbered}
use Rattle.sw_core.proofs.Happening.{leads-sound, run-sound}
use Rattle.sw_law_steady.specs.Steady.{IsShownBy, IsSteady, MissesAlike, kept_events}
use Rattle.sw_law_steady.proofs.Steadiness.{few_events, never_overtaken}
use Rattle.sw_law_alone.specs.Alone.{IsAlone, LeadsAlone}
use Rattle.sw_law_alone.proofs.Beginning.{get_in, starts_lone}
use Rattle.sw_law_alone.proofs.Events.{leads_lone}
use Rattle.sw_law_alone.proofs.Gets.{IsGetRun, get_run, one_get}
use Rattle.sw_law_alone.proofs.Lone.{IsLone}
use Rattle.sw_law_alone.proofs.Shown.{Lists, Tells, one_listed}

-- ---- alone

-- its own events lead to the world
pub all_lead : (number : ℕ) (before : World) (events : List Event) (after : World) → LeadsAlone number before events after → Lead before events after
all_lead number before [] after same = same
all_lead number before (event ∷ events) after (own, between, goes, lead) = (between, goes, all_lead number between events after lead)

module _ (cluster : ClusterModel) (world : World) (number : ℕ) (operation : Operating) (get : gets.Begun) (alone : IsAlone cluster world number) (is : numbered world.operations number ≡ Some operation)
    (reads : IsGetOf operation.begun get) where
  old_sound : IsSoundWorld cluster alone.old
  old_sound = run-sound cluster alone.earlier alone.old alone.run

  stands : Stands world.scene number operation
  stands =
      let started = leads-sound cluster alone.old (Start alone.job ∷ []) alone.started old_sound (alone.started, alone.starts, refl) in
      (leads-sound cluster alone.started alone.own world started (all_lead number alone.started alone.own world alone.leads)).operations number operation is

  lone : IsLone number get world
  lone =
      let begun = get_in alone.old alone.name in
      let started = starts_lone cluster alone.old old_sound alone.name alone.job alone.reads alone.started alone.starts in
      let after = leads_lone number begun alone.started alone.own world (subst (λ (n : ℕ). IsLone n begun alone.started) (sym alone.number_is) started) alone.leads in
      subst (λ (it : gets.Begun). IsLone number it world) (one_get begun get operation.begun (after.begun operation is) reads) after

  -- each reply in its transcript was made for it
  told : (sent : Sent) (reply : Reply) → Contains operation.past (Closed sent (Some reply)) → Tells (gets.place_of get) (disk_of world.scene sent.device) sent.msg reply
  told sent reply has = let was = stands.told sent reply has in lone.answers was.0 sent reply was.2

  listed : (device : ℕ) (listing : ListingModel) → IsShownBy operation.past device listing → Lists (gets.place_of get) (disk_of world.scene device) listing
  listed device listing (sent, reply, has, same, shows) = subst (λ (d : ℕ). Lists (gets.place_of get) (disk_of world.scene d) listing) same (told sent reply has listing shows).0

  -- it is shown no change
  pub alone_steady : IsSteady get operation.past
  alone_steady = record {
    one = λ device first second here there. one_listed (gets.place_of get) (disk_of world.scene device) first second (listed device first here) (listed device second there);
    gone = λ ticket stamp source listing durable has there. (told (gets.fetch_message get ticket stamp source) (reply.Gone listing) has listing refl).1 durable there;
  }

  -- its machine
  is_run : IsGetRun world.scene.cluster operation.past get
  is_run = get_run world.scene.cluster operation.past get operation.begun stands.cluster stands.valid stands.run reads

-- so it keeps at most one round as an event
pub alone_kept : (cluster : ClusterModel) (world : World) (number : ℕ) (operation : Operating) (get : gets.Begun) (turns : List gets.Turn) → IsAlone cluster world number → numbered world.operations number ≡ Some operation
    → IsGetOf operation.begun get → gets.AreTurns get operation.past turns → MissesAlike get operation.past → length (kept_events get turns) ≤ 1
alone_kept cluster world number operation get turns alone is reads are misses =
    few_events get operation.past turns (is_run cluster world number operation get alone is reads).1 (is_run cluster world number operation get alone is reads).2 are (alone_steady cluster world number operation get alone is reads) misses

-- and is not overtaken
pub alone_not_overtaken : (cluster : ClusterModel) (world : World) (number : ℕ) (operation : Operating) (get : gets.Begun) (events : List KeptEvent) → IsAlone cluster world number → numbered world.operations number ≡ Some operation
    → IsGetOf operation.begun get → MissesAlike get operation.past → gets.IsEnd get operation.past (Overtaken events) → ⊥
alone_not_overtaken cluster world number operation get events alone is reads misses ends =
    never_overtaken get operation.past events (is_run cluster world number operation get alone is reads).1 (is_run cluster world number operation get alone is reads).2 (alone_steady cluster world number operation get alone is reads) misses ends
