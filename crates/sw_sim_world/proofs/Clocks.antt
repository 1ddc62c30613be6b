-- A clock that is set leads a world on.
use Rattle.std.proofs.Common.{◌≡◌, ◌≤◌, ℕ, [], ◌∷◌, ◌++◌, refl, sym, subst}
use Rattle.sw_types.specs.Stamp.{greatest_stamp}
use Rattle.sw_core.specs.Event as core
use Rattle.sw_core.specs.Event.{idle}
use Rattle.sw_core.proofs.Leads.{run-more}
use Rattle.sw_sim_world.specs.declared.told.Told.{Told}
use Rattle.sw_script.specs.declared.event.Event.TheVariants as event
use Rattle.sw_sim_world.specs.Leading.{DoesIt}
use Rattle.sw_sim_world.specs.ScriptedWorld.{ScriptedWorld}
use Rattle.sw_sim_world.specs.Standing.{StandsFor, WorldModel}
use Rattle.sw_sim_world.proofs.OneEvents.{one-event}

module _ (stamp : ℕ) (fits : stamp ≤ greatest_stamp) (old new : WorldModel) (new_is : new ≡ record old { clock = stamp }) (before : ScriptedWorld) (stands : StandsFor old before) where
  -- the world then
  abbrev clock_set : ScriptedWorld
  clock_set = record before { world = record (idle before.world) { clock = stamp } }

  -- that is what the event does
  happens : core.Happens (core.SetClock stamp) before.world clock_set.world
  happens = (fits, refl)

  -- it stands for what that led to
  still-stands : StandsFor (record old { clock = stamp }) clock_set
  still-stands = record {
    goes_on = stands.goes_on;
    events = stands.events ++ core.SetClock stamp ∷ [];
    run = run-more old.cluster stands.events before.world (core.SetClock stamp) clock_set.world stands.run happens;
    cluster_is = stands.cluster_is;
    clock_is = refl;
    last_is = stands.last_is;
    devices = λ device member. let is = stands.devices device member in record { folders = is.folders; sure = is.sure; same = is.same; is_up = is.is_up };
    letters = stands.letters;
    marked = stands.marked;
    within = stands.within;
    first = stands.first;
    delivered = stands.delivered;
    operations = stands.operations;
    clusters = stands.clusters;
    requests = stands.requests;
    numbers = stands.numbers;
    closed = stands.closed;
  }

  -- and nothing is told of it
  pub sets-clock : (told : Told) → told ≡ record { sent = []; ends = []; shown = [] } → DoesIt (event.SetClock stamp) before told new
  sets-clock told none =
      one-event (event.SetClock stamp) before refl refl told (core.SetClock stamp) clock_set new (record { happens = happens; delivered = refl }) refl refl refl refl none
      (subst (λ (model : WorldModel). StandsFor model clock_set) (sym new_is) still-stands)
