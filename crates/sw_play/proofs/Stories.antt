-- What a story does, line by line, and what its lines lead to.
use Rattle.std.proofs.Common.{◌≡◌, ⊎_elim, ℕ, ◌+◌, List, [], ◌∷◌, ◌++◌, Option, None, Some, Result, Ok, Err, refl, sym, ap, subst, ◌∙◌, append_assoc}
use Rattle.sw_ring.specs.Cluster.{ClusterModel}
use Rattle.sw_core.specs.Event as core
use Rattle.sw_core.specs.World.{empty_world}
use Rattle.sw_core.proofs.Leads.{leads-append}
use Rattle.sw_law_headline.specs.Headline.{LeadsOn}
use Rattle.sw_script.specs.Line.{event_of}
use Rattle.sw_script.specs.declared.event.Event.{Event}
use Rattle.sw_script.specs.declared.fault.LineFault.{LineFault}
use Rattle.sw_sim_world.specs.ScriptedWorld.{ScriptedWorld, events_in}
use Rattle.sw_sim_world.specs.Doing.{DoesEvent, Done, event_fault}
use Rattle.sw_play.specs.Promised.{ComesBefore}
use Rattle.sw_play.specs.Story.{DoesOrSpends, Plays, PlaysEvent, PlaysLine, Stops}
use Rattle.sw_play.specs.declared.playing.PlayEnd.{PlayEnd}
use Rattle.sw_play.proofs.Leads.{steps-lead}

-- its lines are done, one after the other
abbrev pub Does : (before : ScriptedWorld) → List Done → (after : ScriptedWorld) → Type 0
Does before [] after = after ≡ before
Does before (done ∷ story) after = DoesEvent before done × Does done.after story after

-- ---- what is played is done

stops_does : (how : PlayEnd) (before : ScriptedWorld) (story : List Done) (end : PlayEnd) (after : ScriptedWorld) → Stops how before story end after → Does before story after
stops_does how before story end after (none, is, same) = subst (λ (one : List Done). Does before one after) (sym none) same

module _ (Rest : ScriptedWorld → List Done → PlayEnd → ScriptedWorld → Type 0) (rest_does : (between : ScriptedWorld) (story : List Done) (end : PlayEnd) (after : ScriptedWorld) → Rest between story end after → Does between story after) where
  event_does : (event : Event) (number : ℕ) (before : ScriptedWorld) (story : List Done) (end : PlayEnd) (after : ScriptedWorld) → DoesOrSpends event number Rest before story end after → Does before story after
  event_does event number before [] end after (spent, is, same) = same
  event_does event number before (done ∷ story) end after (spare, is, does, rest) = (does, rest_does done.after story end after rest)

  fine_does : (fault : Option LineFault) (event : Event) (number : ℕ) (before : ScriptedWorld) (story : List Done) (end : PlayEnd) (after : ScriptedWorld) → PlaysEvent fault event number Rest before story end after
      → Does before story after
  fine_does (Some fault) event number before story end after stops = stops_does _ before story end after stops
  fine_does None event number before story end after does = event_does event number before story end after does

  line_does : (told : Result (Option Event) LineFault) (number : ℕ) (before : ScriptedWorld) (story : List Done) (end : PlayEnd) (after : ScriptedWorld) → PlaysLine told number Rest before story end after → Does before story after
  line_does (Err fault) number before story end after stops = stops_does _ before story end after stops
  line_does (Ok None) number before story end after rest = rest_does before story end after rest
  line_does (Ok (Some event)) number before story end after plays = fine_does (event_fault before event) event number before story end after plays

pub plays_does : (before : ScriptedWorld) (number : ℕ) (lines : List (List ℕ)) (story : List Done) (end : PlayEnd) (after : ScriptedWorld) → Plays before number lines story end after → Does before story after
plays_does before number [] story end after plays = ⊎_elim (λ stops. stops_does _ before story end after stops) (λ stops. stops_does _ before story end after stops) plays
plays_does before number (line ∷ lines) story end after plays = ⊎_elim
    (λ stops. stops_does _ before story end after stops)
    (λ goes.
    line_does (λ between later how last. Plays between (number + 1) lines later how last) (λ between later how last rest. plays_does between (number + 1) lines later how last rest)
    (event_of line) number before story end after goes)
    plays

-- ---- parts of a story

-- where the front of a story led
cut : (before : ScriptedWorld) (front back : List Done) (after : ScriptedWorld) → Does before (front ++ back) after → (middle : ScriptedWorld) × Does before front middle × Does middle back after
cut before [] back after does = (before, refl, does)
cut before (done ∷ front) back after (first, rest) = let (middle, mine, others) = cut done.after front back after rest in (middle, (first, mine), others)

-- the events of a story
abbrev events_of : List Done → List core.Event
events_of [] = []
events_of (done ∷ story) = events_in done.steps ++ events_of story

does_lead : (before : ScriptedWorld) (story : List Done) (after : ScriptedWorld) → Does before story after → core.Lead before.world (events_of story) after.world
does_lead before [] after same = ap (λ (one : ScriptedWorld). one.world) same
does_lead before (done ∷ story) after (first, rest) =
    leads-append before.world (events_in done.steps) done.after.world (events_of story) after.world (steps-lead before done.steps done.after first.steps) (does_lead done.after story after rest)

-- ---- two lines of a story

-- a line was done, and a later one
pub record AreDone (cluster : ClusterModel) (earlier later : Done) : Type 0 where
  pub before : ScriptedWorld
  pub does_earlier : DoesEvent before earlier
  pub between : ScriptedWorld
  pub does_later : DoesEvent between later
  pub leads : LeadsOn cluster earlier.after.world later.after.world

module _ (cluster : ClusterModel) (first : ScriptedWorld) (events : List core.Event) (run : core.IsRun cluster events first.world) where
  -- they are cut out of the story
  from_parts : (front : List Done) (earlier : Done) (between : List Done) (later : Done) (back : List Done) (last : ScriptedWorld) → Does first (front ++ (earlier ∷ between ++ later ∷ back)) last → AreDone cluster earlier later
  from_parts front earlier between later back last does =
      let (before, in_front, (does_earlier, behind)) = cut first front (earlier ∷ between ++ later ∷ back) last does in
      let (middle, in_between, (does_later, in_back)) = cut earlier.after between (later ∷ back) last behind in
      let before_it = events ++ events_of front in
      record {
        before = before;
        does_earlier = does_earlier;
        between = middle;
        does_later = does_later;
        leads = record {
          earlier = before_it ++ events_in earlier.steps;
          run = record {
            rules = run.rules;
            lead =
                leads-append (empty_world cluster) before_it before.world (events_in earlier.steps) earlier.after.world
                (leads-append (empty_world cluster) events first.world (events_of front) before.world run.lead (does_lead first front before in_front))
                (steps-lead before earlier.steps earlier.after does_earlier.steps);
          };
          later = events_of between ++ events_in later.steps;
          lead =
              leads-append earlier.after.world (events_of between) middle.world (events_in later.steps) later.after.world (does_lead earlier.after between middle in_between)
              (steps-lead middle later.steps later.after does_later.steps);
        };
      }

  pub both_done : (story : List Done) (last : ScriptedWorld) (earlier later : Done) → Does first story last → ComesBefore story earlier later → AreDone cluster earlier later
  both_done story last earlier later does comes =
      from_parts comes.front earlier comes.between later comes.back last (subst (λ (one : List Done). Does first one last) (comes.is ∙ append_assoc comes.front (earlier ∷ comes.between) (later ∷ comes.back)) does)
