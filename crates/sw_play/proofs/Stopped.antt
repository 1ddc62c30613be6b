-- A script may have ended by want of memory wherever it ended.
use Rattle.std.proofs.Common.{◌⊎◌, inl, inr, ⊎_elim, ℕ, ◌+◌, List, [], ◌∷◌, Option, Some, None, Result, Ok, Err, refl}
use Rattle.sw_script.specs.Line.{event_of}
use Rattle.sw_script.specs.declared.event.Event.{Event}
use Rattle.sw_script.specs.declared.fault.LineFault.{LineFault}
use Rattle.sw_sim_world.specs.ScriptedWorld.{ScriptedWorld}
use Rattle.sw_sim_world.specs.Doing.{Done, event_fault}
use Rattle.sw_play.specs.Story.{DoesOrSpends, Plays, PlaysEvent, PlaysLine, Stops}
use Rattle.sw_play.specs.declared.playing.PlayEnd.{PlayEnd}
use Rattle.sw_play.specs.declared.playing.PlayEnd.TheVariants as ended

module _ (Rest : ScriptedWorld → List Done → PlayEnd → ScriptedWorld → Type 0) (rest : (before : ScriptedWorld) (story : List Done) (end : PlayEnd) (after : ScriptedWorld) → Rest before story end after → Rest before story ended.NoMemory after) (number : ℕ) where
  by_event : (event : Event) (before : ScriptedWorld) (story : List Done) (end : PlayEnd) (after : ScriptedWorld) → DoesOrSpends event number Rest before story end after
      → Stops ended.NoMemory before story ended.NoMemory after ⊎ DoesOrSpends event number Rest before story ended.NoMemory after
  by_event event before [] end after spent = inl (refl, refl, spent.2)
  by_event event before (done ∷ story) end after does = inr (does.0, does.1, does.2, rest done.after story end after does.3)

  by_fault : (fault : Option LineFault) (event : Event) (before : ScriptedWorld) (story : List Done) (end : PlayEnd) (after : ScriptedWorld) → PlaysEvent fault event number Rest before story end after
      → Stops ended.NoMemory before story ended.NoMemory after ⊎ PlaysEvent fault event number Rest before story ended.NoMemory after
  by_fault (Some fault) event before story end after stops = inl (stops.0, refl, stops.2)
  by_fault None event before story end after does = by_event event before story end after does

  by_line : (told : Result (Option Event) LineFault) (before : ScriptedWorld) (story : List Done) (end : PlayEnd) (after : ScriptedWorld) → PlaysLine told number Rest before story end after
      → Stops ended.NoMemory before story ended.NoMemory after ⊎ PlaysLine told number Rest before story ended.NoMemory after
  by_line (Err fault) before story end after stops = inl (stops.0, refl, stops.2)
  by_line (Ok None) before story end after plays = inr (rest before story end after plays)
  by_line (Ok (Some event)) before story end after plays = by_fault (event_fault before event) event before story end after plays

pub stopped : (before : ScriptedWorld) (number : ℕ) (lines : List (List ℕ)) (story : List Done) (end : PlayEnd) (after : ScriptedWorld) → Plays before number lines story end after
    → Plays before number lines story ended.NoMemory after
stopped before number [] story end after plays = inl (⊎_elim (λ wants. (wants.0, refl, wants.2)) (λ stops. (stops.0, refl, stops.2)) plays)
stopped before number (line ∷ lines) story end after plays = ⊎_elim
    (λ wants. inl (wants.0, refl, wants.2))
    (λ told. by_line (λ between later how last. Plays between (number + 1) lines later how last) (λ between later how last. stopped between (number + 1) lines later how last) number (event_of line) before story end after told)
    plays
