-- The story of a script: its lines, the basic events of each, the worlds that they led to, and what was told.
use Rattle.std.specs.Prelude.{◌≡◌, ◌⊎◌, ℕ, ◌+◌, List, [], ◌∷◌, Contains, map, Option, Some, None, Result, Ok, Err, ⊤}
use Rattle.std.specs.List.{concat}
use Rattle.sw_types.specs.Object.{ObjectModel}
use Rattle.sw_message.specs.declared.target.Target.{Target}
use Rattle.sw_get.specs.Causes.{IsPutFound}
use Rattle.sw_get.specs.Get as gets
use Rattle.sw_get.specs.declared.end.GetEnd.{GetEnd}
use Rattle.sw_get.specs.declared.end.GetEnd.TheVariants.{Found}
use Rattle.sw_law_scene.specs.Scene.{known_to}
use Rattle.sw_operation.specs.Operating.{IsGetOf}
use Rattle.sw_core.specs.World.{Operating, numbered}
use Rattle.sw_script.specs.Line.{event_of}
use Rattle.sw_script.specs.declared.event.Event.{Event}
use Rattle.sw_script.specs.declared.fault.LineFault.{LineFault}
use Rattle.sw_sim_text.specs.Text.{told_text}
use Rattle.sw_sim_exchange.specs.declared.lines.EndLine.{EndLine}
use Rattle.sw_operation.specs.declared.end.OpEnd.{OpEnd}
use Rattle.sw_operation.specs.declared.end.OpEnd.TheVariants.{Get, Head}
use Rattle.sw_sim_world.specs.Doing.{DoesEvent, Done, IsSpent, event_fault}
use Rattle.sw_sim_world.specs.ScriptedWorld.{ScriptedWorld}
use Rattle.sw_play.specs.declared.playing.PlayEnd.{PlayEnd}
use Rattle.sw_play.specs.declared.playing.PlayEnd.TheVariants as ended

-- all that is printed
abbrev pub story_text : List Done → List ℕ
story_text story = concat (map (λ (done : Done). told_text done.told) story)

-- ---- lines

-- nothing more is done
abbrev pub Stops : PlayEnd → (before : ScriptedWorld) → List Done → PlayEnd → (after : ScriptedWorld) → Type 0
Stops how before story end after = (story ≡ []) × (end ≡ how) × (after ≡ before)

-- an event is done, and then the rest; or it was to draw a stamp after the last
abbrev pub DoesOrSpends : Event → (number : ℕ) → (Rest : ScriptedWorld → List Done → PlayEnd → ScriptedWorld → Type 0) → (before : ScriptedWorld) → List Done → PlayEnd → (after : ScriptedWorld) → Type 0
DoesOrSpends event number Rest before [] end after = IsSpent before event × (end ≡ ended.Spent number) × (after ≡ before)
DoesOrSpends event number Rest before (done ∷ story) end after = (IsSpent before event → ⊥) × (done.event ≡ event) × DoesEvent before done × Rest done.after story end after

-- unless its line has a fault
abbrev pub PlaysEvent : Option LineFault → Event → (number : ℕ) → (Rest : ScriptedWorld → List Done → PlayEnd → ScriptedWorld → Type 0) → (before : ScriptedWorld) → List Done → PlayEnd → (after : ScriptedWorld) → Type 0
PlaysEvent (Some fault) event number Rest before story end after = Stops (ended.Line number fault) before story end after
PlaysEvent None event number Rest before story end after = DoesOrSpends event number Rest before story end after

-- by what a line tells
abbrev pub PlaysLine : Result (Option Event) LineFault → (number : ℕ) → (Rest : ScriptedWorld → List Done → PlayEnd → ScriptedWorld → Type 0) → (before : ScriptedWorld) → List Done → PlayEnd → (after : ScriptedWorld) → Type 0
PlaysLine (Err fault) number Rest before story end after = Stops (ended.Line number fault) before story end after
PlaysLine (Ok None) number Rest before story end after = Rest before story end after
PlaysLine (Ok (Some event)) number Rest before story end after = PlaysEvent (event_fault before event) event number Rest before story end after

-- How a script of these lines, the first of which has this number, goes on from a world, and how it ends. Memory may be wanted at any line,
-- and behind the last.
abbrev pub Plays : (before : ScriptedWorld) → (number : ℕ) → List (List ℕ) → List Done → PlayEnd → (after : ScriptedWorld) → Type 0
Plays before number [] story end after = Stops ended.NoMemory before story end after ⊎ Stops ended.Done before story end after
Plays before number (line ∷ lines) story end after =
    Stops ended.NoMemory before story end after
    ⊎ PlaysLine (event_of line) number (λ between later how last. Plays between (number + 1) lines later how last) before story end after

-- ---- the first half of the headline

-- a fact of a found object
abbrev pub IfFound : GetEnd → (ℕ → ObjectModel → List Target → Type 0) → Type 0
IfFound (Found stamp object sources) P = P stamp object sources
IfFound other P = ⊤

abbrev pub IfFoundEnd : OpEnd → (ℕ → ObjectModel → List Target → Type 0) → Type 0
IfFoundEnd (Get end) P = IfFound end P
IfFoundEnd (Head end) P = IfFound end P
IfFoundEnd other P = ⊤

-- Where the end of a get is told that found an object, the object was put under the get's name at that stamp, and the put was started
-- before. Its sources have k different indices and sent this get the archives of that put, and the stamp is a durable floor that an
-- answer to it showed.
abbrev pub TellsOnePut : Done → Type 0
TellsOnePut done = (line : EndLine) → Contains done.told.ends line → IfFoundEnd line.end (λ stamp object sources.
    (operation : Operating) × (begun : gets.Begun) × (numbered done.after.world.operations line.operation ≡ Some operation) × IsGetOf operation.begun begun
    × IsPutFound begun operation.past (known_to done.after.world.scene) stamp object sources)
