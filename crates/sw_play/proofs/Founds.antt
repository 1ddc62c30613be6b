-- What is found in a story is one put's.
use Rattle.std.proofs.Common.{◌≡◌, ⊎_elim, ℕ, Contains, List, [], ◌∷◌, Some, refl, subst, sym}
use Rattle.std.proofs.lemmas.List.Elements.{Contains-append_cases}
use Rattle.sw_diskfile.proofs.Lists.{Contains-none}
use Rattle.sw_types.specs.Object.{ObjectModel}
use Rattle.sw_ring.specs.Cluster.{ClusterModel}
use Rattle.sw_message.specs.Transcript as transcript
use Rattle.sw_message.specs.declared.target.Target.{Target}
use Rattle.sw_get.specs.Get as gets
use Rattle.sw_get.specs.declared.end.GetEnd.{GetEnd}
use Rattle.sw_get.specs.declared.end.GetEnd.TheVariants as get
use Rattle.sw_core.specs.Event.{Event, IsRun}
use Rattle.sw_operation.specs.Operating.{Begun, Delete, Get, Head, IsGetOf, Put, Revert, Sync}
use Rattle.sw_core.specs.World.{Operating, numbered}
use Rattle.sw_core.proofs.Runs.{found}
use Rattle.sw_operation.specs.Ends.{IsEndOf}
use Rattle.sw_sim_exchange.specs.declared.lines.EndLine.{EndLine}
use Rattle.sw_operation.specs.declared.end.OpEnd.{OpEnd}
use Rattle.sw_operation.specs.declared.end.OpEnd.TheVariants as end
use Rattle.sw_sim_world.specs.ScriptedWorld.{AreSteps, ScriptedWorld, Step}
use Rattle.sw_sim_world.specs.Doing.{DoesEvent, Done}
use Rattle.sw_play.specs.Story.{IfFound, IfFoundEnd, TellsOnePut}
use Rattle.sw_sim_world.specs.Unfolding.{TellsEnd, TellsEnds, ended_from}
use Rattle.sw_sim_world.proofs.Ended.{ended_over, zip_beside}
use Rattle.sw_play.proofs.Overs.{over_stays}

-- ---- whose end is told

-- the operation of an end that is told
abbrev pub IsEndIn : ScriptedWorld → EndLine → Type 0
IsEndIn after line = (operation : Operating) × (numbered after.world.operations line.operation ≡ Some operation) × IsEndOf operation.begun operation.past line.end

pub ends_in : (before : ScriptedWorld) (steps : List Step) (after : ScriptedWorld) (ends : List EndLine) → AreSteps before steps after → TellsEnds before steps ends → (line : EndLine) → Contains ends line → IsEndIn after line
ends_in before [] after ends are none line has = absurd (Contains-none line (subst (λ (lines : List EndLine). Contains lines line) none has))
ends_in before (step ∷ steps) after ends (first, rest) (mine, others, both, told, later) line has = ⊎_elim
    (λ here.
    let (ended, there, tells) = zip_beside TellsEnd (ended_from 1 before.world.operations step.after.world.operations) mine line told here in
    let (is, over) = ended_over before.world.operations step.after.world.operations ended there in
    let at = subst (λ number. numbered step.after.world.operations number ≡ Some ended.operation) (sym tells.0) is in
    (ended.operation, over_stays line.operation ended.operation over step.after steps after rest at, tells.1))
    (λ there. ends_in step.after steps after others rest later line there)
    (Contains-append_cases mine others line (subst (λ (lines : List EndLine). Contains lines line) both has))

-- ---- what it found

module _ (P : ℕ → ObjectModel → List Target → Type 0) where
  by_end : (begun : gets.Begun) (past : List transcript.Step) → ((stamp : ℕ) (object : ObjectModel) (sources : List Target) → gets.IsEnd begun past (get.Found stamp object sources) → P stamp object sources)
      → (how : GetEnd) → gets.IsEnd begun past how → IfFound how P
  by_end begun past holds (get.Found stamp object sources) is = holds stamp object sources is
  by_end begun past holds get.Absent is = tt
  by_end begun past holds (get.Buried stamp) is = tt
  by_end begun past holds (get.Unanswered misses) is = tt
  by_end begun past holds (get.TooFew stamp have) is = tt
  by_end begun past holds (get.Overtaken events) is = tt

  by_kind : (begun : Begun) (past : List transcript.Step)
      → ((other : gets.Begun) (stamp : ℕ) (object : ObjectModel) (sources : List Target) → IsGetOf begun other → gets.IsEnd other past (get.Found stamp object sources) → P stamp object sources)
      → (how : OpEnd) → IsEndOf begun past how → IfFoundEnd how P
  by_kind (Get begun) past holds (end.Get how) is = by_end begun past (λ stamp object sources ended. holds begun stamp object sources refl ended) how is
  by_kind (Head begun) past holds (end.Head how) is = by_end begun past (λ stamp object sources ended. holds begun stamp object sources refl ended) how is
  by_kind (Put begun) past holds (end.Get how) is = absurd is
  by_kind (Head begun) past holds (end.Get how) is = absurd is
  by_kind (Delete begun) past holds (end.Get how) is = absurd is
  by_kind (Sync begun) past holds (end.Get how) is = absurd is
  by_kind (Revert begun) past holds (end.Get how) is = absurd is
  by_kind (Put begun) past holds (end.Head how) is = absurd is
  by_kind (Get begun) past holds (end.Head how) is = absurd is
  by_kind (Delete begun) past holds (end.Head how) is = absurd is
  by_kind (Sync begun) past holds (end.Head how) is = absurd is
  by_kind (Revert begun) past holds (end.Head how) is = absurd is
  by_kind begun past holds (end.Put how) is = tt
  by_kind begun past holds (end.Delete how) is = tt
  by_kind begun past holds (end.Sync how) is = tt
  by_kind begun past holds (end.Revert how) is = tt

pub tells_one_put : (cluster : ClusterModel) (events : List Event) (before : ScriptedWorld) (done : Done) → DoesEvent before done → IsRun cluster events done.after.world → TellsOnePut done
tells_one_put cluster events before done does run line has =
    let (operation, there, is) = ends_in before done.steps done.after done.told.ends does.steps does.tells.ends line has in
    by_kind _ operation.begun operation.past
    (λ begun stamp object sources get_of ended. (operation, begun, there, get_of, found cluster events done.after.world line.operation operation begun stamp object sources run there get_of ended))
    line.end is
