-- A disk that tells goes on telling and keeps its capacity, and one that does not goes on telling nothing, whatever a node does.
use Rattle.std.proofs.Common.{◌≡◌, ℕ, List, [], ◌∷◌, Option, None, Some, refl, ap, subst, ◌∙◌}
use Rattle.sw_disk.specs.Calls.{Call, ListFolders, ListNames, ReadFile, WriteTmp, SyncTmp, PublishTmp, RenameFile, RemoveFile, SyncDir, Step, Do, Settle}
use Rattle.sw_disk.specs.Runs.{Past, Seen, StopsTold}
use Rattle.sw_disk.specs.State.{State, after, run}
use Rattle.sw_disk.specs.declared.refusal.DiskRefusal.{DiskRefusal}
use Rattle.sw_ring.specs.Cluster.{ClusterModel}
use Rattle.sw_message.specs.declared.message.Msg.{Msg}
use Rattle.sw_message.specs.declared.reply.Reply.{Reply}
use Rattle.sw_objsrv.specs.Mounting.{Mounts}
use Rattle.sw_objsrv.specs.Node.{Handled, NodeModel}
use Rattle.sw_objsrv.specs.declared.fault.MountFault.{MountFault}
use Rattle.sw_objsrv.proofs.Walks.{IsKept, answered_keeps, mount_keeps}

step_capacity : (step : Step) (state : State) → (after step state).capacity ≡ state.capacity
step_capacity (Do ListFolders) state = refl
step_capacity (Do (ListNames folder)) state = refl
step_capacity (Do (ReadFile folder name)) state = refl
step_capacity (Do (WriteTmp bytes)) state = refl
step_capacity (Do SyncTmp) state = refl
step_capacity (Do (PublishTmp folder name)) state = refl
step_capacity (Do (RenameFile folder from to)) state = refl
step_capacity (Do (RemoveFile folder name)) state = refl
step_capacity (Do (SyncDir folder)) state = refl
step_capacity (Settle folder) state = refl

run_capacity : (steps : List Step) (state : State) → (run steps state).capacity ≡ state.capacity
run_capacity [] state = refl
run_capacity (step ∷ steps) state = run_capacity steps (after step state) ∙ step_capacity step state

-- what one disk told, of another behind it
abbrev pub GoesOn : Option State → Option State → Type 0
GoesOn None new = new ≡ None
GoesOn (Some old) new = (state : State) × (new ≡ Some state) × (state.capacity ≡ old.capacity)

goes_twice : (a b c : Option State) → GoesOn a b → GoesOn b c → GoesOn a c
goes_twice None b c first second = subst (λ (told : Option State). GoesOn told c) first second
goes_twice (Some old) b c first second =
    let later = subst (λ (told : Option State). GoesOn told c) first.1 second in
    (later.0, later.1, later.2 ∙ first.2)

itself : (told : Option State) → GoesOn told told
itself None = refl
itself (Some state) = (state, refl, refl)

stops_on : (steps : List Step) (rest : List Call) (reason : Option DiskRefusal) (a b : Option State) → StopsTold steps rest reason a b → GoesOn a b
stops_on steps rest reason None b stops = stops
stops_on steps rest None (Some a) b stops = (stops.0, stops.1, ap (λ (state : State). state.capacity) (stops.2.whole refl) ∙ run_capacity steps a)
stops_on steps rest (Some reason) (Some a) b stops = (stops.0, stops.1, ap (λ (state : State). state.capacity) (stops.2.refused reason refl) ∙ run_capacity steps a)

module _ {D : Type 0} (seen : D → Seen) (left_since : D → Past) where
  abbrev Goes : D → D → Type 0
  Goes a b = GoesOn (seen a).told (seen b).told

  kept : IsKept seen left_since Goes
  kept = record {
    none = λ a. itself (seen a).told;
    more = λ a b c first second. goes_twice (seen a).told (seen b).told (seen c).told first second;
    run = λ calls reason a b runs. stops_on runs.steps runs.rest reason (seen a).told (seen b).told runs.told;
  }

  pub mounts_told : (cluster : ClusterModel) (device : ℕ) (fault : Option MountFault) (a b : D) → Mounts seen left_since cluster device fault a b → Goes a b
  mounts_told cluster device fault a b mounts = mount_keeps seen left_since Goes kept cluster device fault a b mounts.calls

  pub handled_told : (cluster : ClusterModel) (msg : Msg) (reply : Reply) (a b : NodeModel D) → Handled seen left_since cluster msg reply a b → Goes a.disk b.disk
  handled_told cluster msg reply a b handled =
      answered_keeps seen left_since Goes kept cluster a.device a.floors msg handled.answered.0 a.disk b.disk handled.answered.2
