-- A disk in memory keeps its capacity, whatever a node does.
use Rattle.std.proofs.Common.{◌≡◌, inl, inr, ⊎_elim, ℕ, List, [], ◌∷◌, Option, None, Some, refl, ap, ◌∙◌}
use Rattle.sw_disk.specs.Calls.{Call, ListFolders, ListNames, ReadFile, WriteTmp, SyncTmp, PublishTmp, RenameFile, RemoveFile, SyncDir, Step, Do, Settle}
use Rattle.sw_disk.specs.Runs.{Runs, StopsTold}
use Rattle.sw_disk.specs.State.{State, after, run}
use Rattle.sw_disk.specs.declared.refusal.DiskRefusal.{DiskRefusal}
use Rattle.sw_memdisk.specs.Memory.{LeftBy, MemDiskModel, seen_of, state_of}
use Rattle.sw_ring.specs.Cluster.{ClusterModel}
use Rattle.sw_message.specs.declared.message.Msg.{Msg}
use Rattle.sw_message.specs.declared.reply.Reply.{Reply}
use Rattle.sw_objsrv.specs.Mounting.{Mounts}
use Rattle.sw_objsrv.specs.Node.{Handled, HandlesWhenMounted, NodeModel}
use Rattle.sw_objsrv.specs.declared.fault.MountFault.{MountFault}
use Rattle.sw_objsrv.proofs.Walks.{IsKept, answered_keeps, mount_keeps}

step_capacity : (step : Step) (state : State) → (after step state).capacity ≡ state.capacity
step_capacity (Do ListFolders) state = refl
step_capacity (Do (ListNames folder)) state = refl
step_capacity (Do (ReadFile folder name)) state = refl
step_capacity (Do (WriteTmp bytes)) state = refl
step_capacity (Do SyncTmp) state = refl
step_capacity (Do (PublishTmp folder name)) state = refl
step_capacity (Do (RenameFile folder from to)) state = refl
step_capacity (Do (RemoveFile folder name)) state = refl
step_capacity (Do (SyncDir folder)) state = refl
step_capacity (Settle folder) state = refl

run_capacity : (steps : List Step) (state : State) → (run steps state).capacity ≡ state.capacity
run_capacity [] state = refl
run_capacity (step ∷ steps) state = run_capacity steps (after step state) ∙ step_capacity step state

abbrev KeepsCapacity : MemDiskModel → MemDiskModel → Type 0
KeepsCapacity a b = b.capacity ≡ a.capacity

same_told : (a b : State) → Some a ≡ Some b → a.capacity ≡ b.capacity
same_told a b same = let is : a ≡ b = cc in ap (λ (state : State). state.capacity) is

told_capacity : (steps : List Step) (rest : List Call) (reason : Option DiskRefusal) (a b : State) → StopsTold steps rest reason (Some a) (Some b) → b.capacity ≡ a.capacity
told_capacity steps rest None a b stops =
    same_told b stops.0 stops.1 ∙ ap (λ (state : State). state.capacity) (stops.2.whole refl) ∙ run_capacity steps a
told_capacity steps rest (Some reason) a b stops =
    same_told b stops.0 stops.1 ∙ ap (λ (state : State). state.capacity) (stops.2.refused reason refl) ∙ run_capacity steps a

run_keeps : (calls : List Call) (reason : Option DiskRefusal) (a b : MemDiskModel) → Runs seen_of LeftBy calls reason a b → KeepsCapacity a b
run_keeps calls reason a b runs = told_capacity runs.steps runs.rest reason (state_of a) (state_of b) runs.told

kept : IsKept seen_of LeftBy KeepsCapacity
kept = record { none = λ a. refl; more = λ a b c first second. second ∙ first; run = run_keeps }

pub mounts_capacity : (cluster : ClusterModel) (device : ℕ) (fault : Option MountFault) (a b : MemDiskModel) → Mounts seen_of LeftBy cluster device fault a b → KeepsCapacity a b
mounts_capacity cluster device fault a b mounts = mount_keeps seen_of LeftBy KeepsCapacity kept cluster device fault a b mounts.calls

handled_capacity : (cluster : ClusterModel) (message : Msg) (reply : Reply) (a b : NodeModel MemDiskModel) → Handled seen_of LeftBy cluster message reply a b → b.disk.capacity ≡ a.disk.capacity
handled_capacity cluster message reply a b handled =
    answered_keeps seen_of LeftBy KeepsCapacity kept cluster a.device a.floors message handled.answered.0 a.disk b.disk handled.answered.2

pub handles_capacity : (cluster : ClusterModel) (message : Msg) (reply : Reply) (a b : NodeModel MemDiskModel) → HandlesWhenMounted seen_of LeftBy cluster message reply a b → b.disk.capacity ≡ a.disk.capacity
handles_capacity cluster message reply a b (inl mounted) = handled_capacity cluster message reply a b mounted.1
handles_capacity cluster message reply a b (inr due) = ⊎_elim
    (λ done. handled_capacity cluster message reply done.0 b done.3 ∙ mounts_capacity cluster a.device None a.disk done.0.disk done.1.mounts)
    (λ refused. mounts_capacity cluster a.device (Some refused.0) a.disk b.disk refused.1.mounts)
    due.1

-- and its node its device
pub handles_device : (cluster : ClusterModel) (message : Msg) (reply : Reply) (a b : NodeModel MemDiskModel) → HandlesWhenMounted seen_of LeftBy cluster message reply a b → b.device ≡ a.device
handles_device cluster message reply a b (inl mounted) = mounted.1.device
handles_device cluster message reply a b (inr due) = ⊎_elim (λ done. done.3.device ∙ done.1.device) (λ refused. refused.1.device) due.1
