-- The calls of a disk in memory, each as a run of one call.
use Rattle.std.proofs.Common.{◌≡◌, ◌≢◌, ℕ, ◌+◌, ◌-◌, ◌≤◌, Bool, true, false, cond, inl, inr, List, [], ◌∷◌, Option, Some, None, refl, sym, ◌∙◌, ap, subst, arith}
use Rattle.std.specs.Cmp.Lexicographic.{same_text}
use Rattle.std.proofs.lemmas.Bool.{cases_lt}
use Rattle.sw_words.specs.Counts.{last_count, one_more}
use Rattle.sw_disk.specs.Calls.{Call, Do, SyncDir}
use Rattle.sw_disk.specs.Folder.{Change, Content, Folder, same_name}
use Rattle.sw_disk.specs.State.{after, effect, pended, replaced, settled, stopped}
use Rattle.sw_disk.specs.Runs.{KeepsRoom, Runs, TakesRoom}
use Rattle.sw_disk.specs.declared.refusal.DiskRefusal.{DiskRefusal}
use Rattle.sw_disk.specs.declared.refusal.DiskRefusal.TheVariants.{Failed, NoMemory}
use Rattle.sw_memdisk.specs.Log.{IsSound, Log, folder_of, with_change, with_sync}
use Rattle.sw_memdisk.specs.Memory.{Becomes, FolderModel, Kept, LeftBy, MemDiskModel, fails, folder_at, log_at, room_at, seen_of, state_of}
use Rattle.sw_memdisk.proofs.Lookups.{folder_model}
use Rattle.sw_memdisk.proofs.Moments.{folder-change, folder-sync}
use Rattle.sw_memdisk.proofs.Steps.{Moves, folder_done, folders_of, moves_change, moves_none, moves_sync, one_done, one_refused}

-- each folder's record is sound
abbrev pub AreSound : MemDiskModel → Type 0
AreSound disk = (name : List ℕ) → IsSound (log_at disk.folders name) disk.calls

-- one call later, with another temporary file and other folders
abbrev pub next_disk : MemDiskModel → Option Content → List Kept → MemDiskModel
next_disk disk temporary folders = record disk { calls = disk.calls + 1; temporary = temporary; folders = folders }

abbrev pub failed_disk : MemDiskModel → MemDiskModel
failed_disk disk = record disk { calls = one_more disk.calls; faults = one_more disk.faults }

module _ (a : MemDiskModel) (sound : AreSound a) (call : Call) where
  -- ---- refused

  failing_state : (n : ℕ) → n ≡ a.calls + 1 → state_of (record a { calls = n; faults = one_more a.faults }) ≡ stopped true a.temporary (state_of a)
  failing_state n is = λ i. record (state_of a) { schedule = Some (record { calls = is i; fails = fails a }) }

  failing_last : (n : ℕ) → n ≡ a.calls → state_of (record a { calls = n; faults = one_more a.faults }) ≡ stopped false a.temporary (state_of a)
  failing_last n is = λ i. record (state_of a) { schedule = Some (record { calls = is i; fails = fails a }) }

  -- it fails
  pub failed_call : (b : MemDiskModel) → a.calls ≤ last_count → fails a (a.calls + 1) ≡ true → b ≡ failed_disk a → Runs seen_of LeftBy (call ∷ []) (Some Failed) a b
  failed_call b fits fails_next is =
      let c : MemDiskModel = failed_disk a in
      let later : a.calls ≤ c.calls = omega (arith, fits) in
      let refused = one_refused a c later refl sound call Failed in
      subst (λ (m : MemDiskModel). Runs seen_of LeftBy (call ∷ []) (Some Failed) a m) (sym is) (elim (cases_lt a.calls last_count) [
        | inl less ↦ refused true (failing_state c.calls (omega (arith, less))) (λ _. fails_next) (λ _. refl) (λ not. absurd (not refl))
        | inr more ↦ refused false (failing_last c.calls (omega (arith, more, fits))) (λ _. fails_next) (λ _. refl) (λ not. absurd (not refl))
      ])

  -- it is refused for another reason
  pub refused_call : (b : MemDiskModel) (reason : DiskRefusal) → reason ≢ Failed → b ≡ record a { calls = a.calls + 1 } → Runs seen_of LeftBy (call ∷ []) (Some reason) a b
  refused_call b reason not_failed is =
      let c : MemDiskModel = record a { calls = a.calls + 1 } in
      let later : a.calls ≤ c.calls = omega arith in
      subst (λ (m : MemDiskModel). Runs seen_of LeftBy (call ∷ []) (Some reason) a m) (sym is)
      (one_refused a c later refl sound call reason true refl (λ failed. absurd (not_failed failed)) (λ failed. absurd (not_failed failed)) (λ _. refl))

  -- ---- done

  -- it leaves the folders
  pub plain_call : (b : MemDiskModel) (temporary : Option Content) → fails a (a.calls + 1) ≡ false → record (state_of a) { temporary = temporary } ≡ effect call (state_of a)
      → b ≡ next_disk a temporary a.folders → Runs seen_of LeftBy (call ∷ []) None a b
  plain_call b temporary goes_on does is =
      let c : MemDiskModel = next_disk a temporary a.folders in
      let state : state_of c ≡ after (Do call) (state_of a) = λ i. record (does i) { schedule = Some (record { calls = a.calls + 1; fails = fails a }) } in
      subst (λ (m : MemDiskModel). Runs seen_of LeftBy (call ∷ []) None a m) (sym is)
      (one_done a c refl sound (λ name. moves_none (log_at a.folders name) a.calls) call state goes_on refl)

  -- it changes one of them
  pub folder_call : (b : MemDiskModel) (name : List ℕ) (folder : FolderModel) (temporary : Option Content) → fails a (a.calls + 1) ≡ false
      → Becomes a.folders b.folders name folder → Moves (log_at a.folders name) folder.log a.calls
      → record (replaced (state_of a) name (folder_of folder.log)) { temporary = temporary } ≡ effect call (state_of a)
      → b ≡ next_disk a temporary b.folders → Runs seen_of LeftBy (call ∷ []) None a b
  folder_call b name folder temporary goes_on becomes moves does is =
      let next = folders_of a.folders b.folders name folder becomes in
      let same : state_of (next_disk a temporary b.folders) ≡ record (replaced (state_of a) name (folder_of folder.log)) { temporary = temporary; schedule = Some (record { calls = a.calls + 1; fails = fails a }) } =
      λ i. record (state_of a) { used = becomes.used i; temporary = temporary; folder = next i; schedule = Some (record { calls = a.calls + 1; fails = fails a }) } in
      let done : record (replaced (state_of a) name (folder_of folder.log)) { temporary = temporary; schedule = Some (record { calls = a.calls + 1; fails = fails a }) } ≡ after (Do call) (state_of a) =
      λ i. record (does i) { schedule = Some (record { calls = a.calls + 1; fails = fails a }) } in
      folder_done a b name folder sound goes_on becomes moves call (ap (λ (m : MemDiskModel). m.calls) is) (ap (λ (m : MemDiskModel). m.faults) is) (ap state_of is ∙ same ∙ done)

-- a change of names, and what the trait says of it
module _ (a : MemDiskModel) (sound : AreSound a) (name : List ℕ) (change : Change) (room : ℕ) where
  abbrev changed_model : FolderModel
  changed_model = folder_model (with_change (log_at a.folders name) change) room

  pub change_call : (call : Call) (b : MemDiskModel) (temporary : Option Content) → fails a (a.calls + 1) ≡ false → Becomes a.folders b.folders name changed_model
      → record (replaced (state_of a) name (pended (folder_of (log_at a.folders name)) change)) { temporary = temporary } ≡ effect call (state_of a)
      → b ≡ next_disk a temporary b.folders → Runs seen_of LeftBy (call ∷ []) None a b
  change_call call b temporary goes_on becomes does is =
      let next : folder_of (with_change (log_at a.folders name) change) ≡ pended (folder_of (log_at a.folders name)) change = folder-change (log_at a.folders name) a.calls (sound name) change in
      folder_call a sound call b name changed_model temporary goes_on becomes (moves_change (log_at a.folders name) a.calls (sound name) change)
      (ap (λ (f : Folder). record (replaced (state_of a) name f) { temporary = temporary }) next ∙ does) is

-- its changes become stable
pub sync_call : (a : MemDiskModel) → AreSound a → (b : MemDiskModel) (name : List ℕ) → fails a (a.calls + 1) ≡ false
    → Becomes a.folders b.folders name (folder_model (with_sync (log_at a.folders name) (a.calls + 1)) (room_at a.folders name))
    → b ≡ next_disk a a.temporary b.folders → Runs seen_of LeftBy (SyncDir name ∷ []) None a b
sync_call a sound b name goes_on becomes is =
    let log : Log = log_at a.folders name in
    let next : folder_of (with_sync log (a.calls + 1)) ≡ settled (folder_of log) = folder-sync log a.calls (sound name) (a.calls + 1) in
    folder_call a sound (SyncDir name) b name (folder_model (with_sync log (a.calls + 1)) (room_at a.folders name)) a.temporary goes_on becomes (moves_sync log a.calls (sound name))
    (ap (λ (f : Folder). replaced (state_of a) name f) next) is

-- ---- room

pub keeps_room : (a b : MemDiskModel) → b.folders ≡ a.folders → KeepsRoom (seen_of a) (seen_of b)
keeps_room a b same name = omega (arith, ap (λ (folders : List Kept). room_at folders name) same)

pub takes_room : (a b : MemDiskModel) (name : List ℕ) (log : Log) → Becomes a.folders b.folders name (folder_model log (room_at a.folders name - 1)) → TakesRoom name (seen_of a) (seen_of b)
takes_room a b name log becomes other = pick (same_name other name) refl (ap (λ (f : FolderModel). f.room) (becomes.at other))
  where
    pick : (is_same : Bool) → same_name other name ≡ is_same → room_at b.folders other ≡ (cond is_same (folder_model log (room_at a.folders name - 1)) (folder_at a.folders other)).room
        → room_at a.folders other ≤ room_at b.folders other + cond is_same 1 0
    pick true same is = omega (arith, is, ap (room_at a.folders) (same_text other name (sym same)))
    pick false same is = omega (arith, is)

pub settles_room : (a b : MemDiskModel) (name : List ℕ) (log : Log) → Becomes a.folders b.folders name (folder_model log (room_at a.folders name)) → KeepsRoom (seen_of a) (seen_of b)
settles_room a b name log becomes other = pick (same_name other name) refl (ap (λ (f : FolderModel). f.room) (becomes.at other))
  where
    pick : (is_same : Bool) → same_name other name ≡ is_same → room_at b.folders other ≡ (cond is_same (folder_model log (room_at a.folders name)) (folder_at a.folders other)).room
        → room_at a.folders other ≤ room_at b.folders other
    pick true same is = omega (arith, is, ap (room_at a.folders) (same_text other name (sym same)))
    pick false same is = omega (arith, is)

-- ---- after the call was counted

-- the refusal of a call that failed
pub failed_as : (a b : MemDiskModel) → AreSound a → (call : Call) (reason : DiskRefusal) → a.calls ≤ last_count → fails a (a.calls + 1) ≡ true → b ≡ failed_disk a → reason ≡ Failed
    → Runs seen_of LeftBy (call ∷ []) (Some reason) a b
failed_as a b sound call reason fits fails_next is failed = subst (λ (r : DiskRefusal). Runs seen_of LeftBy (call ∷ []) (Some r) a b) (sym failed) (failed_call a sound call b fits fails_next is)

abbrev counted_disk : MemDiskModel → MemDiskModel
counted_disk disk = record disk { calls = disk.calls + 1 }

-- the folders of a disk that failed
pub failed_room : (a b : MemDiskModel) → b ≡ failed_disk a → KeepsRoom (seen_of a) (seen_of b)
failed_room a b is = keeps_room a b (ap (λ (m : MemDiskModel). m.folders) is)

abbrev Changed : List Kept → List Kept → List ℕ → Change → Type 0
Changed old new name change = Becomes old new name (folder_model (with_change (log_at old name) change) (room_at old name - 1))

-- a change of names, of a disk with another temporary file
pub change_after : (a taken b : MemDiskModel) (temporary : Option Content) → AreSound a → (name : List ℕ) (change : Change) (call : Call) → fails a (a.calls + 1) ≡ false
    → record (replaced (state_of a) name (pended (folder_of (log_at a.folders name)) change)) { temporary = temporary } ≡ effect call (state_of a)
    → taken ≡ next_disk a temporary a.folders → b ≡ record taken { folders = b.folders } → Changed taken.folders b.folders name change → Runs seen_of LeftBy (call ∷ []) None a b
change_after a taken b temporary sound name change call goes_on does is =
    subst (λ (m : MemDiskModel). b ≡ record m { folders = b.folders } → Changed m.folders b.folders name change → Runs seen_of LeftBy (call ∷ []) None a b) (sym is)
    (λ rest becomes. change_call a sound name change (room_at a.folders name - 1) call b temporary goes_on becomes does rest)

pub room_after : (a taken b : MemDiskModel) (temporary : Option Content) (name : List ℕ) (change : Change) → taken ≡ next_disk a temporary a.folders → Changed taken.folders b.folders name change
    → TakesRoom name (seen_of a) (seen_of b)
room_after a taken b temporary name change is =
    subst (λ (m : MemDiskModel). Changed m.folders b.folders name change → TakesRoom name (seen_of a) (seen_of b)) (sym is)
    (λ becomes. takes_room a b name (with_change (log_at a.folders name) change) becomes)

abbrev Settled : MemDiskModel → List Kept → List ℕ → Type 0
Settled old new name = Becomes old.folders new name (folder_model (with_sync (log_at old.folders name) old.calls) (room_at old.folders name))

pub sync_after : (a counted b : MemDiskModel) → AreSound a → (name : List ℕ) → fails a (a.calls + 1) ≡ false → counted ≡ record a { calls = a.calls + 1 } → b ≡ record counted { folders = b.folders }
    → Settled counted b.folders name → Runs seen_of LeftBy (SyncDir name ∷ []) None a b
sync_after a counted b sound name goes_on is =
    subst (λ (m : MemDiskModel). b ≡ record m { folders = b.folders } → Settled m b.folders name → Runs seen_of LeftBy (SyncDir name ∷ []) None a b) (sym is)
    (λ rest becomes. sync_call a sound b name goes_on becomes rest)

pub sync_room : (a counted b : MemDiskModel) (name : List ℕ) → counted ≡ record a { calls = a.calls + 1 } → Settled counted b.folders name → KeepsRoom (seen_of a) (seen_of b)
sync_room a counted b name is =
    subst (λ (m : MemDiskModel). Settled m b.folders name → KeepsRoom (seen_of a) (seen_of b)) (sym is) (λ becomes. settles_room a b name (with_sync (log_at a.folders name) (a.calls + 1)) becomes)

-- a refusal for want of memory
pub wants_memory : (a b : MemDiskModel) → AreSound a → (call : Call) (reason : DiskRefusal) → b ≡ record a { calls = a.calls + 1 } → reason ≡ NoMemory → Runs seen_of LeftBy (call ∷ []) (Some reason) a b
wants_memory a b sound call reason is wants =
    subst (λ (r : DiskRefusal). Runs seen_of LeftBy (call ∷ []) (Some r) a b) (sym wants) (refused_call a sound call b NoMemory (λ same. cc) is)

-- a call that only reads
pub read_call : (a b : MemDiskModel) → AreSound a → (call : Call) → fails a (a.calls + 1) ≡ false → state_of a ≡ effect call (state_of a) → b ≡ record a { calls = a.calls + 1 } → Runs seen_of LeftBy (call ∷ []) None a b
read_call a b sound call goes_on does is = plain_call a sound call b a.temporary goes_on does is

-- the folders of a disk that was counted, with another temporary file
pub counted_room : (a b : MemDiskModel) (temporary : Option Content) → b ≡ next_disk a temporary a.folders → KeepsRoom (seen_of a) (seen_of b)
counted_room a b temporary is = keeps_room a b (ap (λ (m : MemDiskModel). m.folders) is)
