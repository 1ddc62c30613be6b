-- What calls leave that publish, rename and remove nothing, whatever else becomes stable meanwhile.
use Rattle.std.proofs.Common.{◌≡◌, ℕ, Bool, true, false, cond, List, [], ◌∷◌, Option, Some, None, refl, sym, ◌∙◌, ap, subst}
use Rattle.std.specs.Prelude.{IsSome, ⊤}
use Rattle.std.specs.Cmp.Lexicographic.{same_text}
use Rattle.sw_disk.specs.Calls.{Call, ListFolders, ListNames, ReadFile, WriteTmp, SyncTmp, PublishTmp, RenameFile, RemoveFile, SyncDir, Step, Do, Settle, calls_in}
use Rattle.sw_disk.specs.Folder.{Content, Folder, files_of, same_name}
use Rattle.sw_disk.specs.State.{State, after, run, settled, synced, with_folder}
use Rattle.sw_disk.specs.Runs.{IfTold, Past, Runs, Seen, StopsTold}
use Rattle.sw_disk.proofs.Chains.{steps_of}

-- calls that change no name
abbrev pub AreQuiet : List Call → Type 0
AreQuiet [] = ⊤
AreQuiet (PublishTmp folder name ∷ calls) = ⊥
AreQuiet (RenameFile folder from to ∷ calls) = ⊥
AreQuiet (RemoveFile folder name ∷ calls) = ⊥
AreQuiet (call ∷ calls) = AreQuiet calls

-- the files of a folder stay where the changes of one become stable
files_settled : (folders : List ℕ → Folder) (name other : List ℕ) → files_of (with_folder folders name (settled (folders name)) other) ≡ files_of (folders other)
files_settled folders name other = pick (same_name other name) refl
  where
    pick : (is_same : Bool) → same_name other name ≡ is_same → files_of (cond is_same (settled (folders name)) (folders other)) ≡ files_of (folders other)
    pick true same = ap (λ (n : List ℕ). files_of (folders n)) (sym (same_text other name (sym same)))
    pick false same = refl

-- and where such calls are done
pub files_kept : (steps : List Step) (state : State) (folder : List ℕ) → AreQuiet (calls_in steps) → files_of ((run steps state).folder folder) ≡ files_of (state.folder folder)
files_kept [] state folder quiet = refl
files_kept (Settle name ∷ steps) state folder quiet = files_kept steps (after (Settle name) state) folder quiet ∙ files_settled state.folder name folder
files_kept (Do ListFolders ∷ steps) state folder quiet = files_kept steps (after (Do ListFolders) state) folder quiet
files_kept (Do (ListNames name) ∷ steps) state folder quiet = files_kept steps (after (Do (ListNames name)) state) folder quiet
files_kept (Do (ReadFile name file) ∷ steps) state folder quiet = files_kept steps (after (Do (ReadFile name file)) state) folder quiet
files_kept (Do (WriteTmp bytes) ∷ steps) state folder quiet = files_kept steps (after (Do (WriteTmp bytes)) state) folder quiet
files_kept (Do SyncTmp ∷ steps) state folder quiet = files_kept steps (after (Do SyncTmp) state) folder quiet
files_kept (Do (SyncDir name) ∷ steps) state folder quiet = files_kept steps (after (Do (SyncDir name)) state) folder quiet ∙ files_settled state.folder name folder
files_kept (Do (PublishTmp name file) ∷ steps) state folder quiet = absurd quiet
files_kept (Do (RenameFile name from to) ∷ steps) state folder quiet = absurd quiet
files_kept (Do (RemoveFile name file) ∷ steps) state folder quiet = absurd quiet

-- ---- the temporary file

-- it stays where no call is done
pub temporary_kept : (steps : List Step) (state : State) → calls_in steps ≡ [] → (run steps state).temporary ≡ state.temporary
temporary_kept [] state none = refl
temporary_kept (Settle name ∷ steps) state none = temporary_kept steps (after (Settle name) state) none
temporary_kept (Do call ∷ steps) state none = absurd (cc)

abbrev first_or : Call → List Call → Call
first_or call [] = call
first_or call (first ∷ calls) = first

abbrev rest_of : List Call → List Call
rest_of [] = []
rest_of (first ∷ calls) = calls

-- after one call it is what that call makes of it
pub temporary_after : (call : Call) (made : Option Content → Option Content) → ((state : State) → (after (Do call) state).temporary ≡ made state.temporary)
    → (steps : List Step) (state : State) → calls_in steps ≡ call ∷ [] → (run steps state).temporary ≡ made state.temporary
temporary_after call made makes [] state one = absurd (cc)
temporary_after call made makes (Settle name ∷ steps) state one = temporary_after call made makes steps (after (Settle name) state) one
temporary_after call made makes (Do other ∷ steps) state one =
    let same : other ≡ call = ap (first_or call) one in
    let none : calls_in steps ≡ [] = ap rest_of one in
    temporary_kept steps (after (Do other) state) none ∙ ap (λ (c : Call). (after (Do c) state).temporary) same ∙ makes state

pub some_synced : (content : Option Content) → IsSome content → IsSome (synced content)
some_synced None some = some
some_synced (Some content) some = refl

-- ---- what a disk that tells holds after calls that were all done

carry_told : (steps : List Step) (rest : List Call) (a b : Option State) (P Q : State → Type 0) → StopsTold steps rest None a b → IfTold a P → ((state : State) → P state → Q (run steps state)) → IfTold b Q
carry_told steps rest None b P Q told has after = subst (λ (o : Option State). IfTold o Q) (sym told) tt
carry_told steps rest (Some a) b P Q told has after = subst (λ (o : Option State). IfTold o Q) (sym told.1) (subst Q (sym (told.2.whole refl)) (after a has))

pub carry : {D : Type 0} (seen : D → Seen) (left_since : D → Past) (calls : List Call) (a b : D) (P Q : State → Type 0) → Runs seen left_since calls None a b → IfTold (seen a).told P
    → ((steps : List Step) (state : State) → calls_in steps ≡ calls → P state → Q (run steps state)) → IfTold (seen b).told Q
carry seen left_since calls a b P Q runs has after =
    carry_told runs.steps runs.rest (seen a).told (seen b).told P Q runs.told has (λ state holds. after runs.steps state (sym (steps_of seen left_since calls a b runs)) holds)
