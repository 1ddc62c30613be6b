use Rattle.std.proofs.Common.{◌≡◌, String, Global, Vec, ap, subst, sym, ◌∙◌, List, ℕ, sum_by}
use Rattle.std.proofs.lemmas.Result.{IfOk-weaker}
use Rattle.sw_disk.specs.Answers.{AreFolders, texts_of}
use Rattle.sw_memdisk.specs.Disk.{kept_in}
use Rattle.sw_memdisk.specs.Memory.{IsAscending, MemDiskModel, busy_in, bytes_in, folder_at, state_of}
use Rattle.sw_memdisk.proofs.BusyFolders.{are_folders, busy_used}
use Rattle.sw_memdisk.proofs.disk.MemDisk.busy.Goals as goal
use Rattle.sw_memdisk.proofs.disk.MemDisk.busy.Goals.{After-busy_names}

ascending : (c : After-busy_names) → IsAscending c.args.self.now.folders
ascending c = subst (λ (m : MemDiskModel). IsAscending m.folders) c.self.view_is c.busy_names.ensures.ordered

pub returns-clause-folders : goal.returns-clause-folders
returns-clause-folders c =
    let disk = c.args.self.now in
    let up = ascending (goal.at.returns-clause-folders c).After-busy_names in
    IfOk-weaker c.busy_names.result (λ (names : Vec (String Global) Global). texts_of names.items ≡ busy_in (kept_in c.self.inside.folders)) (λ (names : Vec (String Global) Global). AreFolders (state_of disk) (texts_of names.items))
    (λ names is. are_folders disk up (texts_of names.items) (is ∙ ap (λ (m : MemDiskModel). busy_in m.folders) c.self.view_is)) c.busy_names.ensures.names

pub returns-clause-used : goal.returns-clause-used
returns-clause-used c =
    let disk = c.args.self.now in
    let up = ascending (goal.at.returns-clause-used c).After-busy_names in
    IfOk-weaker c.busy_names.result (λ (names : Vec (String Global) Global). texts_of names.items ≡ busy_in (kept_in c.self.inside.folders)) _
    (λ names is. busy_used disk.folders up ∙ ap (sum_by (λ (name : List ℕ). bytes_in (folder_at disk.folders name))) (sym (is ∙ ap (λ (m : MemDiskModel). busy_in m.folders) c.self.view_is)))
    c.busy_names.ensures.names
