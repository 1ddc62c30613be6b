-- What bytes that were rebuilt are.
use Rattle.std.proofs.Common.{◌≡◌, ℕ, List, Result, Ok, Err}
use Rattle.std.specs.Prelude.{IfOk}
use Rattle.sw_types.specs.Name.{NameModel}
use Rattle.sw_types.specs.Object.{ObjectModel}
use Rattle.sw_types.specs.Policy.{PolicyModel}
use Rattle.sw_types.specs.declared.memory.NoMemory.{NoMemory}
use Rattle.sw_archive.specs.Archive.{ArchiveModel}
use Rattle.sw_archive.specs.Assemble.{IsFurther}
use Rattle.sw_archive.specs.Put.{AreOfPut, IsPut, put_archive}
use Rattle.sw_sync.specs.Sync.{IsRebuilt}

pub rebuilt : (archives : List ArchiveModel) (index : ℕ) (result : Result (List ℕ) NoMemory)
    → ((policy : PolicyModel) (stamp : ℕ) (name : NameModel) (object : ObjectModel) → IsPut policy stamp name object → AreOfPut policy stamp name object archives
    → IfOk result (λ bytes. bytes ≡ put_archive policy stamp name object index))
    → IfOk result (λ bytes. IsFurther archives index bytes) → IfOk result (λ bytes. IsRebuilt archives index bytes)
rebuilt archives index (Ok bytes) put further = record { further = further; put = put }
rebuilt archives index (Err none) put further = further
