use Rattle.std.proofs.Common.{◌≡◌, ◌≢◌, Some, None, refl}
use Rattle.sw_types.specs.Head.{head_fault, pairs_fault}
use Rattle.sw_types.specs.declared.head.HeadFault.{HeadFault}
use Rattle.sw_types.specs.declared.head.HeadFault.TheVariants.{NoMemory}
use Rattle.sw_script.specs.Word.{script_head}
use Rattle.sw_script.proofs.word.script_head.Goals as goal

-- it breaks no rule
sound : head_fault script_head ≡ None
unfolding pairs_fault
sound = refl

only_memory : (fault : HeadFault) → (fault ≢ NoMemory → head_fault script_head ≡ Some fault) → fault ≡ NoMemory
only_memory NoMemory told = refl
only_memory other told = absurd (cc (told (λ is. absurd (cc is)), sound))

pub only_memory-requires : goal.only_memory-requires
only_memory-requires c = only_memory c.in-Err.fault c.in-Err.ensures.fault
