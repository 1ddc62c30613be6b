-- What contracts see of a disk over the host: how often it has failed, and nothing of what it holds.
use Rattle.std.specs.Prelude.{ℕ, ◌^◌, List, None}
use Rattle.sw_words.specs.Counts.{one_more}
use Rattle.sw_disk.specs.Runs.{Seen}
use Rattle.sw_disk.specs.declared.refusal.DiskRefusal.{DiskRefusal}
use Rattle.sw_disk.specs.declared.refusal.DiskRefusal.TheVariants as refusal
use Rattle.sw_hostdisk.specs.declared.fault.HostFault.{HostFault}
use Rattle.sw_hostdisk.specs.declared.fault.HostFault.TheVariants.{Failed, NoMemory}

-- No change of names takes memory.
abbrev pub silent : ℕ → Seen
silent faults = record { told = None; faults = faults; moment = 0; room = λ folder. 2 ^ 64 }

-- how the disk says a fault of the host
abbrev pub refusal_for : HostFault → DiskRefusal
refusal_for Failed = refusal.Failed
refusal_for NoMemory = refusal.NoMemory

-- a failure is counted, and no other refusal is
abbrev pub after_refusal : DiskRefusal → ℕ → ℕ
after_refusal refusal.Failed count = one_more count
after_refusal (refusal.Full need free) count = count
after_refusal refusal.NoMemory count = count
