-- What is to be done with an archive that was sent to be stored.
use Rattle.std.specs.Prelude.{◌≡◌, ◌⊎◌, ℕ, Bool, List}
use Rattle.sw_hashpath.specs.Place.{PlaceModel}
use Rattle.sw_hashpath.specs.declared.file_name.FileName.{FileName}
use Rattle.sw_hashdir.specs.Directory.{HasEntryAt}
use Rattle.sw_hashdir.specs.declared.floor.Floor.{Floor}
use Rattle.sw_ring.specs.Cluster.{ClusterModel}
use Rattle.sw_message.specs.Spoil.{IsArchiveOf, IsSpoil}
use Rattle.sw_message.specs.Table.{IsCovered, IsUncovered, LacksEntry}
use Rattle.sw_message.specs.declared.reply.Reply.{Reply}
use Rattle.sw_message.specs.declared.reply.Reply.TheVariants.{Spoiled, Superseded, Synced}
use Rattle.sw_message.specs.declared.spoil.Spoil.{Spoil}

-- it is the archive of the place, nothing supersedes it, and it is not there
abbrev pub IsToStore : ClusterModel → PlaceModel → List FileName → (stamp index : ℕ) → List ℕ → Type 0
IsToStore cluster place names stamp index bytes = IsArchiveOf cluster place stamp index bytes × IsUncovered names stamp × LacksEntry names stamp index

-- it is answered at once: it is spoiled, superseded or there
abbrev pub IsKnown : ClusterModel → PlaceModel → List FileName → (stamp index : ℕ) → List ℕ → Reply → Type 0
IsKnown cluster place names stamp index bytes reply =
    ((spoil : Spoil) × IsSpoil cluster place stamp index bytes spoil × (reply ≡ Spoiled spoil))
    ⊎ (IsArchiveOf cluster place stamp index bytes × (
    ((floor : Floor) × IsCovered names stamp floor × (reply ≡ Superseded floor))
    ⊎ (IsUncovered names stamp × (durable : Bool) × HasEntryAt names stamp index durable × (reply ≡ Synced))))
