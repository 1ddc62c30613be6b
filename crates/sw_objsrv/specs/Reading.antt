-- What the bytes of an entry that was read are answered with.
use Rattle.std.specs.Prelude.{◌≡◌, ◌⊎◌, ℕ, List}
use Rattle.sw_hashpath.specs.Place.{PlaceModel}
use Rattle.sw_ring.specs.Cluster.{ClusterModel}
use Rattle.sw_message.specs.Spoil.{IsArchiveOf, IsSpoil}
use Rattle.sw_message.specs.declared.reply.Reply.{Reply}
use Rattle.sw_message.specs.declared.reply.Reply.TheVariants.{Fragment, Spoiled}
use Rattle.sw_message.specs.declared.spoil.Spoil.{Spoil}

-- the bytes where they are the archive of the place, the stamp and the index, and else why they are not
abbrev pub IsReplied : ClusterModel → PlaceModel → (stamp index : ℕ) → List ℕ → Reply → Type 0
IsReplied cluster place stamp index bytes reply =
    (IsArchiveOf cluster place stamp index bytes × (reply ≡ Fragment bytes)) ⊎ ((spoil : Spoil) × IsSpoil cluster place stamp index bytes spoil × (reply ≡ Spoiled spoil))
