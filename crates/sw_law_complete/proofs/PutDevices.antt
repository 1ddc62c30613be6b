-- How a device handles the messages of a put, where no floor stands above its stamp.
use Rattle.std.proofs.Common.{◌≡◌, inl, inr, ⊎_elim, ℕ, ◌<◌, ◌≤◌, Bool, Contains, List, length, refl, ap, subst, ◌∙◌, arith}
use Rattle.std.specs.Prelude.{◌+◌}
use Rattle.sw_types.specs.Name.{NameModel}
use Rattle.sw_types.specs.Object.{ObjectModel}
use Rattle.sw_disk.specs.Answers.{names_of}
use Rattle.sw_disk.specs.Folder.{File}
use Rattle.sw_hashpath.specs.Place.{PlaceModel, folder_of}
use Rattle.sw_hashpath.specs.declared.file_name.FileName.{FileName}
use Rattle.sw_hashdir.specs.Directory.{IsDirectory, StandsAbove}
use Rattle.sw_archive.specs.Put.{IsPut, put_archive, put_fields}
use Rattle.sw_archive.proofs.Archives.{put_is_archive}
use Rattle.sw_archive.proofs.Faults.{no_fault}
use Rattle.sw_ring.specs.Cluster.{ClusterModel, place_of_name}
use Rattle.sw_message.specs.Spoil.{IsArchiveOf, IsOfPlace, IsSpoil}
use Rattle.sw_message.specs.Step.{Folders}
use Rattle.sw_message.specs.Table.{CommitMissing, CommitRenamed, CommitSuperseded, CommitThere, Found, HandlesCommit, HandlesPutFrag, Handling, IsUncovered, LacksEntry, PutFragFull, PutFragSpoiled, PutFragStored, PutFragSuperseded, PutFragThere}
use Rattle.sw_message.specs.declared.message.Msg.TheVariants as message
use Rattle.sw_message.specs.declared.reply.Reply.{Reply}
use Rattle.sw_message.specs.declared.reply.Reply.TheVariants.{Committed, Synced}
use Rattle.sw_message.specs.declared.spoil.Spoil.{Spoil}
use Rattle.sw_message.specs.declared.spoil.Spoil.TheVariants.{Fault, Foreign}
use Rattle.sw_message.proofs.Spoils.{other_than_asked}
use Rattle.sw_law_claim.specs.Claim.{AnEntry, IsBorneBy}
use Rattle.sw_law_scene.specs.Devices.{IsDeviceStep, IsFree, capacity_of}
use Rattle.sw_law_complete.proofs.AnsweredStamps.{IsUnbeaten, no_floor_beats}

-- ---- archives

-- the archive of an index of a put is that of its place, stamp and index
pub put_archive_is : (cluster : ClusterModel) (stamp : ℕ) (name : NameModel) (object : ObjectModel) (index : ℕ) → IsPut cluster.policy stamp name object → index < cluster.policy.k + cluster.policy.m
    → IsArchiveOf cluster (place_of_name cluster name) stamp index (put_archive cluster.policy stamp name object index)
put_archive_is cluster stamp name object index put below = record {
  archive = put_fields cluster.policy stamp name object index;
  spelled = put_is_archive cluster.policy stamp name object index put below;
  asked = record { name = refl; stamp_is = refl; index_is = refl; code = (refl, refl, refl) };
}

module _ (cluster : ClusterModel) (place : PlaceModel) (stamp index : ℕ) where
  -- such bytes have no spoil
  never_spoilt : (bytes : List ℕ) (spoil : Spoil) → IsArchiveOf cluster place stamp index bytes → IsSpoil cluster place stamp index bytes spoil → ⊥
  never_spoilt bytes (Fault fault) is spoils = no_fault bytes is.archive fault is.spelled spoils
  never_spoilt bytes (Foreign foreign) is (other, spelled, differs) = other_than_asked (IsOfPlace cluster place) cluster.policy stamp index bytes is.archive other foreign is.spelled spelled is.asked differs

  -- ---- rows

  put_row : (bytes : List ℕ) (found : Found) (handling : Handling) → IsArchiveOf cluster place stamp index bytes → IsUncovered found.names stamp → (LacksEntry found.names stamp index → length bytes ≤ found.room)
      → HandlesPutFrag cluster place stamp index bytes found handling → handling.reply ≡ Synced
  put_row bytes found handling archive free room (PutFragSpoiled spoil spoils same) = absurd (never_spoilt bytes spoil archive spoils)
  put_row bytes found handling archive free room (PutFragSuperseded is floor covered same) = absurd (free floor covered)
  put_row bytes found handling archive free room (PutFragThere is uncovered durable has same) = ap (λ (one : Handling). one.reply) same
  put_row bytes found handling archive free room (PutFragFull is uncovered lacks full same) = absurd (omega (arith, full, room lacks))
  put_row bytes found handling archive free room (PutFragStored is uncovered lacks fits same) = ap (λ (one : Handling). one.reply) same

  commit_row : (primary : Bool) (found : Found) (handling : Handling) → (LacksEntry found.names stamp index → ⊥) → HandlesCommit primary place stamp index found handling → handling.reply ≡ Committed
  commit_row primary found handling there (CommitThere has same) = ap (λ (one : Handling). one.reply) same
  commit_row primary found handling there (CommitRenamed has obsolete purged same) = ap (λ (one : Handling). one.reply) same
  commit_row primary found handling there (CommitSuperseded lacks floor covered same) = absurd (there lacks)
  commit_row primary found handling there (CommitMissing lacks free same) = absurd (there lacks)

  -- ---- entries

  -- a folder that bears the entry has it, where no floor stands above
  pub borne_there : (primary : Bool) (files : List File) (names : List FileName) → IsDirectory (names_of files) names → IsUnbeaten (λ floor. StandsAbove floor stamp) files
      → IsBorneBy primary (record { stamp = stamp; what = AnEntry index }) files → LacksEntry names stamp index → ⊥
  borne_there primary files names directory unbeaten borne lacks = ⊎_elim
      (λ is. lacks is.0 (subst (Contains names) is.1 ((directory borne.name).1 (borne.spelt, borne.there))))
      (λ above. unbeaten borne.name above.1 borne.spelt borne.there above.2 above.3)
      borne.bearing

  -- ---- devices

  module _ (device : ℕ) (reply : Reply) (before after : Folders) (unbeaten : IsUnbeaten (λ floor. StandsAbove floor stamp) (before (folder_of place))) where
    -- an archive is stored, where it is there or has room
    pub stores : (bytes : List ℕ) → IsArchiveOf cluster place stamp index bytes → ((names : List FileName) (room : ℕ) → IsDirectory (names_of (before (folder_of place))) names → IsFree (capacity_of cluster device) before room → LacksEntry names stamp index → length bytes ≤ room)
        → IsDeviceStep cluster device (message.PutFrag place stamp index bytes) reply before after → reply ≡ Synced
    stores bytes archive room is =
        let step = is.step in
        step.replied
        ∙ put_row bytes step.found step.handling archive
        (λ floor covered. no_floor_beats (λ floor. StandsAbove floor stamp) (before (folder_of place)) step.found.names step.is_found.directory unbeaten floor covered.0.0 covered.1)
        (λ lacks. omega (arith, room step.found.names is.room step.is_found.directory is.free lacks, step.is_found.room_is)) step.handled

    -- one that is there becomes durable
    pub commits : ((names : List FileName) → IsDirectory (names_of (before (folder_of place))) names → LacksEntry names stamp index → ⊥) → IsDeviceStep cluster device (message.Commit place stamp index) reply before after
        → reply ≡ Committed
    commits there is = let step = is.step in step.replied ∙ commit_row _ step.found step.handling (there step.found.names step.is_found.directory) step.handled
