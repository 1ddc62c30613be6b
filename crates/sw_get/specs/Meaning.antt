-- What the answer to a message of a get means, and what a round knows once it came.
use Rattle.std.specs.Prelude.{◌≡◌, ℕ, ◌+◌, Bool, true, false, List, [], ◌∷◌, ◌++◌, Option, Some, None}
use Rattle.sw_types.specs.Name.{NameModel}
use Rattle.sw_types.specs.Policy.{PolicyModel}
use Rattle.sw_hashdir.specs.Listing.{ListingModel}
use Rattle.sw_archive.specs.Archive.{ArchiveModel, IsArchive}
use Rattle.sw_archive.specs.Assemble.{IsNext}
use Rattle.sw_message.specs.Miss.{miss_of}
use Rattle.sw_message.specs.Spoil.{IsAsked, IsNamed, IsSpoilOf}
use Rattle.sw_message.specs.declared.miss.Miss.{Miss}
use Rattle.sw_message.specs.declared.miss.Miss.TheVariants as miss
use Rattle.sw_message.specs.declared.reply.Reply.{Reply}
use Rattle.sw_message.specs.declared.reply.Reply.TheVariants as reply
use Rattle.sw_message.specs.declared.spoil.Foreign.TheVariants as foreign
use Rattle.sw_message.specs.declared.spoil.Spoil.TheVariants as spoil
use Rattle.sw_message.specs.declared.target.Target.{Target}
use Rattle.sw_gather.specs.Gathered.{AreRight, Strays}
use Rattle.sw_get.specs.Round.{Facts, HasObject, RoundModel}

-- an answer tells what a device has, brings an archive, tells that it is not there, or is a miss
pub data Meaning : Type 0 where
  Lists : (listing : ListingModel) → Meaning
  Brings : (archive : ArchiveModel) → Meaning
  Lacks : (listing : ListingModel) → Meaning
  Misses : (miss : Miss) → Meaning

-- what is wanted: archives of a name at a stamp, under a policy
pub record Wanted : Type 0 where
  pub policy : PolicyModel
  pub name : NameModel
  pub stamp : ℕ

-- the bytes are the archive of an index that was asked for
abbrev pub IsWanted : Wanted → ℕ → List ℕ → ArchiveModel → Type 0
IsWanted wanted index bytes archive = IsArchive bytes archive × IsAsked (IsNamed wanted.name) wanted.policy wanted.stamp index archive

-- what an archive that was asked for means, beside those before it
abbrev pub IsJoined : PolicyModel → List ArchiveModel → ArchiveModel → Meaning → Type 0
IsJoined policy others archive (Brings same) = (same ≡ archive) × IsNext others archive × AreRight policy (others ++ archive ∷ [])
IsJoined policy others archive (Misses (miss.Spoiled (spoil.Foreign foreign.Object))) = Strays policy others archive
IsJoined policy others archive other = ⊥

-- What the bytes that were fetched for an index mean, beside the archives that were brought before them.
abbrev pub IsRead : Wanted → List ArchiveModel → ℕ → List ℕ → Meaning → Type 0
IsRead wanted others index bytes (Brings archive) = IsWanted wanted index bytes archive × IsNext others archive × AreRight wanted.policy (others ++ archive ∷ [])
IsRead wanted others index bytes (Misses (miss.Spoiled (spoil.Foreign foreign.Object))) =
    (archive : ArchiveModel) × IsWanted wanted index bytes archive × Strays wanted.policy others archive
IsRead wanted others index bytes (Misses (miss.Spoiled other)) = IsSpoilOf (IsNamed wanted.name) wanted.policy wanted.stamp index bytes other
IsRead wanted others index bytes (Misses other) = ⊥
IsRead wanted others index bytes (Lists listing) = ⊥
IsRead wanted others index bytes (Lacks listing) = ⊥

-- what the answer to a fetch means
abbrev pub IsFetched : Wanted → List ArchiveModel → ℕ → Option Reply → Meaning → Type 0
IsFetched wanted others index None meaning = meaning ≡ Misses miss.NoReply
IsFetched wanted others index (Some (reply.Fragment bytes)) meaning = IsRead wanted others index bytes meaning
IsFetched wanted others index (Some (reply.Gone listing)) meaning = meaning ≡ Lacks listing
IsFetched wanted others index (Some other) meaning = meaning ≡ Misses (miss_of other)

-- what the answer to a question means
abbrev pub asked_meaning : Option Reply → Meaning
asked_meaning None = Misses miss.NoReply
asked_meaning (Some (reply.Held listing)) = Lists listing
asked_meaning (Some other) = Misses (miss_of other)

-- ---- what a round then knows

-- the answer of a device that was asked
abbrev pub with_asked : Facts → ℕ → Meaning → Facts
with_asked facts device (Lists listing) = record facts { answered = facts.answered + 1; lists = facts.lists ++ (device, listing) ∷ [] }
with_asked facts device (Misses miss) = record facts { answered = facts.answered + 1; misses = facts.misses ++ (device, miss) ∷ [] }
with_asked facts device other = facts

-- the answer of a source
abbrev pub with_fetched : Facts → Target → Meaning → Facts
with_fetched facts source (Brings archive) = record facts { sources = facts.sources ++ source ∷ []; archives = facts.archives ++ archive ∷ [] }
with_fetched facts source (Lacks listing) = record facts { gone = facts.gone ++ source ∷ [] }
with_fetched facts source (Misses miss) = record facts { failed = facts.failed ++ source ∷ []; misses = facts.misses ++ (source.device, miss) ∷ [] }
with_fetched facts source (Lists listing) = facts

-- an archive that was asked for is taken, with the object where k are there then, or strays and leaves everything as it was
abbrev pub IsTaken : PolicyModel → RoundModel → Target → ArchiveModel → Bool → RoundModel → Type 0
IsTaken policy before source archive true after =
    IsJoined policy before.facts.archives archive (Brings archive) × (after.facts ≡ with_fetched before.facts source (Brings archive)) × HasObject policy.k after
IsTaken policy before source archive false after = Strays policy before.facts.archives archive × (after ≡ before)
