-- What the answers of sources mean, and what a repair then knows.
use Rattle.std.proofs.Common.{◌≡◌, ℕ, List, [], ◌∷◌, ◌++◌, Some, Result, Ok, Err, length, refl, sym, ap, subst, ◌∙◌}
use Rattle.std.specs.Prelude.{IfOk, OnOk}
use Rattle.sw_types.specs.Policy.{PolicyModel}
use Rattle.sw_types.specs.declared.memory.NoMemory.{NoMemory}
use Rattle.sw_hashdir.specs.Listing.{ListingModel}
use Rattle.sw_hashpath.specs.Place.{PlaceModel}
use Rattle.sw_archive.specs.Archive.{ArchiveModel}
use Rattle.sw_archive.specs.Assemble.{IsNext, IsTold}
use Rattle.sw_ring.specs.Cluster.{ClusterModel}
use Rattle.sw_message.specs.Miss.{miss_of}
use Rattle.sw_message.specs.Spoil.{IsSpoil}
use Rattle.sw_message.specs.declared.miss.Miss.{Miss}
use Rattle.sw_message.specs.declared.miss.Miss.TheVariants as miss
use Rattle.sw_message.specs.declared.reply.Reply.{Reply}
use Rattle.sw_message.specs.declared.reply.Reply.TheVariants as reply
use Rattle.sw_message.specs.declared.spoil.Foreign.TheVariants as foreign
use Rattle.sw_message.specs.declared.spoil.Spoil.{Spoil}
use Rattle.sw_message.specs.declared.spoil.Spoil.TheVariants as spoil
use Rattle.sw_message.specs.declared.target.Target.{Target}
use Rattle.sw_gather.specs.Gathered.{AreRight, GatheredModel, IsBeside}
use Rattle.sw_sync.specs.Parts.{Repair}
use Rattle.sw_sync.specs.Sync.{Brings, IsFetched, IsJoined, IsRead, IsWanted, Loses, Meaning, due_fetched, fetched}
use Rattle.sw_sync.specs.declared.errand.Errand.{Errand}

-- ---- what was heard

-- where a source was lost
pub told : (result : Result (Unit {0}) NoMemory) (P : Meaning → Type 0) (k : ℕ) (repair after : Repair) (source : Target) (before due : List Errand) (how : Miss) → P (Loses how)
    → OnOk result ((after ≡ fetched repair source (Loses how)) × (due ≡ before ++ due_fetched 0 repair source (Loses how)))
    → IfOk result (λ _. (meaning : Meaning) × P meaning × (after ≡ fetched repair source meaning) × (due ≡ before ++ due_fetched k repair source meaning))
told (Ok done) P k repair after source before due how is hears = (Loses how, is, hears.0, hears.1)
told (Err refused) P k repair after source before due how is hears = tt

-- what holds of each meaning that was heard
pub weaker : (result : Result (Unit {0}) NoMemory) (P Q : Meaning → Type 0) (k : ℕ) (repair after : Repair) (source : Target) (before due : List Errand) → ((meaning : Meaning) → P meaning → Q meaning)
    → IfOk result (λ _. (meaning : Meaning) × P meaning × (after ≡ fetched repair source meaning) × (due ≡ before ++ due_fetched k repair source meaning))
    → IfOk result (λ _. (meaning : Meaning) × Q meaning × (after ≡ fetched repair source meaning) × (due ≡ before ++ due_fetched k repair source meaning))
weaker (Ok done) P Q k repair after source before due follows is = (is.0, follows is.0 is.1, is.2, is.3)
weaker (Err refused) P Q k repair after source before due follows is = tt

-- ---- what bytes mean

module _ (cluster : ClusterModel) (place : PlaceModel) (repair : Repair) (index : ℕ) (bytes : List ℕ) where
  pub read_spoil : (spoil : Spoil) → IsSpoil cluster place repair.stamp index bytes spoil → IsRead cluster place repair index bytes (Loses (miss.Spoiled spoil))
  read_spoil (spoil.Fault fault) is = is
  read_spoil (spoil.Foreign foreign.Name) is = is
  read_spoil (spoil.Foreign foreign.Stamp) is = is
  read_spoil (spoil.Foreign foreign.Index) is = is
  read_spoil (spoil.Foreign foreign.Code) is = is
  read_spoil (spoil.Foreign foreign.Object) is = absurd is.2

  pub read_joined : (archive : ArchiveModel) → IsWanted cluster place repair.stamp index bytes archive → (meaning : Meaning) → IsJoined cluster.policy repair archive meaning
      → IsRead cluster place repair index bytes meaning
  read_joined archive is (Brings same) joined =
      let back = sym joined.0 in (
        subst (IsWanted cluster place repair.stamp index bytes) back is,
        subst (IsNext repair.archives) back joined.1,
        subst (λ one. AreRight cluster.policy (repair.archives ++ one ∷ [])) back joined.2,
      )
  read_joined archive is (Loses (miss.Spoiled (spoil.Foreign foreign.Object))) joined = (archive, is, joined)
  read_joined archive is (Loses (miss.Spoiled (spoil.Foreign foreign.Name))) joined = absurd joined
  read_joined archive is (Loses (miss.Spoiled (spoil.Foreign foreign.Stamp))) joined = absurd joined
  read_joined archive is (Loses (miss.Spoiled (spoil.Foreign foreign.Index))) joined = absurd joined
  read_joined archive is (Loses (miss.Spoiled (spoil.Foreign foreign.Code))) joined = absurd joined
  read_joined archive is (Loses (miss.Spoiled (spoil.Fault fault))) joined = absurd joined
  read_joined archive is (Loses miss.NoReply) joined = absurd joined
  read_joined archive is (Loses miss.DiskFault) joined = absurd joined
  read_joined archive is (Loses (miss.NoSpace need free)) joined = absurd joined
  read_joined archive is (Loses miss.NoMemory) joined = absurd joined
  read_joined archive is (Loses miss.Missing) joined = absurd joined
  read_joined archive is (Loses miss.Gone) joined = absurd joined
  read_joined archive is (Loses miss.Odd) joined = absurd joined

-- an archive that was put beside the others was brought
pub joined : (policy : PolicyModel) (repair : Repair) (gathered after : GatheredModel) (archive : ArchiveModel) → gathered.archives ≡ repair.archives → IsBeside policy gathered archive after
    → IsJoined policy repair archive (Brings archive)
joined policy repair gathered after archive same beside =
    let more = beside.archives ∙ ap (λ (these : List ArchiveModel). these ++ archive ∷ []) same in (
      refl,
      subst (λ these. IsNext these archive) same beside.next,
      λ enough. let there = beside.object (ap length more ∙ enough) in (there.0, there.2, subst (λ these. IsTold these there.0) more there.3),
    )

-- ---- what other replies mean

pub other_means : (cluster : ClusterModel) (place : PlaceModel) (repair : Repair) (index : ℕ) (other : Reply) → ((bytes : List ℕ) → other ≡ reply.Fragment bytes → ⊥) → ((listing : ListingModel) → other ≡ reply.Gone listing → ⊥)
    → IsFetched cluster place repair index (Some other) (Loses (miss_of other))
other_means cluster place repair index reply.Synced first second = refl
other_means cluster place repair index reply.Committed first second = refl
other_means cluster place repair index (reply.Deleted existed) first second = refl
other_means cluster place repair index (reply.Superseded floor) first second = refl
other_means cluster place repair index reply.Missing first second = refl
other_means cluster place repair index (reply.Held listing) first second = refl
other_means cluster place repair index (reply.Fragment bytes) first second = absurd (first bytes refl)
other_means cluster place repair index (reply.Gone listing) first second = absurd (second listing refl)
other_means cluster place repair index (reply.Spoiled spoil) first second = refl
other_means cluster place repair index reply.Kept first second = refl
other_means cluster place repair index reply.Removed first second = refl
other_means cluster place repair index (reply.PartList parts) first second = refl
other_means cluster place repair index (reply.SuffixList pairs) first second = refl
other_means cluster place repair index (reply.PlaceList places) first second = refl
other_means cluster place repair index reply.DiskFault first second = refl
other_means cluster place repair index (reply.NoSpace need free) first second = refl
other_means cluster place repair index reply.NoMemory first second = refl
