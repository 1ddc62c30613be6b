-- What answers mean, and what a round then knows.
use Rattle.std.proofs.Common.{◌≡◌, ℕ, List, [], ◌∷◌, ◌++◌, Some, Result, Ok, Err, refl, sym, ap, subst}
use Rattle.std.specs.Prelude.{IfOk}
use Rattle.sw_types.specs.declared.memory.NoMemory.{NoMemory}
use Rattle.sw_hashdir.specs.Listing.{ListingModel}
use Rattle.sw_archive.specs.Archive.{ArchiveModel}
use Rattle.sw_archive.specs.Assemble.{IsNext}
use Rattle.sw_message.specs.Miss.{miss_of}
use Rattle.sw_message.specs.Spoil.{IsNamed, IsSpoilOf}
use Rattle.sw_message.specs.declared.miss.Miss.{Miss}
use Rattle.sw_message.specs.declared.miss.Miss.TheVariants as miss
use Rattle.sw_message.specs.declared.reply.Reply.{Reply}
use Rattle.sw_message.specs.declared.reply.Reply.TheVariants as reply
use Rattle.sw_message.specs.declared.spoil.Foreign.TheVariants as foreign
use Rattle.sw_message.specs.declared.spoil.Spoil.{Spoil}
use Rattle.sw_message.specs.declared.spoil.Spoil.TheVariants as spoil
use Rattle.sw_message.specs.declared.target.Target.{Target}
use Rattle.sw_get.specs.Meaning.{Brings, IsFetched, IsJoined, IsRead, IsWanted, Lacks, Lists, Meaning, Misses, Wanted, with_fetched}
use Rattle.sw_gather.specs.Gathered.{AreRight}
use Rattle.sw_get.specs.Round.{HasObject, RoundModel}

-- ---- what was told

-- a call whose answer means this
pub told : (result : Result (Unit {0}) NoMemory) (before after : RoundModel) (source : Target) (P : Meaning → Type 0) (meaning : Meaning) → P meaning
    → IfOk result (λ _. after ≡ record before { facts = with_fetched before.facts source meaning }) → IfOk result (λ _. (m : Meaning) × P m × (after.facts ≡ with_fetched before.facts source m))
told (Ok done) before after source P meaning is same = (meaning, is, ap (λ (round : RoundModel). round.facts) same)
told (Err refused) before after source P meaning is same = tt

-- what holds of each meaning that was told
pub weaker : (result : Result (Unit {0}) NoMemory) (before after : RoundModel) (source : Target) (P Q : Meaning → Type 0) → ((meaning : Meaning) → P meaning → Q meaning)
    → IfOk result (λ _. (m : Meaning) × P m × (after.facts ≡ with_fetched before.facts source m)) → IfOk result (λ _. (m : Meaning) × Q m × (after.facts ≡ with_fetched before.facts source m))
weaker (Ok done) before after source P Q goes is = (is.0, goes is.0 is.1, is.2)
weaker (Err refused) before after source P Q goes is = tt

-- a miss leaves the object
pub object_kept : (result : Result (Unit {0}) NoMemory) (k : ℕ) (before after : RoundModel) (source : Target) (m : Miss) → IfOk result (λ _. after ≡ record before { facts = with_fetched before.facts source (Misses m) })
    → HasObject k before → IfOk result (λ _. HasObject k after)
object_kept (Ok done) k before after source m same has = subst (HasObject k) (sym same) has
object_kept (Err refused) k before after source m same has = tt

-- ---- what bytes mean

module _ (wanted : Wanted) (others : List ArchiveModel) (index : ℕ) (bytes : List ℕ) where
  pub read_spoil : (spoil : Spoil) → IsSpoilOf (IsNamed wanted.name) wanted.policy wanted.stamp index bytes spoil → IsRead wanted others index bytes (Misses (miss.Spoiled spoil))
  read_spoil (spoil.Fault fault) is = is
  read_spoil (spoil.Foreign foreign.Name) is = is
  read_spoil (spoil.Foreign foreign.Stamp) is = is
  read_spoil (spoil.Foreign foreign.Index) is = is
  read_spoil (spoil.Foreign foreign.Code) is = is
  read_spoil (spoil.Foreign foreign.Object) is = absurd is.2

  pub read_joined : (archive : ArchiveModel) → IsWanted wanted index bytes archive → (meaning : Meaning) → IsJoined wanted.policy others archive meaning → IsRead wanted others index bytes meaning
  read_joined archive is (Brings same) joined =
      let back = sym joined.0 in (
        subst (IsWanted wanted index bytes) back is,
        subst (IsNext others) back joined.1,
        subst (λ one. AreRight wanted.policy (others ++ one ∷ [])) back joined.2,
      )
  read_joined archive is (Misses (miss.Spoiled (spoil.Foreign foreign.Object))) joined = (archive, is, joined)
  read_joined archive is (Misses (miss.Spoiled (spoil.Foreign foreign.Name))) joined = absurd joined
  read_joined archive is (Misses (miss.Spoiled (spoil.Foreign foreign.Stamp))) joined = absurd joined
  read_joined archive is (Misses (miss.Spoiled (spoil.Foreign foreign.Index))) joined = absurd joined
  read_joined archive is (Misses (miss.Spoiled (spoil.Foreign foreign.Code))) joined = absurd joined
  read_joined archive is (Misses (miss.Spoiled (spoil.Fault fault))) joined = absurd joined
  read_joined archive is (Misses miss.NoReply) joined = absurd joined
  read_joined archive is (Misses miss.DiskFault) joined = absurd joined
  read_joined archive is (Misses (miss.NoSpace need free)) joined = absurd joined
  read_joined archive is (Misses miss.NoMemory) joined = absurd joined
  read_joined archive is (Misses miss.Missing) joined = absurd joined
  read_joined archive is (Misses miss.Gone) joined = absurd joined
  read_joined archive is (Misses miss.Odd) joined = absurd joined
  read_joined archive is (Lists listing) joined = absurd joined
  read_joined archive is (Lacks listing) joined = absurd joined

-- ---- what other replies mean

pub other_means : (wanted : Wanted) (others : List ArchiveModel) (index : ℕ) (other : Reply) → ((bytes : List ℕ) → other ≡ reply.Fragment bytes → ⊥) → ((listing : ListingModel) → other ≡ reply.Gone listing → ⊥)
    → IsFetched wanted others index (Some other) (Misses (miss_of other))
other_means wanted others index reply.Synced first second = refl
other_means wanted others index reply.Committed first second = refl
other_means wanted others index (reply.Deleted existed) first second = refl
other_means wanted others index (reply.Superseded floor) first second = refl
other_means wanted others index reply.Missing first second = refl
other_means wanted others index (reply.Held listing) first second = refl
other_means wanted others index (reply.Fragment bytes) first second = absurd (first bytes refl)
other_means wanted others index (reply.Gone listing) first second = absurd (second listing refl)
other_means wanted others index (reply.Spoiled spoil) first second = refl
other_means wanted others index reply.Kept first second = refl
other_means wanted others index reply.Removed first second = refl
other_means wanted others index (reply.PartList parts) first second = refl
other_means wanted others index (reply.SuffixList pairs) first second = refl
other_means wanted others index (reply.PlaceList places) first second = refl
other_means wanted others index reply.DiskFault first second = refl
other_means wanted others index (reply.NoSpace need free) first second = refl
other_means wanted others index reply.NoMemory first second = refl
