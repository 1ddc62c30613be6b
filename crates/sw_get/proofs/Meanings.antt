-- What answers can mean.
use Rattle.std.proofs.Common.{◌≡◌, inl, inr, ◌⊎◌, ℕ, List, Option, Some, None, refl}
use Rattle.sw_hashdir.specs.Listing.{ListingModel}
use Rattle.sw_archive.specs.Archive.{ArchiveModel}
use Rattle.sw_message.specs.declared.miss.Miss.{Miss}
use Rattle.sw_message.specs.declared.reply.Reply.{Reply}
use Rattle.sw_message.specs.declared.reply.Reply.TheVariants as reply
use Rattle.sw_get.specs.Meaning.{IsFetched, Lists, Misses, Wanted, asked_meaning}

-- the answer to a question lists, or is a miss
abbrev pub AskedCases : Option Reply → Type 0
AskedCases answer = ((listing : ListingModel) × (asked_meaning answer ≡ Lists listing)) ⊎ ((miss : Miss) × (asked_meaning answer ≡ Misses miss))

of_reply : (given : Reply) → AskedCases (Some given)
of_reply reply.Synced = inr (_, refl)
of_reply reply.Committed = inr (_, refl)
of_reply (reply.Deleted existed) = inr (_, refl)
of_reply (reply.Superseded floor) = inr (_, refl)
of_reply reply.Missing = inr (_, refl)
of_reply (reply.Held listing) = inl (listing, refl)
of_reply (reply.Fragment bytes) = inr (_, refl)
of_reply (reply.Gone listing) = inr (_, refl)
of_reply (reply.Spoiled spoil) = inr (_, refl)
of_reply reply.Kept = inr (_, refl)
of_reply reply.Removed = inr (_, refl)
of_reply (reply.PartList parts) = inr (_, refl)
of_reply (reply.SuffixList pairs) = inr (_, refl)
of_reply (reply.PlaceList places) = inr (_, refl)
of_reply reply.DiskFault = inr (_, refl)
of_reply (reply.NoSpace need free) = inr (_, refl)
of_reply reply.NoMemory = inr (_, refl)

pub asked_cases : (answer : Option Reply) → AskedCases answer
asked_cases None = inr (_, refl)
asked_cases (Some given) = of_reply given

-- the answer to a fetch lists nothing
pub never_lists : (wanted : Wanted) (others : List ArchiveModel) (index : ℕ) (answer : Option Reply) (listing : ListingModel) → IsFetched wanted others index answer (Lists listing) → ⊥
never_lists wanted others index None listing is = cc
never_lists wanted others index (Some reply.Synced) listing is = cc
never_lists wanted others index (Some reply.Committed) listing is = cc
never_lists wanted others index (Some (reply.Deleted existed)) listing is = cc
never_lists wanted others index (Some (reply.Superseded floor)) listing is = cc
never_lists wanted others index (Some reply.Missing) listing is = cc
never_lists wanted others index (Some (reply.Held held)) listing is = cc
never_lists wanted others index (Some (reply.Fragment bytes)) listing is = is
never_lists wanted others index (Some (reply.Gone held)) listing is = cc
never_lists wanted others index (Some (reply.Spoiled spoil)) listing is = cc
never_lists wanted others index (Some reply.Kept) listing is = cc
never_lists wanted others index (Some reply.Removed) listing is = cc
never_lists wanted others index (Some (reply.PartList parts)) listing is = cc
never_lists wanted others index (Some (reply.SuffixList pairs)) listing is = cc
never_lists wanted others index (Some (reply.PlaceList places)) listing is = cc
never_lists wanted others index (Some reply.DiskFault) listing is = cc
never_lists wanted others index (Some (reply.NoSpace need free)) listing is = cc
never_lists wanted others index (Some reply.NoMemory) listing is = cc
