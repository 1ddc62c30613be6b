-- The machine of a revert: each entry of a handoff goes to the primary of its index, and is then removed, or is kept.
use Rattle.std.specs.Prelude.{◌≡◌, ℕ, ◌+◌, ◌==◌, Bool, true, false, ◌&&◌, ◌||◌, if◌then◌else◌, nat_le, nat_lt, List, [], ◌∷◌, ◌++◌, length, slice_index, take, Option, Some, None}
use Rattle.std.specs.List.{list_any}
use Rattle.sw_hashpath.specs.Place.{IsPlace, PlaceModel}
use Rattle.sw_hashdir.specs.Listing.{ListingModel}
use Rattle.sw_hashdir.specs.declared.entry.Entry.{Entry}
use Rattle.sw_ring.specs.Cluster.{ClusterModel, KeepsRules, column_of}
use Rattle.sw_message.specs.Floors.{stands_above}
use Rattle.sw_message.specs.Message.{IsMember, is_primary}
use Rattle.sw_message.specs.Miss.{miss_of}
use Rattle.sw_message.specs.Spoil.{IsArchiveOf, IsSpoil}
use Rattle.sw_message.specs.Transcript.{Closed, Gave, Hand, Next, Over, Step, Wait, given, is_waiting}
use Rattle.sw_message.specs.declared.message.Msg.{Msg}
use Rattle.sw_message.specs.declared.message.Msg.TheVariants as message
use Rattle.sw_message.specs.declared.miss.Miss.TheVariants as miss
use Rattle.sw_message.specs.declared.reply.Reply.{Reply}
use Rattle.sw_message.specs.declared.reply.Reply.TheVariants as reply
use Rattle.sw_message.specs.declared.sent.Sent.{Sent}
use Rattle.sw_message.specs.declared.spoil.Spoil.{Spoil}
use Rattle.sw_recon.specs.declared.kept.KeptCause.{KeptCause}
use Rattle.sw_recon.specs.declared.kept.KeptCause.TheVariants.{Missed, NoMark, NotDurable}
use Rattle.sw_recon.specs.declared.kept.KeptEntry.{KeptEntry}
use Rattle.sw_recon.specs.declared.revert_end.RevertEnd.{RevertEnd}
use Rattle.sw_recon.specs.declared.revert_end.RevertEnd.TheVariants.{Done, Unanswered}
use Rattle.sw_recon.specs.Course.{Course, most_entries}
use Rattle.sw_recon.specs.declared.status.Status.{Status}
use Rattle.sw_recon.specs.declared.status.Status.TheVariants.{Ends, Starts, Treats}
use Rattle.sw_recon.specs.declared.treatment.Treatment.{Treatment}
use Rattle.sw_recon.specs.declared.treatment.Treatment.TheVariants.{Ask, Commit, Fetch, Remove, Store}

-- ---- what a revert is begun with

pub record Begun : Type 0 where
  pub cluster : ClusterModel
  pub device : ℕ
  pub place : PlaceModel

-- the device is a handoff of the place
pub record IsBegun (begun : Begun) : Type 0 where
  pub rules : KeepsRules begun.cluster
  pub right : IsPlace begun.cluster.part_power begun.place
  pub member : IsMember begun.cluster begun.device
  pub handoff : is_primary begun.cluster begun.device begun.place ≡ false

abbrev pub total : Begun → ℕ
total begun = begun.cluster.policy.k + begun.cluster.policy.m

-- the primary of an index below the total
abbrev pub primary_of : Begun → ℕ → ℕ
primary_of begun index = slice_index (column_of begun.cluster begun.place.part) index

-- ---- how far it is

abbrev pub kept_as : Entry → KeptCause → KeptEntry
kept_as entry cause = record { stamp = entry.stamp; index = entry.index; cause = cause }

-- The entries that are left. One of an index that the policy hasn't is kept without a message.
abbrev pub treat : (total : ℕ) → List Entry → (removed : ℕ) → List KeptEntry → Status
treat total [] removed kept = Ends (Done removed kept)
treat total (entry ∷ later) removed kept =
    if nat_lt entry.index total then Treats (record { entry = entry; later = later; treatment = Ask; removed = removed; kept = kept })
    else treat total later removed (kept ++ kept_as entry (Missed miss.Odd) ∷ [])

-- the entry is kept, or was removed, and the next one is treated; or it is treated on
abbrev pub keeps : ℕ → Course → KeptCause → Status
keeps total course cause = treat total course.later course.removed (course.kept ++ kept_as course.entry cause ∷ [])

abbrev pub removes : ℕ → Course → Status
removes total course = treat total course.later (course.removed + 1) course.kept

abbrev pub goes_on : Course → Treatment → Status
goes_on course treatment = Treats (record course { treatment = treatment })

-- ---- what answers lead to

-- whether a listing shows the entry durable, or a durable entry or a tombstone that stands above its stamp
abbrev pub is_durable_one : Entry → Entry → Bool
is_durable_one entry other = other.durable && (other.stamp == entry.stamp && other.index == entry.index)

abbrev pub is_newer : Entry → Entry → Bool
is_newer entry other = other.durable && nat_lt entry.stamp other.stamp

abbrev pub covers : ListingModel → Entry → Bool
covers listing entry =
    list_any (λ other. is_durable_one entry other || is_newer entry other) listing.entries || list_any (λ stamp. nat_le entry.stamp stamp) listing.tombstones

-- the own device was asked
abbrev pub started_by : (total device : ℕ) → Option Reply → Status
started_by total device (Some (reply.Held listing)) = treat total (take most_entries listing.entries) 0 []
started_by total device other = Ends (Unanswered device)

-- the primary of the entry's index was asked
abbrev pub asked : ℕ → Course → Option Reply → Status
asked total course None = keeps total course (Missed miss.NoReply)
asked total course (Some (reply.Held listing)) =
    if covers listing course.entry then goes_on course Remove else if course.entry.durable then goes_on course Fetch else keeps total course NotDurable
asked total course (Some other) = keeps total course (Missed (miss_of other))

-- a floor forbids that the primary takes the archive: the entry is covered, or the reply is odd
abbrev pub forbidden : ℕ → Course → Bool → Status
forbidden total course true = goes_on course Remove
forbidden total course false = keeps total course (Missed miss.Odd)

-- the archive was sent to the primary
abbrev pub stored : ℕ → Course → Option Reply → Status
stored total course None = keeps total course (Missed miss.NoReply)
stored total course (Some reply.Synced) = goes_on course Commit
stored total course (Some (reply.Superseded floor)) = forbidden total course (stands_above floor course.entry.stamp)
stored total course (Some other) = keeps total course (Missed (miss_of other))

-- it was to be made durable there
abbrev pub committed : ℕ → Course → Option Reply → Status
committed total course None = keeps total course (Missed miss.NoReply)
committed total course (Some reply.Committed) = goes_on course Remove
committed total course (Some (reply.Superseded floor)) = forbidden total course (stands_above floor course.entry.stamp)
committed total course (Some reply.Missing) = keeps total course NoMark
committed total course (Some other) = keeps total course (Missed (miss_of other))

-- it was to be removed from the own device
abbrev pub removed : ℕ → Course → Option Reply → Status
removed total course None = keeps total course (Missed miss.NoReply)
removed total course (Some reply.Removed) = removes total course
removed total course (Some reply.Missing) = keeps total course (Missed miss.Missing)
removed total course (Some other) = keeps total course (Missed (miss_of other))

-- the archive was fetched from the own device; bytes that are not what was asked for are spoiled so
abbrev pub fetched : ℕ → Course → Option Reply → Option Spoil → Status
fetched total course None spoil = keeps total course (Missed miss.NoReply)
fetched total course (Some (reply.Fragment bytes)) (Some spoil) = keeps total course (Missed (miss.Spoiled spoil))
fetched total course (Some (reply.Fragment bytes)) None = goes_on course (Store bytes)
fetched total course (Some (reply.Gone listing)) spoil = keeps total course (Missed miss.Gone)
fetched total course (Some other) spoil = keeps total course (Missed (miss_of other))

-- of an entry that is treated, by an answer
abbrev pub after_by : ℕ → Course → Treatment → Option Reply → Option Spoil → Status
after_by total course Ask answer spoil = asked total course answer
after_by total course Fetch answer spoil = fetched total course answer spoil
after_by total course (Store bytes) answer spoil = stored total course answer
after_by total course Commit answer spoil = committed total course answer
after_by total course Remove answer spoil = removed total course answer

abbrev pub after : ℕ → Status → Option Reply → Option Spoil → Status
after total (Treats course) answer spoil = after_by total course course.treatment answer spoil
after total other answer spoil = other

-- whether bytes that were fetched are the archive of the place, the stamp and the index
abbrev pub IsSpoilt : ClusterModel → PlaceModel → Entry → Treatment → Option Reply → Option Spoil → Type 0
IsSpoilt cluster place entry Fetch (Some (reply.Fragment bytes)) None = IsArchiveOf cluster place entry.stamp entry.index bytes
IsSpoilt cluster place entry Fetch (Some (reply.Fragment bytes)) (Some spoil) = IsSpoil cluster place entry.stamp entry.index bytes spoil
IsSpoilt cluster place entry treatment answer spoil = spoil ≡ None

abbrev pub IsChecked : ClusterModel → PlaceModel → Course → Option Reply → Option Spoil → Type 0
IsChecked cluster place course answer spoil = IsSpoilt cluster place course.entry course.treatment answer spoil

abbrev pub Leads : Begun → Status → Option Reply → Status → Type 0
Leads begun Starts answer next = next ≡ started_by (total begun) begun.device answer
Leads begun (Treats course) answer next = (spoil : Option Spoil) × IsChecked begun.cluster begun.place course answer spoil × (next ≡ after_by (total begun) course course.treatment answer spoil)
Leads begun (Ends end) answer next = ⊥

-- how far it is after a transcript
abbrev pub IsStatus : Begun → List Step → Status → Type 0
IsStatus begun [] status = status ≡ Starts
IsStatus begun (Gave sent ∷ past) status = IsStatus begun past status
IsStatus begun (Closed sent answer ∷ past) status = (before : Status) × IsStatus begun past before × Leads begun before answer status

-- ---- the machine

-- whether the message of a treatment goes to the own device, and not to the primary of the index
abbrev pub is_own : Treatment → Bool
is_own Fetch = true
is_own Remove = true
is_own other = false

abbrev pub message_for : PlaceModel → Entry → Treatment → Msg
message_for place entry Ask = message.Ask place
message_for place entry Fetch = message.Fetch place entry.stamp entry.index
message_for place entry (Store bytes) = message.PutFrag place entry.stamp entry.index bytes
message_for place entry Commit = message.Commit place entry.stamp entry.index
message_for place entry Remove = message.Remove place entry.stamp entry.index

-- the message of a treatment, and the device that it goes to
abbrev pub sent_for : PlaceModel → (own primary : ℕ) → Entry → Treatment → ℕ × Msg
sent_for place own primary entry treatment = (if is_own treatment then own else primary, message_for place entry treatment)

abbrev pub treat_message : Begun → ℕ → Course → Sent
treat_message begun ticket course =
    let sent = sent_for begun.place begun.device (primary_of begun course.entry.index) course.entry course.treatment in
    record { ticket = ticket; device = sent.0; msg = sent.1 }

abbrev pub own_message : Begun → ℕ → Sent
own_message begun ticket = record { ticket = ticket; device = begun.device; msg = message.Ask begun.place }

abbrev pub next_at : Begun → ℕ → Status → Next
next_at begun ticket Starts = Hand (own_message begun ticket)
next_at begun ticket (Treats course) = Hand (treat_message begun ticket course)
next_at begun ticket (Ends end) = Over

-- what comes after a transcript: one message at a time
abbrev pub next_or : Begun → List Step → Bool → Next → Type 0
next_or begun past true next = next ≡ Wait
next_or begun past false next = (status : Status) × IsStatus begun past status × (next ≡ next_at begun (length (given past)) status)

abbrev pub IsNext : Begun → List Step → Next → Type 0
IsNext begun past next = next_or begun past (is_waiting past) next

-- how a revert has ended
abbrev pub IsEnd : Begun → List Step → RevertEnd → Type 0
IsEnd begun past end = (is_waiting past ≡ false) × IsStatus begun past (Ends end)
