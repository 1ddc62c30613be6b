-- Why a revert ended as it did, by what was answered.
use Rattle.std.specs.Prelude.{◌≡◌, ◌⊎◌, ℕ, ◌+◌, ◌<◌, ◌≤◌, true, false, List, [], ◌∷◌, take, Contains, Option, Some, None}
use Rattle.sw_hashdir.specs.Listing.{ListingModel}
use Rattle.sw_hashdir.specs.declared.entry.Entry.{Entry}
use Rattle.sw_message.specs.Floors.{stands_above}
use Rattle.sw_message.specs.Message.{place_in}
use Rattle.sw_message.specs.Miss.{miss_of}
use Rattle.sw_message.specs.Spoil.{IsArchiveOf, IsSpoil}
use Rattle.sw_message.specs.Transcript.{Closed, Step}
use Rattle.sw_message.specs.Warrant.{ShowsAbove, ShowsDurable}
use Rattle.sw_message.specs.declared.message.Msg.{Msg}
use Rattle.sw_message.specs.declared.message.Msg.TheVariants as message
use Rattle.sw_message.specs.declared.miss.Miss.{Miss}
use Rattle.sw_message.specs.declared.miss.Miss.TheVariants as miss
use Rattle.sw_message.specs.declared.reply.Reply.{Reply}
use Rattle.sw_message.specs.declared.reply.Reply.TheVariants as reply
use Rattle.sw_message.specs.declared.spoil.Spoil.{Spoil}
use Rattle.sw_recon.specs.Course.{most_entries}
use Rattle.sw_recon.specs.Revert.{Begun, kept_as, own_message, primary_of, total}
use Rattle.sw_recon.specs.declared.kept.KeptCause.{KeptCause}
use Rattle.sw_recon.specs.declared.kept.KeptCause.TheVariants.{Missed, NoMark, NotDurable}
use Rattle.sw_recon.specs.declared.kept.KeptEntry.{KeptEntry}

-- a device answered a message, or it was given up
abbrev pub WasTold : List Step → (device : ℕ) → Msg → Option Reply → Type 0
WasTold past device msg answer = (ticket : ℕ) × Contains past (Closed (record { ticket = ticket; device = device; msg = msg }) answer)

-- the own device answered its first question with this listing
abbrev pub ListsOwn : Begun → List Step → ListingModel → Type 0
ListsOwn begun past listing = Contains past (Closed (own_message begun 0) (Some (reply.Held listing)))

-- ---- entries

-- Why an answer about an entry is a miss: it was given up, the bytes that were fetched are spoiled, a floor that was told stands no
-- higher, the archive was not there, or the reply says so or does not answer the message.
abbrev pub IsMissOf : Begun → Entry → Msg → Option Reply → Miss → Type 0
IsMissOf begun entry msg None how = how ≡ miss.NoReply
IsMissOf begun entry (message.Ask place) (Some (reply.Held listing)) how = ⊥
IsMissOf begun entry (message.Fetch place stamp index) (Some (reply.Fragment bytes)) how = (spoil : Spoil) × (how ≡ miss.Spoiled spoil) × IsSpoil begun.cluster begun.place entry.stamp entry.index bytes spoil
IsMissOf begun entry (message.Fetch place stamp index) (Some (reply.Gone listing)) how = how ≡ miss.Gone
IsMissOf begun entry (message.PutFrag place stamp index bytes) (Some reply.Synced) how = ⊥
IsMissOf begun entry (message.PutFrag place stamp index bytes) (Some (reply.Superseded floor)) how = (how ≡ miss.Odd) × (stands_above floor entry.stamp ≡ false)
IsMissOf begun entry (message.Commit place stamp index) (Some reply.Committed) how = ⊥
IsMissOf begun entry (message.Commit place stamp index) (Some (reply.Superseded floor)) how = (how ≡ miss.Odd) × (stands_above floor entry.stamp ≡ false)
IsMissOf begun entry (message.Commit place stamp index) (Some reply.Missing) how = ⊥
IsMissOf begun entry (message.Remove place stamp index) (Some reply.Removed) how = ⊥
IsMissOf begun entry (message.Remove place stamp index) (Some reply.Missing) how = how ≡ miss.Missing
IsMissOf begun entry msg (Some other) how = how ≡ miss_of other

-- the messages of a revert about an entry, and the devices that they go to
abbrev pub IsAbout : Begun → Entry → (device : ℕ) → Msg → Type 0
IsAbout begun entry device (message.Ask place) = (device ≡ primary_of begun entry.index) × (place ≡ begun.place)
IsAbout begun entry device (message.Fetch place stamp index) = (device ≡ begun.device) × (place ≡ begun.place) × (stamp ≡ entry.stamp) × (index ≡ entry.index)
IsAbout begun entry device (message.PutFrag place stamp index bytes) = (device ≡ primary_of begun entry.index) × (place ≡ begun.place) × (stamp ≡ entry.stamp) × (index ≡ entry.index)
IsAbout begun entry device (message.Commit place stamp index) = (device ≡ primary_of begun entry.index) × (place ≡ begun.place) × (stamp ≡ entry.stamp) × (index ≡ entry.index)
IsAbout begun entry device (message.Remove place stamp index) = (device ≡ begun.device) × (place ≡ begun.place) × (stamp ≡ entry.stamp) × (index ≡ entry.index)
IsAbout begun entry device other = ⊥

pub record WasMissed (begun : Begun) (past : List Step) (entry : Entry) (how : Miss) : Type 0 where
  pub below : entry.index < total begun
  pub device : ℕ
  pub msg : Msg
  pub about : IsAbout begun entry device msg
  pub answer : Option Reply
  pub told : WasTold past device msg answer
  pub miss : IsMissOf begun entry msg answer how

-- a listing of the primary shows the entry durable, or a floor above its stamp
abbrev pub IsCoveredBy : Begun → Entry → ListingModel → Type 0
IsCoveredBy begun entry listing = ShowsDurable entry.stamp entry.index (message.Ask begun.place) (reply.Held listing) ⊎ ShowsAbove entry.stamp (reply.Held listing)

-- the entry is durable, and the primary of its index answered that it stored its archive
pub record WasStored (begun : Begun) (past : List Step) (entry : Entry) : Type 0 where
  pub durable : entry.durable ≡ true
  pub bytes : List ℕ
  pub told : WasTold past (primary_of begun entry.index) (message.PutFrag begun.place entry.stamp entry.index bytes) (Some reply.Synced)

-- Why an entry was kept: it is not durable, and its primary listed nothing that covers it; its primary stored it, and answered that it
-- was not there as it was to make it durable; a message about it missed; or the policy has no such index.
abbrev pub WasKept : Begun → List Step → Entry → KeptCause → Type 0
WasKept begun past entry NotDurable =
    (entry.index < total begun) × (entry.durable ≡ false) × (listing : ListingModel) × WasTold past (primary_of begun entry.index) (message.Ask begun.place) (Some (reply.Held listing))
    × (IsCoveredBy begun entry listing → ⊥)
WasKept begun past entry NoMark =
    (entry.index < total begun) × WasStored begun past entry × WasTold past (primary_of begun entry.index) (message.Commit begun.place entry.stamp entry.index) (Some reply.Missing)
WasKept begun past entry (Missed how) = ((total begun ≤ entry.index) × (how ≡ miss.Odd)) ⊎ WasMissed begun past entry how

-- the primary of its index told that it has the entry durable, or that a floor stands above it
pub record IsCovered (begun : Begun) (past : List Step) (entry : Entry) : Type 0 where
  pub below : entry.index < total begun
  pub msg : Msg
  pub given : Reply
  pub told : WasTold past (primary_of begun entry.index) msg (Some given)
  pub place : place_in msg ≡ Some begun.place
  pub shows : ShowsDurable entry.stamp entry.index msg given ⊎ ShowsAbove entry.stamp given

-- so it is, and the own device removed it
abbrev pub WasRemoved : Begun → List Step → Entry → Type 0
WasRemoved begun past entry = IsCovered begun past entry × WasTold past begun.device (message.Remove begun.place entry.stamp entry.index) (Some reply.Removed)

-- of entries in their order, so many were removed, and the others are kept, each by its cause
abbrev pub AreDone : Begun → List Step → List Entry → (removed : ℕ) → List KeptEntry → Type 0
AreDone begun past [] removed kept = (removed ≡ 0) × (kept ≡ [])
AreDone begun past (entry ∷ entries) removed kept =
    ((cause : KeptCause) × (rest : List KeptEntry) × (kept ≡ kept_as entry cause ∷ rest) × WasKept begun past entry cause × AreDone begun past entries removed rest)
    ⊎ ((fewer : ℕ) × (removed ≡ fewer + 1) × WasRemoved begun past entry × AreDone begun past entries fewer kept)

-- ---- messages

-- the bytes are the archive of the place, the stamp and the index, and the own device sent them
pub record WasFetched (begun : Begun) (past : List Step) (stamp index : ℕ) (bytes : List ℕ) : Type 0 where
  pub archive : IsArchiveOf begun.cluster begun.place stamp index bytes
  pub told : WasTold past begun.device (message.Fetch begun.place stamp index) (Some (reply.Fragment bytes))

-- ---- ends

-- Where a revert is done, its own device listed entries, of which each of the first 65,536 was removed or is kept.
pub record IsDone (begun : Begun) (past : List Step) (removed : ℕ) (kept : List KeptEntry) : Type 0 where
  pub listing : ListingModel
  pub own : ListsOwn begun past listing
  pub done : AreDone begun past (take most_entries listing.entries) removed kept

-- Where it is unanswered, its own device missed as it was asked.
pub record IsUnanswered (begun : Begun) (past : List Step) (device : ℕ) : Type 0 where
  pub own : device ≡ begun.device
  pub answer : Option Reply
  pub told : Contains past (Closed (own_message begun 0) answer)
  pub missed : (listing : ListingModel) → answer ≡ Some (reply.Held listing) → ⊥
