-- What the ends of a get show, in words of their own: of the rules they take the rounds, and which facts are gathered in one.
use Rattle.std.specs.Prelude.{◌≡◌, ◌≢◌, ◌⊎◌, ◌↔◌, ℕ, ◌+◌, ◌<◌, ◌≤◌, Bool, List, [], ◌∷◌, ◌++◌, flat_map, length, reverse, Contains, Option, Some, None, ⊤}
use Rattle.std.specs.List.{All, AllPairs}
use Rattle.sw_types.specs.Object.{IsObject, ObjectModel}
use Rattle.sw_types.specs.Policy.{PolicyModel}
use Rattle.sw_hashdir.specs.Directory.{IsAbove}
use Rattle.sw_hashdir.specs.Listing.{ListingModel}
use Rattle.sw_hashdir.specs.declared.floor.Floor.{Floor}
use Rattle.sw_archive.specs.Archive.{ArchiveModel, IsArchive}
use Rattle.sw_archive.specs.Put.{put_archive}
use Rattle.sw_message.specs.Floors.{IsHighest, durable_at, floors_in, tombstone_floor}
use Rattle.sw_message.specs.Learnt.{Booked, Learnt}
use Rattle.sw_message.specs.Message.{IsMember}
use Rattle.sw_message.specs.Miss.{miss_of}
use Rattle.sw_message.specs.Spoil.{IsAsked, IsNamed, IsSpoilOf}
use Rattle.sw_message.specs.Transcript.{Closed, Gave, Step, opens}
use Rattle.sw_message.specs.declared.message.Msg.{Msg}
use Rattle.sw_message.specs.declared.message.Msg.TheVariants as message
use Rattle.sw_message.specs.declared.miss.Miss.{Miss}
use Rattle.sw_message.specs.declared.miss.Miss.TheVariants as miss
use Rattle.sw_message.specs.declared.reply.Reply.{Reply}
use Rattle.sw_message.specs.declared.reply.Reply.TheVariants as reply
use Rattle.sw_message.specs.declared.sent.Sent.{Sent}
use Rattle.sw_message.specs.declared.spoil.Foreign.TheVariants as foreign
use Rattle.sw_message.specs.declared.spoil.Spoil.{Spoil}
use Rattle.sw_message.specs.declared.spoil.Spoil.TheVariants as spoil
use Rattle.sw_message.specs.declared.target.Target.{Target}
use Rattle.sw_get.specs.Get.{AreTurns, Begun, Hears, Sends, Turn, ask_message, devices, facts_in, fetch_message, floors_shown, round_in}
use Rattle.sw_get.specs.Meaning.{Brings, Lacks, Lists, Meaning, Misses}
use Rattle.sw_gather.specs.Gathered.{Strays}
use Rattle.sw_get.specs.Round.{all_devices}
use Rattle.sw_get.specs.declared.round_end.KeptEvent.{KeptEvent}
use Rattle.sw_get.specs.declared.round_end.KeptEvent.TheVariants.{Gone, Rose}

-- a book of puts: no two have one stamp, and each has an object that keeps its bounds
pub record IsBook (book : List Booked) : Type 0 where
  pub one : (a b : Booked) → Contains book a → Contains book b → a.stamp ≡ b.stamp → a ≡ b
  pub objects : (booked : Booked) → Contains book booked → IsObject booked.object

-- ---- answers

-- an answer to a message shows this listing
abbrev pub Shows : Msg → Reply → ListingModel → Type 0
Shows (message.Ask place) (reply.Held listing) shown = listing ≡ shown
Shows (message.Fetch place stamp index) (reply.Gone listing) shown = listing ≡ shown
Shows msg other shown = ⊥

-- so does some answer of a transcript
pub record IsShown (past : List Step) (listing : ListingModel) : Type 0 where
  pub sent : Sent
  pub given : Reply
  pub told : Contains past (Closed sent (Some given))
  pub shows : Shows sent.msg given listing

-- a listing that is shown has this floor as its greatest
pub record HasFloor (past : List Step) (floor : Floor) : Type 0 where
  pub listing : ListingModel
  pub shown : IsShown past listing
  pub greatest : IsHighest (floors_in listing) (Some floor)

-- the bytes are the archive that a get asked for
abbrev pub IsAskedFor : Begun → (stamp index : ℕ) → List ℕ → ArchiveModel → Type 0
IsAskedFor begun stamp index bytes archive = IsArchive bytes archive × IsAsked (IsNamed begun.name) begun.cluster.policy stamp index archive

-- they are not; or they are, and of another object than the archives that were brought before it in the round
abbrev pub IsSpoilt : Begun → List ArchiveModel → (stamp index : ℕ) → List ℕ → Spoil → Type 0
IsSpoilt begun others stamp index bytes (spoil.Foreign foreign.Object) = (archive : ArchiveModel) × IsAskedFor begun stamp index bytes archive × Strays begun.cluster.policy others archive
IsSpoilt begun others stamp index bytes other = IsSpoilOf (IsNamed begun.name) begun.cluster.policy stamp index bytes other

-- Why an answer to a message is a miss: it was given up, the bytes that were fetched are spoilt, or the reply says so or does not
-- answer the message.
abbrev pub IsMissOf : Begun → List ArchiveModel → Msg → Option Reply → Miss → Type 0
IsMissOf begun others msg None how = how ≡ miss.NoReply
IsMissOf begun others (message.Ask place) (Some (reply.Held listing)) how = ⊥
IsMissOf begun others (message.Fetch place stamp index) (Some (reply.Gone listing)) how = ⊥
IsMissOf begun others (message.Fetch place stamp index) (Some (reply.Fragment bytes)) how = (why : Spoil) × (how ≡ miss.Spoiled why) × IsSpoilt begun others stamp index bytes why
IsMissOf begun others msg (Some other) how = how ≡ miss_of other

-- what an answer to a message says, beside the archives that were brought before it in the round
abbrev pub Says : Begun → List ArchiveModel → Msg → Option Reply → Meaning → Type 0
Says begun others (message.Ask place) (Some (reply.Held listing)) (Lists told) = listing ≡ told
Says begun others (message.Fetch place stamp index) (Some (reply.Gone listing)) (Lacks told) = listing ≡ told
Says begun others (message.Fetch place stamp index) (Some (reply.Fragment bytes)) (Brings archive) = IsAskedFor begun stamp index bytes archive
Says begun others msg answer (Misses how) = IsMissOf begun others msg answer how
Says begun others msg answer other = ⊥

-- the turns of a transcript tell what its answers say
abbrev pub AreHeard : Begun → List Step → List Turn → Type 0
AreHeard begun [] [] = ⊤
AreHeard begun (Gave sent ∷ past) (Sends same ∷ turns) = (same ≡ sent) × AreHeard begun past turns
AreHeard begun (Closed sent answer ∷ past) (Hears same meaning ∷ turns) = (same ≡ sent) × Says begun (facts_in begun turns).archives sent.msg answer meaning × AreHeard begun past turns
AreHeard begun past turns = ⊥

-- the source was asked for the archive of its index at the stamp, and sent the one of the put
pub record IsSource (begun : Begun) (past : List Step) (stamp : ℕ) (object : ObjectModel) (source : Target) : Type 0 where
  pub ticket : ℕ
  pub bytes : List ℕ
  pub told : Contains past (Closed (fetch_message begun ticket stamp source) (Some (reply.Fragment bytes)))
  pub archive : bytes ≡ put_archive begun.cluster.policy stamp begun.name object source.index

-- ---- rounds

-- a device was asked in some turns, and answered or was given up
pub record IsAnswered (begun : Begun) (turns : List Turn) (device : ℕ) : Type 0 where
  pub ticket : ℕ
  pub sent : Contains turns (Sends (ask_message begun ticket device))
  pub meaning : Meaning
  pub heard : Contains turns (Hears (ask_message begun ticket device) meaning)

-- every device of the cluster was asked once in a round, and answered or was given up
pub record AllAnswered (begun : Begun) (turns : List Turn) : Type 0 where
  pub each : (device : ℕ) → IsMember begun.cluster device → IsAnswered begun (round_in begun turns).turns device
  pub once : (facts_in begun turns).asked ≡ length (all_devices (devices begun))

-- the turns of a transcript, in whose last round every device answered or was given up, and after which no message is open
pub record LastRound (begun : Begun) (past : List Step) : Type 0 where
  pub turns : List Turn
  pub are : AreTurns begun past turns
  pub heard : AreHeard begun past turns
  pub closed : opens past ≡ []
  pub all_answered : AllAnswered begun turns

-- the floors that were shown before a round, and in it by answers to questions
abbrev pub floors_before : Begun → List Turn → List Floor
floors_before begun turns = floors_shown (round_in begun turns).earlier

abbrev pub floors_listed : Begun → List Turn → List Floor
floors_listed begun turns = flat_map (λ (one : ℕ × ListingModel). floors_in one.1) (facts_in begun turns).lists

-- the target of a round is the greatest of them
abbrev pub HasTarget : Begun → List Turn → Floor → Type 0
HasTarget begun turns floor = IsHighest (floors_before begun turns ++ floors_listed begun turns) (Some floor)

-- it is a durable stamp, and did not rise in the round
pub record IsLevel (begun : Begun) (turns : List Turn) (stamp : ℕ) : Type 0 where
  pub target : HasTarget begun turns (durable_at stamp)
  pub before : Contains (floors_before begun turns) (durable_at stamp)

-- ---- archives that are not to be had

-- an entry of the source's index, below the total, and of the stamp is listed by the source's device
pub record ListsAt (policy : PolicyModel) (lists : List (ℕ × ListingModel)) (stamp : ℕ) (source : Target) : Type 0 where
  pub below : source.index < policy.k + policy.m
  pub listing : ListingModel
  pub listed : Contains lists (source.device, listing)
  pub durable : Bool
  pub entry : Contains listing.entries (record { stamp = stamp; index = source.index; durable = durable })

-- the indices that are listed so
pub record AreIndices (policy : PolicyModel) (lists : List (ℕ × ListingModel)) (stamp : ℕ) (indices : List ℕ) : Type 0 where
  pub apart : AllPairs (λ one other. one ≢ other) indices
  pub listed : (index : ℕ) → Contains indices index ↔ ((device : ℕ) × ListsAt policy lists stamp (record { index = index; device = device }))

-- Entries of fewer than k indices are listed in a round at the stamp.
pub record AreShort (begun : Begun) (turns : List Turn) (stamp : ℕ) : Type 0 where
  pub indices : List ℕ
  pub are : AreIndices begun.cluster.policy (facts_in begun turns).lists stamp indices
  pub few : length indices < begun.cluster.policy.k

-- the archive that a source was asked for was not there, or the answer was a miss
abbrev pub IsLoss : Meaning → Type 0
IsLoss (Lacks listing) = ⊤
IsLoss (Misses how) = ⊤
IsLoss other = ⊥

pub record WasLost (begun : Begun) (turns : List Turn) (stamp : ℕ) (source : Target) : Type 0 where
  pub ticket : ℕ
  pub meaning : Meaning
  pub heard : Contains turns (Hears (fetch_message begun ticket stamp source) meaning)
  pub loss : IsLoss meaning

-- Entries of k indices or more are listed in a round at the stamp, and fewer than k archives were brought; of each listed source the
-- archive was lost, or one of its index was brought.
pub record AreUsedUp (begun : Begun) (turns : List Turn) (stamp : ℕ) : Type 0 where
  pub indices : List ℕ
  pub are : AreIndices begun.cluster.policy (facts_in begun turns).lists stamp indices
  pub enough : begun.cluster.policy.k ≤ length indices
  pub few : length (facts_in begun turns).sources < begun.cluster.policy.k
  pub spent : (source : Target) → ListsAt begun.cluster.policy (facts_in begun turns).lists stamp source
      → WasLost begun (round_in begun turns).turns stamp source ⊎ ((other : Target) × Contains (facts_in begun turns).sources other × (other.index ≡ source.index))

-- too few indices are listed, or the listed sources are used up though no archive was gone
abbrev pub AreWanting : Begun → List Turn → ℕ → Type 0
AreWanting begun turns stamp = AreShort begun turns stamp ⊎ (AreUsedUp begun turns stamp × ((facts_in begun turns).gone ≡ []))

-- ---- the ends

-- Where a get has found an object: it was put under the get's name at that stamp; the stamp is the target of the last round, and the
-- greatest floor of some listing that was shown; and k sources of different indices sent the archives of that put.
pub record IsPutFound (begun : Begun) (past : List Step) (learnt : Learnt) (stamp : ℕ) (object : ObjectModel) (sources : List Target) : Type 0 where
  pub booked : Contains learnt.book (record { stamp = stamp; name = begun.name; object = object })
  pub last : LastRound begun past
  pub target : HasTarget begun last.turns (durable_at stamp)
  pub durable : HasFloor past (durable_at stamp)
  pub count : length sources ≡ begun.cluster.policy.k
  pub apart : AllPairs (λ one other. one.index ≢ other.index) sources
  pub sent : All (IsSource begun past stamp object) sources

-- Where it ends as absent, no answer shows a floor, and fewer than c devices missed in its last round.
pub record IsAbsent (begun : Begun) (past : List Step) : Type 0 where
  pub last : LastRound begun past
  pub none_shown : (listing : ListingModel) → IsShown past listing → floors_in listing ≡ []
  pub few_missed : length (facts_in begun last.turns).misses < begun.cluster.policy.c

-- Where it ends as buried, some answer shows the tombstone of that stamp, and none shows a floor above it.
pub record IsBuried (begun : Begun) (past : List Step) (stamp : ℕ) : Type 0 where
  pub last : LastRound begun past
  pub shown : HasFloor past (tombstone_floor stamp)
  pub greatest : (listing : ListingModel) (floor : Floor) → IsShown past listing → Contains (floors_in listing) floor → IsAbove floor (tombstone_floor stamp) → ⊥

-- a device missed in some turns
abbrev pub WasMissed : List Turn → ℕ × Miss → Type 0
WasMissed turns one = (sent : Sent) × Contains turns (Hears sent (Misses one.1)) × (sent.device ≡ one.0)

-- Why a round ends a get as unanswered: no floor was shown, and c devices or more missed; or its target did not rise in it, and the
-- archives of that are wanting.
abbrev pub LeavesUnanswered : Begun → List Turn → Type 0
LeavesUnanswered begun turns = ((floors_shown turns ≡ []) × (begun.cluster.policy.c ≤ length (facts_in begun turns).misses)) ⊎ ((stamp : ℕ) × IsLevel begun turns stamp × AreWanting begun turns stamp)

-- Where a get ends as unanswered, it tells the misses of its last round, one or more.
pub record IsUnanswered (begun : Begun) (past : List Step) (misses : List (ℕ × Miss)) : Type 0 where
  pub last : LastRound begun past
  pub some : 0 < length misses
  pub are : misses ≡ (facts_in begun last.turns).misses
  pub missed : All (WasMissed (round_in begun last.turns).turns) misses
  pub why : LeavesUnanswered begun last.turns

-- Where too few were listed, no device missed in the last round, whose target is that stamp and did not rise, and which lists so many
-- indices at it, fewer than k.
pub record IsTooFew (begun : Begun) (past : List Step) (stamp have : ℕ) : Type 0 where
  pub last : LastRound begun past
  pub level : IsLevel begun last.turns stamp
  pub none_missed : (facts_in begun last.turns).misses ≡ []
  pub short : AreShort begun last.turns stamp
  pub count : length short.indices ≡ have

-- ---- rounds that are kept as events

-- the listed sources are used up, and of those whose archives were gone this was the first: its device had listed it in this round, and
-- said so as it was asked for the archive
pub record IsGone (begun : Begun) (past : List Step) (turns : List Turn) (source : Target) : Type 0 where
  pub stamp : ℕ
  pub target : HasTarget begun turns (durable_at stamp)
  pub used_up : AreUsedUp begun turns stamp
  pub others : List Target
  pub first : (facts_in begun turns).gone ≡ source ∷ others
  pub listed : ListsAt begun.cluster.policy (facts_in begun turns).lists stamp source
  pub ticket : ℕ
  pub listing : ListingModel
  pub told : Contains past (Closed (fetch_message begun ticket stamp source) (Some (reply.Gone listing)))

-- the target rose above every floor before the round, and its archives are wanting
pub record IsRisen (begun : Begun) (turns : List Turn) (start : Option Floor) (to : Floor) : Type 0 where
  pub start_is : IsHighest (floors_before begun turns) start
  pub target : HasTarget begun turns to
  pub above : (other : Floor) → Contains (floors_before begun turns) other → IsAbove to other
  pub stamp : ℕ
  pub durable : to ≡ durable_at stamp
  pub wanting : AreWanting begun turns stamp

abbrev pub IsEventOf : Begun → List Step → List Turn → KeptEvent → Type 0
IsEventOf begun past turns (Gone device index) = IsGone begun past turns (record { index = index; device = device })
IsEventOf begun past turns (Rose start to) = IsRisen begun turns start to

-- Each round of some turns was kept as an event, the latest first: every device answered or was given up, and the event has its cause.
abbrev pub AreKept : Begun → List Step → List Turn → List KeptEvent → Type 0
AreKept begun past turns [] = turns ≡ []
AreKept begun past turns (event ∷ events) = AllAnswered begun turns × IsEventOf begun past turns event × AreKept begun past (round_in begun turns).earlier events

-- Where it was overtaken, each of its rounds was kept as an event, eight in all.
pub record IsOvertaken (begun : Begun) (past : List Step) (events : List KeptEvent) : Type 0 where
  pub last : LastRound begun past
  pub kept : AreKept begun past last.turns (reverse events)
  pub count : length events ≡ 8
