-- The machine of a get: rounds, up to eight that are kept as events.
use Rattle.std.specs.Prelude.{◌≡◌, ℕ, ◌+◌, ◌≤◌, Bool, true, false, not, ◌&&◌, if◌then◌else◌, nat_lt, List, [], ◌∷◌, ◌++◌, length, slice_get, Option, Some, None, ⊤}
use Rattle.sw_types.specs.Name.{NameModel}
use Rattle.sw_types.specs.Object.{IsObject, ObjectModel}
use Rattle.sw_hashdir.specs.Listing.{ListingModel}
use Rattle.sw_hashdir.specs.declared.floor.Floor.{Floor}
use Rattle.sw_hashpath.specs.Place.{PlaceModel}
use Rattle.sw_archive.specs.Archive.{ArchiveModel}
use Rattle.sw_archive.specs.Assemble.{IsTold}
use Rattle.sw_ring.specs.Cluster.{ClusterModel, KeepsRules, column_of, handoffs_of, place_of_name}
use Rattle.sw_message.specs.Floors.{floors_in, highest}
use Rattle.sw_message.specs.Targets.{ascending}
use Rattle.sw_message.specs.Transcript.{Closed, Gave, Hand, Next, Over, Step, Wait}
use Rattle.sw_message.specs.declared.message.Msg.{Msg}
use Rattle.sw_message.specs.declared.message.Msg.TheVariants as message
use Rattle.sw_message.specs.declared.miss.Miss.{Miss}
use Rattle.sw_message.specs.declared.reply.Reply.{Reply}
use Rattle.sw_message.specs.declared.sent.Sent.{Sent}
use Rattle.sw_message.specs.declared.target.Target.{Target}
use Rattle.sw_get.specs.Meaning.{Brings, IsFetched, Lacks, Lists, Meaning, Misses, Wanted, asked_meaning}
use Rattle.sw_get.specs.Round.{Devices, Facts, all_devices, round_going}
use Rattle.sw_get.specs.declared.end.GetEnd.{GetEnd}
use Rattle.sw_get.specs.declared.end.GetEnd.TheVariants as end
use Rattle.sw_get.specs.declared.round_end.Going.{Going}
use Rattle.sw_get.specs.declared.round_end.Going.TheVariants as going
use Rattle.sw_get.specs.declared.round_end.KeptEvent.{KeptEvent}
use Rattle.sw_get.specs.declared.round_end.RoundEnd.{RoundEnd}
use Rattle.sw_get.specs.declared.round_end.RoundEnd.TheVariants as round

-- ---- what a get is begun with

pub record Begun : Type 0 where
  pub cluster : ClusterModel
  pub name : NameModel

pub record IsBegun (begun : Begun) : Type 0 where
  pub rules : KeepsRules begun.cluster

abbrev pub place_of : Begun → PlaceModel
place_of begun = place_of_name begun.cluster begun.name

abbrev pub devices : Begun → Devices
devices begun = record { handoffs = handoffs_of begun.cluster (place_of begun).part; primaries = column_of begun.cluster (place_of begun).part }

-- what is fetched for a stamp
abbrev pub wanted : Begun → ℕ → Wanted
wanted begun stamp = record { policy = begun.cluster.policy; name = begun.name; stamp = stamp }

-- ---- a transcript, with what each answer means

-- a message was handed out, or an answer to one came, which means this; the latest turn stands first
pub data Turn : Type 0 where
  Sends : (sent : Sent) → Turn
  Hears : (sent : Sent) → (meaning : Meaning) → Turn

abbrev pub is_ask : Msg → Bool
is_ask (message.Ask place) = true
is_ask other = false

-- what one turn adds to what a round knows
abbrev pub listed_by : (device : ℕ) → Msg → Meaning → List (ℕ × ListingModel)
listed_by device (message.Ask place) (Lists listing) = (device, listing) ∷ []
listed_by device other meaning = []

abbrev pub source_of : (device : ℕ) → Msg → List Target
source_of device (message.Fetch place stamp index) = record { index = index; device = device } ∷ []
source_of device other = []

abbrev pub brought_by : Meaning → List ArchiveModel
brought_by (Brings archive) = archive ∷ []
brought_by other = []

abbrev pub bringing : (device : ℕ) → Msg → Meaning → List Target
bringing device msg (Brings archive) = source_of device msg
bringing device msg other = []

abbrev pub lacking : (device : ℕ) → Msg → Meaning → List Target
lacking device msg (Lacks listing) = source_of device msg
lacking device msg other = []

abbrev pub failing : (device : ℕ) → Msg → Meaning → List Target
failing device msg (Misses miss) = source_of device msg
failing device msg other = []

abbrev pub missing : (device : ℕ) → Meaning → List (ℕ × Miss)
missing device (Misses miss) = (device, miss) ∷ []
missing device other = []

abbrev pub count_ask : Msg → ℕ
count_ask msg = if is_ask msg then 1 else 0

-- of some turns: how many devices were asked, and how many of these answered or were given up
abbrev pub asks_sent : List Turn → ℕ
asks_sent [] = 0
asks_sent (Sends sent ∷ turns) = asks_sent turns + count_ask sent.msg
asks_sent (Hears sent meaning ∷ turns) = asks_sent turns

abbrev pub asks_heard : List Turn → ℕ
asks_heard [] = 0
asks_heard (Sends sent ∷ turns) = asks_heard turns
asks_heard (Hears sent meaning ∷ turns) = asks_heard turns + count_ask sent.msg

-- the sources that were tried
abbrev pub sources_tried : List Turn → List Target
sources_tried [] = []
sources_tried (Sends sent ∷ turns) = sources_tried turns ++ source_of sent.device sent.msg
sources_tried (Hears sent meaning ∷ turns) = sources_tried turns

-- what was heard, each with what it means
abbrev pub heard : {A : Type 0} → (ℕ → Msg → Meaning → List A) → List Turn → List A
heard tells [] = []
heard tells (Sends sent ∷ turns) = heard tells turns
heard tells (Hears sent meaning ∷ turns) = heard tells turns ++ tells sent.device sent.msg meaning

abbrev pub facts_of : List Turn → Facts
facts_of turns = record {
  asked = asks_sent turns;
  answered = asks_heard turns;
  lists = heard listed_by turns;
  tried = sources_tried turns;
  sources = heard bringing turns;
  archives = heard (λ device msg meaning. brought_by meaning) turns;
  gone = heard lacking turns;
  failed = heard failing turns;
  misses = heard (λ device msg meaning. missing device meaning) turns;
}

-- the floors that the answers showed
abbrev pub shown_by : Meaning → List Floor
shown_by (Lists listing) = floors_in listing
shown_by (Lacks listing) = floors_in listing
shown_by other = []

abbrev pub floors_shown : List Turn → List Floor
floors_shown turns = heard (λ device msg meaning. shown_by meaning) turns

-- how many messages were handed out
abbrev pub sends : List Turn → ℕ
sends [] = 0
sends (Sends sent ∷ turns) = sends turns + 1
sends (Hears sent meaning ∷ turns) = sends turns

-- ---- rounds

-- the turns of the round that goes on, and those before it
pub record Round : Type 0 where
  pub turns : List Turn
  pub earlier : List Turn

-- a message is the first of another round where it asks a device once the round has asked all
abbrev pub is_first : ℕ → Msg → Round → Bool
is_first all msg round = is_ask msg && not (nat_lt (asks_sent round.turns) all)

abbrev pub round_of : ℕ → List Turn → Round
round_of all [] = record { turns = []; earlier = [] }
round_of all (Sends sent ∷ turns) =
    if is_first all sent.msg (round_of all turns) then record { turns = Sends sent ∷ []; earlier = turns }
    else record { turns = Sends sent ∷ (round_of all turns).turns; earlier = (round_of all turns).earlier }
round_of all (Hears sent meaning ∷ turns) = record { turns = Hears sent meaning ∷ (round_of all turns).turns; earlier = (round_of all turns).earlier }

abbrev pub round_in : Begun → List Turn → Round
round_in begun turns = round_of (length (all_devices (devices begun))) turns

-- what the round that goes on knows, and the greatest floor that was shown before it
abbrev pub facts_in : Begun → List Turn → Facts
facts_in begun turns = facts_of (round_in begun turns).turns

abbrev pub from_in : Begun → List Turn → Option Floor
from_in begun turns = highest (floors_shown (round_in begun turns).earlier)

-- what it does next
abbrev pub going_in : Begun → List Turn → Going
going_in begun turns = round_going begun.cluster.policy (devices begun) (from_in begun turns) (facts_in begun turns)

abbrev pub event_of : Going → List KeptEvent
event_of (going.Keep event) = event ∷ []
event_of other = []

-- the events of the rounds before it
abbrev pub events : Begun → List Turn → List KeptEvent
events begun [] = []
events begun (Sends sent ∷ turns) =
    if is_first (length (all_devices (devices begun))) sent.msg (round_in begun turns) then events begun turns ++ event_of (going_in begun turns) else events begun turns
events begun (Hears sent meaning ∷ turns) = events begun turns

-- ---- what the answers mean

abbrev pub IsMeant : Begun → List Turn → Msg → Option Reply → Meaning → Type 0
IsMeant begun turns (message.Ask place) answer meaning = meaning ≡ asked_meaning answer
IsMeant begun turns (message.Fetch place stamp index) answer meaning = IsFetched (wanted begun stamp) (facts_in begun turns).archives index answer meaning
IsMeant begun turns other answer meaning = ⊥

-- these are the turns of a transcript
abbrev pub AreTurns : Begun → List Step → List Turn → Type 0
AreTurns begun [] [] = ⊤
AreTurns begun (Gave sent ∷ past) (Sends same ∷ turns) = (same ≡ sent) × AreTurns begun past turns
AreTurns begun (Closed sent answer ∷ past) (Hears same meaning ∷ turns) = (same ≡ sent) × IsMeant begun turns sent.msg answer meaning × AreTurns begun past turns
AreTurns begun past turns = ⊥

-- ---- the machine

abbrev pub ask_message : Begun → ℕ → ℕ → Sent
ask_message begun ticket device = record { ticket = ticket; device = device; msg = message.Ask (place_of begun) }

abbrev pub fetch_message : Begun → ℕ → ℕ → Target → Sent
fetch_message begun ticket stamp source = record { ticket = ticket; device = source.device; msg = message.Fetch (place_of begun) stamp source.index }

-- the first message of another round
abbrev pub ask_first : Begun → ℕ → Option ℕ → Next
ask_first begun ticket (Some device) = Hand (ask_message begun ticket device)
ask_first begun ticket None = Over

-- so many rounds are kept and followed by another one; after the next event it is over
abbrev pub most_kept : ℕ
most_kept = 7

abbrev pub next_after : Begun → List Turn → Going → Next
next_after begun turns (going.Ask device) = Hand (ask_message begun (sends turns) device)
next_after begun turns (going.Fetch stamp source) = Hand (fetch_message begun (sends turns) stamp source)
next_after begun turns going.Wait = Wait
next_after begun turns (going.End ending) = Over
next_after begun turns (going.Keep event) =
    if nat_lt (length (events begun turns)) most_kept then ask_first begun (sends turns) (slice_get (all_devices (devices begun)) 0) else Over

-- what comes after a transcript
abbrev pub IsNext : Begun → List Step → Next → Type 0
IsNext begun past next = (turns : List Turn) × AreTurns begun past turns × (next_after begun turns (going_in begun turns) ≡ next)

-- ---- how a get ends

-- the object is the one that the archives tell and hold
abbrev pub IsFoundObject : Facts → ObjectModel → Type 0
IsFoundObject facts object = IsObject object × IsTold facts.archives object

abbrev pub EndsBy : Facts → RoundEnd → GetEnd → Type 0
EndsBy facts (round.Found stamp) how = (object : ObjectModel) × IsFoundObject facts object × (how ≡ end.Found stamp object (ascending facts.sources))
EndsBy facts round.Absent how = how ≡ end.Absent
EndsBy facts (round.Buried stamp) how = how ≡ end.Buried stamp
EndsBy facts round.Unanswered how = how ≡ end.Unanswered facts.misses
EndsBy facts (round.TooFew stamp have) how = how ≡ end.TooFew stamp have

abbrev pub EndsAfter : Begun → List Turn → Going → GetEnd → Type 0
EndsAfter begun turns (going.End ending) how = EndsBy (facts_in begun turns) ending how
EndsAfter begun turns (going.Keep event) how = (most_kept ≤ length (events begun turns)) × (how ≡ end.Overtaken (events begun turns ++ event ∷ []))
EndsAfter begun turns other how = ⊥

-- how a get has ended
abbrev pub IsEnd : Begun → List Step → GetEnd → Type 0
IsEnd begun past how = (turns : List Turn) × AreTurns begun past turns × EndsAfter begun turns (going_in begun turns) how
