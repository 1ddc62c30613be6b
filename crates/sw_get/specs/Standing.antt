-- What contracts see of a get, and the transcripts that it stands for.
use Rattle.std.specs.Prelude.{◌≡◌, ℕ, ◌+◌, ◌<◌, ◌≤◌, List, [], ◌∷◌, length, slice_get, if◌then◌else◌, Option, Some, None, IsSome, ⊤}
use Rattle.std.specs.List.{All}
use Rattle.sw_types.specs.Name.{NameModel}
use Rattle.sw_types.specs.Object.{ObjectModel}
use Rattle.sw_types.specs.Policy.{PolicyModel}
use Rattle.sw_hashdir.specs.Listing.{ListingModel}
use Rattle.sw_hashdir.specs.declared.floor.Floor.{Floor}
use Rattle.sw_hashdir.specs.declared.floor.FloorKind.TheVariants.{Durable}
use Rattle.sw_hashpath.specs.Place.{PlaceModel}
use Rattle.sw_message.specs.Floors.{floors_in, highest}
use Rattle.sw_message.specs.Learnt.{Learnt}
use Rattle.sw_message.specs.Message.{IsMember}
use Rattle.sw_message.specs.Running.{IsOf}
use Rattle.sw_message.specs.Targets.{ascending}
use Rattle.sw_message.specs.Transcript.{Closed, Hand, IsRun, Step, opens}
use Rattle.sw_message.specs.Warrant.{IsWarranted}
use Rattle.sw_message.specs.declared.message.Msg.{Msg}
use Rattle.sw_message.specs.declared.reply.Reply.{Reply}
use Rattle.sw_message.specs.declared.reply.Reply.TheVariants as reply
use Rattle.sw_message.specs.declared.sent.Sent.{Sent}
use Rattle.sw_get.specs.Get.{AreTurns, Begun, IsBegun, IsEnd, IsNext, Turn, ask_message, count_ask, devices, events, facts_in, fetch_message, floors_shown, from_in, is_ask, place_of}
use Rattle.sw_gather.specs.Mailbox.{GoesWith, MailboxModel, Unread}
use Rattle.sw_get.specs.Round.{Devices, Facts, all_devices, candidates, lost, round_going, target_of}
use Rattle.sw_gather.specs.Gathered.{IsThere}
use Rattle.sw_gather.specs.Choices.{firsts}
use Rattle.sw_get.specs.declared.end.GetEnd.{GetEnd}
use Rattle.sw_get.specs.declared.end.GetEnd.TheVariants as gets
use Rattle.sw_get.specs.declared.errand.Errand.{Errand}
use Rattle.sw_get.specs.declared.errand.Errand.TheVariants as errand
use Rattle.sw_get.specs.declared.round_end.Going.{Going}
use Rattle.sw_get.specs.declared.round_end.KeptEvent.{KeptEvent}
use Rattle.sw_get.specs.declared.round_end.RoundEnd.{RoundEnd}
use Rattle.sw_get.specs.declared.round_end.RoundEnd.TheVariants as round

-- ---- what is seen of a get

-- what is wanted, and from which devices
pub record Subject : Type 0 where
  pub policy : PolicyModel
  pub name : NameModel
  pub place : PlaceModel
  pub devices : Devices

-- what the answers that were read showed: the greatest floor, and that before the round; the events of the rounds before; and
-- what the round knows
pub record Findings : Type 0 where
  pub target : Option Floor
  pub from : Option Floor
  pub events : List KeptEvent
  pub facts : Facts

pub record GetModel : Type 0 where
  pub subject : Subject
  pub findings : Findings
  pub object : Option ObjectModel
  pub mailbox : MailboxModel Errand
  pub end : Option GetEnd

-- what it does next, once every answer was read
abbrev pub going_of : GetModel → Going
going_of get = round_going get.subject.policy get.subject.devices get.findings.from get.findings.facts

-- every answer was read, and it has not ended
pub record IsReady (get : GetModel) : Type 0 where
  pub read : get.mailbox.unread ≡ []
  pub goes_on : get.end ≡ None

-- ---- what was handed out

abbrev pub message_for : Begun → ℕ → Errand → Sent
message_for begun ticket (errand.Ask device) = ask_message begun ticket device
message_for begun ticket (errand.Fetch stamp source) = fetch_message begun ticket stamp source

-- the message of an errand
pub record IsErrand (begun : Begun) (errand : Errand) (sent : Sent) : Type 0 where
  pub message : sent ≡ message_for begun sent.ticket errand
  pub member : IsMember begun.cluster sent.device

-- an open message is that of the errand of its ticket
pub record IsOpen (begun : Begun) (errands : List Errand) (sent : Sent) : Type 0 where
  pub errand : Errand
  pub at : slice_get errands sent.ticket ≡ Some errand
  pub is : IsErrand begun errand sent

-- the first answer that is to be read is that to an errand
abbrev pub BeginsWith : List (Unread Errand) → Errand → Type 0
BeginsWith unread errand = (answer : Option Reply) × (later : List (Unread Errand)) × (unread ≡ (errand, answer) ∷ later)

-- the answers that were not yet read, the first of them told first, lead from one transcript to another
abbrev pub Lead : Begun → List (Unread Errand) → List Step → List Step → Type 0
Lead begun [] read past = past ≡ read
Lead begun (unread ∷ later) read past = (sent : Sent) × IsErrand begun unread.0 sent × Lead begun later (Closed sent unread.1 ∷ read) past

-- the floors that the answer to a fetch shows
abbrev pub shown_gone : Option Reply → List Floor
shown_gone (Some (reply.Gone listing)) = floors_in listing
shown_gone other = []

-- ---- how many answers are missing

abbrev pub count_fetch : Msg → ℕ
count_fetch msg = if is_ask msg then 0 else 1

abbrev pub count_opens : (Msg → ℕ) → List Sent → ℕ
count_opens count [] = 0
count_opens count (sent ∷ sents) = count_opens count sents + count sent.msg

abbrev pub ask_in : Errand → ℕ
ask_in (errand.Ask device) = 1
ask_in (errand.Fetch stamp source) = 0

abbrev pub fetch_in : Errand → ℕ
fetch_in (errand.Ask device) = 0
fetch_in (errand.Fetch stamp source) = 1

abbrev pub count_unread : (Errand → ℕ) → List (Unread Errand) → ℕ
count_unread count [] = 0
count_unread count (unread ∷ later) = count_unread count later + count unread.0

-- each question of the round, and each fetch, is answered, or its answer is not yet read, or it is open
pub record AreCounted (facts : Facts) (unread : List (Unread Errand)) (opened : List Sent) : Type 0 where
  pub asks : facts.answered + count_unread ask_in unread + count_opens count_ask opened ≡ facts.asked
  pub fetches : length facts.sources + lost facts + count_unread fetch_in unread + count_opens count_fetch opened ≡ length facts.tried

-- ---- what the answers showed

-- once k archives were brought, the object is there, as they tell and hold it
abbrev pub FindsObject : PolicyModel → Facts → Option ObjectModel → Type 0
FindsObject policy facts object = length facts.sources ≡ policy.k → IsThere facts.archives object

-- the object is there, where a round ends with it
abbrev pub NeedsObject : RoundEnd → Option ObjectModel → Type 0
NeedsObject (round.Found stamp) object = IsSome object
NeedsObject round.Absent object = ⊤
NeedsObject (round.Buried stamp) object = ⊤
NeedsObject round.Unanswered object = ⊤
NeedsObject (round.TooFew stamp have) object = ⊤

-- a get ends by the end of its last round, with the object that is there
abbrev pub EndsWith : Facts → Option ObjectModel → RoundEnd → GetEnd → Type 0
EndsWith facts found (round.Found stamp) how = (object : ObjectModel) × (found ≡ Some object) × (how ≡ gets.Found stamp object (ascending facts.sources))
EndsWith facts found round.Absent how = how ≡ gets.Absent
EndsWith facts found (round.Buried stamp) how = how ≡ gets.Buried stamp
EndsWith facts found round.Unanswered how = how ≡ gets.Unanswered facts.misses
EndsWith facts found (round.TooFew stamp have) how = how ≡ gets.TooFew stamp have

-- once archives are fetched, every device has answered or was given up, and the target is a durable stamp with candidates enough
pub record IsFetching (begun : Begun) (from : Option Floor) (facts : Facts) : Type 0 where
  pub all_answered : facts.answered ≡ length (all_devices (devices begun))
  pub to : Floor
  pub target : target_of from facts ≡ Some to
  pub durable : to.kind ≡ Durable
  pub choices : begun.cluster.policy.k ≤ length (firsts (candidates begun.cluster.policy to.stamp facts))

-- what holds of a round at every time
pub record IsWithin (begun : Begun) (from : Option Floor) (facts : Facts) : Type 0 where
  pub asked_few : facts.asked ≤ length (all_devices (devices begun))
  pub tried_few : length facts.tried ≤ begun.cluster.policy.k + lost facts
  pub listed : All (λ (one : ℕ × ListingModel). IsMember begun.cluster one.0) facts.lists
  pub fetching : 0 < length facts.tried → IsFetching begun from facts

-- what is found in the turns of a transcript
pub record AreFindings (findings : Findings) (begun : Begun) (turns : List Turn) : Type 0 where
  pub target_is : findings.target ≡ highest (floors_shown turns)
  pub from_is : findings.from ≡ from_in begun turns
  pub events_are : findings.events ≡ events begun turns
  pub facts_are : findings.facts ≡ facts_in begun turns
  pub within : IsWithin begun findings.from findings.facts

-- ---- the transcripts

abbrev pub subject_of : Begun → Subject
subject_of begun = record { policy = begun.cluster.policy; name = begun.name; place = place_of begun; devices = devices begun }

-- it has ended, and nothing changes any more
pub record HasEnded (begun : Begun) (past : List Step) (end : GetEnd) (unread : List (Unread Errand)) : Type 0 where
  pub is : IsEnd begun past end
  pub closed : opens past ≡ []
  pub read : unread ≡ []

-- a get stands for each transcript of its machine that leads to its state
pub record Stands (get : GetModel) (begun : Begun) (past : List Step) : Type 0 where
  pub valid : IsBegun begun
  pub run : IsRun (IsNext begun) past
  pub subject_is : get.subject ≡ subject_of begun
  pub goes_with : GoesWith get.mailbox past
  pub opened : All (IsOpen begun get.mailbox.errands) (opens past)
  -- the part of the transcript whose answers were read
  pub read : List Step
  pub turns : List Turn
  pub reads : AreTurns begun read turns
  pub leads : Lead begun get.mailbox.unread read past
  pub finds : AreFindings get.findings begun turns
  pub counted : AreCounted get.findings.facts get.mailbox.unread (opens past)
  pub object_is : get.end ≡ None → FindsObject begun.cluster.policy get.findings.facts get.object
  pub end_is : (end : GetEnd) → get.end ≡ Some end → HasEnded begun past end get.mailbox.unread

-- a message is the next one after a transcript, and it may be sent
pub record MayHand (begun : Begun) (past : List Step) (sent : Sent) : Type 0 where
  pub next : IsNext begun past (Hand sent)
  pub of : IsOf begun.cluster sent.device sent.msg
  pub warranted : (learnt : Learnt) → IsWarranted begun.cluster learnt sent.msg
