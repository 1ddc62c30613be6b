-- The machine of a pass: stages one after the other. Its own device lists its partitions, and the places of each. Where it is a primary of
-- a partition, the places at whose suffixes other primaries differ from it are synced; where it is none, each place is reverted.
use Rattle.std.specs.Prelude.{◌≡◌, ◌≢◌, ◌⊎◌, ◌↔◌, ℕ, ◌+◌, ◌^◌, ◌==◌, Bool, true, false, not, ◌&&◌, min, nat_lt, List, [], ◌∷◌, ◌++◌, Contains, filter, length, take, Option, Some, None, ⊤}
use Rattle.sw_words.specs.Counts.{last_count, one_more}
use Rattle.sw_hashpath.specs.Place.{PlaceModel, part_of}
use Rattle.sw_suffix.specs.Suffix.{suffix_number}
use Rattle.sw_suffix.specs.Table.{Hashed, hash_at}
use Rattle.sw_ring.specs.Cluster.{ClusterModel, KeepsRules, column_of}
use Rattle.sw_ring.specs.Ring.{is_among}
use Rattle.sw_message.specs.Message.{IsMember, is_primary}
use Rattle.sw_message.specs.Transcript.{Closed, Gave, Hand, Next, Over, Step, Wait, given}
use Rattle.sw_message.specs.declared.reply.Reply.{Reply}
use Rattle.sw_message.specs.declared.reply.Reply.TheVariants as reply
use Rattle.sw_message.specs.declared.sent.Sent.{Sent}
use Rattle.sw_recon.specs.declared.revert_end.RevertEnd.TheVariants as reverted
use Rattle.sw_sync.specs.declared.sync_end.SyncEnd.TheVariants as synced
use Rattle.sw_daemon.specs.Stage as stage
use Rattle.sw_daemon.specs.Stage.{Answered, Asks, End, Reverted, Reverts, Synced, Syncs}
use Rattle.sw_daemon.specs.declared.report.PassReport.{PassReport}
use Rattle.sw_daemon.specs.declared.survey.Survey.{Survey}
use Rattle.sw_daemon.specs.declared.survey.Survey.TheVariants as survey

-- ---- what a pass is begun with

pub record Begun : Type 0 where
  pub cluster : ClusterModel
  pub device : ℕ

pub record IsBegun (begun : Begun) : Type 0 where
  pub rules : KeepsRules begun.cluster
  pub member : IsMember begun.cluster begun.device

-- a pass treats so many of the partitions that its device lists, and so many of the places of each
abbrev pub most_parts : ℕ
most_parts = 2 ^ 16

abbrev pub most_places : ℕ
most_places = 2 ^ 24

-- ---- how far it is

pub data Task : Type 0 where
  -- its own device is asked for its partitions; for the places of one; for the suffixes of one
  ListParts : Task
  ListPlaces : (part : ℕ) → Task
  ListOwn : (part : ℕ) → Task
  -- another primary is asked for its suffixes, the own ones being these, after others that answered so or missed, and before others
  ListOther : (part : ℕ) → (own : List Hashed) → (heard : List (Option (List Hashed))) → (device : ℕ) → (others : List ℕ) → Task
  -- a place is synced or reverted
  Treat : (place : PlaceModel) → Task

-- its task, the places of the partition and the partitions that are treated after it, and what is to be reported
pub record Course : Type 0 where
  pub task : Task
  pub places : List PlaceModel
  pub parts : List ℕ
  pub report : PassReport

pub data Status : Type 0 where
  Does : (course : Course) → Status
  Ends : (report : PassReport) → Status

abbrev pub asks : Begun → ℕ → Survey → stage.Begun
asks begun device survey = Asks (record { cluster = begun.cluster; device = device; survey = survey })

abbrev pub treats : Begun → PlaceModel → (is_primary : Bool) → stage.Begun
treats begun place true = Syncs (record { cluster = begun.cluster; device = begun.device; place = place })
treats begun place false = Reverts (record { cluster = begun.cluster; device = begun.device; place = place })

-- the stage of a task
abbrev pub stage_of : Begun → Task → stage.Begun
stage_of begun ListParts = asks begun begun.device survey.Parts
stage_of begun (ListPlaces part) = asks begun begun.device (survey.Places part)
stage_of begun (ListOwn part) = asks begun begun.device (survey.Suffixes part)
stage_of begun (ListOther part own heard device others) = asks begun device (survey.Suffixes part)
stage_of begun (Treat place) = treats begun place (is_primary begun.cluster begun.device place)

abbrev pub empty_report : PassReport
empty_report = record { synced = 0; rebuilt = 0; removed = 0; kept = 0; missed = 0 }

abbrev pub beginning : Course
beginning = record { task = ListParts; places = []; parts = []; report = empty_report }

-- ---- what is next

-- the next partition, and the next place
abbrev pub next_part : List ℕ → PassReport → Status
next_part [] report = Ends report
next_part (part ∷ parts) report = Does (record { task = ListPlaces part; places = []; parts = parts; report = report })

abbrev pub next_place : List PlaceModel → List ℕ → PassReport → Status
next_place [] parts report = next_part parts report
next_place (place ∷ places) parts report = Does (record { task = Treat place; places = places; parts = parts; report = report })

-- a count stands still at its type's last value
abbrev pub plus : ℕ → ℕ → ℕ
plus count more = min (count + more) last_count

abbrev pub missed : PassReport → PassReport
missed report = record report { missed = one_more report.missed }

-- ---- partitions and places

-- a partition that the ring has
abbrev pub is_of_ring : (power : ℕ) → ℕ → Bool
is_of_ring power part = nat_lt part (2 ^ power)

-- a place of the partition that was asked for, which is that of its hash
abbrev pub is_of_part : (power part : ℕ) → PlaceModel → Bool
is_of_part power part place = place.part == part && part_of place.hash power == part

abbrev pub after_parts : (power : ℕ) → Course → Option Reply → Status
after_parts power course (Some (reply.PartList parts)) = next_part (filter (is_of_ring power) (take most_parts parts)) course.report
after_parts power course other = next_part course.parts (missed course.report)

-- a partition is treated by its places: by a primary of it once it knows its suffixes, by any other device at once
abbrev pub begin_part : (is_primary : Bool) → (part : ℕ) → List PlaceModel → List ℕ → PassReport → Status
begin_part true part places parts report = Does (record { task = ListOwn part; places = places; parts = parts; report = report })
begin_part false part places parts report = next_place places parts report

abbrev pub after_places : Begun → ℕ → Course → Option Reply → Status
after_places begun part course (Some (reply.PlaceList places)) =
    begin_part (is_among (column_of begun.cluster part) begun.device) part (filter (is_of_part begun.cluster.part_power part) (take most_places places)) course.parts course.report
after_places begun part course other = next_part course.parts (missed course.report)

-- ---- suffixes

-- another primary missed, or has another hash at a suffix than the own device, where one of them has none or both have one
abbrev pub DiffersIn : List Hashed → ℕ → Option (List Hashed) → Type 0
DiffersIn own suffix None = ⊤
DiffersIn own suffix (Some hashes) = hash_at suffix own ≢ hash_at suffix hashes

abbrev pub Differs : List Hashed → List (Option (List Hashed)) → ℕ → Type 0
Differs own heard suffix = (answer : Option (List Hashed)) × Contains heard answer × DiffersIn own suffix answer

-- the places at whose suffixes some other primary differs, in their order
pub record AreDue (own : List Hashed) (heard : List (Option (List Hashed))) (places due : List PlaceModel) : Type 0 where
  pub test : PlaceModel → Bool
  pub decides : (place : PlaceModel) → (test place ≡ true) ↔ Differs own heard (suffix_number place.hash)
  pub due_are : due ≡ filter test places

-- the next of the other primaries is asked; once all were, the places are synced that are due
abbrev pub AsksOn : (part : ℕ) → List Hashed → List (Option (List Hashed)) → List ℕ → List PlaceModel → List ℕ → PassReport → Status → Type 0
AsksOn part own heard (device ∷ others) places parts report status =
    status ≡ Does (record { task = ListOther part own heard device others; places = places; parts = parts; report = report })
AsksOn part own heard [] places parts report status = (due : List PlaceModel) × AreDue own heard places due × (status ≡ next_place due parts report)

-- the primaries of a partition but the own device, in the order of their indices
abbrev pub others_of : Begun → ℕ → List ℕ
others_of begun part = filter (λ id. not (id == begun.device)) (column_of begun.cluster part)

abbrev pub AfterOwn : Begun → ℕ → Course → Option Reply → Status → Type 0
AfterOwn begun part course (Some (reply.SuffixList own)) status = AsksOn part own [] (others_of begun part) course.places course.parts course.report status
AfterOwn begun part course other status = status ≡ next_part course.parts (missed course.report)

abbrev pub AfterOther : (part : ℕ) → List Hashed → List (Option (List Hashed)) → List ℕ → Course → Option Reply → Status → Type 0
AfterOther part own heard others course (Some (reply.SuffixList hashes)) status = AsksOn part own (heard ++ Some hashes ∷ []) others course.places course.parts course.report status
AfterOther part own heard others course other status = AsksOn part own (heard ++ None ∷ []) others course.places course.parts (missed course.report) status

-- ---- jobs

abbrev pub reported : PassReport → End → PassReport
reported report (Synced (synced.Done commits rebuilt tombstones failed)) = record report { synced = one_more report.synced; rebuilt = plus report.rebuilt rebuilt }
reported report (Reverted (reverted.Done removed kept)) = record report { removed = plus report.removed removed; kept = plus report.kept (length kept) }
reported report other = missed report

-- ---- what follows a stage

abbrev pub FollowsAnswer : Begun → Course → Task → Option Reply → Status → Type 0
FollowsAnswer begun course ListParts answer status = status ≡ after_parts begun.cluster.part_power course answer
FollowsAnswer begun course (ListPlaces part) answer status = status ≡ after_places begun part course answer
FollowsAnswer begun course (ListOwn part) answer status = AfterOwn begun part course answer status
FollowsAnswer begun course (ListOther part own heard device others) answer status = AfterOther part own heard others course answer status
FollowsAnswer begun course (Treat place) answer status = ⊥

abbrev pub Follows : Begun → Course → End → Status → Type 0
Follows begun course (Answered answer) status = FollowsAnswer begun course course.task answer status
Follows begun course end status = status ≡ next_place course.places course.parts (reported course.report end)

-- ---- the machine

-- the course, how many messages were handed out before its stage began, and the stage's own transcript
pub record State : Type 0 where
  pub course : Course
  pub before : ℕ
  pub own : List Step

abbrev pub began_at : ℕ → Course → State
began_at count course = record { course = course; before = count; own = [] }

-- a message of a stage, by the ticket that it has in the pass
abbrev pub renumbered : ℕ → Sent → Sent
renumbered before sent = record sent { ticket = before + sent.ticket }

-- the stage goes on, or is over and another one follows
abbrev pub Turns : Begun → (count : ℕ) → State → State → Type 0
Turns begun count state turned =
    (turned ≡ state) ⊎ ((end : End) × stage.IsEnd (stage_of begun state.course.task) state.own end × (course : Course) × Follows begun state.course end (Does course) × (turned ≡ began_at count course))

-- a message is handed out by the stage that goes on, or that follows
pub record Gives (begun : Begun) (count : ℕ) (state : State) (sent : Sent) (after : State) : Type 0 where
  pub turned : State
  pub turns : Turns begun count state turned
  pub own : Sent
  pub next : stage.IsNext (stage_of begun turned.course.task) turned.own (Hand own)
  pub sent_is : sent ≡ renumbered turned.before own
  pub after_is : after ≡ record turned { own = Gave own ∷ turned.own }

-- an answer is one to a message of the stage
pub record Takes (state : State) (sent : Sent) (answer : Option Reply) (after : State) : Type 0 where
  pub own : Sent
  pub sent_is : sent ≡ renumbered state.before own
  pub after_is : after ≡ record state { own = Closed own answer ∷ state.own }

-- how far it is after a transcript
abbrev pub IsState : Begun → List Step → State → Type 0
IsState begun [] state = state ≡ began_at 0 beginning
IsState begun (Gave sent ∷ past) state = (before : State) × IsState begun past before × Gives begun (length (given past)) before sent state
IsState begun (Closed sent answer ∷ past) state = (before : State) × IsState begun past before × Takes before sent answer state

-- a stage is over, and none follows
abbrev pub IsOver : Begun → State → PassReport → Type 0
IsOver begun state report = (end : End) × stage.IsEnd (stage_of begun state.course.task) state.own end × Follows begun state.course end (Ends report)

abbrev pub NextAt : Begun → (count : ℕ) → State → Next → Type 0
NextAt begun count state (Hand sent) = (after : State) × Gives begun count state sent after
NextAt begun count state Wait = stage.IsNext (stage_of begun state.course.task) state.own Wait
NextAt begun count state Over = (report : PassReport) × IsOver begun state report

-- what comes after a transcript: a ticket is the number of messages before it
abbrev pub IsNext : Begun → List Step → Next → Type 0
IsNext begun past next = (state : State) × IsState begun past state × NextAt begun (length (given past)) state next

-- how a pass has ended
abbrev pub IsEnd : Begun → List Step → PassReport → Type 0
IsEnd begun past report = (state : State) × IsState begun past state × IsOver begun state report
