-- The machine of a sync: it asks every device, and brings what its own has to the other primaries.
use Rattle.std.specs.Prelude.{◌≡◌, ℕ, ◌+◌, ◌-◌, ◌^◌, ◌<◌, ◌==◌, Bool, true, false, not, ◌&&◌, ◌||◌, if◌then◌else◌, min, nat_lt, List, [], ◌∷◌, ◌++◌, filter, find, flat_map, length, map, take, Option, Some, None, ⊤}
use Rattle.std.specs.List.{All, list_any}
use Rattle.sw_types.specs.Name.{NameModel}
use Rattle.sw_types.specs.Object.{ObjectModel}
use Rattle.sw_types.specs.Policy.{PolicyModel}
use Rattle.sw_hashpath.specs.Place.{IsPlace, PlaceModel}
use Rattle.sw_hashdir.specs.Listing.{ListingModel}
use Rattle.sw_hashdir.specs.declared.entry.Entry.{Entry}
use Rattle.sw_hashdir.specs.declared.floor.Floor.{Floor}
use Rattle.sw_hashdir.specs.declared.floor.FloorKind.{FloorKind}
use Rattle.sw_hashdir.specs.declared.floor.FloorKind.TheVariants.{Durable, Tombstone}
use Rattle.sw_archive.specs.Archive.{ArchiveModel, IsArchive}
use Rattle.sw_archive.specs.Assemble as assemble
use Rattle.sw_archive.specs.Assemble.{AreEnough, IsFurther}
use Rattle.sw_archive.specs.Put.{AreOfPut, IsPut, put_archive}
use Rattle.sw_ring.specs.Cluster.{ClusterModel, KeepsRules, column_of, handoffs_of}
use Rattle.sw_message.specs.Floors.{floors_in, highest, is_above}
use Rattle.sw_message.specs.Message.{is_primary}
use Rattle.sw_message.specs.Miss.{miss_of}
use Rattle.sw_message.specs.Spoil.{IsAsked, IsOfPlace, IsSpoil}
use Rattle.sw_message.specs.Transcript.{Closed, Gave, Hand, Next, Over, Step, Wait, given, is_waiting}
use Rattle.sw_message.specs.declared.message.Msg.{Msg}
use Rattle.sw_message.specs.declared.message.Msg.TheVariants as message
use Rattle.sw_message.specs.declared.miss.Miss.{Miss}
use Rattle.sw_message.specs.declared.miss.Miss.TheVariants as miss
use Rattle.sw_message.specs.declared.reply.Reply.{Reply}
use Rattle.sw_message.specs.declared.reply.Reply.TheVariants as reply
use Rattle.sw_message.specs.declared.sent.Sent.{Sent}
use Rattle.sw_message.specs.declared.spoil.Foreign.TheVariants as foreign
use Rattle.sw_message.specs.declared.spoil.Spoil.TheVariants as spoil
use Rattle.sw_message.specs.declared.target.Target.{Target}
use Rattle.sw_quorum.specs.Targets.{targets_from}
use Rattle.sw_quorum.specs.Verdicts.{commit_verdict, delete_verdict, store_verdict}
use Rattle.sw_quorum.specs.declared.verdict.Verdict.{Verdict}
use Rattle.sw_quorum.specs.declared.verdict.Verdict.TheVariants as verdict
use Rattle.sw_gather.specs.Choices.{choices_in, firsts, has_index, same_target}
use Rattle.sw_gather.specs.Gathered.{AreRight, Strays}
use Rattle.sw_sync.specs.Parts.{Burial, Heard, Repair}
use Rattle.sw_sync.specs.State.{State}
use Rattle.sw_sync.specs.declared.errand.Errand.{Errand}
use Rattle.sw_sync.specs.declared.errand.Errand.TheVariants.{Ask, Commit, Delete, Fetch, Store}
use Rattle.sw_sync.specs.declared.stage.Stage.{Stage}
use Rattle.sw_sync.specs.declared.stage.Stage.TheVariants.{Buries, Ends, Handoffs, Primaries, Repairs}
use Rattle.sw_sync.specs.declared.sync_end.Failure.{Failure}
use Rattle.sw_sync.specs.declared.sync_end.Failure.TheVariants.{Missed, Superseded}
use Rattle.sw_sync.specs.declared.sync_end.SyncEnd.{SyncEnd}
use Rattle.sw_sync.specs.declared.sync_end.SyncEnd.TheVariants.{Done, Newer, TooFew, Unanswered}

-- ---- what a sync is begun with

pub record Begun : Type 0 where
  pub cluster : ClusterModel
  pub device : ℕ
  pub place : PlaceModel

-- the device is a primary of the place
pub record IsBegun (begun : Begun) : Type 0 where
  pub rules : KeepsRules begun.cluster
  pub right : IsPlace begun.cluster.part_power begun.place
  pub primary : is_primary begun.cluster begun.device begun.place ≡ true

abbrev pub primaries : Begun → List ℕ
primaries begun = column_of begun.cluster begun.place.part

abbrev pub handoffs : Begun → List ℕ
handoffs begun = handoffs_of begun.cluster begun.place.part

abbrev pub total : Begun → ℕ
total begun = begun.cluster.policy.k + begun.cluster.policy.m

-- it begins with the handoffs, ascending
abbrev pub beginning : Begun → State
beginning begun = record { stage = Handoffs (record { lists = []; misses = [] }); due = map Ask (handoffs begun) }

-- ---- what answers lead to

-- a device was asked
abbrev pub heard_from : Heard → ℕ → Option Reply → Heard
heard_from heard device None = record heard { misses = heard.misses ++ (device, miss.NoReply) ∷ [] }
heard_from heard device (Some (reply.Held listing)) = record heard { lists = heard.lists ++ (device, listing) ∷ [] }
heard_from heard device (Some other) = record heard { misses = heard.misses ++ (device, miss_of other) ∷ [] }

-- a count, which stands still at its type's last value, after an answer
abbrev pub counted : ℕ → Verdict → ℕ
counted count verdict.Done = min (count + 1) (2 ^ 32 - 1)
counted count other = count

-- what a primary did not do
abbrev pub failed_by : ℕ → Verdict → List Failure
failed_by device verdict.Done = []
failed_by device (verdict.Forbidden floor) = Superseded device floor ∷ []
failed_by device (verdict.Missed miss) = Missed device miss ∷ []

-- the tombstone was sent to a primary
abbrev pub buried : Burial → ℕ → Verdict → Burial
buried burial device verdict = record burial { tombstones = counted burial.tombstones verdict; failed = burial.failed ++ failed_by device verdict }

-- an index is one of those that their primaries lack
abbrev pub is_lacking : Repair → ℕ → Bool
is_lacking repair index = list_any (has_index index) repair.lacking

-- an entry was to be made durable: one that was rebuilt, or one that was listed
abbrev pub committed_as : Bool → Repair → ℕ → Verdict → Repair
committed_as true repair device verdict = record repair { rebuilt = counted repair.rebuilt verdict; failed = repair.failed ++ failed_by device verdict }
committed_as false repair device verdict = record repair { commits = counted repair.commits verdict; failed = repair.failed ++ failed_by device verdict }

abbrev pub committed : Repair → Target → Verdict → Repair
committed repair target verdict = committed_as (is_lacking repair target.index) repair target.device verdict

-- a rebuilt archive was sent to its primary, which makes it durable next
abbrev pub stored : Repair → Target → Verdict → Repair
stored repair target verdict = record repair { failed = repair.failed ++ failed_by target.device verdict }

abbrev pub due_after : Target → Verdict → List Errand
due_after target verdict.Done = Commit target ∷ []
due_after target other = []

-- what the answer to a fetch means: it brings an archive, or is a miss
pub data Meaning : Type 0 where
  Brings : (archive : ArchiveModel) → Meaning
  Loses : (how : Miss) → Meaning

-- the bytes are the archive of an index that was asked for
abbrev pub IsWanted : ClusterModel → PlaceModel → (stamp index : ℕ) → List ℕ → ArchiveModel → Type 0
IsWanted cluster place stamp index bytes archive = IsArchive bytes archive × IsAsked (IsOfPlace cluster place) cluster.policy stamp index archive

-- an archive that was asked for means this, beside those that were brought before
abbrev pub IsJoined : PolicyModel → Repair → ArchiveModel → Meaning → Type 0
IsJoined policy repair archive (Brings same) = (same ≡ archive) × assemble.IsNext repair.archives archive × AreRight policy (repair.archives ++ archive ∷ [])
IsJoined policy repair archive (Loses (miss.Spoiled (spoil.Foreign foreign.Object))) = Strays policy repair.archives archive
IsJoined policy repair archive (Loses other) = ⊥

-- what the bytes that were fetched mean
abbrev pub IsRead : ClusterModel → PlaceModel → Repair → ℕ → List ℕ → Meaning → Type 0
IsRead cluster place repair index bytes (Brings archive) =
    IsWanted cluster place repair.stamp index bytes archive × assemble.IsNext repair.archives archive × AreRight cluster.policy (repair.archives ++ archive ∷ [])
IsRead cluster place repair index bytes (Loses (miss.Spoiled (spoil.Foreign foreign.Object))) =
    (archive : ArchiveModel) × IsWanted cluster place repair.stamp index bytes archive × Strays cluster.policy repair.archives archive
IsRead cluster place repair index bytes (Loses (miss.Spoiled other)) = IsSpoil cluster place repair.stamp index bytes other
IsRead cluster place repair index bytes (Loses other) = ⊥

abbrev pub IsFetched : ClusterModel → PlaceModel → Repair → ℕ → Option Reply → Meaning → Type 0
IsFetched cluster place repair index None meaning = meaning ≡ Loses miss.NoReply
IsFetched cluster place repair index (Some (reply.Fragment bytes)) meaning = IsRead cluster place repair index bytes meaning
IsFetched cluster place repair index (Some (reply.Gone listing)) meaning = meaning ≡ Loses miss.Gone
IsFetched cluster place repair index (Some other) meaning = meaning ≡ Loses (miss_of other)

-- an archive was brought; with the k-th one each primary that lacks its archive is due to be sent it
abbrev pub brought : Repair → ArchiveModel → Repair
brought repair archive = record repair { archives = repair.archives ++ archive ∷ [] }

abbrev pub due_brought : ℕ → Repair → List Errand
due_brought k repair = if length repair.archives == k then map Store repair.lacking else []

-- a source that was not lost has brought its archive, or is to do so
abbrev pub is_live : List Target → Target → Bool
is_live lost source = not (list_any (same_target source) lost)

-- a source was not tried, and none that is live has its index
abbrev pub is_free : Repair → Target → Bool
is_free repair source =
    not (list_any (same_target source) repair.tried) && not (list_any (λ (other : Target). has_index source.index other && is_live repair.lost other) repair.tried)

-- a source was lost, and the first that is free is tried in its place
abbrev pub lost : Repair → Target → Miss → Repair
lost repair source how = record repair { lost = repair.lost ++ source ∷ []; misses = repair.misses ++ (source.device, how) ∷ [] }

abbrev pub retried : Repair → Option Target → Repair
retried repair None = repair
retried repair (Some source) = record repair { tried = repair.tried ++ source ∷ [] }

abbrev pub due_retried : Option Target → List Errand
due_retried None = []
due_retried (Some source) = Fetch source ∷ []

abbrev pub free_in : Repair → Option Target
free_in repair = find (is_free repair) repair.choices

abbrev pub fetched : Repair → Target → Meaning → Repair
fetched repair source (Brings archive) = brought repair archive
fetched repair source (Loses how) = retried (lost repair source how) (free_in (lost repair source how))

abbrev pub due_fetched : ℕ → Repair → Target → Meaning → List Errand
due_fetched k repair source (Brings archive) = due_brought k (brought repair archive)
due_fetched k repair source (Loses how) = due_retried (free_in (lost repair source how))

-- what an answer about an errand leads to: the stage that follows, and what is due besides
abbrev pub HearsRepair : ClusterModel → PlaceModel → Repair → Errand → Option Reply → Repair → List Errand → Type 0
HearsRepair cluster place repair (Commit target) answer after due = (after ≡ committed repair target (commit_verdict repair.stamp answer)) × (due ≡ [])
HearsRepair cluster place repair (Store target) answer after due =
    (after ≡ stored repair target (store_verdict repair.stamp answer)) × (due ≡ due_after target (store_verdict repair.stamp answer))
HearsRepair cluster place repair (Fetch source) answer after due = (meaning : Meaning) × IsFetched cluster place repair source.index answer meaning
    × (after ≡ fetched repair source meaning) × (due ≡ due_fetched cluster.policy.k repair source meaning)
HearsRepair cluster place repair other answer after due = (after ≡ repair) × (due ≡ [])

abbrev pub Hears : ClusterModel → PlaceModel → Stage → Errand → Option Reply → Stage → List Errand → Type 0
Hears cluster place (Handoffs heard) (Ask device) answer after due = (after ≡ Handoffs (heard_from heard device answer)) × (due ≡ [])
Hears cluster place (Primaries heard) (Ask device) answer after due = (after ≡ Primaries (heard_from heard device answer)) × (due ≡ [])
Hears cluster place (Buries burial) (Delete device) answer after due = (after ≡ Buries (buried burial device (delete_verdict burial.stamp answer))) × (due ≡ [])
Hears cluster place (Repairs repair) errand answer after due = (next : Repair) × HearsRepair cluster place repair errand answer next due × (after ≡ Repairs next)
Hears cluster place stage errand answer after due = (after ≡ stage) × (due ≡ [])

-- ---- what devices show

abbrev pub of_device : {A : Type 0} → ℕ → ℕ × A → Bool
of_device device one = one.0 == device

abbrev pub listing_in : Option (ℕ × ListingModel) → Option ListingModel
listing_in None = None
listing_in (Some one) = Some one.1

-- what a device lists, if it answered
abbrev pub listing_of : List (ℕ × ListingModel) → ℕ → Option ListingModel
listing_of lists device = listing_in (find (of_device device) lists)

-- the greatest floor of a listing, and of all that are listed
abbrev pub floor_of : ListingModel → Option Floor
floor_of listing = highest (floors_in listing)

abbrev pub greatest_of : List (ℕ × ListingModel) → Option Floor
greatest_of lists = highest (flat_map (λ (one : ℕ × ListingModel). floors_in one.1) lists)

-- a floor is above that of a listing, or the listing has none
abbrev pub is_over : Floor → Option Floor → Bool
is_over floor None = true
is_over floor (Some other) = is_above floor other

abbrev pub lists_below : Floor → Option ListingModel → Bool
lists_below floor None = false
lists_below floor (Some listing) = is_over floor (floor_of listing)

abbrev pub is_entry : ℕ → Target → Entry → Bool
is_entry stamp target entry = entry.stamp == stamp && entry.index == target.index

abbrev pub is_durable_entry : ℕ → Target → Entry → Bool
is_durable_entry stamp target entry = entry.durable && is_entry stamp target entry

-- a listing has the entry of an index, but not durable; or it has none
abbrev pub has_plain : ℕ → Target → Option ListingModel → Bool
has_plain stamp target None = false
has_plain stamp target (Some listing) = list_any (is_entry stamp target) listing.entries && not (list_any (is_durable_entry stamp target) listing.entries)

abbrev pub has_none : ℕ → Target → Option ListingModel → Bool
has_none stamp target None = false
has_none stamp target (Some listing) = not (list_any (is_entry stamp target) listing.entries)

-- the primary of an index lists its entry, but not durable; or it lists none of the index
abbrev pub shows_plain : ℕ → List (ℕ × ListingModel) → Target → Bool
shows_plain stamp lists target = has_plain stamp target (listing_of lists target.device)

abbrev pub shows_none : ℕ → List (ℕ × ListingModel) → Target → Bool
shows_none stamp lists target = has_none stamp target (listing_of lists target.device)

-- ---- once every device has answered or was given up

-- it is over
abbrev pub over : SyncEnd → State
over end = record { stage = Ends end; due = [] }

abbrev pub is_empty : {A : Type 0} → List A → Bool
is_empty [] = true
is_empty (x ∷ xs) = false

-- the primaries that missed as they were asked
abbrev pub is_of : List ℕ → ℕ × Miss → Bool
is_of devices one = list_any (λ (device : ℕ). device == one.0) devices

abbrev pub as_failure : ℕ × Miss → Failure
as_failure one = Missed one.0 one.1

abbrev pub failed_asks : List ℕ → List (ℕ × Miss) → List Failure
failed_asks devices misses = map as_failure (filter (is_of devices) misses)

abbrev pub have : ℕ → Repair → ℕ
have k repair = if nat_lt repair.listed k then repair.listed else length repair.archives

-- no primary lacks its archive, or k were brought to rebuild it from
abbrev pub is_repaired : ℕ → Repair → Bool
is_repaired k repair = is_empty repair.lacking || length repair.archives == k

abbrev pub repair_end : ℕ → Repair → SyncEnd
repair_end k repair = if is_repaired k repair then Done repair.commits repair.rebuilt 0 repair.failed else TooFew repair.stamp (have k repair) repair.misses

-- once nothing is due and nothing is open, these stages are over
abbrev pub closed : ℕ → Stage → State
closed k (Buries burial) = over (Done 0 0 burial.tombstones burial.failed)
closed k (Repairs repair) = over (repair_end k repair)
closed k other = record { stage = other; due = [] }

abbrev pub closed_if : ℕ → State → State
closed_if k state = if is_empty state.due then closed k state.stage else state

-- the tombstone goes to each primary that lists a smaller floor, or none
abbrev pub burial_of : List ℕ → Heard → ℕ → State
burial_of devices heard stamp = record {
  stage = Buries (record { stamp = stamp; tombstones = 0; failed = failed_asks devices heard.misses });
  due = map Delete (filter (λ (device : ℕ). lists_below (record { stamp = stamp; kind = Tombstone }) (listing_of heard.lists device)) devices);
}

-- sources are tried where some primary lacks its archive and k indices are listed: the first of each of the least k indices
abbrev pub first_tried : ℕ → List Target → List Target → List Target
first_tried k lacking choices = if is_empty lacking || nat_lt (length choices) k then [] else take k choices

-- each entry that its primary lists plain is made durable, and archives are fetched for those that are lacking
abbrev pub repair_from : (k listed : ℕ) → List ℕ → Heard → ℕ → (lacking choices first : List Target) → Repair
repair_from k listed devices heard stamp lacking choices first = record {
  stamp = stamp;
  lacking = lacking;
  choices = choices;
  listed = listed;
  tried = first_tried k lacking first;
  lost = [];
  archives = [];
  misses = heard.misses;
  commits = 0;
  rebuilt = 0;
  failed = failed_asks devices heard.misses;
}

abbrev pub repair_with : (k total : ℕ) → List ℕ → Heard → ℕ → Repair
repair_with k total devices heard stamp =
    let choices = choices_in total stamp heard.lists in
    repair_from k (min (length (firsts choices)) k) devices heard stamp (filter (shows_none stamp heard.lists) (targets_from 0 devices)) choices (firsts choices)

abbrev pub repair_of : (k total : ℕ) → List ℕ → Heard → ℕ → State
repair_of k total devices heard stamp = record {
  stage = Repairs (repair_with k total devices heard stamp);
  due = map Commit (filter (shows_plain stamp heard.lists) (targets_from 0 devices)) ++ map Fetch (repair_with k total devices heard stamp).tried;
}

abbrev pub plan_for : (k total : ℕ) → List ℕ → Heard → Floor → FloorKind → State
plan_for k total devices heard floor Tombstone = closed_if k (burial_of devices heard floor.stamp)
plan_for k total devices heard floor Durable = closed_if k (repair_of k total devices heard floor.stamp)

-- by the greatest floor of all
abbrev pub plan_by : (k total : ℕ) → List ℕ → Heard → Floor → Option Floor → State
plan_by k total devices heard floor None = plan_for k total devices heard floor floor.kind
plan_by k total devices heard floor (Some best) = if is_above best floor then over (Newer best) else plan_for k total devices heard floor floor.kind

-- by the own floor
abbrev pub plan_own : (k total : ℕ) → List ℕ → Heard → Option Floor → State
plan_own k total devices heard None = over (Done 0 0 0 [])
plan_own k total devices heard (Some floor) = plan_by k total devices heard floor (greatest_of heard.lists)

abbrev pub plan_with : (k total own : ℕ) → List ℕ → Heard → Option ListingModel → State
plan_with k total own devices heard None = over (Unanswered own)
plan_with k total own devices heard (Some listing) = plan_own k total devices heard (floor_of listing)

-- what a sync does, by what its devices list
abbrev pub plan : Begun → Heard → State
plan begun heard = plan_with begun.cluster.policy.k (total begun) begun.device (primaries begun) heard (listing_of heard.lists begun.device)

-- once nothing is due and nothing is open: the primaries are asked, in the order of their indices; then it is known what is to be done;
-- and then it is over
abbrev pub advanced : Begun → Stage → State
advanced begun (Handoffs heard) = record { stage = Primaries heard; due = map Ask (primaries begun) }
advanced begun (Primaries heard) = plan begun heard
advanced begun other = closed begun.cluster.policy.k other

abbrev pub settled : Begun → (waiting : Bool) → State → State
settled begun waiting state = if is_empty state.due && not waiting then advanced begun state.stage else state

-- ---- the machine

-- the errand that a message is about
abbrev pub errand_of : ℕ → Msg → Option Errand
errand_of device (message.Ask place) = Some (Ask device)
errand_of device (message.Delete place stamp) = Some (Delete device)
errand_of device (message.Fetch place stamp index) = Some (Fetch (record { index = index; device = device }))
errand_of device (message.PutFrag place stamp index bytes) = Some (Store (record { index = index; device = device }))
errand_of device (message.Commit place stamp index) = Some (Commit (record { index = index; device = device }))
errand_of device other = None

-- the bytes are the archive of an index, rebuilt from these
pub record IsRebuilt (archives : List ArchiveModel) (index : ℕ) (bytes : List ℕ) : Type 0 where
  pub further : IsFurther archives index bytes
  pub put : (policy : PolicyModel) (stamp : ℕ) (name : NameModel) (object : ObjectModel) → IsPut policy stamp name object → AreOfPut policy stamp name object archives
      → bytes ≡ put_archive policy stamp name object index

-- what is due fits the stage; an archive is rebuilt from k of its code
abbrev pub Fits : Stage → Errand → Type 0
Fits stage (Ask device) = ⊤
Fits (Buries burial) (Delete device) = ⊤
Fits (Repairs repair) (Fetch source) = ⊤
Fits (Repairs repair) (Commit target) = ⊤
Fits (Repairs repair) (Store target) = AreEnough repair.archives × All (λ archive. target.index < archive.k + archive.m) repair.archives
Fits stage errand = ⊥

-- the message of an errand in a stage
abbrev pub IsMessage : Begun → Stage → Errand → (device : ℕ) → Msg → Type 0
IsMessage begun stage (Ask asked) device msg = (device ≡ asked) × (msg ≡ message.Ask begun.place)
IsMessage begun (Buries burial) (Delete primary) device msg = (device ≡ primary) × (msg ≡ message.Delete begun.place burial.stamp)
IsMessage begun (Repairs repair) (Fetch source) device msg = (device ≡ source.device) × (msg ≡ message.Fetch begun.place repair.stamp source.index)
IsMessage begun (Repairs repair) (Commit target) device msg = (device ≡ target.device) × (msg ≡ message.Commit begun.place repair.stamp target.index)
IsMessage begun (Repairs repair) (Store target) device msg =
    (bytes : List ℕ) × IsRebuilt repair.archives target.index bytes × (device ≡ target.device) × (msg ≡ message.PutFrag begun.place repair.stamp target.index bytes)
IsMessage begun stage errand device msg = ⊥

-- the first errand that is due is handed out
pub record Hands (begun : Begun) (before : State) (sent : Sent) (after : State) : Type 0 where
  pub errand : Errand
  pub later : List Errand
  pub first : before.due ≡ errand ∷ later
  pub message : IsMessage begun before.stage errand sent.device sent.msg
  pub after_is : after ≡ record before { due = later }

-- an answer to a message is heard
pub record Takes (begun : Begun) (before : State) (sent : Sent) (answer : Option Reply) (after : State) : Type 0 where
  pub errand : Errand
  pub about : errand_of sent.device sent.msg ≡ Some errand
  pub stage : Stage
  pub more : List Errand
  pub hears : Hears begun.cluster begun.place before.stage errand answer stage more
  pub after_is : after ≡ record { stage = stage; due = before.due ++ more }

-- how far it is after a transcript
abbrev pub IsState : Begun → List Step → State → Type 0
IsState begun [] state = state ≡ settled begun false (beginning begun)
IsState begun (Gave sent ∷ past) state = (before : State) × IsState begun past before × Hands begun before sent state
IsState begun (Closed sent answer ∷ past) state =
    (before : State) × IsState begun past before × (after : State) × Takes begun before sent answer after × (state ≡ settled begun (is_waiting (Closed sent answer ∷ past)) after)

abbrev pub next_of : Bool → Next
next_of true = Wait
next_of false = Over

-- what comes after a transcript: its ticket is the number of those before it
abbrev pub NextAt : Begun → List Step → State → Next → Type 0
NextAt begun past state (Hand sent) = (sent.ticket ≡ length (given past)) × (after : State) × Hands begun state sent after
NextAt begun past state next = (state.due ≡ []) × (next ≡ next_of (is_waiting past))

abbrev pub IsNext : Begun → List Step → Next → Type 0
IsNext begun past next = (state : State) × IsState begun past state × NextAt begun past state next

-- how a sync has ended
abbrev pub IsEnd : Begun → List Step → SyncEnd → Type 0
IsEnd begun past end = (is_waiting past ≡ false) × (state : State) × IsState begun past state × (state.stage ≡ Ends end)
