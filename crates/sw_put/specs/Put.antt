-- The machine of a put: fragments go to the primaries, and for each miss to a handoff; once enough are stored, commits go where they are.
use Rattle.std.specs.Prelude.{◌≡◌, ℕ, Bool, not, ◌&&◌, ◌||◌, if◌then◌else◌, nat_lt, List, [], ◌∷◌, ◌++◌, length, map, is_some, Option, Some, None}
use Rattle.sw_types.specs.Name.{NameModel}
use Rattle.sw_types.specs.Object.{ObjectModel}
use Rattle.sw_hashdir.specs.declared.floor.Floor.{Floor}
use Rattle.sw_hashpath.specs.Place.{PlaceModel}
use Rattle.sw_archive.specs.Put.{put_archive}
use Rattle.sw_ring.specs.Cluster.{ClusterModel, KeepsRules, column_of, handoffs_of, place_of_name}
use Rattle.sw_message.specs.Floors.{highest}
use Rattle.sw_message.specs.Targets.{ascending}
use Rattle.sw_message.specs.Transcript.{Next, Over, Hand, Step, Wait}
use Rattle.sw_message.specs.declared.message.Msg.{Msg}
use Rattle.sw_message.specs.declared.message.Msg.TheVariants as message
use Rattle.sw_message.specs.declared.miss.Miss.{Miss}
use Rattle.sw_message.specs.declared.reply.Reply.{Reply}
use Rattle.sw_message.specs.declared.sent.Sent.{Sent}
use Rattle.sw_message.specs.declared.target.Target.{Target}
use Rattle.sw_quorum.specs.Answers.{Judged, answers, done, floors, missed}
use Rattle.sw_quorum.specs.Dues.{due_next}
use Rattle.sw_quorum.specs.Targets.{targets_from}
use Rattle.sw_quorum.specs.Verdicts.{commit_verdict, store_verdict}
use Rattle.sw_put.specs.declared.errand.Errand.{Errand}
use Rattle.sw_put.specs.declared.errand.Errand.TheVariants.{CommitAt, StoreAt}
use Rattle.sw_put.specs.declared.end.PutEnd.{PutEnd}
use Rattle.sw_put.specs.declared.end.PutEnd.TheVariants.{Created, Superseded, TooFewCommits, TooFewSynced}

-- ---- what a put is begun with

pub record Begun : Type 0 where
  pub cluster : ClusterModel
  pub stamp : ℕ
  pub name : NameModel
  pub object : ObjectModel

pub record IsBegun (begun : Begun) : Type 0 where
  pub rules : KeepsRules begun.cluster

abbrev pub place_of : Begun → PlaceModel
place_of begun = place_of_name begun.cluster begun.name

abbrev pub primaries : Begun → List ℕ
primaries begun = column_of begun.cluster (place_of begun).part

abbrev pub handoffs : Begun → List ℕ
handoffs begun = handoffs_of begun.cluster (place_of begun).part

-- ---- what answers mean

-- of which index, at which device
abbrev pub judge_store : ℕ → Msg → Option Reply → List (Judged Target)
judge_store device (message.PutFrag place stamp index bytes) answer = record { about = record { index = index; device = device }; verdict = store_verdict stamp answer } ∷ []
judge_store device other answer = []

abbrev pub judge_commit : ℕ → Msg → Option Reply → List (Judged Target)
judge_commit device (message.Commit place stamp index) answer = record { about = record { index = index; device = device }; verdict = commit_verdict stamp answer } ∷ []
judge_commit device other answer = []

-- the answers to fragments and to commits, in the order in which they came
abbrev pub stores : List Step → List (Judged Target)
stores past = answers (λ sent answer. judge_store sent.device sent.msg answer) past

abbrev pub commits : List Step → List (Judged Target)
commits past = answers (λ sent answer. judge_commit sent.device sent.msg answer) past

-- ---- the machine

-- the index of each miss, in the order of their answers, at the next handoff while there is one
abbrev pub replacements : List (Target × Miss) → List ℕ → List Target
replacements [] handoffs = []
replacements (miss ∷ misses) [] = []
replacements (miss ∷ misses) (handoff ∷ handoffs) = record { index = miss.0.index; device = handoff } ∷ replacements misses handoffs

-- where fragments have to go, in the order in which they are handed out
abbrev pub stores_due : Begun → List Step → List Target
stores_due begun past = targets_from 0 (primaries begun) ++ replacements (missed (stores past)) (handoffs begun)

-- each of them was answered or given up
abbrev pub are_settled : Begun → List Step → Bool
are_settled begun past = not (nat_lt (length (stores past)) (length (stores_due begun past)))

-- a floor forbids one, or fewer than q are stored
abbrev pub are_refused : Begun → List Step → Bool
are_refused begun past = is_some (highest (floors (stores past))) || nat_lt (length (done (stores past))) begun.cluster.policy.q

-- where commits have to go: once no fragment is left, where enough are stored, by index
abbrev pub commits_due : Begun → List Step → List Target
commits_due begun past = if are_settled begun past && not (are_refused begun past) then ascending (done (stores past)) else []

-- all that has to be handed out, in its order
abbrev pub due : Begun → List Step → List Errand
due begun past = map StoreAt (stores_due begun past) ++ map CommitAt (commits_due begun past)

abbrev pub put_message : Begun → ℕ → Errand → Sent
put_message begun ticket (StoreAt target) = record {
  ticket = ticket;
  device = target.device;
  msg = message.PutFrag (place_of begun) begun.stamp target.index (put_archive begun.cluster.policy begun.stamp begun.name begun.object target.index);
}
put_message begun ticket (CommitAt target) = record { ticket = ticket; device = target.device; msg = message.Commit (place_of begun) begun.stamp target.index }

-- what comes after a transcript
abbrev pub put_next : Begun → List Step → Next
put_next begun past = due_next (put_message begun) (due begun past) past

abbrev pub IsNext : Begun → List Step → Next → Type 0
IsNext begun past next = put_next begun past ≡ next

-- ---- how a put ends

-- each miss, with its device
abbrev pub misses : List (Judged Target) → List (ℕ × Miss)
misses judged = map (λ (one : Target × Miss). (one.0.device, one.1)) (missed judged)

abbrev pub too_few_commits : List (Judged Target) → Option Floor → PutEnd
too_few_commits judged (Some floor) = Superseded floor
too_few_commits judged None = TooFewCommits (length (done judged)) (misses judged)

abbrev pub committed_end : Begun → List (Judged Target) → PutEnd
committed_end begun judged =
    if nat_lt (length (done judged)) begun.cluster.policy.c then too_few_commits judged (highest (floors judged)) else Created begun.stamp (length (done judged))

abbrev pub settled_end : Begun → List Step → Option Floor → PutEnd
settled_end begun past (Some floor) = Superseded floor
settled_end begun past None =
    if nat_lt (length (done (stores past))) begun.cluster.policy.q then TooFewSynced (length (done (stores past))) (misses (stores past)) else committed_end begun (commits past)

abbrev pub end_at : Begun → List Step → Next → Option PutEnd
end_at begun past Over = Some (settled_end begun past (highest (floors (stores past))))
end_at begun past Wait = None
end_at begun past (Hand sent) = None

-- how a put has ended, if it has
abbrev pub put_end : Begun → List Step → Option PutEnd
put_end begun past = end_at begun past (put_next begun past)
