-- The machine of a delete: it goes to the primaries, and for each miss to a handoff.
use Rattle.std.specs.Prelude.{◌≡◌, ℕ, Bool, false, ◌||◌, if◌then◌else◌, nat_lt, List, [], ◌∷◌, ◌++◌, length, take, Option, Some, None}
use Rattle.sw_types.specs.Name.{NameModel}
use Rattle.sw_hashdir.specs.declared.floor.Floor.{Floor}
use Rattle.sw_hashpath.specs.Place.{PlaceModel}
use Rattle.sw_ring.specs.Cluster.{ClusterModel, KeepsRules, column_of, handoffs_of, place_of_name}
use Rattle.sw_message.specs.Floors.{highest}
use Rattle.sw_message.specs.Transcript.{Closed, Gave, Hand, Next, Over, Step, Wait}
use Rattle.sw_message.specs.declared.message.Msg.{Msg}
use Rattle.sw_message.specs.declared.message.Msg.TheVariants.{Delete}
use Rattle.sw_message.specs.declared.reply.Reply.{Reply}
use Rattle.sw_message.specs.declared.reply.Reply.TheVariants as reply
use Rattle.sw_message.specs.declared.sent.Sent.{Sent}
use Rattle.sw_quorum.specs.Answers.{Judged, answers, done, floors, missed}
use Rattle.sw_quorum.specs.Dues.{due_next}
use Rattle.sw_quorum.specs.Verdicts.{delete_verdict}
use Rattle.sw_delete.specs.declared.end.DeleteEnd.{DeleteEnd}
use Rattle.sw_delete.specs.declared.end.DeleteEnd.TheVariants as end

-- ---- what a delete is begun with

pub record Begun : Type 0 where
  pub cluster : ClusterModel
  pub stamp : ℕ
  pub name : NameModel

pub record IsBegun (begun : Begun) : Type 0 where
  pub rules : KeepsRules begun.cluster

abbrev pub place_of : Begun → PlaceModel
place_of begun = place_of_name begun.cluster begun.name

abbrev pub primaries : Begun → List ℕ
primaries begun = column_of begun.cluster (place_of begun).part

abbrev pub handoffs : Begun → List ℕ
handoffs begun = handoffs_of begun.cluster (place_of begun).part

-- ---- what answers mean

-- of which device
abbrev pub judge_delete : ℕ → Msg → Option Reply → List (Judged ℕ)
judge_delete device (Delete place stamp) answer = record { about = device; verdict = delete_verdict stamp answer } ∷ []
judge_delete device other answer = []

-- the answers, in the order in which they came
abbrev pub deletes : List Step → List (Judged ℕ)
deletes past = answers (λ sent answer. judge_delete sent.device sent.msg answer) past

-- some reply says that the floor was durable
abbrev pub says_existed : Option Reply → Bool
says_existed (Some (reply.Deleted existed)) = existed
says_existed other = false

abbrev pub existed_in : List Step → Bool
existed_in [] = false
existed_in (Gave sent ∷ past) = existed_in past
existed_in (Closed sent answer ∷ past) = existed_in past || says_existed answer

-- ---- the machine

-- where it has to go, in the order in which it is handed out: to each primary, and for each miss to the next handoff
abbrev pub due : Begun → List Step → List ℕ
due begun past = primaries begun ++ take (length (missed (deletes past))) (handoffs begun)

abbrev pub delete_message : Begun → ℕ → ℕ → Sent
delete_message begun ticket device = record { ticket = ticket; device = device; msg = Delete (place_of begun) begun.stamp }

-- what comes after a transcript
abbrev pub delete_next : Begun → List Step → Next
delete_next begun past = due_next (delete_message begun) (due begun past) past

abbrev pub IsNext : Begun → List Step → Next → Type 0
IsNext begun past next = delete_next begun past ≡ next

-- ---- how a delete ends

abbrev pub too_few_marks : List (Judged ℕ) → Option Floor → DeleteEnd
too_few_marks judged (Some floor) = end.Superseded floor
too_few_marks judged None = end.TooFewMarks (length (done judged)) (missed judged)

abbrev pub settled_end : Begun → List Step → DeleteEnd
settled_end begun past =
    if nat_lt (length (done (deletes past))) begun.cluster.policy.c then too_few_marks (deletes past) (highest (floors (deletes past)))
    else end.Deleted begun.stamp (length (done (deletes past))) (existed_in past)

abbrev pub end_at : Begun → List Step → Next → Option DeleteEnd
end_at begun past Over = Some (settled_end begun past)
end_at begun past Wait = None
end_at begun past (Hand sent) = None

-- how a delete has ended, if it has
abbrev pub delete_end : Begun → List Step → Option DeleteEnd
delete_end begun past = end_at begun past (delete_next begun past)
