-- How the handling of a message ended: its answer, and the count of faults.
use Rattle.std.proofs.Common.{◌≡◌, ◌≢◌, inl, inr, ℕ, Bool, true, false, Contains, List, [], ◌∷◌, Some, Result, Ok, Err, OnOk, refl, sym, ap, subst}
use Rattle.sw_words.specs.Counts.{one_more}
use Rattle.sw_disk.specs.Calls.{Call, ListNames}
use Rattle.sw_disk.specs.Runs.{Past, Seen}
use Rattle.sw_disk.specs.declared.refusal.DiskRefusal.{DiskRefusal}
use Rattle.sw_disk.specs.declared.refusal.DiskRefusal.TheVariants as refusal
use Rattle.sw_hashpath.specs.Place.{PlaceModel}
use Rattle.sw_hashdir.specs.declared.floor.Floor.{Floor}
use Rattle.sw_diskfile.specs.Names.{RunsUnlessMemory}
use Rattle.sw_message.specs.Survey.{survey_calls}
use Rattle.sw_message.specs.Table.{Found, Handling}
use Rattle.sw_message.specs.declared.message.Msg.{Msg}
use Rattle.sw_message.specs.declared.reply.Reply.{Reply}
use Rattle.sw_message.specs.declared.reply.Reply.TheVariants.{DiskFault}
use Rattle.sw_objsrv.specs.Handling.{AreKept, Handles, HandlesSurvey, IsAnswer, StopsAt, StopsSurvey, reply_of}
use Rattle.sw_objsrv.proofs.SurveyStep.{survey_answers}

abbrev pub Ended : Seen → Seen → Result Reply DiskRefusal → Type 0
Ended old new (Ok reply) = IsAnswer reply × (new.faults ≡ old.faults)
Ended old new (Err refusal.Failed) = new.faults ≡ one_more old.faults
Ended old new (Err (refusal.Full need free)) = new.faults ≡ old.faults
Ended old new (Err refusal.NoMemory) = new.faults ≡ old.faults

module _ {D : Type 0} (seen : D → Seen) (left_since : D → Past) (a b : D) where
  memory_quiet : (calls : List Call) → RunsUnlessMemory seen left_since calls (Some refusal.NoMemory) a b → (seen b).faults ≡ (seen a).faults
  memory_quiet calls (inl run) = run.quiet (λ is. cc)
  memory_quiet calls (inr run) = run.1.quiet (λ is. cc)

  pub stopped_ended : (calls : List Call) (result : Result Reply DiskRefusal) → StopsAt seen left_since calls result a b → Ended (seen a) (seen b) result
  stopped_ended calls (Ok reply) stopped = absurd stopped
  stopped_ended calls (Err refusal.Failed) stopped = stopped.failed refl
  stopped_ended calls (Err (refusal.Full need free)) stopped = absurd stopped
  stopped_ended calls (Err refusal.NoMemory) stopped = memory_quiet calls stopped

  pub placed_ended : (folder : List ℕ) (Row : Found → Handling → Type 0) (result : Result Reply DiskRefusal) → Handles seen left_since folder Row result a b → Ended (seen a) (seen b) result
  placed_ended folder Row (Ok reply) (inl early) = absurd early
  placed_ended folder Row (Ok reply) (inr follows) = (follows.runs.0, follows.runs.2.quiet (λ is. cc))
  placed_ended folder Row (Err refusal.Failed) (inl early) = early.failed refl
  placed_ended folder Row (Err refusal.Failed) (inr follows) = follows.runs.0.failed refl
  placed_ended folder Row (Err (refusal.Full need free)) (inl early) = absurd early
  placed_ended folder Row (Err (refusal.Full need free)) (inr follows) = follows.runs.1.quiet (λ is. cc)
  placed_ended folder Row (Err refusal.NoMemory) (inl early) = memory_quiet (ListNames folder ∷ []) early
  placed_ended folder Row (Err refusal.NoMemory) (inr follows) = follows.runs.1.quiet (λ is. cc)

  ended_survey : (calls : List Call) (reason : DiskRefusal) → StopsSurvey seen left_since calls reason a b → Ended (seen a) (seen b) (Err reason)
  ended_survey [] reason want = subst (λ (r : DiskRefusal). Ended (seen a) (seen b) (Err r)) (sym want.0) (ap (λ (disk : D). (seen disk).faults) want.1)
  ended_survey (call ∷ calls) reason stopped = stopped_ended (call ∷ calls) (Err reason) stopped

  pub survey_ended : (power : ℕ) (floors : List (PlaceModel × Floor)) (message : Msg) (result : Result Reply DiskRefusal) → HandlesSurvey seen left_since power floors message result a b → Ended (seen a) (seen b) result
  survey_ended power floors message (Ok reply) surveys = (survey_answers power (Contains surveys.listed) (AreKept power floors) message reply surveys.surveyed, surveys.runs.quiet (λ is. cc))
  survey_ended power floors message (Err reason) stopped = ended_survey (survey_calls message) reason stopped

-- ---- the reply

-- whether it failed
abbrev pub has_failed : Result Reply DiskRefusal → Bool
has_failed (Err refusal.Failed) = true
has_failed other = false

module _ (old new : Seen) where
  no_fault : (reply : Reply) → IsAnswer reply → reply ≡ DiskFault → ⊥
  no_fault reply answer is = subst IsAnswer is answer

  pub fault_fails : (result : Result Reply DiskRefusal) → Ended old new result → reply_of result ≡ DiskFault → has_failed result ≡ true
  fault_fails (Ok reply) ended is = absurd (no_fault reply ended.0 is)
  fault_fails (Err refusal.Failed) ended is = refl
  fault_fails (Err (refusal.Full need free)) ended is = absurd (cc)
  fault_fails (Err refusal.NoMemory) ended is = absurd (cc)

  pub failed_counts : (result : Result Reply DiskRefusal) → Ended old new result → reply_of result ≡ DiskFault → new.faults ≡ one_more old.faults
  failed_counts (Ok reply) ended is = absurd (no_fault reply ended.0 is)
  failed_counts (Err refusal.Failed) ended is = ended
  failed_counts (Err (refusal.Full need free)) ended is = absurd (cc)
  failed_counts (Err refusal.NoMemory) ended is = absurd (cc)

  pub other_quiet : (result : Result Reply DiskRefusal) → Ended old new result → reply_of result ≢ DiskFault → new.faults ≡ old.faults
  other_quiet (Ok reply) ended other = ended.1
  other_quiet (Err refusal.Failed) ended other = absurd (other refl)
  other_quiet (Err (refusal.Full need free)) ended other = ended
  other_quiet (Err refusal.NoMemory) ended other = ended

pub fails_fault : (result : Result Reply DiskRefusal) → has_failed result ≡ true → reply_of result ≡ DiskFault
fails_fault (Ok reply) is = absurd (cc)
fails_fault (Err refusal.Failed) is = refl
fails_fault (Err (refusal.Full need free)) is = absurd (cc)
fails_fault (Err refusal.NoMemory) is = absurd (cc)

-- what follows where all was done
pub ok_from : {T : Type 0} (result : Result T DiskRefusal) (P Q R : Type 0) → OnOk result P → OnOk result Q → (P → Q → R) → OnOk result R
ok_from (Ok value) P Q R first second more = more first second
ok_from (Err reason) P Q R first second more = tt
