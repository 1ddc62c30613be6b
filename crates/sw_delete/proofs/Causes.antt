-- What every transcript of a delete tells of its causes.
use Rattle.std.proofs.Common.{◌≡◌, inl, inr, ℕ, zero, suc, Bool, true, List, [], ◌∷◌, ◌++◌, Contains, Option, Some, None, length, take, refl, sym, ap, subst, ◌∙◌, arith}
use Rattle.std.specs.List.{All, slice_get}
use Rattle.std.proofs.lemmas.Bool.{or_cases, or_left, or_right}
use Rattle.std.proofs.lemmas.List.Elements.{All-append, All-contains_itself, All-get_or, All-nil, All-take, All-weaker, Contains-push}
use Rattle.std.proofs.lemmas.Option.{get_or_from_slice_get, slice_get_within}
use Rattle.sw_hashdir.specs.declared.floor.Floor.{Floor}
use Rattle.sw_ring.proofs.Among.{Contains-cons}
use Rattle.sw_message.specs.Floors.{refuses}
use Rattle.sw_message.specs.Transcript.{Closed, Gave, IsRun, Step}
use Rattle.sw_message.specs.declared.miss.Miss.{Miss}
use Rattle.sw_message.specs.declared.reply.Reply.{Reply}
use Rattle.sw_message.specs.declared.reply.Reply.TheVariants as reply
use Rattle.sw_message.specs.declared.sent.Sent.{Sent}
use Rattle.sw_quorum.specs.Answers.{done, floors, floors_from, forbidden_if, missed}
use Rattle.sw_quorum.proofs.Laws.{done-each, floor-stays, floors-each, floors-more, missed-each}
use Rattle.sw_quorum.proofs.Refusals.{IsRefusal, not-done, refusal}
use Rattle.sw_quorum.specs.declared.verdict.Verdict.TheVariants.{Done, Forbidden}
use Rattle.sw_delete.specs.Causes.{IsPlaced, ToldExisted, WasMarked, WasMissed, WasTold}
use Rattle.sw_delete.specs.Delete.{Begun, IsNext, delete_message, deletes, due, existed_in, handoffs, judge_delete, primaries, says_existed}
use Rattle.sw_quorum.specs.Verdicts.{delete_verdict}
use Rattle.sw_delete.proofs.Transcripts.{open-delete}

-- ---- what verdicts are of

refused : (stamp : ℕ) (answer : Option Reply) (floor : Floor) → delete_verdict stamp answer ≡ Forbidden floor → IsRefusal (λ floor. refuses floor stamp) answer floor
refused stamp None floor is = absurd (cc)
refused stamp (Some (reply.Deleted existed)) floor is = absurd (cc)
refused stamp (Some (reply.Superseded told)) floor is = refusal (λ floor. refuses floor stamp) told floor is
refused stamp (Some other) floor is = absurd (cc)

-- a delete was done only where the reply says so
done-by : (stamp : ℕ) (answer : Option Reply) → delete_verdict stamp answer ≡ Done → (existed : Bool) × (answer ≡ Some (reply.Deleted existed))
done-by stamp None is = absurd (cc)
done-by stamp (Some (reply.Deleted existed)) is = (existed, refl)
done-by stamp (Some (reply.Superseded floor)) is = absurd (not-done (refuses floor stamp) floor is)
done-by stamp (Some other) is = absurd (cc)

-- ---- whether the object was there

deleted-by : (answer : Option Reply) → says_existed answer ≡ true → answer ≡ Some (reply.Deleted true)
deleted-by None is = absurd (cc)
deleted-by (Some (reply.Deleted existed)) is = ap (λ b. Some (reply.Deleted b)) is
deleted-by (Some other) is = absurd (cc)

pub existed-told : (past : List Step) → existed_in past ≡ true → ToldExisted past
existed-told [] is = absurd (cc)
existed-told (Gave sent ∷ past) is = let told = existed-told past is in (told.0, Contains-cons (Closed told.0 (Some (reply.Deleted true))) (Gave sent) past told.1)
existed-told (Closed sent answer ∷ past) is = elim (or_cases (existed_in past) (says_existed answer) is) [
  | inl before ↦ let told = existed-told past before in (told.0, Contains-cons (Closed told.0 (Some (reply.Deleted true))) (Closed sent answer) past told.1)
  | inr now ↦ (sent, (zero, omega arith, ap (λ answer. Closed sent answer) (deleted-by answer now)))
]

pub told-existed : (past : List Step) → ToldExisted past → existed_in past ≡ true
told-existed [] (sent, (k, within, is)) = absurd (omega (arith, within))
told-existed (Gave other ∷ past) (sent, (zero, within, is)) = absurd (cc)
told-existed (Gave other ∷ past) (sent, (suc k, within, is)) = told-existed past (sent, (k, omega (arith, within), is))
told-existed (Closed other answer ∷ past) (sent, (zero, within, is)) =
    let same : answer ≡ Some (reply.Deleted true) = cc in
    or_right (existed_in past) (says_existed answer) (ap says_existed same)
told-existed (Closed other answer ∷ past) (sent, (suc k, within, is)) = or_left (existed_in past) (says_existed answer) (told-existed past (sent, (k, omega (arith, within), is)))

-- ---- what a transcript tells

module _ (begun : Begun) where
  due-placed : (past : List Step) → All (IsPlaced begun) (due begun past)
  due-placed past =
      All-append (IsPlaced begun) (primaries begun) (take (length (missed (deletes past))) (handoffs begun))
      (All-weaker (Contains (primaries begun)) (IsPlaced begun) (λ device has. inl has) (primaries begun) (All-contains_itself (primaries begun)))
      (All-take (IsPlaced begun) (length (missed (deletes past))) (handoffs begun)
      (All-weaker (Contains (handoffs begun)) (IsPlaced begun) (λ device has. inr has) (handoffs begun) (All-contains_itself (handoffs begun))))

  placed-at : (past : List Step) (number device : ℕ) → slice_get (due begun past) number ≡ Some device → IsPlaced begun device
  placed-at past number device is =
      subst (IsPlaced begun) (get_or_from_slice_get (due begun past) number device device is)
      (All-get_or (IsPlaced begun) (due begun past) number device (slice_get_within (due begun past) number device is) (due-placed past))

  abbrev pub IsMade : List Step → ℕ → Type 0
  IsMade past device = IsPlaced begun device × WasMarked begun past device

  pub record AreTold (past : List Step) : Type 0 where
    pub marked : All (IsMade past) (done (deletes past))
    pub misses : All (λ (one : ℕ × Miss). WasMissed begun past one.0 one.1) (missed (deletes past))
    pub refusals : All (WasTold begun past) (floors (deletes past))

  module _ (past : List Step) (step : Step) where
    stay-marked : (devices : List ℕ) → All (IsMade past) devices → All (IsMade (step ∷ past)) devices
    stay-marked devices all =
        All-weaker (IsMade past) (IsMade (step ∷ past))
        (λ device was. (was.0, (was.1.0, was.1.1, Contains-cons (Closed (delete_message begun was.1.0 device) (Some (reply.Deleted was.1.1))) step past was.1.2))) devices all

    stay-misses : (misses : List (ℕ × Miss)) → All (λ (one : ℕ × Miss). WasMissed begun past one.0 one.1) misses → All (λ (one : ℕ × Miss). WasMissed begun (step ∷ past) one.0 one.1) misses
    stay-misses misses all =
        All-weaker (λ (one : ℕ × Miss). WasMissed begun past one.0 one.1) (λ (one : ℕ × Miss). WasMissed begun (step ∷ past) one.0 one.1)
        (λ one was. (was.0, was.1, Contains-cons (Closed (delete_message begun was.0 one.0) was.1) step past was.2, was.3)) misses all

    stay-told : (told : List Floor) → All (WasTold begun past) told → All (WasTold begun (step ∷ past)) told
    stay-told told all =
        All-weaker (WasTold begun past) (WasTold begun (step ∷ past))
        (λ floor was. ((was.0.0, Contains-cons (Closed was.0.0 (Some (reply.Superseded floor))) step past was.0.1), was.1)) told all

  told-more : (past : List Step) (ticket device : ℕ) (answer : Option Reply) → AreTold past → IsPlaced begun device → AreTold (Closed (delete_message begun ticket device) answer ∷ past)
  told-more past ticket device answer before placed =
      let sent : Sent = delete_message begun ticket device in
      let step : Step = Closed sent answer in
      let verdict = delete_verdict begun.stamp answer in
      record {
        marked = done-each (IsMade (step ∷ past)) (deletes past) device verdict
            (λ is. let by = done-by begun.stamp answer is in (placed, (ticket, by.0, (zero, omega arith, ap (λ answer. Closed sent answer) by.1)))) (stay-marked past step (done (deletes past)) before.marked);
        misses = missed-each (λ (one : ℕ × Miss). WasMissed begun (step ∷ past) one.0 one.1) (deletes past) device verdict
            (λ miss is. (ticket, answer, (zero, omega arith, refl), is)) (stay-misses past step (missed (deletes past)) before.misses);
        refusals = floors-each (WasTold begun (step ∷ past)) (deletes past) device verdict
            (λ floor is. let by = refused begun.stamp answer floor is in ((sent, (zero, omega arith, ap (λ answer. Closed sent answer) by.0)), by.1)) (stay-told past step (floors (deletes past)) before.refusals);
      }

  pub told-all : (past : List Step) → IsRun (IsNext begun) past → AreTold past
  told-all [] run = record { marked = All-nil _; misses = All-nil _; refusals = All-nil _ }
  told-all (Gave sent ∷ past) run =
      let before = told-all past run.1 in
      record {
        marked = stay-marked past (Gave sent) (done (deletes past)) before.marked;
        misses = stay-misses past (Gave sent) (missed (deletes past)) before.misses;
        refusals = stay-told past (Gave sent) (floors (deletes past)) before.refusals;
      }
  told-all (Closed sent answer ∷ past) run =
      let delete = (open-delete begun past sent.ticket sent run.1 run.0).0 in
      subst (λ (one : Sent). AreTold (Closed one answer ∷ past)) (sym delete.is)
      (told-more past sent.ticket delete.about answer (told-all past run.1) (placed-at past sent.ticket delete.about delete.found))

  -- ---- each floor that was told of counts

  counted-here : (past : List Step) (ticket device : ℕ) (floor : Floor) → refuses floor begun.stamp ≡ true
      → Contains (floors (deletes (Closed (delete_message begun ticket device) (Some (reply.Superseded floor)) ∷ past))) floor
  counted-here past ticket device floor forbids =
      subst (λ these. Contains these floor)
      (sym (floors-more (deletes past) device (forbidden_if (refuses floor begun.stamp) floor) ∙ ap (λ b. floors (deletes past) ++ floors_from (forbidden_if b floor)) forbids))
      (Contains-push (floors (deletes past)) floor)

  pub counted : (past : List Step) (floor : Floor) → IsRun (IsNext begun) past → WasTold begun past floor → Contains (floors (deletes past)) floor
  counted [] floor run ((sent, (k, within, is)), forbids) = absurd (omega (arith, within))
  counted (Gave other ∷ past) floor run ((sent, (zero, within, is)), forbids) = absurd (cc)
  counted (Gave other ∷ past) floor run ((sent, (suc k, within, is)), forbids) = counted past floor run.1 ((sent, (k, omega (arith, within), is)), forbids)
  counted (Closed other answer ∷ past) floor run ((sent, (zero, within, is)), forbids) =
      let delete = (open-delete begun past other.ticket other run.1 run.0).0 in
      let same : answer ≡ Some (reply.Superseded floor) = cc in
      subst (λ answer. Contains (floors (deletes (Closed other answer ∷ past))) floor) (sym same)
      (subst (λ (one : Sent). Contains (floors (deletes (Closed one (Some (reply.Superseded floor)) ∷ past))) floor) (sym delete.is) (counted-here past other.ticket delete.about floor forbids))
  counted (Closed other answer ∷ past) floor run ((sent, (suc k, within, is)), forbids) =
      floor-stays (deletes past) (judge_delete other.device other.msg answer) floor (counted past floor run.1 ((sent, (k, omega (arith, within), is)), forbids))
