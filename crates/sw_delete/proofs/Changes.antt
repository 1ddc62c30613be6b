-- A delete that handed out a message, took an answer, or ended.
use Rattle.std.proofs.Common.{◌≡◌, ℕ, ◌+◌, ◌≤◌, ◌<◌, ◌==◌, Bool, true, ◌||◌, List, [], ◌∷◌, ◌++◌, length, take, Option, Some, None, refl, sym, ap, subst, ◌∙◌, arith}
use Rattle.std.specs.List.{find, slice_get}
use Rattle.std.proofs.lemmas.Option.{none-some, same_Some}
use Rattle.sw_message.specs.Tickets.{AreTickets}
use Rattle.sw_message.specs.Transcript.{Closed, Gave, Hand, Over, Step, Wait, after_answer, given, is_waiting, open_at, opens}
use Rattle.sw_message.specs.declared.message.Msg.TheVariants.{Delete}
use Rattle.sw_message.specs.declared.reply.Reply.{Reply}
use Rattle.sw_message.specs.declared.sent.Sent.{Sent}
use Rattle.sw_quorum.specs.Answers.{Judged, missed}
use Rattle.sw_quorum.proofs.DueLaws as laws
use Rattle.sw_quorum.specs.Tally.{Counts, counts_of}
use Rattle.sw_quorum.proofs.Transcripts.{run-told, some_found, told-ignored, told-open}
use Rattle.sw_quorum.specs.Transcripts.{closed_count}
use Rattle.sw_delete.specs.Delete.{Begun, IsNext, delete_end, delete_message, delete_next, deletes, due, handoffs, says_existed}
use Rattle.sw_quorum.specs.Verdicts.{delete_verdict}
use Rattle.sw_delete.specs.Inside.{delete_seen}
use Rattle.sw_delete.specs.Standing.{DeleteModel, Stands}
use Rattle.sw_delete.specs.declared.delete.DeleteOp.TheInside.{Inside}
use Rattle.sw_delete.specs.declared.end.DeleteEnd.{DeleteEnd}
use Rattle.sw_delete.proofs.Dues.{due-few, grew}
use Rattle.sw_delete.proofs.Transcripts.{answers-and-opens, answers-are, ended, given-within, open-delete}

-- where it has to go, by what is seen of it
abbrev pub due_seen : DeleteModel → List ℕ
due_seen delete = delete.primaries ++ take (length delete.counts.missed) delete.handoffs

-- what holds of a delete, by its fields
pub by_fields : (inside : Inside) (delete : DeleteModel) (begun : Begun) (past : List Step) → delete_seen inside ≡ delete → Stands delete begun past → Stands (delete_seen inside) begun past
by_fields inside delete begun past is stands = subst (λ (delete : DeleteModel). Stands delete begun past) (sym is) stands

module _ (delete : DeleteModel) (begun : Begun) (past : List Step) (stands : Stands delete begun past) where
  pub due_is : due begun past ≡ due_seen delete
  due_is =
      ap (λ front. front ++ take (length (missed (deletes past))) (handoffs begun)) (sym stands.primaries_are)
      ∙ ap (λ (counts : Counts ℕ). delete.primaries ++ take (length counts.missed) (handoffs begun)) (sym stands.counts_are)
      ∙ ap (λ rest. delete.primaries ++ take (length delete.counts.missed) rest) (sym stands.handoffs_are)

  -- ---- a message

  pub hands : (ticket device : ℕ) → ticket ≡ length delete.tickets → slice_get (due_seen delete) (length delete.tickets) ≡ Some device
      → delete_next begun past ≡ Hand (record { ticket = ticket; device = device; msg = Delete delete.place delete.stamp })
  hands ticket device is at =
      let number : ticket ≡ length (given past) = is ∙ stands.tickets_are.count in
      laws.hands (delete_message begun) (due begun past) past device (ap (slice_get (due begun past)) (sym stands.tickets_are.count) ∙ ap (λ these. slice_get these (length delete.tickets)) due_is ∙ at)
      ∙ ap (λ n. Hand (delete_message begun n device)) (sym number)
      ∙ ap (λ place. Hand (record { ticket = ticket; device = device; msg = Delete place begun.stamp })) (sym stands.place_is)
      ∙ ap (λ stamp. Hand (record { ticket = ticket; device = device; msg = Delete delete.place stamp })) (sym stands.stamp_is)

  pub stands_handed : (flags : List Bool) (sent : Sent) → AreTickets flags (Gave sent ∷ past) → delete_next begun past ≡ Hand sent → Stands (record delete { tickets = flags }) begun (Gave sent ∷ past)
  stands_handed flags sent are is = record {
    valid = stands.valid;
    run = (is, stands.run);
    enough_is = stands.enough_is;
    place_is = stands.place_is;
    stamp_is = stands.stamp_is;
    primaries_are = stands.primaries_are;
    handoffs_are = stands.handoffs_are;
    counts_are = stands.counts_are;
    existed_is = stands.existed_is;
    tickets_are = are;
    end_is = λ end ends. let over = ended begun past end (stands.end_is end ends) in absurd (cc);
  }

  -- ---- an answer

  -- an open message is still to be answered, so there is room for its answer
  pub answers_few : (ticket : ℕ) (sent : Sent) → open_at ticket past ≡ Some sent → delete.counts.answered < length delete.primaries + length delete.handoffs
  answers_few ticket sent is =
      omega (
        arith,
        ap (λ (counts : Counts ℕ). counts.answered) stands.counts_are,
        ap length stands.primaries_are,
        ap length stands.handoffs_are,
        some_found ticket (opens past) sent is,
        answers-and-opens begun past stands.run,
        given-within begun past stands.run,
        due-few begun past,
      )

  no_longer : (ticket : ℕ) (sent : Sent) (end : DeleteEnd) → open_at ticket past ≡ Some sent → delete.end ≡ Some end → ⊥
  no_longer ticket sent end is ends =
      let closed = laws.over-closed (delete_message begun) (λ n d. refl) (due begun) past stands.run (grew begun past) (ended begun past end (stands.end_is end ends)) in
      none-some sent (sym (ap (find (λ (one : Sent). one.ticket == ticket)) closed) ∙ is)

  pub stands_ignored : (flags : List Bool) (ticket : ℕ) (answer : Option Reply) → open_at ticket past ≡ None → AreTickets flags (after_answer past ticket answer)
      → Stands (record delete { tickets = flags }) begun (after_answer past ticket answer)
  stands_ignored flags ticket answer none are =
      let same = told-ignored past ticket answer none in
      subst (Stands (record delete { tickets = flags }) begun) (sym same) (record {
        valid = stands.valid;
        run = stands.run;
        enough_is = stands.enough_is;
        place_is = stands.place_is;
        stamp_is = stands.stamp_is;
        primaries_are = stands.primaries_are;
        handoffs_are = stands.handoffs_are;
        counts_are = stands.counts_are;
        existed_is = stands.existed_is;
        tickets_are = subst (AreTickets flags) same are;
        end_is = stands.end_is;
      })

  pub stands_told : (flags : List Bool) (existed : Bool) (counts : Counts ℕ) (ticket device : ℕ) (answer : Option Reply) (sent : Sent)
      → open_at ticket past ≡ Some sent → slice_get (due begun past) ticket ≡ Some device
      → AreTickets flags (after_answer past ticket answer) → existed ≡ (delete.existed || says_existed answer)
      → ((answers : List (Judged ℕ)) → delete.counts ≡ counts_of answers → counts ≡ counts_of (answers ++ record { about = device; verdict = delete_verdict delete.stamp answer } ∷ []))
      → Stands (record delete { tickets = flags; existed = existed; counts = counts }) begun (after_answer past ticket answer)
  stands_told flags existed counts ticket device answer sent is at are existed_is taken =
      let known = open-delete begun past ticket sent stands.run is in
      let same_device : known.0.about ≡ device = same_Some _ _ (sym known.0.found ∙ ap (slice_get (due begun past)) known.1 ∙ at) in
      let message : sent ≡ delete_message begun sent.ticket device = known.0.is ∙ ap (delete_message begun sent.ticket) same_device in
      let path = told-open past ticket answer sent is in
      subst (Stands (record delete { tickets = flags; existed = existed; counts = counts }) begun) (sym path) (record {
        valid = stands.valid;
        run = run-told (IsNext begun) past ticket answer sent is stands.run;
        enough_is = stands.enough_is;
        place_is = stands.place_is;
        stamp_is = stands.stamp_is;
        primaries_are = stands.primaries_are;
        handoffs_are = stands.handoffs_are;
        counts_are = taken (deletes past) stands.counts_are
            ∙ ap (λ stamp. counts_of (deletes past ++ record { about = device; verdict = delete_verdict stamp answer } ∷ [])) stands.stamp_is
            ∙ ap (λ (one : Sent). counts_of (deletes (Closed one answer ∷ past))) (sym message);
        existed_is = existed_is ∙ ap (λ before. before || says_existed answer) stands.existed_is;
        tickets_are = subst (AreTickets flags) path are;
        end_is = λ end ends. absurd (no_longer ticket sent end is ends);
      })

  -- ---- no message

  answered_is : delete.counts.answered ≡ closed_count past
  answered_is = ap (λ (counts : Counts ℕ). counts.answered) stands.counts_are ∙ answers-are begun past stands.run

  -- where none is due and answers are missing, it waits
  pub waits : slice_get (due begun past) (length (given past)) ≡ None → delete.counts.answered < length (due begun past) → delete_next begun past ≡ Wait
  waits none few = laws.waits (delete_message begun) (due begun past) past none (omega (arith, answered_is, few))

  -- for an open message
  pub waits_for : slice_get (due begun past) (length (given past)) ≡ None → delete.counts.answered < length (due begun past) → is_waiting past ≡ true
  waits_for none few = laws.waits-for (delete_message begun) (λ n d. refl) (due begun) past stands.run none (omega (arith, answered_is, few))

  -- and where none is missing, it is over
  pub is_over : slice_get (due begun past) (length (given past)) ≡ None → length (due begun past) ≤ delete.counts.answered → delete_next begun past ≡ Over
  is_over none all = laws.is_over (delete_message begun) (due begun past) past none (omega (arith, answered_is, all))

  -- ---- the end

  pub stands_ended : (end : DeleteEnd) → delete_end begun past ≡ Some end → Stands (record delete { end = Some end }) begun past
  stands_ended end is = record {
    valid = stands.valid;
    run = stands.run;
    enough_is = stands.enough_is;
    place_is = stands.place_is;
    stamp_is = stands.stamp_is;
    primaries_are = stands.primaries_are;
    handoffs_are = stands.handoffs_are;
    counts_are = stands.counts_are;
    existed_is = stands.existed_is;
    tickets_are = stands.tickets_are;
    end_is = λ other same. is ∙ same;
  }
