-- A revert comes to rest from every transcript: each answer leads to a status, and it hands out one message at a time.
use Rattle.std.proofs.Common.{◌≡◌, ℕ, Bool, true, false, List, [], ◌∷◌, length, Option, Some, None, refl, sym, subst}
use Rattle.sw_message.specs.Learnt.{Booked}
use Rattle.sw_message.specs.Transcript.{Closed, Gave, Hand, IsRun, Next, Over, Step, Wait, given, is_waiting}
use Rattle.sw_message.specs.declared.reply.Reply.{Reply}
use Rattle.sw_message.specs.declared.reply.Reply.TheVariants as reply
use Rattle.sw_message.specs.declared.sent.Sent.{Sent}
use Rattle.sw_message.specs.declared.spoil.Spoil.{Spoil}
use Rattle.sw_recon.specs.Course.{Course}
use Rattle.sw_recon.specs.Revert.{Begun, IsNext, IsSpoilt, IsStatus, Leads, after_by, message_for, next_at, next_or, own_message, started_by, total, treat_message}
use Rattle.sw_recon.specs.declared.status.Status.{Status}
use Rattle.sw_recon.specs.declared.status.Status.TheVariants.{Ends, Starts, Treats}
use Rattle.sw_recon.specs.declared.treatment.Treatment.{Treatment}
use Rattle.sw_recon.specs.declared.treatment.Treatment.TheVariants.{Fetch}
use Rattle.sw_recon.proofs.Machine.{answered}
use Rattle.sw_operation.specs.Operating.{Revert}
use Rattle.sw_law_going.proofs.Brought.{AnswerBrings, AreStored, earlier_stored, last_brings}
use Rattle.sw_law_going.proofs.Rests.{ComesToRest, at_rest, one_more}

module _ (begun : Begun) (book : List Booked) where
  -- ---- what an answer leads to

  -- bytes that were fetched are the archive that was asked for
  checked_so : (course : Course) (treatment : Treatment) (answer : Option Reply) → AnswerBrings begun.cluster book (message_for begun.place course.entry treatment) answer
      → (spoil : Option Spoil) × IsSpoilt begun.cluster begun.place course.entry treatment answer spoil
  checked_so course Fetch (Some (reply.Fragment bytes)) brings = (None, brings.is)
  checked_so course treatment answer brings = (None, refl)

  leads_so : (sent : Sent) (answer : Option Reply) → AnswerBrings begun.cluster book sent.msg answer → (number : ℕ) (status : Status) → Hand sent ≡ next_at begun number status → (after : Status) × Leads begun status answer after
  leads_so sent answer brings number Starts next = (started_by (total begun) begun.device answer, refl)
  leads_so sent answer brings number (Treats course) next =
      let same : sent ≡ treat_message begun number course = cc (next) in
      let checked = checked_so course course.treatment answer (subst (λ (one : Sent). AnswerBrings begun.cluster book one.msg answer) same brings) in
      (after_by (total begun) course course.treatment answer checked.0, (checked.0, checked.1, refl))
  leads_so sent answer brings number (Ends end) next = absurd (cc (next))

  status_of : (past : List Step) → IsRun (IsNext begun) past → AreStored begun.cluster book past → (status : Status) × IsStatus begun past status
  status_of [] run are = (Starts, refl)
  status_of (Gave sent ∷ past) run are = status_of past run.1 (earlier_stored begun.cluster book (Gave sent) past are)
  status_of (Closed sent answer ∷ past) run are =
      let was = answered begun past sent run.1 run.0 in
      let brings = subst (λ (one : Sent). AnswerBrings begun.cluster book one.msg answer) (sym was.same) (last_brings begun.cluster book sent answer past are) in
      let after = leads_so was.one.sent answer brings was.one.number was.one.status was.one.next in
      (after.0, (was.one.status, was.one.is, after.1))

  -- ---- what comes next

  module _ (past : List Step) where
    is_next : (waits : Bool) → is_waiting past ≡ waits → (next : Next) → next_or begun past waits next → IsNext begun past next
    is_next waits same next is = subst (λ b. next_or begun past b next) (sym same) is

    hands_out : (sent : Sent) → IsNext begun past (Hand sent) → ComesToRest (Revert begun) past
    hands_out sent hands = one_more (Revert begun) past sent hands (at_rest (Revert begun) (Gave sent ∷ past) false refl)

    goes_by : (status : Status) → IsStatus begun past status → is_waiting past ≡ false → ComesToRest (Revert begun) past
    goes_by Starts is none = let sent = own_message begun (length (given past)) in hands_out sent (is_next false none (Hand sent) (Starts, is, refl))
    goes_by (Treats course) is none = let sent = treat_message begun (length (given past)) course in hands_out sent (is_next false none (Hand sent) (Treats course, is, refl))
    goes_by (Ends end) is none = at_rest (Revert begun) past true (is_next false none Over (Ends end, is, refl))

    rests_by : (waits : Bool) → is_waiting past ≡ waits → (status : Status) → IsStatus begun past status → ComesToRest (Revert begun) past
    rests_by true same reached is = at_rest (Revert begun) past false (is_next true same Wait refl)
    rests_by false same reached is = goes_by reached is same

    pub revert_rests : IsRun (IsNext begun) past → AreStored begun.cluster book past → ComesToRest (Revert begun) past
    revert_rests run are = let status = status_of past run are in rests_by (is_waiting past) refl status.0 status.1
