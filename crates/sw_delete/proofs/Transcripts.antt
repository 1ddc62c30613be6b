-- What every transcript of a delete keeps.
use Rattle.std.proofs.Common.{◌≡◌, ℕ, ◌+◌, ◌≤◌, List, drop, length, Option, Some, refl, ap, arith}
use Rattle.std.specs.List.{sum_by}
use Rattle.std.proofs.lemmas.Option.{none-some}
use Rattle.sw_message.specs.Transcript.{Hand, IsRun, Next, Over, Step, Wait, given, open_at, opens}
use Rattle.sw_message.specs.declared.message.Msg.{Msg}
use Rattle.sw_message.specs.declared.message.Msg.TheVariants.{Delete}
use Rattle.sw_message.specs.declared.reply.Reply.{Reply}
use Rattle.sw_message.specs.declared.sent.Sent.{Sent}
use Rattle.sw_quorum.specs.Answers.{Judged}
use Rattle.sw_quorum.proofs.DueLaws as laws
use Rattle.sw_quorum.specs.Dues.{IsDue}
use Rattle.sw_quorum.proofs.Transcripts.{answers-weigh, judged-once}
use Rattle.sw_quorum.specs.Transcripts.{closed_count}
use Rattle.sw_delete.specs.Delete.{Begun, IsNext, delete_end, delete_message, delete_next, deletes, due, end_at, judge_delete}
use Rattle.sw_delete.specs.declared.end.DeleteEnd.{DeleteEnd}
use Rattle.sw_delete.proofs.Dues.{grew}

ended_or : (begun : Begun) (past : List Step) (next : Next) (end : DeleteEnd) → end_at begun past next ≡ Some end → next ≡ Over
ended_or begun past Over end is = refl
ended_or begun past Wait end is = absurd (none-some end is)
ended_or begun past (Hand sent) end is = absurd (none-some end is)

pub ended : (begun : Begun) (past : List Step) (end : DeleteEnd) → delete_end begun past ≡ Some end → delete_next begun past ≡ Over
ended begun past end is = ended_or begun past (delete_next begun past) end is

-- a message of a delete, to the device that is due at its ticket
abbrev pub IsDelete : Begun → List Step → Sent → Type 0
IsDelete begun past = IsDue (delete_message begun) (due begun past)

-- what a message counts, by its device
abbrev pub weight_of : (ℕ → ℕ) → ℕ → Msg → ℕ
weight_of w device (Delete place stamp) = w device
weight_of w device other = 0

abbrev pub counts_as : (ℕ → ℕ) → Sent → ℕ
counts_as w sent = weight_of w sent.device sent.msg

judged-weight : (w : ℕ → ℕ) (device : ℕ) (msg : Msg) (answer : Option Reply) → sum_by (λ (one : Judged ℕ). w one.about) (judge_delete device msg answer) ≡ weight_of w device msg
judged-weight w device (Delete place stamp) answer = omega arith
judged-weight w device other answer = refl

module _ (begun : Begun) where
  own : (ticket device : ℕ) → (delete_message begun ticket device).ticket ≡ ticket
  own ticket device = refl

  pub handed : (past : List Step) (sent : Sent) → delete_next begun past ≡ Hand sent → (sent.ticket ≡ length (given past)) × IsDelete begun past sent
  handed past sent is = laws.handed (delete_message begun) own (due begun past) past sent is

  pub open-delete : (past : List Step) (ticket : ℕ) (sent : Sent) → IsRun (IsNext begun) past → open_at ticket past ≡ Some sent → IsDelete begun past sent × (sent.ticket ≡ ticket)
  open-delete past ticket sent run is = laws.open-due (delete_message begun) own (due begun) past ticket sent run (grew begun past) is

  judged : (past : List Step) (sent : Sent) (answer : Option Reply) → IsRun (IsNext begun) past → open_at sent.ticket past ≡ Some sent → length (judge_delete sent.device sent.msg answer) ≡ 1
  judged past sent answer run is = ap (λ (one : Sent). length (judge_delete one.device one.msg answer)) (open-delete past sent.ticket sent run is).0.is

  -- each answer is judged
  pub answers-are : (past : List Step) → IsRun (IsNext begun) past → length (deletes past) ≡ closed_count past
  answers-are past run = judged-once (IsNext begun) (λ sent answer. judge_delete sent.device sent.msg answer) judged past run

  -- each message is open or answered
  pub answers-and-opens : (past : List Step) → IsRun (IsNext begun) past → length (deletes past) + length (opens past) ≡ length (given past)
  answers-and-opens past run = omega (arith, answers-are past run, laws.answers-and-opens (delete_message begun) own (due begun) past run)

  pub given-within : (past : List Step) → IsRun (IsNext begun) past → length (given past) ≤ length (due begun past)
  given-within past run = laws.given-within (delete_message begun) own (due begun) past run (grew begun past)

  -- ---- what was answered, is open, or is still to be handed out

  pub balance : (past : List Step) → IsRun (IsNext begun) past → (w : ℕ → ℕ)
      → sum_by (λ (one : Judged ℕ). w one.about) (deletes past) + sum_by (counts_as w) (opens past) + sum_by w (drop (length (given past)) (due begun past)) ≡ sum_by w (due begun past)
  balance past run w =
      omega (
        arith,
        laws.spent (delete_message begun) own (due begun) (counts_as w) w (λ ticket device. refl) past run (grew begun past),
        answers-weigh (λ sent answer. judge_delete sent.device sent.msg answer) w (counts_as w) (λ sent answer. judged-weight w sent.device sent.msg answer) past,
      )
