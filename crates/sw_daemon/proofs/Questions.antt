-- What a question hands out and is told.
use Rattle.std.proofs.Common.{◌≡◌, ◌⊎◌, inl, inr, ℕ, Contains, List, [], ◌∷◌, Option, Some, refl, sym, ap, subst, ◌∙◌}
use Rattle.std.proofs.lemmas.Option.{none-some}
use Rattle.sw_message.specs.Transcript.{Closed, Gave, Hand, IsRun, Step, open_at}
use Rattle.sw_message.specs.declared.message.Msg.{Msg}
use Rattle.sw_message.specs.declared.reply.Reply.{Reply}
use Rattle.sw_message.specs.declared.sent.Sent.{Sent}
use Rattle.sw_gather.proofs.Lists.{here, none_in}
use Rattle.sw_sync.proofs.Messages.{told-cases, told-gave}
use Rattle.sw_daemon.specs.Asking.{was_told}
use Rattle.sw_daemon.specs.Question.{Begun, IsEnd, IsNext, message_of, sent_of}
use Rattle.sw_daemon.proofs.Opened.{open-is}
use Rattle.sw_sync.specs.Answers.{WasTold}

module _ (begun : Begun) where
  pub hands-own : (past : List Step) (sent : Sent) → IsNext begun past (Hand sent) → sent ≡ sent_of begun
  hands-own [] sent is = cc
  hands-own (Gave one ∷ past) sent is = absurd (cc)
  hands-own (Closed one answer ∷ past) sent is = absurd (cc)

  -- an answer is one to its message
  pub told-own : (past : List Step) → IsRun (IsNext begun) past → (sent : Sent) → open_at sent.ticket past ≡ Some sent → sent ≡ sent_of begun
  told-own past run sent is = open-is (IsNext begun) (λ (one : Sent). one ≡ sent_of begun) hands-own past run sent is

  -- it hands out one message, which is answered once
  abbrev IsAsked : List Step → Type 0
  IsAsked past = (past ≡ []) ⊎ ((past ≡ Gave (sent_of begun) ∷ []) ⊎ ((answer : Option Reply) × (past ≡ was_told begun answer)))

  gave-asked : (past : List Step) (sent : Sent) → IsNext begun past (Hand sent) → IsAsked (Gave sent ∷ past)
  gave-asked [] sent is = inr (inl (ap (λ (one : Sent). Gave one ∷ []) (hands-own [] sent is)))
  gave-asked (Gave one ∷ past) sent is = absurd (cc)
  gave-asked (Closed one answer ∷ past) sent is = absurd (cc)

  open-in : (past steps : List Step) (sent : Sent) → open_at sent.ticket past ≡ Some sent → past ≡ steps → open_at sent.ticket steps ≡ Some sent
  open-in past steps sent is same = subst (λ (those : List Step). open_at sent.ticket those ≡ Some sent) same is

  told-asked : (past : List Step) (sent : Sent) (answer : Option Reply) → IsRun (IsNext begun) past → open_at sent.ticket past ≡ Some sent → IsAsked past → IsAsked (Closed sent answer ∷ past)
  told-asked past sent answer run is (inl none) = absurd (none-some sent (open-in past [] sent is none))
  told-asked past sent answer run is (inr (inl gave)) =
      inr (inr (answer, ap (λ (one : Sent). Closed one answer ∷ past) (told-own past run sent is) ∙ ap (λ (those : List Step). Closed (sent_of begun) answer ∷ those) gave))
  told-asked past sent answer run is (inr (inr (before, told))) = absurd (none-some sent (open-in past (was_told begun before) sent is told))

  asked : (past : List Step) → IsRun (IsNext begun) past → IsAsked past
  asked [] run = inl refl
  asked (Gave sent ∷ past) run = gave-asked past sent run.0
  asked (Closed sent answer ∷ past) run = told-asked past sent answer run.1 run.0 (asked past run.1)

  module _ (device : ℕ) (msg : Msg) (answer : Option Reply) where
    none-told : WasTold (Gave (sent_of begun) ∷ []) device msg answer → ⊥
    none-told told = none_in _ (told-gave [] (sent_of begun) device msg answer told).1

    told-by : (past : List Step) → WasTold past device msg answer → IsAsked past → (device ≡ begun.device) × (msg ≡ message_of begun.survey)
    told-by past told (inl none) = absurd (none_in _ (subst (λ (those : List Step). WasTold those device msg answer) none told).1)
    told-by past told (inr (inl gave)) = absurd (none-told (subst (λ (those : List Step). WasTold those device msg answer) gave told))
    told-by past told (inr (inr (given, is))) =
        elim (told-cases (Gave (sent_of begun) ∷ []) (sent_of begun) given device msg answer (subst (λ (those : List Step). WasTold those device msg answer) is told)) [
          | inl this ↦ (sym this.0, sym this.1)
          | inr before ↦ absurd (none-told before)
        ]

    -- what it is told is told by its device, of its message
    pub told-is : (past : List Step) → IsRun (IsNext begun) past → WasTold past device msg answer → (device ≡ begun.device) × (msg ≡ message_of begun.survey)
    told-is past run told = told-by past told (asked past run)

    untold-by : (past : List Step) (sent : Sent) → open_at sent.ticket past ≡ Some sent → WasTold past device msg answer → IsAsked past → ⊥
    untold-by past sent is told (inl none) = none-some sent (open-in past [] sent is none)
    untold-by past sent is told (inr (inl gave)) = none-told (subst (λ (those : List Step). WasTold those device msg answer) gave told)
    untold-by past sent is told (inr (inr (given, same))) = none-some sent (open-in past (was_told begun given) sent is same)

    -- nothing was told while its message is open
    pub open-untold : (past : List Step) → IsRun (IsNext begun) past → (sent : Sent) → open_at sent.ticket past ≡ Some sent → WasTold past device msg answer → ⊥
    open-untold past run sent is told = untold-by past sent is told (asked past run)

  pub ends-told : (past : List Step) → IsRun (IsNext begun) past → (answer : Option Reply) → IsEnd begun past answer → Contains past (Closed (sent_of begun) answer)
  ends-told [] run answer is = absurd is.1
  ends-told (Gave one ∷ past) run answer is = absurd is.1
  ends-told (Closed one given ∷ past) run answer is =
      subst (λ (other : Sent). Contains (Closed one given ∷ past) (Closed other answer)) (told-own past run.1 one run.0)
      (subst (λ (other : Option Reply). Contains (Closed one given ∷ past) (Closed one other)) (sym is.1) (here (Closed one given) past))
