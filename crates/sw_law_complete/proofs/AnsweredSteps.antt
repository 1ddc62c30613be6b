-- Transcripts in which no message was given up, and lists of which nothing is an element.
use Rattle.std.proofs.Common.{◌≡◌, ⊎_elim, ℕ, Contains, List, [], ◌∷◌, Option, Some, None, refl, sym, subst}
use Rattle.std.specs.List.{All}
use Rattle.std.proofs.lemmas.List.Elements.{All-head}
use Rattle.sw_diskfile.proofs.Lists.{Contains-cases}
use Rattle.sw_message.specs.Transcript.{Closed, Gave, Step, after_answer, closed_by, open_at}
use Rattle.sw_message.specs.declared.reply.Reply.{Reply}
use Rattle.sw_message.specs.declared.sent.Sent.{Sent}
use Rattle.sw_operation.specs.Operating.{Begun}
use Rattle.sw_core.specs.World.{HandsOut}

-- each message that is not open was answered
abbrev pub IsAnswered : List Step → Type 0
IsAnswered past = (sent : Sent) → Contains past (Closed sent None) → ⊥

-- with one step more that gives up none
more_answered : (step : Step) (past : List Step) → ((sent : Sent) → step ≡ Closed sent None → ⊥) → IsAnswered past → IsAnswered (step ∷ past)
more_answered step past not answered sent has = ⊎_elim (not sent) (answered sent) (Contains-cases step past (Closed sent None) has)

told_by : (past : List Step) (reply : Reply) (opened : Option Sent) → IsAnswered past → IsAnswered (closed_by past (Some reply) opened)
told_by past reply None answered = answered
told_by past reply (Some sent) answered = more_answered (Closed sent (Some reply)) past (λ other same. cc) answered

-- so it stays once a reply came
pub told_answered : (past : List Step) (ticket : ℕ) (reply : Reply) → IsAnswered past → IsAnswered (after_answer past ticket (Some reply))
told_answered past ticket reply answered = told_by past reply (open_at ticket past) answered

-- and as messages are handed out
pub handed_answered : (begun : Begun) (sents : List Sent) (past after : List Step) → HandsOut begun sents past after → IsAnswered past → IsAnswered after
handed_answered begun [] past after same answered = subst IsAnswered (sym same) answered
handed_answered begun (sent ∷ sents) past after (next, more) answered = handed_answered begun sents (Gave sent ∷ past) after more (more_answered (Gave sent) past (λ other same. cc) answered)

-- a list is empty where nothing is what each of its elements is
pub none_so : {A : Type 0} (P : A → Type 0) (xs : List A) → ((x : A) → P x → ⊥) → All P xs → xs ≡ []
none_so P [] never all = refl
none_so P (x ∷ xs) never all = absurd (never x (All-head P x xs all))
