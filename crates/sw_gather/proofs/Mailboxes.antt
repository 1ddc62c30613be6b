-- A mailbox from which an errand was handed out, or in which an answer was put.
use Rattle.std.proofs.Common.{◌≡◌, ℕ, ◌+◌, ◌<◌, ◌≤◌, ◌++◌, true, false, List, [], ◌∷◌, length, append-nil, Option, Some, None, is_some, refl, sym, ap, subst, ◌∙◌, arith}
use Rattle.std.specs.Prelude.{MatchOption}
use Rattle.std.specs.List.{slice_get}
use Rattle.std.proofs.lemmas.List.Elements.{All-weaker}
use Rattle.std.proofs.lemmas.List.Kept.{AllPairs-cons, AllPairs-filter}
use Rattle.sw_message.specs.Tickets.{AreTickets}
use Rattle.sw_message.specs.Transcript.{Closed, Gave, Step, after_answer, given, is_not, open_at, opens}
use Rattle.sw_message.specs.declared.reply.Reply.{Reply}
use Rattle.sw_message.specs.declared.sent.Sent.{Sent}
use Rattle.sw_quorum.proofs.Transcripts.{found, one_fewer, some_at, some_found, told-ignored, told-open}
use Rattle.sw_quorum.specs.Transcripts.{HasOther}
use Rattle.sw_gather.specs.Mailbox.{GoesWith, MailboxModel, Unread, answer_to}
use Rattle.sw_gather.proofs.Lists.{slice_get_some}

-- ---- an errand more

pub handed : {E : Type 0} (before after : MailboxModel E) (past : List Step) (sent : Sent) → GoesWith before past → AreTickets after.tickets (Gave sent ∷ past) → sent.ticket ≡ length before.tickets
    → length after.tickets ≡ length before.tickets + 1 → length after.errands ≡ length before.errands + 1 → after.waiting ≡ before.waiting + 1 → GoesWith after (Gave sent ∷ past)
handed before after past sent goes are ticket count errands waiting =
    let number : sent.ticket ≡ length (given past) = ticket ∙ goes.tickets_are.count in
    record {
      tickets_are = are;
      apart = AllPairs-cons HasOther sent (opens past)
          (All-weaker (λ (one : Sent). one.ticket < length (given past)) (HasOther sent) (λ one less same. absurd (omega (arith, less, number, same))) (opens past) goes.tickets_are.below) goes.apart;
      waiting_is = omega (arith, goes.waiting_is, waiting);
      errands_are = omega (arith, goes.errands_are, count, errands);
    }

-- ---- an answer

-- the answer of an open message stands behind those that were there
abbrev pub Taken : {E : Type 0} → MailboxModel E → List Step → ℕ → Option Reply → List (Unread E) → Type 0
Taken {E} mailbox past ticket answer unread = MatchOption (open_at ticket past) (unread ≡ mailbox.unread)
    (λ sent. (one : E) × (slice_get mailbox.errands sent.ticket ≡ Some one) × (unread ≡ mailbox.unread ++ (one, answer) ∷ []))

pub at_most_one : {E : Type 0} (errand : Option E) (answer : Option Reply) → length (answer_to errand answer) ≤ 1
at_most_one None answer = omega arith
at_most_one (Some errand) answer = omega arith

module _ {E : Type 0} (mailbox : MailboxModel E) (past : List Step) (goes : GoesWith mailbox past) (ticket : ℕ) where
  -- an open message's ticket is one that was made
  pub ticket_is : (sent : Sent) → open_at ticket past ≡ Some sent → (sent.ticket < length mailbox.errands) × (sent.ticket ≡ ticket)
  ticket_is sent is =
      let own = found (λ (one : Sent). one.ticket < length (given past)) ticket (opens past) sent is goes.tickets_are.below in
      (omega (arith, own.0, goes.tickets_are.count, goes.errands_are), own.1)

  -- it is one of those that wait
  pub some_wait : is_some (open_at ticket past) ≡ true → 0 < mailbox.waiting
  some_wait some =
      let sent = some_at (open_at ticket past) some in
      omega (arith, goes.waiting_is, some_found ticket (opens past) sent.0 sent.1)

  module _ (after : MailboxModel E) (answer : Option Reply) (are : AreTickets after.tickets (after_answer past ticket answer))
      (count : length after.tickets ≡ length mailbox.tickets) (errands : length after.errands ≡ length mailbox.errands) where
    answered : (sent : Sent) → open_at ticket past ≡ Some sent → after.waiting + 1 ≡ mailbox.waiting → AreTickets after.tickets (Closed sent answer ∷ past) → GoesWith after (Closed sent answer ∷ past)
    answered sent is waiting these =
        let at : open_at sent.ticket past ≡ Some sent = ap (λ n. open_at n past) (ticket_is sent is).1 ∙ is in
        record {
          tickets_are = these;
          apart = AllPairs-filter HasOther (is_not sent.ticket) (opens past) goes.apart;
          waiting_is = omega (arith, goes.waiting_is, waiting, one_fewer sent.ticket (opens past) sent at goes.apart);
          errands_are = omega (arith, goes.errands_are, count, errands);
        }

    pub put_in : is_some (open_at ticket past) ≡ true → after.waiting + 1 ≡ mailbox.waiting → GoesWith after (after_answer past ticket answer)
    put_in some waiting =
        let sent = some_at (open_at ticket past) some in
        let path = told-open past ticket answer sent.0 sent.1 in
        subst (GoesWith after) (sym path) (answered sent.0 sent.1 waiting (subst (AreTickets after.tickets) path are))

    pub left_out : is_some (open_at ticket past) ≡ false → after.waiting ≡ mailbox.waiting → GoesWith after (after_answer past ticket answer)
    left_out none waiting =
        let path = ignored (open_at ticket past) refl none in
        subst (GoesWith after) (sym path) (record {
          tickets_are = subst (AreTickets after.tickets) path are;
          apart = goes.apart;
          waiting_is = waiting ∙ goes.waiting_is;
          errands_are = omega (arith, goes.errands_are, count, errands);
        })
      where
        ignored : (opened : Option Sent) → open_at ticket past ≡ opened → is_some opened ≡ false → after_answer past ticket answer ≡ past
        ignored None is none = told-ignored past ticket answer is
        ignored (Some sent) is none = absurd (cc)

  module _ (answer : Option Reply) (errand : Option E) (unread : List (Unread E)) (is : unread ≡ mailbox.unread ++ answer_to errand answer)
      (some : is_some (open_at ticket past) ≡ true → errand ≡ slice_get mailbox.errands ticket) (none : is_some (open_at ticket past) ≡ false → errand ≡ None) where
    taken_at : (opened : Option Sent) → open_at ticket past ≡ opened → MatchOption opened (unread ≡ mailbox.unread)
        (λ sent. (one : E) × (slice_get mailbox.errands sent.ticket ≡ Some one) × (unread ≡ mailbox.unread ++ (one, answer) ∷ []))
    taken_at None at = is ∙ ap (λ it. mailbox.unread ++ answer_to it answer) (none (ap is_some at)) ∙ append-nil mailbox.unread
    taken_at (Some sent) at =
        let own = ticket_is sent at in
        let one = slice_get_some mailbox.errands sent.ticket own.0 in
        (one.0, one.1, is ∙ ap (λ it. mailbox.unread ++ answer_to it answer) (some (ap is_some at) ∙ ap (slice_get mailbox.errands) (sym own.1) ∙ one.1))

    pub taken : Taken mailbox past ticket answer unread
    taken = taken_at (open_at ticket past) refl
