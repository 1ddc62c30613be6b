-- A get that took an answer, read one, handed out a message, or ended.
use Rattle.std.proofs.Common.{◌≡◌, inl, inr, ℕ, ◌+◌, ◌≤◌, ◌==◌, true, ◌++◌, List, [], ◌∷◌, length, nat_lt, Option, Some, None, refl, sym, ap, subst, ◌∙◌, arith}
use Rattle.std.specs.Prelude.{MatchOption}
use Rattle.std.specs.List.{All, find, slice_get}
use Rattle.std.proofs.lemmas.Bool.{cases_Bool, ltb-false, ltb-true}
use Rattle.std.proofs.lemmas.List.{nil_from_length}
use Rattle.std.proofs.lemmas.List.Elements.{All-cons, All-filter, All-weaker}
use Rattle.std.proofs.lemmas.Option.{none-some, same_Some}
use Rattle.sw_types.specs.Object.{ObjectModel}
use Rattle.sw_hashdir.specs.declared.floor.Floor.{Floor}
use Rattle.sw_message.specs.Transcript.{Closed, Gave, Hand, Next, Step, after_answer, is_not, is_waiting, open_at, opens}
use Rattle.sw_message.specs.declared.reply.Reply.{Reply}
use Rattle.sw_message.specs.declared.sent.Sent.{Sent}
use Rattle.sw_quorum.proofs.Transcripts.{found, run-told, told-ignored, told-open, waiting-some}
use Rattle.sw_get.specs.Get.{AreTurns, Begun, EndsAfter, Hears, IsEnd, IsMeant, IsNext, Sends, devices, from_in, going_in, next_after, sends}
use Rattle.sw_gather.specs.Mailbox.{GoesWith, MailboxModel, Unread}
use Rattle.sw_get.specs.Meaning.{Meaning}
use Rattle.sw_get.specs.Round.{Facts, lost, round_going}
use Rattle.sw_get.specs.Standing.{AreCounted, AreFindings, Findings, GetModel, FindsObject, IsErrand, IsOpen, IsReady, IsWithin, Lead, Stands, Subject, going_of}
use Rattle.sw_get.specs.declared.end.GetEnd.{GetEnd}
use Rattle.sw_get.specs.declared.errand.Errand.{Errand}
use Rattle.sw_get.specs.declared.round_end.Going.{Going}
use Rattle.sw_get.specs.declared.round_end.Going.TheVariants as going
use Rattle.sw_get.proofs.Counts.{counted-taken, opens_are, within as answers_few}
use Rattle.sw_get.proofs.Goings.{AreAllHeard, AreFetched, GoingSays, going_says}
use Rattle.sw_gather.proofs.Lists.{slice_get_before, slice_get_last}
use Rattle.sw_gather.proofs.Mailboxes.{Taken}
use Rattle.sw_get.proofs.Turns.{sends-given}

-- one answer more is to be read
lead-snoc : (begun : Begun) (unread : List (Unread Errand)) (read past : List Step) (errand : Errand) (answer : Option Reply) (sent : Sent) → IsErrand begun errand sent → Lead begun unread read past
    → Lead begun (unread ++ (errand, answer) ∷ []) read (Closed sent answer ∷ past)
lead-snoc begun [] read past errand answer sent is leads = (sent, is, ap (λ path. Closed sent answer ∷ path) leads)
lead-snoc begun (one ∷ later) read past errand answer sent is leads = (leads.0, leads.1, lead-snoc begun later (Closed leads.0 one.1 ∷ read) past errand answer sent is leads.2)

-- ---- nothing is open

module _ (begun : Begun) (from : Option Floor) (facts : Facts) (opened : List Sent) (counted : AreCounted facts [] opened) (within : IsWithin begun from facts) where
  all_fetched : AreFetched begun.cluster.policy from facts → length facts.tried ≤ length facts.sources + lost facts
  all_fetched (inr all) = all
  all_fetched (inl none) = elim (cases_Bool (nat_lt 0 (length facts.tried))) [
    | inl some ↦
        let f = within.fetching (ltb-true 0 (length facts.tried) some) in
        absurd (none f.to (record { target = f.target; durable = f.durable; choices = f.choices }))
    | inr none ↦ let no_more = ltb-false 0 (length facts.tried) none in omega (arith, no_more)
  ]

  -- where every device was heard and every fetch was answered
  pub none_open : AreAllHeard (devices begun) facts → AreFetched begun.cluster.policy from facts → opened ≡ []
  none_open heard fetched =
      let few = answers_few facts opened [] counted in
      nil_from_length opened (omega (arith, opens_are facts opened counted, heard.all_heard, all_fetched fetched, few.0, few.1))

module _ (get : GetModel) (begun : Begun) (past : List Step) (stands : Stands get begun past) where
  -- ---- an answer is taken

  module _ (mailbox : MailboxModel Errand) (same_errands : mailbox.errands ≡ get.mailbox.errands) where
    ignored : GoesWith mailbox past → mailbox.unread ≡ get.mailbox.unread → Stands (record get { mailbox = mailbox }) begun past
    ignored goes same = record {
      valid = stands.valid;
      run = stands.run;
      subject_is = stands.subject_is;
      goes_with = goes;
      opened = subst (λ errands. All (IsOpen begun errands) (opens past)) (sym same_errands) stands.opened;
      read = stands.read;
      turns = stands.turns;
      reads = stands.reads;
      leads = subst (λ unread. Lead begun unread stands.read past) (sym same) stands.leads;
      finds = stands.finds;
      counted = subst (λ unread. AreCounted get.findings.facts unread (opens past)) (sym same) stands.counted;
      object_is = stands.object_is;
      end_is = λ end is. let ended = stands.end_is end is in record { is = ended.is; closed = ended.closed; read = same ∙ ended.read };
    }

    taken : (ticket : ℕ) (answer : Option Reply) (sent : Sent) (errand : Errand) → open_at ticket past ≡ Some sent → slice_get get.mailbox.errands sent.ticket ≡ Some errand
        → mailbox.unread ≡ get.mailbox.unread ++ (errand, answer) ∷ [] → GoesWith mailbox (Closed sent answer ∷ past) → Stands (record get { mailbox = mailbox }) begun (Closed sent answer ∷ past)
    taken ticket answer sent errand is at more goes =
        let own = found (IsOpen begun get.mailbox.errands) ticket (opens past) sent is stands.opened in
        let this : IsErrand begun errand sent = subst (λ one. IsErrand begun one sent) (same_Some own.0.errand errand (sym own.0.at ∙ at)) own.0.is in
        record {
          valid = stands.valid;
          run = run-told (IsNext begun) past ticket answer sent is stands.run;
          subject_is = stands.subject_is;
          goes_with = goes;
          opened = subst (λ errands. All (IsOpen begun errands) (opens (Closed sent answer ∷ past))) (sym same_errands)
              (All-filter (is_not sent.ticket) (IsOpen begun get.mailbox.errands) (opens past) stands.opened);
          read = stands.read;
          turns = stands.turns;
          reads = stands.reads;
          leads = subst (λ unread. Lead begun unread stands.read (Closed sent answer ∷ past)) (sym more)
              (lead-snoc begun get.mailbox.unread stands.read past errand answer sent this stands.leads);
          finds = stands.finds;
          counted = subst (λ unread. AreCounted get.findings.facts unread (opens (Closed sent answer ∷ past))) (sym more)
              (counted-taken get.findings.facts (opens past) begun get.mailbox.unread errand answer sent this (ap (λ n. open_at n past) own.1 ∙ is) stands.goes_with.apart stands.counted);
          object_is = stands.object_is;
          end_is = λ end ends.
              let closed = (stands.end_is end ends).closed in
              absurd (none-some sent (sym (ap (find (λ (one : Sent). one.ticket == ticket)) closed) ∙ is));
        }

    told_at : (ticket : ℕ) (answer : Option Reply) (opened : Option Sent) → open_at ticket past ≡ opened
        → MatchOption opened (mailbox.unread ≡ get.mailbox.unread) (λ sent. (one : Errand) × (slice_get get.mailbox.errands sent.ticket ≡ Some one) × (mailbox.unread ≡ get.mailbox.unread ++ (one, answer) ∷ []))
        → GoesWith mailbox (after_answer past ticket answer) → Stands (record get { mailbox = mailbox }) begun (after_answer past ticket answer)
    told_at ticket answer None is same goes =
        let path = told-ignored past ticket answer is in
        subst (Stands (record get { mailbox = mailbox }) begun) (sym path) (ignored (subst (GoesWith mailbox) path goes) same)
    told_at ticket answer (Some sent) is more goes =
        let path = told-open past ticket answer sent is in
        subst (Stands (record get { mailbox = mailbox }) begun) (sym path) (taken ticket answer sent more.0 is more.1 more.2 (subst (GoesWith mailbox) path goes))

    pub stands_told : (ticket : ℕ) (answer : Option Reply) → Taken get.mailbox past ticket answer mailbox.unread → GoesWith mailbox (after_answer past ticket answer)
        → Stands (record get { mailbox = mailbox }) begun (after_answer past ticket answer)
    stands_told ticket answer is goes = told_at ticket answer (open_at ticket past) refl is goes

  -- ---- an answer is read

  pub stands_read : (errand : Errand) (answer : Option Reply) (later : List (Unread Errand)) → get.mailbox.unread ≡ (errand, answer) ∷ later
      → (findings : Findings) (object : Option ObjectModel) (meaning : Meaning)
      → ((sent : Sent) → IsErrand begun errand sent → IsMeant begun stands.turns sent.msg answer meaning × AreFindings findings begun (Hears sent meaning ∷ stands.turns))
      → AreCounted findings.facts later (opens past)
      → (get.end ≡ None → FindsObject begun.cluster.policy findings.facts object)
      → Stands (record get { findings = findings; object = object; mailbox = record get.mailbox { unread = later } }) begun past
  stands_read errand answer later first findings object meaning means counted has =
      let leads = subst (λ unread. Lead begun unread stands.read past) first stands.leads in
      let meant = means leads.0 leads.1 in
      record {
        valid = stands.valid;
        run = stands.run;
        subject_is = stands.subject_is;
        goes_with = record { tickets_are = stands.goes_with.tickets_are; apart = stands.goes_with.apart; waiting_is = stands.goes_with.waiting_is; errands_are = stands.goes_with.errands_are };
        opened = stands.opened;
        read = Closed leads.0 answer ∷ stands.read;
        turns = Hears leads.0 meaning ∷ stands.turns;
        reads = (refl, meant.0, stands.reads);
        leads = leads.2;
        finds = meant.1;
        counted = counted;
        object_is = has;
        end_is = λ end ends. let read = (stands.end_is end ends).read in absurd (cc);
      }

  -- ---- what comes next

  -- what it does next is what its machine does
  pub same_going : going_of get ≡ going_in begun stands.turns
  same_going =
      ap (λ (subject : Subject). round_going subject.policy subject.devices get.findings.from get.findings.facts) stands.subject_is
      ∙ ap (λ (from : Option Floor). round_going begun.cluster.policy (devices begun) from get.findings.facts) stands.finds.from_is
      ∙ ap (λ (facts : Facts). round_going begun.cluster.policy (devices begun) (from_in begun stands.turns) facts) stands.finds.facts_are

  module _ (ready : IsReady get) where
    all_read : past ≡ stands.read
    all_read = subst (λ unread. Lead begun unread stands.read past) ready.read stands.leads

    reads_all : AreTurns begun past stands.turns
    reads_all = subst (λ path. AreTurns begun path stands.turns) (sym all_read) stands.reads

    pub is_next : (next : Next) (going : Going) → going_of get ≡ going → next_after begun stands.turns going ≡ next → IsNext begun past next
    is_next next going goes is = (stands.turns, reads_all, ap (next_after begun stands.turns) (sym same_going ∙ goes) ∙ is)

    -- the next ticket
    pub ticket_is : sends stands.turns ≡ length get.mailbox.tickets
    ticket_is = sends-given begun past stands.turns reads_all ∙ sym stands.goes_with.tickets_are.count

    pub counted_all : AreCounted get.findings.facts [] (opens past)
    counted_all = subst (λ unread. AreCounted get.findings.facts unread (opens past)) ready.read stands.counted

    -- no more answers were read than there are messages
    pub few : (get.findings.facts.answered ≤ get.findings.facts.asked) × (length get.findings.facts.sources + lost get.findings.facts ≤ length get.findings.facts.tried)
    few = answers_few get.findings.facts (opens past) [] counted_all

    pub says : (going : Going) → going_of get ≡ going → GoingSays begun.cluster.policy (devices begun) get.findings.from get.findings.facts going
    says going goes =
        let is = ap (λ (subject : Subject). round_going subject.policy subject.devices get.findings.from get.findings.facts) stands.subject_is in
        subst (GoingSays begun.cluster.policy (devices begun) get.findings.from get.findings.facts) (sym is ∙ goes)
        (going_says begun.cluster.policy (devices begun) get.findings.from get.findings.facts stands.finds.within.asked_few stands.finds.within.tried_few few.1)

    -- some message is open where an answer is missing
    pub waits : going_of get ≡ going.Wait → is_waiting past ≡ true
    waits goes =
        let missing = opens_are get.findings.facts (opens past) counted_all in
        waiting-some past (elim (says going.Wait goes) [
          | inl asked ↦ omega (arith, missing, asked, few.1)
          | inr fetched ↦ omega (arith, missing, fetched, few.0)
        ])

    -- and none is, where every device was heard and every fetch was answered
    pub closes : AreAllHeard (devices begun) get.findings.facts → AreFetched begun.cluster.policy get.findings.from get.findings.facts → opens past ≡ []
    closes heard fetched = none_open begun get.findings.from get.findings.facts (opens past) counted_all stands.finds.within heard fetched

    -- ---- a message is handed out

    pub stands_gave : (errand : Errand) (sent : Sent) → IsErrand begun errand sent → sent.ticket ≡ length get.mailbox.tickets → IsNext begun past (Hand sent)
        → (mailbox : MailboxModel Errand) → GoesWith mailbox (Gave sent ∷ past) → mailbox.errands ≡ get.mailbox.errands ++ errand ∷ [] → mailbox.unread ≡ get.mailbox.unread
        → (findings : Findings) (object : Option ObjectModel) → AreFindings findings begun (Sends sent ∷ stands.turns) → AreCounted findings.facts [] (sent ∷ opens past)
        → FindsObject begun.cluster.policy findings.facts object
        → Stands (record get { findings = findings; object = object; mailbox = mailbox }) begun (Gave sent ∷ past)
    stands_gave errand sent is ticket next mailbox goes errands unread findings object finds counted has =
        let none : [] ≡ mailbox.unread = sym (unread ∙ ready.read) in
        record {
          valid = stands.valid;
          run = (next, stands.run);
          subject_is = stands.subject_is;
          goes_with = goes;
          opened = subst (λ errands. All (IsOpen begun errands) (sent ∷ opens past)) (sym errands)
              (All-cons (IsOpen begun (get.mailbox.errands ++ errand ∷ [])) sent (opens past)
              (record { errand = errand; at = slice_get_last get.mailbox.errands errand sent.ticket (ticket ∙ sym stands.goes_with.errands_are); is = is })
              (All-weaker (IsOpen begun get.mailbox.errands) (IsOpen begun (get.mailbox.errands ++ errand ∷ []))
              (λ one known. record { errand = known.errand; at = slice_get_before get.mailbox.errands (errand ∷ []) one.ticket known.errand known.at; is = known.is })
              (opens past) stands.opened));
          read = Gave sent ∷ stands.read;
          turns = Sends sent ∷ stands.turns;
          reads = (refl, stands.reads);
          leads = subst (λ unread. Lead begun unread (Gave sent ∷ stands.read) (Gave sent ∷ past)) none (ap (λ path. Gave sent ∷ path) all_read);
          finds = finds;
          counted = subst (λ unread. AreCounted findings.facts unread (sent ∷ opens past)) none counted;
          object_is = λ on. has;
          end_is = λ end ends. absurd (none-some end (sym ready.goes_on ∙ ends));
        }

    -- ---- the end

    pub ends : (how : GetEnd) (going : Going) → going_of get ≡ going → EndsAfter begun stands.turns going how → IsEnd begun past how
    ends how going goes is = (stands.turns, reads_all, subst (λ one. EndsAfter begun stands.turns one how) (sym goes ∙ same_going) is)

    pub stands_ended : (object : Option ObjectModel) (how : GetEnd) → IsEnd begun past how → opens past ≡ [] → Stands (record get { object = object; end = Some how }) begun past
    stands_ended object how is closed = record {
      valid = stands.valid;
      run = stands.run;
      subject_is = stands.subject_is;
      goes_with = stands.goes_with;
      opened = stands.opened;
      read = stands.read;
      turns = stands.turns;
      reads = stands.reads;
      leads = stands.leads;
      finds = stands.finds;
      counted = stands.counted;
      object_is = λ none. absurd (none-some how (sym none));
      end_is = λ end same. record { is = subst (IsEnd begun past) (same_Some how end same) is; closed = closed; read = ready.read };
    }
