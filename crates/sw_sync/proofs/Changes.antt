-- A sync that took an answer, read one, worked out what follows, or handed out a message.
use Rattle.std.proofs.Common.{◌≡◌, ◌⊎◌, inl, inr, ℕ, Bool, true, false, ◌++◌, List, [], ◌∷◌, length, nat_lt, Option, Some, None, is_some, refl, sym, ap, subst, ◌∙◌}
use Rattle.std.specs.Prelude.{IsTrue, MatchOption}
use Rattle.std.specs.List.{All, slice_get}
use Rattle.std.proofs.lemmas.Bool.{cases_Bool}
use Rattle.std.proofs.lemmas.List.Elements.{All-cons, All-filter, All-nil, All-weaker}
use Rattle.std.proofs.lemmas.Option.{same_Some}
use Rattle.sw_hashpath.specs.Place.{PlaceModel}
use Rattle.sw_ring.specs.Cluster.{ClusterModel}
use Rattle.sw_message.specs.Transcript.{Closed, Gave, Hand, IsRun, Over, Step, Wait, after_answer, is_not, is_waiting, open_at, opens}
use Rattle.sw_message.specs.declared.message.Msg.{Msg}
use Rattle.sw_message.specs.declared.reply.Reply.{Reply}
use Rattle.sw_message.specs.declared.sent.Sent.{Sent}
use Rattle.sw_quorum.proofs.Transcripts.{found, run-told, some_found, told-ignored, told-open, waiting-some}
use Rattle.sw_gather.specs.Mailbox.{GoesWith, MailboxModel, Unread}
use Rattle.sw_gather.proofs.Lists.{slice_get_before, slice_get_last}
use Rattle.sw_gather.proofs.Mailboxes.{Taken}
use Rattle.sw_sync.specs.Hearing.{TookFirst}
use Rattle.sw_sync.specs.Standing.{IsAbout, IsOpen, Lead, MayHand, Stands, SyncModel, ends}
use Rattle.sw_sync.specs.State.{State}
use Rattle.sw_sync.specs.Sync.{Begun, Hands, IsBegun, IsEnd, IsMessage, IsNext, IsState, Takes, beginning, errand_of, next_of, settled}
use Rattle.sw_sync.specs.declared.errand.Errand.{Errand}
use Rattle.sw_sync.specs.declared.errand.Errand.TheVariants.{Ask, Commit, Delete, Fetch, Store}
use Rattle.sw_sync.specs.declared.stage.Stage.{Stage}
use Rattle.sw_sync.specs.declared.stage.Stage.TheVariants.{Buries, Ends, Handoffs, Primaries, Repairs}
use Rattle.sw_sync.specs.declared.sync_end.SyncEnd.{SyncEnd}
use Rattle.sw_sync.proofs.Hearings.{LeadsTo}
use Rattle.sw_sync.proofs.Machine.{hands_of, hands_warranted, over_settled, settled_over}
use Rattle.sw_sync.proofs.Settled.{end_of, settled_end, settled_stays, settled_waiting, some_open}

-- ---- answers that are to be read

-- one answer more is to be read
lead-append : (unread : List (Unread Errand)) (read past : List Step) (errand : Errand) (answer : Option Reply) (sent : Sent) → IsAbout errand sent → Lead unread read past
    → Lead (unread ++ (errand, answer) ∷ []) read (Closed sent answer ∷ past)
lead-append [] read past errand answer sent is leads = (sent, is, ap (λ path. Closed sent answer ∷ path) leads)
lead-append (one ∷ later) read past errand answer sent is leads = (leads.0, leads.1, lead-append later (Closed leads.0 one.1 ∷ read) past errand answer sent is leads.2)

-- the transcript up to where answers were read is one of the machine
lead-run : (begun : Begun) (unread : List (Unread Errand)) (read past : List Step) → Lead unread read past → IsRun (IsNext begun) past → IsRun (IsNext begun) read
lead-run begun [] read past leads run = subst (IsRun (IsNext begun)) leads run
lead-run begun (one ∷ later) read past leads run = (lead-run begun later (Closed leads.0 one.1 ∷ read) past leads.2 run).1

-- where an answer is to be read, its message was open
lead-waits : (begun : Begun) (one : Unread Errand) (later : List (Unread Errand)) (read past : List Step) → Lead (one ∷ later) read past → IsRun (IsNext begun) past → is_waiting read ≡ true
lead-waits begun one later read past leads run =
    let sent = leads.0 in
    waiting-some read (some_found sent.ticket (opens read) sent (lead-run begun later (Closed sent one.1 ∷ read) past leads.2 run).0)

-- where none is open, all were read
lead-closed : (begun : Begun) (unread : List (Unread Errand)) (read past : List Step) → Lead unread read past → IsRun (IsNext begun) past → is_waiting read ≡ false → past ≡ read
lead-closed begun [] read past leads run none = leads
lead-closed begun (one ∷ later) read past leads run none = absurd (let waits = lead-waits begun one later read past leads run in cc)

-- ---- messages

-- the message of an errand is about it
about : (begun : Begun) (stage : Stage) (errand : Errand) (device : ℕ) (msg : Msg) → IsMessage begun stage errand device msg → errand_of device msg ≡ Some errand
about begun (Handoffs heard) (Ask asked) device msg is = ap (errand_of device) is.1 ∙ ap (λ one. Some (Ask one)) is.0
about begun (Handoffs heard) (Delete primary) device msg is = absurd is
about begun (Handoffs heard) (Fetch source) device msg is = absurd is
about begun (Handoffs heard) (Store target) device msg is = absurd is
about begun (Handoffs heard) (Commit target) device msg is = absurd is
about begun (Primaries heard) (Ask asked) device msg is = ap (errand_of device) is.1 ∙ ap (λ one. Some (Ask one)) is.0
about begun (Primaries heard) (Delete primary) device msg is = absurd is
about begun (Primaries heard) (Fetch source) device msg is = absurd is
about begun (Primaries heard) (Store target) device msg is = absurd is
about begun (Primaries heard) (Commit target) device msg is = absurd is
about begun (Buries burial) (Ask asked) device msg is = ap (errand_of device) is.1 ∙ ap (λ one. Some (Ask one)) is.0
about begun (Buries burial) (Delete primary) device msg is = ap (errand_of device) is.1 ∙ ap (λ one. Some (Delete one)) is.0
about begun (Buries burial) (Fetch source) device msg is = absurd is
about begun (Buries burial) (Store target) device msg is = absurd is
about begun (Buries burial) (Commit target) device msg is = absurd is
about begun (Repairs repair) (Ask asked) device msg is = ap (errand_of device) is.1 ∙ ap (λ one. Some (Ask one)) is.0
about begun (Repairs repair) (Delete primary) device msg is = absurd is
about begun (Repairs repair) (Fetch source) device msg is = ap (errand_of device) is.1 ∙ ap (λ one. Some (Fetch (record { index = source.index; device = one }))) is.0
about begun (Repairs repair) (Store target) device msg is = ap (errand_of device) is.3 ∙ ap (λ one. Some (Store (record { index = target.index; device = one }))) is.2
about begun (Repairs repair) (Commit target) device msg is = ap (errand_of device) is.1 ∙ ap (λ one. Some (Commit (record { index = target.index; device = one }))) is.0
about begun (Ends end) (Ask asked) device msg is = ap (errand_of device) is.1 ∙ ap (λ one. Some (Ask one)) is.0
about begun (Ends end) (Delete primary) device msg is = absurd is
about begun (Ends end) (Fetch source) device msg is = absurd is
about begun (Ends end) (Store target) device msg is = absurd is
about begun (Ends end) (Commit target) device msg is = absurd is

-- ---- whether it is over

pub some_ends : {A : Type 0} (as_end : A → SyncEnd) (stage : Stage) (option : Option A) → MatchOption option (ends stage ≡ false) (λ end. stage ≡ Ends (as_end end)) → is_some option ≡ ends stage
some_ends as_end stage None none = sym none
some_ends as_end stage (Some end) is = sym (ap ends is)

-- ---- a sync that begins

pub stands_begun : (begun : Begun) (job : SyncModel) → IsBegun begun → job.cluster ≡ begun.cluster → job.device ≡ begun.device → job.place ≡ begun.place → job.state ≡ beginning begun
    → GoesWith job.mailbox [] → job.mailbox.unread ≡ [] → Stands job begun []
stands_begun begun job valid cluster device place state goes unread = record {
  valid = valid;
  run = tt;
  cluster_is = cluster;
  device_is = device;
  place_is = place;
  goes_with = goes;
  opened = All-nil (IsOpen job.mailbox.errands);
  read = [];
  state = settled begun false (beginning begun);
  is = refl;
  leads = subst (λ these. Lead these [] []) (sym unread) refl;
  seen = ap (settled begun false) state;
}

-- ---- a sync that stands for a transcript

module _ (job : SyncModel) (begun : Begun) (past : List Step) (stands : Stands job begun past) where
  -- what it was begun with
  pub begun_is : record { cluster = job.cluster; device = job.device; place = job.place } ≡ begun
  begun_is =
      ap (λ (cluster : ClusterModel). record { cluster = cluster; device = job.device; place = job.place }) stands.cluster_is
      ∙ ap (λ device. record { cluster = begun.cluster; device = device; place = job.place }) stands.device_is
      ∙ ap (λ (place : PlaceModel). record { cluster = begun.cluster; device = begun.device; place = place }) stands.place_is

  -- ---- an answer is taken

  module _ (mailbox : MailboxModel Errand) (same_errands : mailbox.errands ≡ job.mailbox.errands) where
    ignored : GoesWith mailbox past → mailbox.unread ≡ job.mailbox.unread → Stands (record job { mailbox = mailbox }) begun past
    ignored goes same = record {
      valid = stands.valid;
      run = stands.run;
      cluster_is = stands.cluster_is;
      device_is = stands.device_is;
      place_is = stands.place_is;
      goes_with = goes;
      opened = subst (λ errands. All (IsOpen errands) (opens past)) (sym same_errands) stands.opened;
      read = stands.read;
      state = stands.state;
      is = stands.is;
      leads = subst (λ unread. Lead unread stands.read past) (sym same) stands.leads;
      seen = stands.seen;
    }

    taken : (ticket : ℕ) (answer : Option Reply) (sent : Sent) (errand : Errand) → open_at ticket past ≡ Some sent → slice_get job.mailbox.errands sent.ticket ≡ Some errand
        → mailbox.unread ≡ job.mailbox.unread ++ (errand, answer) ∷ [] → GoesWith mailbox (Closed sent answer ∷ past) → Stands (record job { mailbox = mailbox }) begun (Closed sent answer ∷ past)
    taken ticket answer sent errand is at more goes =
        let own = found (IsOpen job.mailbox.errands) ticket (opens past) sent is stands.opened in
        let this : IsAbout errand sent = subst (λ one. IsAbout one sent) (same_Some own.0.errand errand (sym own.0.at ∙ at)) own.0.about in
        record {
          valid = stands.valid;
          run = run-told (IsNext begun) past ticket answer sent is stands.run;
          cluster_is = stands.cluster_is;
          device_is = stands.device_is;
          place_is = stands.place_is;
          goes_with = goes;
          opened = subst (λ errands. All (IsOpen errands) (opens (Closed sent answer ∷ past))) (sym same_errands)
              (All-filter (is_not sent.ticket) (IsOpen job.mailbox.errands) (opens past) stands.opened);
          read = stands.read;
          state = stands.state;
          is = stands.is;
          leads = subst (λ unread. Lead unread stands.read (Closed sent answer ∷ past)) (sym more) (lead-append job.mailbox.unread stands.read past errand answer sent this stands.leads);
          seen = stands.seen;
        }

    told_at : (ticket : ℕ) (answer : Option Reply) (opened : Option Sent) → open_at ticket past ≡ opened
        → MatchOption opened (mailbox.unread ≡ job.mailbox.unread) (λ sent. (one : Errand) × (slice_get job.mailbox.errands sent.ticket ≡ Some one) × (mailbox.unread ≡ job.mailbox.unread ++ (one, answer) ∷ []))
        → GoesWith mailbox (after_answer past ticket answer) → Stands (record job { mailbox = mailbox }) begun (after_answer past ticket answer)
    told_at ticket answer None is same goes =
        let path = told-ignored past ticket answer is in
        subst (Stands (record job { mailbox = mailbox }) begun) (sym path) (ignored (subst (GoesWith mailbox) path goes) same)
    told_at ticket answer (Some sent) is more goes =
        let path = told-open past ticket answer sent is in
        subst (Stands (record job { mailbox = mailbox }) begun) (sym path) (taken ticket answer sent more.0 is more.1 more.2 (subst (GoesWith mailbox) path goes))

    pub stands_told : (ticket : ℕ) (answer : Option Reply) → Taken job.mailbox past ticket answer mailbox.unread → GoesWith mailbox (after_answer past ticket answer)
        → Stands (record job { mailbox = mailbox }) begun (after_answer past ticket answer)
    stands_told ticket answer is goes = told_at ticket answer (open_at ticket past) refl is goes

  -- ---- the first answer is read

  pub stands_read : (errand : Errand) (mailbox : MailboxModel Errand) (state : State) → TookFirst job.mailbox mailbox errand (λ answer. LeadsTo job.cluster job.place answer errand job.state state)
      → Stands (record job { state = state; mailbox = mailbox }) begun past
  stands_read errand mailbox state took =
      let leads = subst (λ unread. Lead unread stands.read past) took.first stands.leads in
      let sent = leads.0 in
      let path = Closed sent took.answer ∷ stands.read in
      let waits = lead-waits begun (errand, took.answer) took.later stands.read past leads stands.run in
      let was : job.state ≡ stands.state = sym (settled_waiting begun job.state) ∙ ap (λ waiting. settled begun waiting job.state) (sym waits) ∙ stands.seen in
      let led = subst (λ place. LeadsTo begun.cluster place took.answer errand job.state state) stands.place_is
      (subst (λ cluster. LeadsTo cluster job.place took.answer errand job.state state) stands.cluster_is took.leads_to) in
      let takes : Takes begun job.state sent took.answer state = record { errand = errand; about = leads.1; stage = led.0; more = led.1; hears = led.2; after_is = led.3 } in
      subst (λ (box : MailboxModel Errand). Stands (record job { state = state; mailbox = box }) begun past) (sym took.after_is) (record {
        valid = stands.valid;
        run = stands.run;
        cluster_is = stands.cluster_is;
        device_is = stands.device_is;
        place_is = stands.place_is;
        goes_with = record { tickets_are = stands.goes_with.tickets_are; apart = stands.goes_with.apart; waiting_is = stands.goes_with.waiting_is; errands_are = stands.goes_with.errands_are };
        opened = stands.opened;
        read = path;
        state = settled begun (is_waiting path) state;
        is = (job.state, subst (IsState begun stands.read) (sym was) stands.is, state, takes, refl);
        leads = leads.2;
        seen = refl;
      })

  -- ---- what follows is worked out

  pub follows_so : (state : State) (waiting : Bool) → waiting ≡ nat_lt 0 job.mailbox.waiting → state ≡ settled (record { cluster = job.cluster; device = job.device; place = job.place }) waiting job.state
      → state ≡ settled begun (is_waiting past) job.state
  follows_so state waiting is follows =
      follows ∙ ap (λ begun. settled begun waiting job.state) begun_is
      ∙ ap (λ waiting. settled begun waiting job.state) (is ∙ ap (nat_lt 0) stands.goes_with.waiting_is ∙ some_open (opens past))

  -- ---- once every answer was read

  module _ (all_read : job.mailbox.unread ≡ []) where
    path_is : past ≡ stands.read
    path_is = subst (λ unread. Lead unread stands.read past) all_read stands.leads

    -- what follows is worked out
    module _ (state : State) (follows : state ≡ settled begun (is_waiting past) job.state) where
      pub settled_is : IsState begun past state
      settled_is =
          let same : state ≡ stands.state = follows ∙ ap (λ path. settled begun (is_waiting path) job.state) path_is ∙ stands.seen in
          subst (λ path. IsState begun path state) (sym path_is) (subst (IsState begun stands.read) (sym same) stands.is)

      pub stands_settled : Stands (record job { state = state }) begun past
      stands_settled = record {
        valid = stands.valid;
        run = stands.run;
        cluster_is = stands.cluster_is;
        device_is = stands.device_is;
        place_is = stands.place_is;
        goes_with = stands.goes_with;
        opened = stands.opened;
        read = past;
        state = state;
        is = settled_is;
        leads = subst (λ unread. Lead unread past past) (sym all_read) refl;
        seen = settled_stays begun stands.valid past state settled_is;
      }

    -- ---- a message is handed out

    module _ (ready : IsState begun past job.state) where
      module _ (errand : Errand) (later : List Errand) (sent : Sent) (first : job.state.due ≡ errand ∷ later) (ticket : sent.ticket ≡ length job.mailbox.tickets)
          (is_message : IsMessage begun job.state.stage errand sent.device sent.msg) where
        abbrev after : State
        after = record { stage = job.state.stage; due = later }

        hands : Hands begun job.state sent after
        hands = record { errand = errand; later = later; first = first; message = is_message; after_is = refl }

        next : IsNext begun past (Hand sent)
        next = (job.state, ready, (ticket ∙ stands.goes_with.tickets_are.count, after, hands))

        pub may_hand : MayHand begun past sent
        may_hand = record {
          next = next;
          of = hands_of begun stands.valid past job.state after sent stands.run ready hands;
          warranted = λ learnt known. hands_warranted begun stands.valid past job.state after sent learnt stands.run ready hands known;
        }

        pub stands_handed : (mailbox : MailboxModel Errand) → GoesWith mailbox (Gave sent ∷ past) → mailbox.errands ≡ job.mailbox.errands ++ errand ∷ [] → mailbox.unread ≡ job.mailbox.unread
            → Stands (record job { state = after; mailbox = mailbox }) begun (Gave sent ∷ past)
        stands_handed mailbox goes errands unread = record {
          valid = stands.valid;
          run = (next, stands.run);
          cluster_is = stands.cluster_is;
          device_is = stands.device_is;
          place_is = stands.place_is;
          goes_with = goes;
          opened = subst (λ errands. All (IsOpen errands) (sent ∷ opens past)) (sym errands)
              (All-cons (IsOpen (job.mailbox.errands ++ errand ∷ [])) sent (opens past)
              (record {
                errand = errand;
                at = slice_get_last job.mailbox.errands errand sent.ticket (ticket ∙ sym stands.goes_with.errands_are);
                about = about begun job.state.stage errand sent.device sent.msg is_message;
              })
              (All-weaker (IsOpen job.mailbox.errands) (IsOpen (job.mailbox.errands ++ errand ∷ []))
              (λ one known. record { errand = known.errand; at = slice_get_before job.mailbox.errands (errand ∷ []) one.ticket known.errand known.at; about = known.about })
              (opens past) stands.opened));
          read = Gave sent ∷ past;
          state = after;
          is = (job.state, ready, hands);
          leads = subst (λ these. Lead these (Gave sent ∷ past) (Gave sent ∷ past)) (sym (unread ∙ all_read)) refl;
          seen = settled_waiting begun after;
        }

  -- ---- what comes next

  module _ (ready : IsState begun past job.state) where
    -- where something is due, it is not over
    pub goes_on : (errand : Errand) (later : List Errand) → job.state.due ≡ errand ∷ later → ends job.state.stage ≡ false
    goes_on errand later first = elim (cases_Bool (ends job.state.stage)) [
      | inl over ↦ absurd (let none = (over_settled begun stands.valid past job.state ready over).1 in cc)
      | inr on ↦ on
    ]

    -- where nothing is, it waits or is over
    pub over_or_waits : job.state.due ≡ [] → (IsNext begun past Over × (ends job.state.stage ≡ true)) ⊎ (IsNext begun past Wait × IsTrue (is_waiting past) × (ends job.state.stage ≡ false))
    over_or_waits none = elim (cases_Bool (is_waiting past)) [
      | inl waits ↦ inr ((job.state, ready, (none, ap next_of (sym waits))), waits, waiting_on waits)
      | inr closed ↦ inl ((job.state, ready, (none, ap next_of (sym closed))), settled_over begun stands.valid past job.state ready closed none)
    ]
      where
        waiting_on : is_waiting past ≡ true → ends job.state.stage ≡ false
        waiting_on waits = elim (cases_Bool (ends job.state.stage)) [
          | inl over ↦ absurd (let closed = (over_settled begun stands.valid past job.state ready over).0 in cc)
          | inr on ↦ on
        ]

  -- ---- it is over

  module _ (end : SyncEnd) (is : job.state.stage ≡ Ends end) where
    over_stage : stands.state.stage ≡ Ends end
    over_stage = ap (λ (state : State). state.stage) (sym stands.seen) ∙ settled_end begun (is_waiting stands.read) job.state end is

    over_closed : (is_waiting stands.read ≡ false) × (stands.state.due ≡ [])
    over_closed = over_settled begun stands.valid stands.read stands.state stands.is (ap ends over_stage)

    over_read : past ≡ stands.read
    over_read = lead-closed begun job.mailbox.unread stands.read past stands.leads stands.run over_closed.0

    pub ended_so : IsEnd begun past end
    ended_so = subst (λ path. IsEnd begun path end) (sym over_read) (over_closed.0, stands.state, stands.is, over_stage)

    pub ended_over : IsNext begun past Over
    ended_over = subst (λ path. IsNext begun path Over) (sym over_read) (stands.state, stands.is, (over_closed.1, ap next_of (sym over_closed.0)))

  pub is_over : ends job.state.stage ≡ true → IsNext begun past Over
  is_over over = let end = end_of job.state.stage over in ended_over end.0 end.1
