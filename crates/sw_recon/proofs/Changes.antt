-- A revert that took an answer, read one, or handed out a message.
use Rattle.std.proofs.Common.{◌≡◌, ◌⊎◌, inl, inr, ℕ, ◌+◌, ◌&&◌, Bool, true, false, not, List, [], ◌∷◌, length, Option, Some, None, is_some, refl, sym, ap, subst, ◌∙◌}
use Rattle.std.specs.Prelude.{if◌then◌else◌, MatchOption, OnErr, OnOk, Result, Ok, Err}
use Rattle.std.proofs.lemmas.Bool.{and_right}
use Rattle.sw_hashdir.specs.declared.entry.Entry.{Entry}
use Rattle.sw_hashpath.specs.Place.{PlaceModel}
use Rattle.sw_types.specs.declared.memory.NoMemory.{NoMemory}
use Rattle.sw_ring.specs.Cluster.{ClusterModel}
use Rattle.sw_message.specs.Floors.{stands_above}
use Rattle.sw_message.specs.Tickets.{AreTickets}
use Rattle.sw_message.specs.Transcript.{Closed, Gave, Hand, IsRun, Over, Step, Wait, after_answer, given, is_empty, is_waiting, open_at, opens}
use Rattle.sw_message.specs.declared.reply.Reply.{Reply}
use Rattle.sw_message.specs.declared.reply.Reply.TheVariants as reply
use Rattle.sw_message.specs.declared.sent.Sent.{Sent}
use Rattle.sw_quorum.proofs.Transcripts.{run-told, told-ignored, told-open}
use Rattle.sw_recon.specs.Inside.{revert_seen}
use Rattle.sw_recon.specs.Revert.{Begun, IsBegun, IsEnd, IsNext, IsStatus, Leads, forbidden, next_at, next_or, stored}
use Rattle.sw_recon.specs.Standing.{AreOpen, ReadsBy, RevertModel, Stands, ends, handed, handed_treatment}
use Rattle.sw_recon.specs.declared.kept.KeptEntry.{KeptEntry}
use Rattle.sw_recon.specs.declared.revert.RevertJob.TheInside.{Inside}
use Rattle.sw_recon.specs.declared.revert_end.RevertEnd.{RevertEnd}
use Rattle.sw_recon.specs.declared.status.Status.{Status}
use Rattle.sw_recon.specs.declared.status.Status.TheVariants.{Ends, Starts, Treats}
use Rattle.sw_recon.specs.declared.treatment.Treatment.{Treatment}
use Rattle.sw_recon.specs.declared.treatment.Treatment.TheVariants.{Ask, Commit, Fetch, Remove, Store}
use Rattle.sw_recon.proofs.Machine.{IsOpen, answered, at_most_one, open-goes}

-- what holds of a revert, by its fields
pub by_fields : (inside : Inside) (job : RevertModel) (begun : Begun) (past : List Step) → revert_seen inside ≡ job → Stands job begun past → Stands (revert_seen inside) begun past
by_fields inside job begun past is stands = subst (λ (job : RevertModel). Stands job begun past) (sym is) stands

-- ---- bytes that were handed out are not read

forbidden-same : (total : ℕ) (entry : Entry) (later : List Entry) (gone : ℕ) (kept : List KeptEntry) (a b : Treatment) (above : Bool)
    → forbidden total (record { entry = entry; later = later; treatment = a; removed = gone; kept = kept }) above ≡ forbidden total (record { entry = entry; later = later; treatment = b; removed = gone; kept = kept }) above
forbidden-same total entry later gone kept a b true = refl
forbidden-same total entry later gone kept a b false = refl

stored-same : (total : ℕ) (entry : Entry) (later : List Entry) (gone : ℕ) (kept : List KeptEntry) (a b : Treatment) (answer : Option Reply)
    → stored total (record { entry = entry; later = later; treatment = a; removed = gone; kept = kept }) answer ≡ stored total (record { entry = entry; later = later; treatment = b; removed = gone; kept = kept }) answer
stored-same total entry later gone kept a b None = refl
stored-same total entry later gone kept a b (Some reply.Synced) = refl
stored-same total entry later gone kept a b (Some (reply.Superseded floor)) = forbidden-same total entry later gone kept a b (stands_above floor entry.stamp)
stored-same total entry later gone kept a b (Some other) = refl

module _ (begun : Begun) (answer : Option Reply) (next : Status) where
  course-unhanded : (entry : Entry) (later : List Entry) (gone : ℕ) (kept : List KeptEntry) (treatment : Treatment)
      → Leads begun (Treats (record { entry = entry; later = later; treatment = handed_treatment treatment; removed = gone; kept = kept })) answer next
      → Leads begun (Treats (record { entry = entry; later = later; treatment = treatment; removed = gone; kept = kept })) answer next
  course-unhanded entry later gone kept Ask leads = leads
  course-unhanded entry later gone kept Fetch leads = leads
  course-unhanded entry later gone kept (Store bytes) leads =
      (leads.0, leads.1, leads.2 ∙ stored-same (begun.cluster.policy.k + begun.cluster.policy.m) entry later gone kept (Store []) (Store bytes) answer)
  course-unhanded entry later gone kept Commit leads = leads
  course-unhanded entry later gone kept Remove leads = leads

  unhanded : (status : Status) → Leads begun (handed status) answer next → Leads begun status answer next
  unhanded Starts leads = leads
  unhanded (Treats course) leads = course-unhanded course.entry course.later course.removed course.kept course.treatment leads
  unhanded (Ends end) leads = leads

ends-handed : (status : Status) → ends (handed status) ≡ ends status
ends-handed Starts = refl
ends-handed (Treats course) = refl
ends-handed (Ends end) = refl

-- ---- a revert that begins

pub stands_begun : (begun : Begun) (flags : List Bool) → IsBegun begun → AreTickets flags []
    → Stands (record { cluster = begun.cluster; device = begun.device; place = begun.place; status = Starts; tickets = flags; is_waiting = false; unread = None }) begun []
stands_begun begun flags valid are = record {
  valid = valid;
  run = tt;
  cluster_is = refl;
  device_is = refl;
  place_is = refl;
  tickets_are = are;
  opened = refl;
  read = [];
  status = Starts;
  is = refl;
  reads = (refl, refl);
}

-- ---- what a transcript leads to

module _ (begun : Begun) (past : List Step) (run : IsRun (IsNext begun) past) where
  -- while a message is open, or an answer is not read, it is not over
  goes-open : (opened : (opens past ≡ []) ⊎ IsOpen begun past) (sent : Sent) (now : Status) → opens past ≡ sent ∷ [] → IsStatus begun past now → ends now ≡ false
  goes-open (inl none) sent now some is = absurd (cc (sym none ∙ some))
  goes-open (inr one) sent now some is = open-goes begun past now one is

  pub record IsRead (waiting : Bool) (unread : Option (Option Reply)) (seen : Status) : Type 0 where
    pub none_open : waiting ≡ false
    pub none_unread : unread ≡ None
    pub is : IsStatus begun past seen

  read_or : (waiting : Bool) (unread : Option (Option Reply)) (seen reached : Status) (read : List Step) → ReadsBy waiting unread seen past read reached → AreOpen waiting (opens past) → IsStatus begun read reached
      → IsRead waiting unread seen ⊎ (ends seen ≡ false)
  read_or false None seen reached read reads opened is =
      inl (record { none_open = refl; none_unread = refl; is = subst (λ (steps : List Step). IsStatus begun steps seen) reads.0 (subst (IsStatus begun read) (sym reads.1) is) })
  read_or true None seen reached read reads opened is =
      inr (ap ends reads.1 ∙ ends-handed reached ∙ goes-open (at_most_one begun past run) opened.0 reached opened.1 (subst (λ (steps : List Step). IsStatus begun steps reached) reads.0 is))
  read_or false (Some answer) seen reached read reads opened is =
      let after_answer : IsRun (IsNext begun) (Closed reads.0.0 answer ∷ read) = subst (IsRun (IsNext begun)) reads.0.1 run in
      inr (ap ends reads.1 ∙ ends-handed reached ∙ open-goes begun read reached (answered begun read reads.0.0 after_answer.1 after_answer.0).one is)
  read_or true (Some answer) seen reached read reads opened is = absurd reads

-- a status leads on
next-is : (begun : Begun) (past : List Step) (status : Status) → opens past ≡ [] → IsStatus begun past status → IsNext begun past (next_at begun (length (given past)) status)
next-is begun past status none is =
    subst (λ (opened : List Sent). next_or begun past (not (is_empty opened)) (next_at begun (length (given past)) status)) (sym none) (status, is, refl)

none-open : (waiting : Bool) (past : List Step) → waiting ≡ false → AreOpen waiting (opens past) → opens past ≡ []
none-open false past is opened = opened
none-open true past is opened = absurd (cc)

module _ (job : RevertModel) (begun : Begun) (past : List Step) (stands : Stands job begun past) where
  -- what it has read
  seen-read : IsRead begun past stands.run job.is_waiting job.unread job.status ⊎ (ends job.status ≡ false)
  seen-read = read_or begun past stands.run job.is_waiting job.unread job.status stands.status stands.read stands.reads stands.opened stands.is

  -- ---- the end

  pub ended : ends job.status ≡ true → IsRead begun past stands.run job.is_waiting job.unread job.status
  ended over = elim seen-read [ inl read ↦ read | inr goes ↦ absurd (cc (sym over ∙ goes)) ]

  pub is_end : (end : RevertEnd) → job.status ≡ Ends end → IsEnd begun past end
  is_end end is =
      let read = ended (ap ends is) in
      (ap (λ (opened : List Sent). not (is_empty opened)) (none-open job.is_waiting past read.none_open stands.opened), subst (IsStatus begun past) is read.is)

  pub is_over : ends job.status ≡ true → IsNext begun past Over
  is_over over =
      let read = ended over in
      subst (IsNext begun past) (over-at job.status over) (next-is begun past job.status (none-open job.is_waiting past read.none_open stands.opened) read.is)
    where
      over-at : (status : Status) → ends status ≡ true → next_at begun (length (given past)) status ≡ Over
      over-at Starts is = absurd (cc)
      over-at (Treats course) is = absurd (cc)
      over-at (Ends end) is = refl

  -- ---- a message is open

  pub waits : job.is_waiting ≡ true → IsNext begun past Wait × (is_waiting past ≡ true) × (ends job.status ≡ false)
  waits is =
      let some = waiting-so job.is_waiting is stands.opened in (
        subst (λ b. next_or begun past b Wait) (sym some) refl,
        some,
        elim seen-read [ inl read ↦ absurd (cc (sym is ∙ read.none_open)) | inr goes ↦ goes ],
      )
    where
      waiting-so : (waiting : Bool) → waiting ≡ true → AreOpen waiting (opens past) → is_waiting past ≡ true
      waiting-so false is opened = absurd (cc)
      waiting-so true is opened = ap (λ (these : List Sent). not (is_empty these)) opened.1

  -- ---- an answer is taken

  module _ (flags : List Bool) (waiting : Bool) (unread : Option (Option Reply)) where
    abbrev after : RevertModel
    after = record job { tickets = flags; is_waiting = waiting; unread = unread }

    same-after : AreTickets flags past → waiting ≡ job.is_waiting → unread ≡ job.unread → Stands after begun past
    same-after are same_waiting same_unread = record {
      valid = stands.valid;
      run = stands.run;
      cluster_is = stands.cluster_is;
      device_is = stands.device_is;
      place_is = stands.place_is;
      tickets_are = are;
      opened = subst (λ b. AreOpen b (opens past)) (sym same_waiting) stands.opened;
      read = stands.read;
      status = stands.status;
      is = stands.is;
      reads = subst (λ b. ReadsBy b unread job.status past stands.read stands.status) (sym same_waiting)
          (subst (λ (these : Option (Option Reply)). ReadsBy job.is_waiting these job.status past stands.read stands.status) (sym same_unread) stands.reads);
    }

    -- where one is open, all before is read
    read-before : (sent : Sent) (before : Bool) (old : Option (Option Reply)) (read : List Step) (reached : Status) → opens past ≡ sent ∷ [] → AreOpen before (opens past) → ReadsBy before old job.status past read reached
        → (read ≡ past) × (job.status ≡ handed reached)
    read-before sent false old read reached some opened reads = absurd (cc (sym opened ∙ some))
    read-before sent true None read reached some opened reads = (reads.0, reads.1)
    read-before sent true (Some answer) read reached some opened reads = absurd reads

    taken-after : (sent : Sent) (answer : Option Reply) → open_at sent.ticket past ≡ Some sent → IsRun (IsNext begun) (Closed sent answer ∷ past) → AreTickets flags (Closed sent answer ∷ past) → waiting ≡ false → unread ≡ Some answer
        → Stands after begun (Closed sent answer ∷ past)
    taken-after sent answer is_open run are none some =
        let is = answered begun past sent stands.run is_open in
        let before = read-before is.one.sent job.is_waiting job.unread stands.read stands.status is.one.opened stands.opened stands.reads in
        record {
          valid = stands.valid;
          run = run;
          cluster_is = stands.cluster_is;
          device_is = stands.device_is;
          place_is = stands.place_is;
          tickets_are = are;
          opened = subst (λ b. AreOpen b (opens (Closed sent answer ∷ past))) (sym none) is.closed;
          read = past;
          status = stands.status;
          is = subst (λ (steps : List Step). IsStatus begun steps stands.status) before.0 stands.is;
          reads = subst (λ b. ReadsBy b unread job.status (Closed sent answer ∷ past) past stands.status) (sym none)
              (subst (λ (these : Option (Option Reply)). ReadsBy false these job.status (Closed sent answer ∷ past) past stands.status) (sym some) ((sent, refl), before.1));
        }

    told-at : (ticket : ℕ) (answer : Option Reply) (is_open : Bool) (opened : Option Sent) → open_at ticket past ≡ opened → is_open ≡ is_some opened → AreTickets flags (after_answer past ticket answer)
        → waiting ≡ (job.is_waiting && not is_open) → unread ≡ (if is_open then Some answer else job.unread) → Stands after begun (after_answer past ticket answer)
    told-at ticket answer is_open None is flag are waits unread_is =
        let path = told-ignored past ticket answer is in
        subst (Stands after begun) (sym path)
        (same-after (subst (AreTickets flags) path are) (waits ∙ ap (λ b. job.is_waiting && not b) flag ∙ and-true job.is_waiting) (unread_is ∙ ap (λ b. if b then Some answer else job.unread) flag))
      where
        and-true : (b : Bool) → (b && true) ≡ b
        and-true true = refl
        and-true false = refl
    told-at ticket answer is_open (Some sent) is flag are waits unread_is =
        let path = told-open past ticket answer sent is in
        let run = run-told (IsNext begun) past ticket answer sent is stands.run in
        subst (Stands after begun) (sym path)
        (taken-after sent answer run.0 run (subst (AreTickets flags) path are) (waits ∙ and_right job.is_waiting (not is_open) (ap not flag)) (unread_is ∙ ap (λ b. if b then Some answer else job.unread) flag))

    pub stands_told : (ticket : ℕ) (answer : Option Reply) (is_open : Bool) → is_open ≡ is_some (open_at ticket past) → AreTickets flags (after_answer past ticket answer)
        → waiting ≡ (job.is_waiting && not is_open) → unread ≡ (if is_open then Some answer else job.unread) → Stands after begun (after_answer past ticket answer)
    stands_told ticket answer is_open flag are waits unread_is = told-at ticket answer is_open (open_at ticket past) refl flag are waits unread_is

  -- ---- an answer is read

  same-begun : record { cluster = job.cluster; device = job.device; place = job.place } ≡ begun
  same-begun =
      ap (λ (cluster : ClusterModel). record { cluster = cluster; device = job.device; place = job.place }) stands.cluster_is
      ∙ ap (λ device. record { cluster = begun.cluster; device = device; place = job.place }) stands.device_is
      ∙ ap (λ (place : PlaceModel). record { cluster = begun.cluster; device = begun.device; place = place }) stands.place_is

  read-at : (waiting : Bool) (answer : Option Reply) (next reached : Status) (read : List Step) → ReadsBy waiting (Some answer) job.status past read reached → IsStatus begun read reached → Leads begun job.status answer next
      → (waiting ≡ false) × IsStatus begun past next
  read-at true answer next reached read reads is leads = absurd reads
  read-at false answer next reached read reads is leads =
      let now : IsStatus begun (Closed reads.0.0 answer ∷ read) next = (reached, is, unhanded begun answer next reached (subst (λ (before : Status). Leads begun before answer next) reads.1 leads)) in
      (refl, subst (λ (steps : List Step). IsStatus begun steps next) (sym reads.0.1) now)

  pub stands_read : (answer : Option Reply) (next : Status) → job.unread ≡ Some answer
      → (ends job.status ≡ false → Leads (record { cluster = job.cluster; device = job.device; place = job.place }) job.status answer next)
      → Stands (record job { status = next; unread = None }) begun past
  stands_read answer next some leads =
      let goes : ends job.status ≡ false = elim seen-read [ inl read ↦ absurd (cc (sym some ∙ read.none_unread)) | inr goes ↦ goes ] in
      let now = read-at job.is_waiting answer next stands.status stands.read
      (subst (λ (these : Option (Option Reply)). ReadsBy job.is_waiting these job.status past stands.read stands.status) some stands.reads) stands.is
      (subst (λ (begun : Begun). Leads begun job.status answer next) same-begun (leads goes)) in
      record {
        valid = stands.valid;
        run = stands.run;
        cluster_is = stands.cluster_is;
        device_is = stands.device_is;
        place_is = stands.place_is;
        tickets_are = stands.tickets_are;
        opened = stands.opened;
        read = past;
        status = next;
        is = now.1;
        reads = subst (λ b. ReadsBy b None next past past next) (sym now.0) (refl, refl);
      }

  -- by a call that reads, or is refused
  module _ (result : Result (Unit {0}) NoMemory) (next : Status) (unread : Option (Option Reply)) (read : OnOk result (unread ≡ None))
      (leads : OnOk result (MatchOption job.unread (next ≡ job.status) (λ answer. ends job.status ≡ false → Leads (record { cluster = job.cluster; device = job.device; place = job.place }) job.status answer next)))
      (refused : OnErr result ((next ≡ job.status) × (unread ≡ job.unread))) where
    same-read : next ≡ job.status → unread ≡ job.unread → record job { status = next; unread = unread } ≡ job
    same-read same_status same_unread =
        ap (λ (status : Status). record job { status = status; unread = unread }) same_status ∙ ap (λ (these : Option (Option Reply)). record job { unread = these }) same_unread

    read-nothing : job.unread ≡ None → (next ≡ job.status) × (unread ≡ job.unread)
    read-nothing none = at result read leads refused
      where
        at : (result : Result (Unit {0}) NoMemory) → OnOk result (unread ≡ None)
            → OnOk result (MatchOption job.unread (next ≡ job.status) (λ answer. ends job.status ≡ false → Leads (record { cluster = job.cluster; device = job.device; place = job.place }) job.status answer next))
            → OnErr result ((next ≡ job.status) × (unread ≡ job.unread)) → (next ≡ job.status) × (unread ≡ job.unread)
        at (Ok x) read leads refused =
            (subst (λ (these : Option (Option Reply)). MatchOption these (next ≡ job.status) (λ answer. ends job.status ≡ false → Leads (record { cluster = job.cluster; device = job.device; place = job.place }) job.status answer next)) none leads, read ∙ sym none)
        at (Err x) read leads refused = refused

    pub nothing_read : ends job.status ≡ true → record job { status = next; unread = unread } ≡ job
    nothing_read over = let same = read-nothing (ended over).none_unread in same-read same.0 same.1

    pub stands_after_read : Stands (record job { status = next; unread = unread }) begun past
    stands_after_read = at result job.unread refl read leads refused
      where
        at : (result : Result (Unit {0}) NoMemory) (old : Option (Option Reply)) → job.unread ≡ old → OnOk result (unread ≡ None)
            → OnOk result (MatchOption old (next ≡ job.status) (λ answer. ends job.status ≡ false → Leads (record { cluster = job.cluster; device = job.device; place = job.place }) job.status answer next))
            → OnErr result ((next ≡ job.status) × (unread ≡ job.unread)) → Stands (record job { status = next; unread = unread }) begun past
        at (Ok x) None is read leads refused = subst (λ (job : RevertModel). Stands job begun past) (sym (same-read leads (read ∙ sym is))) stands
        at (Ok x) (Some answer) is read leads refused =
            subst (λ (these : Option (Option Reply)). Stands (record job { status = next; unread = these }) begun past) (sym read) (stands_read answer next is leads)
        at (Err x) old is read leads refused = subst (λ (job : RevertModel). Stands job begun past) (sym (same-read refused.0 refused.1)) stands

  -- ---- a message is handed out

  module _ (none_waits : job.is_waiting ≡ false) (none_unread : job.unread ≡ None) where
    pub nothing_open : opens past ≡ []
    nothing_open = none-open job.is_waiting past none_waits stands.opened

    pub has_status : IsStatus begun past job.status
    has_status = status-at job.is_waiting job.unread stands.status stands.read none_waits none_unread stands.reads stands.is
      where
        status-at : (waiting : Bool) (unread : Option (Option Reply)) (reached : Status) (read : List Step) → waiting ≡ false → unread ≡ None → ReadsBy waiting unread job.status past read reached → IsStatus begun read reached
            → IsStatus begun past job.status
        status-at false None reached read none nothing reads is = subst (λ (steps : List Step). IsStatus begun steps job.status) reads.0 (subst (IsStatus begun read) (sym reads.1) is)
        status-at false (Some answer) reached read none nothing reads is = absurd (cc)
        status-at true unread reached read none nothing reads is = absurd (cc)

    pub comes_next : IsNext begun past (next_at begun (length (given past)) job.status)
    comes_next = next-is begun past job.status nothing_open has_status

    pub stands_handed : (flags : List Bool) (sent : Sent) → AreTickets flags (Gave sent ∷ past) → IsNext begun past (Hand sent)
        → Stands (record job { status = handed job.status; tickets = flags; is_waiting = true }) begun (Gave sent ∷ past)
    stands_handed flags sent are next = record {
      valid = stands.valid;
      run = (next, stands.run);
      cluster_is = stands.cluster_is;
      device_is = stands.device_is;
      place_is = stands.place_is;
      tickets_are = are;
      opened = (sent, ap (λ (these : List Sent). sent ∷ these) nothing_open);
      read = Gave sent ∷ past;
      status = job.status;
      is = has_status;
      reads = subst (λ (these : Option (Option Reply)). ReadsBy true these (handed job.status) (Gave sent ∷ past) (Gave sent ∷ past) job.status) (sym none_unread) (refl, refl);
    }
