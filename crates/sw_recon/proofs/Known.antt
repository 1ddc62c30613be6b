-- What is known at a transcript's status: the entries before the one that is treated are done, and it is treated by what was answered.
use Rattle.std.proofs.Common.{◌≡◌, ◌⊎◌, inl, inr, ℕ, ◌+◌, ◌<◌, Bool, true, false, List, [], ◌∷◌, ◌++◌, append_assoc, append-nil, length, take, Option, Some, None, refl, sym, ap, subst, ◌∙◌, arith}
use Rattle.std.specs.Prelude.{if◌then◌else◌, ⊤}
use Rattle.std.proofs.lemmas.Bool.{cases_lt, true≢false}
use Rattle.sw_hashdir.specs.Listing.{ListingModel}
use Rattle.sw_hashdir.specs.declared.entry.Entry.{Entry}
use Rattle.sw_hashdir.specs.declared.floor.Floor.{Floor}
use Rattle.sw_ring.proofs.Among.{Contains-cons}
use Rattle.sw_message.specs.Floors.{stands_above}
use Rattle.sw_message.specs.Miss.{miss_of}
use Rattle.sw_message.specs.Spoil.{IsArchiveOf}
use Rattle.sw_message.specs.Transcript.{Closed, Gave, Hand, IsRun, Step, given, opens}
use Rattle.sw_message.specs.declared.message.Msg.TheVariants as message
use Rattle.sw_message.specs.declared.miss.Miss.{Miss}
use Rattle.sw_message.specs.declared.miss.Miss.TheVariants as miss
use Rattle.sw_message.specs.declared.reply.Reply.{Reply}
use Rattle.sw_message.specs.declared.reply.Reply.TheVariants as reply
use Rattle.sw_message.specs.declared.sent.Sent.{Sent}
use Rattle.sw_message.specs.declared.spoil.Spoil.{Spoil}
use Rattle.sw_recon.specs.Causes.{AreDone, IsAbout, IsCovered, IsCoveredBy, IsDone, IsMissOf, IsUnanswered, ListsOwn, WasKept, WasRemoved, WasStored, WasTold}
use Rattle.sw_recon.specs.Course.{Course, most_entries}
use Rattle.sw_recon.specs.Revert.{Begun, IsNext, IsSpoilt, IsStatus, Leads, after_by, asked, committed, covers, fetched, forbidden, goes_on, kept_as, keeps, next_at, own_message, removed, removes, started_by, stored, total, treat, treat_message}
use Rattle.sw_recon.specs.Sends.{IsUncovered}
use Rattle.sw_recon.specs.declared.kept.KeptCause.{KeptCause}
use Rattle.sw_recon.specs.declared.kept.KeptCause.TheVariants.{Missed, NoMark, NotDurable}
use Rattle.sw_recon.specs.declared.kept.KeptEntry.{KeptEntry}
use Rattle.sw_recon.specs.declared.revert_end.RevertEnd.TheVariants.{Done, Unanswered}
use Rattle.sw_recon.specs.declared.status.Status.{Status}
use Rattle.sw_recon.specs.declared.status.Status.TheVariants.{Ends, Starts, Treats}
use Rattle.sw_recon.specs.declared.treatment.Treatment.{Treatment}
use Rattle.sw_recon.specs.declared.treatment.Treatment.TheVariants.{Ask, Commit, Fetch, Remove, Store}
use Rattle.sw_recon.proofs.Covers.{above_shown, covers_shown, shown_covers}
use Rattle.sw_recon.proofs.Done.{covered-later, done-kept, done-later, done-removed, stored-later, told-later, uncovered-later}
use Rattle.sw_recon.proofs.Machine.{IsAnswered, IsHanded, answered, handed, one_status}
use Rattle.sw_recon.proofs.Treats.{treats_first, treats_later}

-- ---- what is known

abbrev pub IsTreated : Begun → List Step → Entry → Treatment → Type 0
IsTreated begun past entry Ask = ⊤
IsTreated begun past entry Fetch = (entry.durable ≡ true) × IsUncovered begun past entry
IsTreated begun past entry (Store bytes) =
    (entry.durable ≡ true) × WasTold past begun.device (message.Fetch begun.place entry.stamp entry.index) (Some (reply.Fragment bytes)) × IsArchiveOf begun.cluster begun.place entry.stamp entry.index bytes
IsTreated begun past entry Commit = WasStored begun past entry
IsTreated begun past entry Remove = IsCovered begun past entry

pub record IsCourse (begun : Begun) (past : List Step) (course : Course) : Type 0 where
  pub listing : ListingModel
  pub own : ListsOwn begun past listing
  pub front : List Entry
  pub are : take most_entries listing.entries ≡ front ++ course.entry ∷ course.later
  pub done : AreDone begun past front course.removed course.kept
  pub below : course.entry.index < total begun
  pub treated : IsTreated begun past course.entry course.treatment

abbrev pub Knows : Begun → List Step → Status → Type 0
Knows begun past Starts = (past ≡ []) ⊎ (past ≡ Gave (own_message begun 0) ∷ [])
Knows begun past (Treats course) = IsCourse begun past course
Knows begun past (Ends (Done removed kept)) = IsDone begun past removed kept
Knows begun past (Ends (Unanswered device)) = IsUnanswered begun past device

-- ---- it stays known

module _ (begun : Begun) (past : List Step) (step : Step) where
  treated-later : (entry : Entry) (treatment : Treatment) → IsTreated begun past entry treatment → IsTreated begun (step ∷ past) entry treatment
  treated-later entry Ask is = tt
  treated-later entry Fetch is = (is.0, uncovered-later past step begun entry is.1)
  treated-later entry (Store bytes) (durable, told, archive) = (durable, told-later past step _ _ _ told, archive)
  treated-later entry Commit is = stored-later past step begun entry is
  treated-later entry Remove is = covered-later past step begun entry is

  course-later : (course : Course) → IsCourse begun past course → IsCourse begun (step ∷ past) course
  course-later course is = record {
    listing = is.listing;
    own = Contains-cons _ step past is.own;
    front = is.front;
    are = is.are;
    done = done-later past step begun is.front course.removed course.kept is.done;
    below = is.below;
    treated = treated-later course.entry course.treatment is.treated;
  }

  knows-later : (status : Status) → (status ≡ Starts → ⊥) → Knows begun past status → Knows begun (step ∷ past) status
  knows-later Starts other knows = absurd (other refl)
  knows-later (Treats course) other knows = course-later course knows
  knows-later (Ends (Done removed kept)) other knows =
      record { listing = knows.listing; own = Contains-cons _ step past knows.own; done = done-later past step begun (take most_entries knows.listing.entries) removed kept knows.done }
  knows-later (Ends (Unanswered device)) other knows = record { own = knows.own; answer = knows.answer; told = Contains-cons _ step past knows.told; missed = knows.missed }

-- ---- the entries that are left

module _ (begun : Begun) (past : List Step) (listing : ListingModel) (own : ListsOwn begun past listing) where
  pub treat-knows : (later front : List Entry) (removed : ℕ) (kept : List KeptEntry) → take most_entries listing.entries ≡ front ++ later → AreDone begun past front removed kept
      → Knows begun past (treat (total begun) later removed kept)
  treat-knows [] front removed kept are done =
      record { listing = listing; own = own; done = subst (λ (these : List Entry). AreDone begun past these removed kept) (sym (are ∙ append-nil front)) done }
  treat-knows (entry ∷ later) front removed kept are done = elim (cases_lt entry.index (total begun)) [
    | inl below ↦
        subst (Knows begun past) (sym (treats_first (total begun) entry later removed kept below))
        (record { listing = listing; own = own; front = front; are = are; done = done; below = below; treated = tt })
    | inr above ↦
        subst (Knows begun past) (sym (treats_later (total begun) entry later removed kept above))
        (treat-knows later (front ++ entry ∷ []) removed (kept ++ kept_as entry (Missed miss.Odd) ∷ []) (are ∙ sym (append_assoc front (entry ∷ []) later))
        (done-kept begun past entry (Missed miss.Odd) (inl (above, refl)) front removed kept done))
  ]

-- ---- an entry that is treated

module _ (begun : Begun) (past : List Step) (entry : Entry) (later : List Entry) (gone : ℕ) (kept : List KeptEntry) (ticket : ℕ) where
  abbrev at : Treatment → Course
  at treatment = record { entry = entry; later = later; treatment = treatment; removed = gone; kept = kept }

  abbrev sent : Treatment → Sent
  sent treatment = treat_message begun ticket (at treatment)

  abbrev after : Treatment → Option Reply → List Step
  after treatment answer = Closed (sent treatment) answer ∷ past

  here : (treatment : Treatment) (answer : Option Reply) → WasTold (after treatment answer) (sent treatment).device (sent treatment).msg answer
  here treatment answer = (ticket, (0, omega arith, refl))

  pub about : (treatment : Treatment) → IsAbout begun entry (sent treatment).device (sent treatment).msg
  about Ask = (refl, refl)
  about Fetch = (refl, refl, refl, refl)
  about (Store bytes) = (refl, refl, refl, refl)
  about Commit = (refl, refl, refl, refl)
  about Remove = (refl, refl, refl, refl)

  module _ (treatment : Treatment) (answer : Option Reply) (known : IsCourse begun past (at treatment)) where
    kept-known : (cause : KeptCause) → WasKept begun (after treatment answer) entry cause → Knows begun (after treatment answer) (keeps (total begun) (at treatment) cause)
    kept-known cause was =
        let now = course-later begun past (Closed (sent treatment) answer) (at treatment) known in
        treat-knows begun (after treatment answer) now.listing now.own later (now.front ++ entry ∷ []) gone (kept ++ kept_as entry cause ∷ [])
        (now.are ∙ sym (append_assoc now.front (entry ∷ []) later)) (done-kept begun (after treatment answer) entry cause was now.front gone kept now.done)

    missed-known : (how : Miss) → IsMissOf begun entry (sent treatment).msg answer how → Knows begun (after treatment answer) (keeps (total begun) (at treatment) (Missed how))
    missed-known how is =
        kept-known (Missed how) (inr (record { below = known.below; device = (sent treatment).device; msg = (sent treatment).msg; about = about treatment; answer = answer; told = here treatment answer; miss = is }))

    removed-known : WasRemoved begun (after treatment answer) entry → Knows begun (after treatment answer) (removes (total begun) (at treatment))
    removed-known was =
        let now = course-later begun past (Closed (sent treatment) answer) (at treatment) known in
        treat-knows begun (after treatment answer) now.listing now.own later (now.front ++ entry ∷ []) (gone + 1) kept
        (now.are ∙ sym (append_assoc now.front (entry ∷ []) later)) (done-removed begun (after treatment answer) entry was now.front gone kept now.done)

    goes-known : (next : Treatment) → IsTreated begun (after treatment answer) entry next → Knows begun (after treatment answer) (goes_on (at treatment) next)
    goes-known next is =
        let now = course-later begun past (Closed (sent treatment) answer) (at treatment) known in
        record { listing = now.listing; own = now.own; front = now.front; are = now.are; done = now.done; below = now.below; treated = is }

  not-covered : (listing : ListingModel) → covers listing entry ≡ false → IsCoveredBy begun entry listing → ⊥
  not-covered listing none shows = true≢false (sym (shown_covers listing entry begun.place shows) ∙ none)

  -- its primary listed what it has
  listed-known : (listing : ListingModel) (is_covered is_durable : Bool) → covers listing entry ≡ is_covered → entry.durable ≡ is_durable → IsCourse begun past (at Ask)
      → Knows begun (after Ask (Some (reply.Held listing))) (if is_covered then goes_on (at Ask) Remove else if is_durable then goes_on (at Ask) Fetch else keeps (total begun) (at Ask) NotDurable)
  listed-known listing true is_durable covered durable known =
      goes-known Ask (Some (reply.Held listing)) known Remove
      (record { below = known.below; msg = message.Ask begun.place; given = reply.Held listing; told = here Ask (Some (reply.Held listing)); place = refl; shows = covers_shown listing entry begun.place covered })
  listed-known listing false true covered durable known =
      goes-known Ask (Some (reply.Held listing)) known Fetch (durable, record { listing = listing; told = here Ask (Some (reply.Held listing)); not_covered = not-covered listing covered })
  listed-known listing false false covered durable known =
      kept-known Ask (Some (reply.Held listing)) known NotDurable (known.below, durable, listing, here Ask (Some (reply.Held listing)), not-covered listing covered)

  asked-known : (answer : Option Reply) → IsCourse begun past (at Ask) → Knows begun (after Ask answer) (asked (total begun) (at Ask) answer)
  asked-known None known = missed-known Ask None known miss.NoReply refl
  asked-known (Some (reply.Held listing)) known = listed-known listing (covers listing entry) entry.durable refl refl known
  asked-known (Some other) known = missed-known Ask (Some other) known (miss_of other) refl

  fetched-known : (answer : Option Reply) (spoil : Option Spoil) → IsSpoilt begun.cluster begun.place entry Fetch answer spoil → IsCourse begun past (at Fetch)
      → Knows begun (after Fetch answer) (fetched (total begun) (at Fetch) answer spoil)
  fetched-known None spoil checked known = missed-known Fetch None known miss.NoReply refl
  fetched-known (Some (reply.Fragment bytes)) (Some spoil) checked known = missed-known Fetch (Some (reply.Fragment bytes)) known (miss.Spoiled spoil) (spoil, refl, checked)
  fetched-known (Some (reply.Fragment bytes)) None checked known =
      goes-known Fetch (Some (reply.Fragment bytes)) known (Store bytes) (known.treated.0, here Fetch (Some (reply.Fragment bytes)), checked)
  fetched-known (Some (reply.Gone listing)) spoil checked known = missed-known Fetch (Some (reply.Gone listing)) known miss.Gone refl
  fetched-known (Some other) spoil checked known = missed-known Fetch (Some other) known (miss_of other) refl

  stored-floor : (bytes : List ℕ) (floor : Floor) (above : Bool) → stands_above floor entry.stamp ≡ above → IsCourse begun past (at (Store bytes))
      → Knows begun (after (Store bytes) (Some (reply.Superseded floor))) (forbidden (total begun) (at (Store bytes)) above)
  stored-floor bytes floor true above known =
      goes-known (Store bytes) (Some (reply.Superseded floor)) known Remove
      (record { below = known.below; msg = (sent (Store bytes)).msg; given = reply.Superseded floor; told = here (Store bytes) (Some (reply.Superseded floor)); place = refl; shows = inr (above_shown floor entry.stamp above) })
  stored-floor bytes floor false above known = missed-known (Store bytes) (Some (reply.Superseded floor)) known miss.Odd (refl, above)

  stored-known : (bytes : List ℕ) (answer : Option Reply) → IsCourse begun past (at (Store bytes)) → Knows begun (after (Store bytes) answer) (stored (total begun) (at (Store bytes)) answer)
  stored-known bytes None known = missed-known (Store bytes) None known miss.NoReply refl
  stored-known bytes (Some reply.Synced) known = goes-known (Store bytes) (Some reply.Synced) known Commit (record { durable = known.treated.0; bytes = bytes; told = here (Store bytes) (Some reply.Synced) })
  stored-known bytes (Some (reply.Superseded floor)) known = stored-floor bytes floor (stands_above floor entry.stamp) refl known
  stored-known bytes (Some other) known = missed-known (Store bytes) (Some other) known (miss_of other) refl

  committed-floor : (floor : Floor) (above : Bool) → stands_above floor entry.stamp ≡ above → IsCourse begun past (at Commit)
      → Knows begun (after Commit (Some (reply.Superseded floor))) (forbidden (total begun) (at Commit) above)
  committed-floor floor true above known =
      goes-known Commit (Some (reply.Superseded floor)) known Remove
      (record { below = known.below; msg = (sent Commit).msg; given = reply.Superseded floor; told = here Commit (Some (reply.Superseded floor)); place = refl; shows = inr (above_shown floor entry.stamp above) })
  committed-floor floor false above known = missed-known Commit (Some (reply.Superseded floor)) known miss.Odd (refl, above)

  committed-known : (answer : Option Reply) → IsCourse begun past (at Commit) → Knows begun (after Commit answer) (committed (total begun) (at Commit) answer)
  committed-known None known = missed-known Commit None known miss.NoReply refl
  committed-known (Some reply.Committed) known =
      goes-known Commit (Some reply.Committed) known Remove
      (record { below = known.below; msg = (sent Commit).msg; given = reply.Committed; told = here Commit (Some reply.Committed); place = refl; shows = inl (refl, refl) })
  committed-known (Some (reply.Superseded floor)) known = committed-floor floor (stands_above floor entry.stamp) refl known
  committed-known (Some reply.Missing) known = kept-known Commit (Some reply.Missing) known NoMark
      (known.below, stored-later past (Closed (sent Commit) (Some reply.Missing)) begun entry known.treated, here Commit (Some reply.Missing))
  committed-known (Some other) known = missed-known Commit (Some other) known (miss_of other) refl

  taken-known : (answer : Option Reply) → IsCourse begun past (at Remove) → Knows begun (after Remove answer) (removed (total begun) (at Remove) answer)
  taken-known None known = missed-known Remove None known miss.NoReply refl
  taken-known (Some reply.Removed) known = removed-known Remove (Some reply.Removed) known (covered-later past (Closed (sent Remove) (Some reply.Removed)) begun entry known.treated, here Remove (Some reply.Removed))
  taken-known (Some reply.Missing) known = missed-known Remove (Some reply.Missing) known miss.Missing refl
  taken-known (Some other) known = missed-known Remove (Some other) known (miss_of other) refl

  treated-known : (treatment : Treatment) (answer : Option Reply) (spoil : Option Spoil) → IsSpoilt begun.cluster begun.place entry treatment answer spoil → IsCourse begun past (at treatment)
      → Knows begun (after treatment answer) (after_by (total begun) (at treatment) treatment answer spoil)
  treated-known Ask answer spoil checked known = asked-known answer known
  treated-known Fetch answer spoil checked known = fetched-known answer spoil checked known
  treated-known (Store bytes) answer spoil checked known = stored-known bytes answer known
  treated-known Commit answer spoil checked known = committed-known answer known
  treated-known Remove answer spoil checked known = taken-known answer known

-- ---- the own device

module _ (begun : Begun) where
  started-known : (answer : Option Reply) → Knows begun (Closed (own_message begun 0) answer ∷ Gave (own_message begun 0) ∷ []) (started_by (total begun) begun.device answer)
  started-known (Some (reply.Held listing)) =
      treat-knows begun (Closed (own_message begun 0) (Some (reply.Held listing)) ∷ Gave (own_message begun 0) ∷ []) listing (0, omega arith, refl) (take most_entries listing.entries) [] 0 [] refl (refl, refl)
  started-known other = record { own = refl; answer = other; told = (0, omega arith, refl); missed = λ listing is. absurd (cc) }

  -- ---- each transcript

  after-told : (past : List Step) (sent : Sent) (answer : Option Reply) (before later : Status) → IsAnswered begun past sent → IsStatus begun past before → Knows begun past before → Leads begun before answer later
      → Knows begun (Closed sent answer ∷ past) later
  after-told past sent answer Starts later opened is (inl none) leads = absurd (cc (sym opened.one.opened ∙ ap opens none))
  after-told past sent answer Starts later opened is (inr one) leads =
      let same : sent ≡ own_message begun 0 = cc (opened.same, sym opened.one.opened ∙ ap opens one) in
      subst (λ (one : Sent). Knows begun (Closed one answer ∷ past) later) (sym same)
      (subst (λ (steps : List Step). Knows begun (Closed (own_message begun 0) answer ∷ steps) later) (sym one) (subst (Knows begun (Closed (own_message begun 0) answer ∷ Gave (own_message begun 0) ∷ [])) (sym leads) (started-known answer)))
  after-told past sent answer (Treats course) later opened is known leads =
      let next = opened.one.next ∙ ap (next_at begun opened.one.number) (one_status begun past opened.one.status (Treats course) opened.one.is is) in
      let same : sent ≡ treat_message begun opened.one.number course = cc (opened.same, next) in
      subst (λ (one : Sent). Knows begun (Closed one answer ∷ past) later) (sym same)
      (subst (Knows begun (Closed (treat_message begun opened.one.number course) answer ∷ past)) (sym leads.2)
      (treated-known begun past course.entry course.later course.removed course.kept opened.one.number course.treatment answer leads.0 leads.1 known))
  after-told past sent answer (Ends end) later opened is known leads = absurd leads

  after-gave : (past : List Step) (sent : Sent) (status : Status) → IsHanded begun past sent → IsStatus begun past status → Knows begun past status → Knows begun (Gave sent ∷ past) status
  after-gave past sent Starts is at (inl none) =
      let next = is.next ∙ ap (next_at begun (length (given past))) (one_status begun past is.status Starts is.is at) ∙ ap (λ (steps : List Step). Hand (own_message begun (length (given steps)))) none in
      let same : sent ≡ own_message begun 0 = cc (next) in
      inr (ap (λ (one : Sent). Gave one ∷ past) same ∙ ap (λ (steps : List Step). Gave (own_message begun 0) ∷ steps) none)
  after-gave past sent Starts is at (inr one) = absurd (cc (sym is.none_open ∙ ap opens one))
  after-gave past sent (Treats course) is at known = knows-later begun past (Gave sent) (Treats course) (λ same. cc) known
  after-gave past sent (Ends end) is at known = knows-later begun past (Gave sent) (Ends end) (λ same. cc) known

  pub known : (past : List Step) (status : Status) → IsRun (IsNext begun) past → IsStatus begun past status → Knows begun past status
  known [] at run is = subst (Knows begun []) (sym is) (inl refl)
  known (Gave sent ∷ past) at run is = after-gave past sent at (handed begun past sent run.0) is (known past at run.1 is)
  known (Closed sent answer ∷ past) at run is = after-told past sent answer is.0 at (answered begun past sent run.1 run.0) is.1 (known past is.0 run.1 is.1) is.2
