-- No message about an entry is handed out twice, and each entry has one question.
use Rattle.std.proofs.Common.{◌≡◌, ◌≢◌, ◌⊎◌, inl, inr, ℕ, zero, suc, ◌+◌, ◌<◌, ◌≤◌, ◌==◌, ◌&&◌, Bool, true, false, cond, min, List, [], ◌∷◌, ◌++◌, append_assoc, Contains, get_or, length, take, Option, Some, None, refl, sym, ap, subst, ◌∙◌, arith}
use Rattle.std.specs.Prelude.{nat_lt}
use Rattle.std.specs.List.{All, count_by, find}
use Rattle.std.proofs.Math.Seq.{get_or-append_seam}
use Rattle.std.proofs.lemmas.Bool.{eq-eqb, lt-ltb, ne_eqb, true≢false}
use Rattle.std.proofs.lemmas.List.{get_or_append_left, length-append}
use Rattle.std.proofs.lemmas.List.Elements.{All-contains, All-cons, All-nil, All-weaker, Contains-append_left, Contains-append_right, Contains-get_or}
use Rattle.std.proofs.lemmas.List.Sums.{sum_by-append, sum_by-cons}
use Rattle.std.proofs.lemmas.Option.{none-some}
use Rattle.sw_hashdir.specs.Listing.{ListingModel}
use Rattle.sw_hashdir.specs.declared.entry.Entry.{Entry}
use Rattle.sw_hashpath.specs.Place.{PlaceModel}
use Rattle.sw_ring.specs.Cluster.{column_of}
use Rattle.sw_ring.specs.Ring.{is_among}
use Rattle.sw_ring.proofs.Among.{Contains-cons, among-from_Contains}
use Rattle.sw_ring.proofs.Roles.{column_length}
use Rattle.sw_message.specs.Message.{AreAlike}
use Rattle.sw_message.specs.Transcript.{Closed, Gave, Hand, IsFirst, IsRun, Step, given, opens}
use Rattle.sw_message.specs.declared.message.Msg.{Msg}
use Rattle.sw_message.specs.declared.message.Msg.TheVariants as message
use Rattle.sw_message.specs.declared.reply.Reply.{Reply}
use Rattle.sw_message.specs.declared.reply.Reply.TheVariants as reply
use Rattle.sw_message.specs.declared.sent.Sent.{Sent}
use Rattle.sw_quorum.proofs.Places.{one_if}
use Rattle.sw_recon.specs.Causes.{ListsOwn}
use Rattle.sw_recon.specs.Course.{Course, most_entries}
use Rattle.sw_recon.specs.Revert.{Begun, IsBegun, IsNext, IsStatus, Leads, goes_on, message_for, next_at, own_message, primary_of, started_by, total, treat, treat_message}
use Rattle.sw_recon.specs.Sends.{AreOnce, IsFirstFor, IsFirstOf, has_primary, is_question, questions_to}
use Rattle.sw_recon.specs.declared.status.Status.{Status}
use Rattle.sw_recon.specs.declared.status.Status.TheVariants.{Ends, Starts, Treats}
use Rattle.sw_recon.specs.declared.treatment.Treatment.{Treatment}
use Rattle.sw_recon.specs.declared.treatment.Treatment.TheVariants.{Ask, Commit, Fetch, Remove, Store}
use Rattle.sw_recon.proofs.Advances.{Advances, Begins, advances, rank, treat-begins}
use Rattle.sw_recon.proofs.Known.{Knows, known}
use Rattle.sw_recon.proofs.Machine.{IsAnswered, answered, handed, one_status}

-- ---- messages that are alike

module _ (place : PlaceModel) (one entry : Entry) where
  alike-same : (a b : Treatment) → 0 < rank b → AreAlike (message_for place one a) (message_for place entry b) → (rank a ≡ rank b) × (one.stamp ≡ entry.stamp) × (one.index ≡ entry.index)
  alike-same Fetch Fetch some alike = (refl, cc, cc)
  alike-same (Store bytes) (Store more) some alike = (refl, alike.1, alike.2)
  alike-same Commit Commit some alike = (refl, cc, cc)
  alike-same Remove Remove some alike = (refl, cc, cc)
  alike-same a Ask some alike = absurd (omega (arith, some))
  alike-same a b some alike = absurd (cc)

-- an entry in front is another one, where none is there twice
front-apart : (front later : List Entry) (entry one : Entry) → AreOnce (front ++ entry ∷ later) → Contains front one → one.stamp ≡ entry.stamp → one.index ≡ entry.index → ⊥
front-apart front later entry one once (k, within, at) stamps indices =
    let first : get_or (front ++ entry ∷ later) k one ≡ one = get_or_append_left front (entry ∷ later) one k within ∙ at in
    let second : get_or (front ++ entry ∷ later) (length front) one ≡ entry = get_or-append_seam front entry later one in
    once k (length front) one within (omega (arith, length-append front (entry ∷ later))) (ap (λ (e : Entry). e.stamp) first ∙ stamps ∙ ap (λ (e : Entry). e.stamp) (sym second))
    (ap (λ (e : Entry). e.index) first ∙ indices ∙ ap (λ (e : Entry). e.index) (sym second))

-- ---- what is handed out in its order

-- so many questions about an entry, once this many of its treatments may have been handed out
abbrev asked : ℕ → Bool → ℕ
asked bound is = cond is (min bound 1) 0

asked-more : (few many : ℕ) (is : Bool) → few ≤ many → asked few is ≤ asked many is
asked-more few many true le = omega (arith, le)
asked-more few many false le = omega arith

asked-most : (bound : ℕ) (is : Bool) → asked bound is ≤ one_if is
asked-most bound true = omega arith
asked-most bound false = omega arith

asked-first : (is : Bool) → one_if is + asked 0 is ≤ asked 1 is
asked-first true = omega arith
asked-first false = omega arith

module _ (begun : Begun) where
  -- a message is a question, or is about an entry in front, or about this one by an earlier treatment
  abbrev IsEarlier : List Entry → Entry → ℕ → Sent → Type 0
  IsEarlier front entry bound sent =
      (sent.msg ≡ message.Ask begun.place)
      ⊎ ((one : Entry) × (treatment : Treatment) × (sent.msg ≡ message_for begun.place one treatment) × (Contains front one ⊎ ((one ≡ entry) × (rank treatment < bound))))

  record IsOrderly (past : List Step) (course : Course) (bound : ℕ) : Type 0 where
    listing : ListingModel
    only : (other : ListingModel) → ListsOwn begun past other → other ≡ listing
    front : List Entry
    are : take most_entries listing.entries ≡ front ++ course.entry ∷ course.later
    earlier : All (IsEarlier front course.entry bound) (given past)
    questions : (device : ℕ) → begun.device ≢ device → questions_to device (given past) ≤ count_by (has_primary begun device) front + asked bound (has_primary begun device course.entry)

  abbrev count_primary : ℕ → List Entry → ℕ
  count_primary device entries = count_by (has_primary begun device) entries

  abbrev entry_primary : ℕ → Entry → ℕ
  entry_primary device entry = cond (has_primary begun device entry) 1 0

  -- the entry's primary, as the one that it goes to
  primary-so : (device : ℕ) (entry : Entry) → entry.index < total begun → has_primary begun device entry ≡ (primary_of begun entry.index == device)
  primary-so device entry below = ap (λ b. b && primary_of begun entry.index == device) (lt-ltb entry.index (total begun) below)

  -- ---- a message is handed out

  module _ (past : List Step) (number : ℕ) (course : Course) (below : course.entry.index < total begun) where
    -- a question counts, and all else does not
    question-more : (device : ℕ) (treatment : Treatment) → let sent = treat_message begun number (record course { treatment = treatment }) in
        one_if (is_question device sent.device sent.msg) + asked (rank treatment) (has_primary begun device course.entry) ≤ asked (rank treatment + 1) (has_primary begun device course.entry)
    question-more device Ask =
        rw (primary-so device course.entry below) (asked-first (primary_of begun course.entry.index == device))
    question-more device Fetch = omega (arith, asked-more 1 2 (has_primary begun device course.entry) (omega arith))
    question-more device (Store bytes) = omega (arith, asked-more 2 3 (has_primary begun device course.entry) (omega arith))
    question-more device Commit = omega (arith, asked-more 3 4 (has_primary begun device course.entry) (omega arith))
    question-more device Remove = omega (arith, asked-more 4 5 (has_primary begun device course.entry) (omega arith))

    gave-told : (sent other : Sent) (answer : Option Reply) → Contains (Gave sent ∷ past) (Closed other answer) → Contains past (Closed other answer)
    gave-told sent other answer (zero, within, is) = absurd (cc)
    gave-told sent other answer (suc k, within, is) = (k, omega (arith, within), is)

    orderly-gave : IsOrderly past course (rank course.treatment) → IsOrderly (Gave (treat_message begun number course) ∷ past) course (rank course.treatment + 1)
    orderly-gave is = record {
      listing = is.listing;
      only = λ other has. is.only other (gave-told _ _ _ has);
      front = is.front;
      are = is.are;
      earlier = All-cons (IsEarlier is.front course.entry (rank course.treatment + 1)) (treat_message begun number course) (given past)
          (inr (course.entry, course.treatment, refl, inr (refl, omega arith)))
          (All-weaker (IsEarlier is.front course.entry (rank course.treatment)) (IsEarlier is.front course.entry (rank course.treatment + 1)) still (given past) is.earlier);
      questions = λ device other.
          omega (
            arith,
            is.questions device other,
            question-more device course.treatment,
            sum_by-cons (λ (sent : Sent). cond (is_question device sent.device sent.msg) 1 0) (treat_message begun number course) (given past),
          );
    }
      where
        still : (sent : Sent) → IsEarlier is.front course.entry (rank course.treatment) sent → IsEarlier is.front course.entry (rank course.treatment + 1) sent
        still sent (inl asks) = inl asks
        still sent (inr (one, treatment, same, inl before)) = inr (one, treatment, same, inl before)
        still sent (inr (one, treatment, same, inr (this, less))) = inr (one, treatment, same, inr (this, omega (arith, less)))

  -- ---- an answer is read

  module _ (past : List Step) (sent : Sent) (answer : Option Reply) (course : Course) (bound : ℕ) (few : bound ≤ rank course.treatment + 1) (not_own : sent ≡ own_message begun 0 → ⊥) (is : IsOrderly past course bound) where
    only-told : (other : ListingModel) → ListsOwn begun (Closed sent answer ∷ past) other → other ≡ is.listing
    only-told other (zero, within, same) = absurd (not_own (cc))
    only-told other (suc k, within, same) = is.only other (k, omega (arith, within), same)

    orderly-on : (treatment : Treatment) → rank course.treatment < rank treatment → IsOrderly (Closed sent answer ∷ past) (record course { treatment = treatment }) (rank treatment)
    orderly-on treatment less = record {
      listing = is.listing;
      only = only-told;
      front = is.front;
      are = is.are;
      earlier = All-weaker (IsEarlier is.front course.entry bound) (IsEarlier is.front course.entry (rank treatment)) still (given past) is.earlier;
      questions = λ device other. omega (arith, is.questions device other, asked-more bound (rank treatment) (has_primary begun device course.entry) (omega (arith, few, less)));
    }
      where
        still : (one : Sent) → IsEarlier is.front course.entry bound one → IsEarlier is.front course.entry (rank treatment) one
        still one (inl asks) = inl asks
        still one (inr (about, by, same, inl before)) = inr (about, by, same, inl before)
        still one (inr (about, by, same, inr (this, lower))) = inr (about, by, same, inr (this, omega (arith, lower, few, less)))

    orderly-next : (next : Course) → Begins course.later next → IsOrderly (Closed sent answer ∷ past) next (rank next.treatment)
    orderly-next next begins =
        let passed : List Entry = course.entry ∷ begins.skipped in
        let front : List Entry = is.front ++ passed in
        record {
          listing = is.listing;
          only = only-told;
          front = front;
          are = is.are ∙ ap (λ these. is.front ++ course.entry ∷ these) begins.are ∙ sym (append_assoc is.front passed (next.entry ∷ next.later));
          earlier = All-weaker (IsEarlier is.front course.entry bound) (IsEarlier front next.entry (rank next.treatment)) (behind front) (given past) is.earlier;
          questions = λ device other.
              omega (
                arith,
                is.questions device other,
                asked-most bound (has_primary begun device course.entry),
                sum_by-append (entry_primary device) is.front passed,
                sum_by-cons (entry_primary device) course.entry begins.skipped,
              );
        }
      where
        behind : (front : List Entry) → (one : Sent) → IsEarlier is.front course.entry bound one → IsEarlier (is.front ++ course.entry ∷ begins.skipped) next.entry (rank next.treatment) one
        behind front one (inl asks) = inl asks
        behind front one (inr (about, by, same, inl before)) = inr (about, by, same, inl (Contains-append_left is.front (course.entry ∷ begins.skipped) about before))
        behind front one (inr (about, by, same, inr (this, lower))) =
            inr (about, by, same, inl (Contains-append_right is.front (course.entry ∷ begins.skipped) about (0, omega arith, sym this)))

    orderly-told : (next : Course) → Advances (total begun) course (Treats next) → IsOrderly (Closed sent answer ∷ past) next (rank next.treatment)
    orderly-told next (inl (treatment, less, on)) =
        let same : next ≡ record course { treatment = treatment } = cc (on) in
        subst (λ (one : Course). IsOrderly (Closed sent answer ∷ past) one (rank one.treatment)) (sym same) (orderly-on treatment less)
    orderly-told next (inr (removed, kept, on)) = orderly-next next (treat-begins (total begun) course.later removed kept next on)

  -- ---- the own device has answered

  module _ (listing : ListingModel) where
    abbrev listed : List Step
    listed = Closed (own_message begun 0) (Some (reply.Held listing)) ∷ Gave (own_message begun 0) ∷ []

    only-listed : (other : ListingModel) → ListsOwn begun listed other → other ≡ listing
    only-listed other (zero, within, same) = cc
    only-listed other (suc zero, within, same) = absurd (cc)
    only-listed other (suc (suc k), within, same) = absurd (omega (arith, within))

    orderly-listed : (next : Course) → Begins (take most_entries listing.entries) next → IsOrderly listed next (rank next.treatment)
    orderly-listed next begins = record {
      listing = listing;
      only = only-listed;
      front = begins.skipped;
      are = begins.are;
      earlier = All-cons (IsEarlier begins.skipped next.entry (rank next.treatment)) (own_message begun 0) [] (inl refl) (All-nil _);
      questions = λ device other.
          omega (
            arith,
            ap one_if (ne_eqb begun.device device other),
            sum_by-cons (λ (sent : Sent). cond (is_question device sent.device sent.msg) 1 0) (own_message begun 0) [],
          );
    }

  orderly-started : (answer : Option Reply) (next : Course) → Treats next ≡ started_by (total begun) begun.device answer
      → IsOrderly (Closed (own_message begun 0) answer ∷ Gave (own_message begun 0) ∷ []) next (rank next.treatment)
  orderly-started (Some (reply.Held listing)) next is = orderly-listed listing next (treat-begins (total begun) (take most_entries listing.entries) 0 [] next is)
  orderly-started other next is = absurd (cc)

  -- ---- each transcript

  module _ (valid : IsBegun begun) where
    -- the own device is no primary
    primary-apart : (index : ℕ) → index < total begun → begun.device ≢ primary_of begun index
    primary-apart index below same =
        let column = column_of begun.cluster begun.place.part in
        true≢false (sym (among-from_Contains column (primary_of begun index) (Contains-get_or column index 0 (omega (arith, below, column_length begun.cluster begun.place.part valid.rules))))
        ∙ ap (is_among column) (sym same) ∙ valid.handoff)

    not-own : (number : ℕ) (course : Course) → course.entry.index < total begun → (treatment : Treatment) → treat_message begun number (record course { treatment = treatment }) ≡ own_message begun 0 → ⊥
    not-own number course below Ask same = primary-apart course.entry.index below (sym (ap (λ (one : Sent). one.device) same))
    not-own number course below Fetch same = absurd (cc (ap (λ (one : Sent). one.msg) same))
    not-own number course below (Store bytes) same = absurd (cc (ap (λ (one : Sent). one.msg) same))
    not-own number course below Commit same = absurd (cc (ap (λ (one : Sent). one.msg) same))
    not-own number course below Remove same = absurd (cc (ap (λ (one : Sent). one.msg) same))

    module _ (past : List Step) (sent : Sent) (answer : Option Reply) (run : IsRun (IsNext begun) past) (opened : IsAnswered begun past sent) (next : Course) where
      abbrev Later : Type 0
      Later = IsOrderly (Closed sent answer ∷ past) next (rank next.treatment)

      after-start : Knows begun past Starts → Treats next ≡ started_by (total begun) begun.device answer → Later
      after-start (inl none) leads = absurd (cc (sym opened.one.opened ∙ ap opens none))
      after-start (inr one) leads =
          let same : sent ≡ own_message begun 0 = cc (opened.same, sym opened.one.opened ∙ ap opens one) in
          subst (λ (first : Sent). IsOrderly (Closed first answer ∷ past) next (rank next.treatment)) (sym same)
          (subst (λ (steps : List Step). IsOrderly (Closed (own_message begun 0) answer ∷ steps) next (rank next.treatment)) (sym one) (orderly-started answer next leads))

      after-treat : (course : Course) → IsStatus begun past (Treats course) → IsOrderly past course (rank course.treatment + length (opens past)) → Leads begun (Treats course) answer (Treats next) → Later
      after-treat course is orderly leads =
          let number = opened.one.number in
          let same : sent ≡ treat_message begun number course =
          cc (opened.same, opened.one.next ∙ ap (next_at begun number) (one_status begun past opened.one.status (Treats course) opened.one.is is)) in
          let below = (known begun past (Treats course) run is).below in
          orderly-told past sent answer course (rank course.treatment + length (opens past)) (omega (arith, ap length opened.one.opened))
          (λ own. not-own number course below course.treatment (sym same ∙ own)) orderly next
          (subst (Advances (total begun) course) (sym leads.2) (advances (total begun) course.entry course.later course.removed course.kept course.treatment answer leads.0))

      after-any : ((course : Course) → IsStatus begun past (Treats course) → IsOrderly past course (rank course.treatment + length (opens past))) → (before : Status) → IsStatus begun past before
          → Leads begun before answer (Treats next) → Later
      after-any orderly Starts is leads = after-start (known begun past Starts run is) leads
      after-any orderly (Treats course) is leads = after-treat course is (orderly course is) leads
      after-any orderly (Ends end) is leads = absurd leads

    orderly : (past : List Step) (course : Course) → IsRun (IsNext begun) past → IsStatus begun past (Treats course) → IsOrderly past course (rank course.treatment + length (opens past))
    orderly [] course run is = absurd (cc)
    orderly (Gave sent ∷ past) course run is =
        let hands = handed begun past sent run.0 in
        let next = hands.next ∙ ap (next_at begun (length (given past))) (one_status begun past hands.status (Treats course) hands.is is) in
        let same : sent ≡ treat_message begun (length (given past)) course = cc (next) in
        let closed : length (opens past) ≡ 0 = ap length hands.none_open in
        let before : IsOrderly past course (rank course.treatment) = subst (IsOrderly past course) (omega (arith, closed)) (orderly past course run.1 is) in
        subst (IsOrderly (Gave sent ∷ past) course) (omega (arith, closed))
        (subst (λ (one : Sent). IsOrderly (Gave one ∷ past) course (rank course.treatment + 1)) (sym same)
        (orderly-gave past (length (given past)) course (known begun past (Treats course) run.1 is).below before))
    orderly (Closed sent answer ∷ past) course run (before, was, leads) =
        let opened = answered begun past sent run.1 run.0 in
        subst (IsOrderly (Closed sent answer ∷ past) course) (omega (arith, ap length opened.closed))
        (after-any past sent answer run.1 opened course (λ first is. orderly past first run.1 is) before was leads)

    -- ---- what is handed out is the first

    module _ (past : List Step) (run : IsRun (IsNext begun) past) (course : Course) (number : ℕ) (below : course.entry.index < total begun) (is : IsOrderly past course (rank course.treatment)) where
      abbrev entries : List Entry
      entries = is.front ++ course.entry ∷ course.later

      abbrev sent_by : Treatment → Sent
      sent_by treatment = treat_message begun number (record course { treatment = treatment })

      -- a question is one more than those before, and its entry one more than those in front
      question-first : rank course.treatment ≡ 0 → let device = primary_of begun course.entry.index in questions_to device (given past) < count_primary device entries
      question-first none =
          let device = primary_of begun course.entry.index in
          let has : has_primary begun device course.entry ≡ true = primary-so device course.entry below ∙ eq-eqb device device refl in
          omega (
            arith,
            is.questions device (primary-apart course.entry.index below),
            asked-more (rank course.treatment) 0 (has_primary begun device course.entry) (omega (arith, none)),
            ap (asked 0) has,
            ap one_if has,
            sum_by-append (entry_primary device) is.front (course.entry ∷ course.later),
            sum_by-cons (entry_primary device) course.entry course.later,
          )

      message-first : (treatment : Treatment) → rank treatment ≡ rank course.treatment → 0 < rank treatment → AreOnce entries → IsFirst past (sent_by treatment)
      message-first treatment ranked some once other there device alike = by_earlier (All-contains (IsEarlier is.front course.entry (rank course.treatment)) (given past) other is.earlier there)
        where
          by_earlier : IsEarlier is.front course.entry (rank course.treatment) other → ⊥
          by_earlier (inl asks) =
              let same = alike-same begun.place course.entry course.entry Ask treatment some (subst (λ (msg : Msg). AreAlike msg (message_for begun.place course.entry treatment)) asks alike) in
              omega (arith, some, same.0)
          by_earlier (inr (one, by, is_msg, inl before)) =
              let same = alike-same begun.place one course.entry by treatment some (subst (λ (msg : Msg). AreAlike msg (message_for begun.place course.entry treatment)) is_msg alike) in
              front-apart is.front course.later course.entry one once before same.1 same.2
          by_earlier (inr (one, by, is_msg, inr (this, less))) =
              let same = alike-same begun.place one course.entry by treatment some (subst (λ (msg : Msg). AreAlike msg (message_for begun.place course.entry treatment)) is_msg alike) in
              omega (arith, less, ranked, same.0)

      sent-first : (treatment : Treatment) → rank treatment ≡ rank course.treatment → IsFirstFor begun entries past (sent_by treatment)
      sent-first Ask ranked = question-first (sym ranked)
      sent-first Fetch ranked = message-first Fetch ranked (omega arith)
      sent-first (Store bytes) ranked = message-first (Store bytes) ranked (omega arith)
      sent-first Commit ranked = message-first Commit ranked (omega arith)
      sent-first Remove ranked = message-first Remove ranked (omega arith)

    module _ (past : List Step) (run : IsRun (IsNext begun) past) (listing : ListingModel) (own : ListsOwn begun past listing) (sent : Sent) where
      first-at : (status : Status) → IsStatus begun past status → Knows begun past status → opens past ≡ [] → Hand sent ≡ next_at begun (length (given past)) status
          → IsFirstFor begun (take most_entries listing.entries) past sent
      first-at Starts is (inl none) closed next = let there = subst (λ (steps : List Step). ListsOwn begun steps listing) none own in absurd (omega (arith, there.1))
      first-at Starts is (inr one) closed next = absurd (cc (sym closed ∙ ap opens one))
      first-at (Treats course) is knows closed next =
          let number : ℕ = length (given past) in
          let same : sent ≡ treat_message begun number course = cc (next) in
          let ordered : IsOrderly past course (rank course.treatment) = subst (IsOrderly past course) (omega (arith, ap length closed)) (orderly past course run is) in
          let these = ap (λ (one : ListingModel). take most_entries one.entries) (ordered.only listing own) ∙ ordered.are in
          subst (λ (one : Sent). IsFirstFor begun (take most_entries listing.entries) past one) (sym same)
          (subst (λ (entries : List Entry). IsFirstFor begun entries past (treat_message begun number course)) (sym these) (sent-first past run course number knows.below ordered course.treatment refl))
      first-at (Ends end) is knows closed next = absurd (cc (next))

      pub is-first : IsNext begun past (Hand sent) → IsFirstFor begun (take most_entries listing.entries) past sent
      is-first next = let hands = handed begun past sent next in first-at hands.status hands.is (known begun past hands.status run hands.is) hands.none_open hands.next
