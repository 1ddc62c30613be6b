-- A tombstone goes to the primaries that list a smaller floor, or none.
use Rattle.std.proofs.Common.{◌≡◌, ◌≢◌, ◌⊎◌, inl, inr, ℕ, Bool, true, false, Contains, List, [], ◌∷◌, ◌++◌, map, Option, Some, refl, sym, ap, subst, ◌∙◌, arith}
use Rattle.std.specs.Prelude.{if◌then◌else◌}
use Rattle.std.specs.List.{All, AllPairs, filter}
use Rattle.std.proofs.lemmas.Bool.{cases_Bool}
use Rattle.std.proofs.lemmas.List.Elements.{All-contains_itself, All-filter, All-head, All-map, All-nil, All-tail, All-weaker, filter_passes}
use Rattle.std.proofs.lemmas.List.Kept.{AllPairs-filter}
use Rattle.sw_ring.proofs.Among.{Contains-from_among, among-from_Contains}
use Rattle.sw_message.specs.Floors.{tombstone_floor}
use Rattle.sw_message.specs.Transcript.{Closed, Gave, IsRun, Step, given, opens}
use Rattle.sw_message.specs.declared.message.Msg.{Msg}
use Rattle.sw_message.specs.declared.message.Msg.TheVariants as message
use Rattle.sw_message.specs.declared.miss.Miss.{Miss}
use Rattle.sw_message.specs.declared.reply.Reply.{Reply}
use Rattle.sw_message.specs.declared.sent.Sent.{Sent}
use Rattle.sw_quorum.proofs.Places.{apart-from_once}
use Rattle.sw_quorum.specs.Transcripts.{closed}
use Rattle.sw_quorum.specs.Verdicts.{delete_verdict}
use Rattle.sw_gather.proofs.Lists.{from_filter, in_filter, in_map}
use Rattle.sw_sync.specs.Answers.{MissedAsk, WasTold}
use Rattle.sw_sync.specs.Causes.{AreFailures, HasFailed, IsForbidden, IsMissedWrite, WasBuried, capped, count_told, is_marked}
use Rattle.sw_sync.specs.Parts.{Burial, Heard}
use Rattle.sw_sync.specs.Sends.{MayDelete}
use Rattle.sw_sync.specs.Sync.{Begun, IsMessage, IsNext, as_failure, buried, burial_of, errand_of, failed_asks, is_of, listing_of, lists_below, primaries}
use Rattle.sw_sync.specs.declared.errand.Errand.{Errand}
use Rattle.sw_sync.specs.declared.errand.Errand.TheVariants.{Ask, Commit, Delete, Fetch, Store}
use Rattle.sw_sync.specs.declared.stage.Stage.TheVariants.{Buries}
use Rattle.sw_sync.proofs.Asking.{IsQuestion, Surveyed, surveyed-later}
use Rattle.sw_sync.proofs.Counting.{apart-map}
use Rattle.sw_sync.proofs.Errands.{Does, IsAbout, IsFor, does-begun, does-gave, does-over, does-told, sent-is}
use Rattle.sw_sync.proofs.Failures.{AreApart, HasRefused, IsOfPrimary, asks-refused, counted-more, failures-gave, failures-told, judged-delete, marked-is, none-failed}
use Rattle.sw_sync.proofs.Firsts.{IsUntold, Once, about-for, each-once, once-begun, once-gave, once-told, told-about}
use Rattle.sw_sync.proofs.Messages.{closed-each, told-each}
use Rattle.sw_sync.proofs.Plans.{OwnFloor}
use Rattle.sw_sync.proofs.Surveys.{no-question}
use Rattle.sw_sync.proofs.Shows.{listed-answered, lists-below, lists-same, own-floor}

-- ---- once all were asked, and nothing else was handed out

module _ (begun : Begun) (past : List Step) (run : IsRun (IsNext begun) past) (questions : All (IsQuestion begun) (given past)) where
  -- nothing else was counted
  pub none-counted : (test : Msg → Option Reply → Bool) → ((answer : Option Reply) → test (message.Ask begun.place) answer ≡ false) → count_told test past ≡ 0
  none-counted test never = by_closed past (closed-each begun (IsQuestion begun) past run questions)
    where
      by_closed : (past : List Step) → All (IsQuestion begun) (closed past) → count_told test past ≡ 0
      by_closed [] all = refl
      by_closed (Gave sent ∷ past) all = by_closed past all
      by_closed (Closed sent answer ∷ past) all =
          let is : test sent.msg answer ≡ false = ap (λ (one : Msg). test one answer) (All-head (IsQuestion begun) sent (closed past) all) ∙ never answer in
          omega (arith, by_closed past (All-tail (IsQuestion begun) sent (closed past) all), ap {B = ℕ} (λ b. if b then 1 else 0) is)

  -- each message that was told is a question
  pub was-asked : (device : ℕ) (msg : Msg) (answer : Option Reply) → WasTold past device msg answer → msg ≡ message.Ask begun.place
  was-asked device msg answer was = told-each begun (IsQuestion begun) past _ answer run questions was.1

  -- the failures are the primaries' misses
  pub failures-begun : (heard : Heard) → Surveyed begun past heard → AreFailures begun past (failed_asks (primaries begun) heard.misses)
  failures-begun heard surveyed = record {
    primaries = All-map (IsOfPrimary begun) as_failure (filter (is_of (primaries begun)) heard.misses) (filter_passes (is_of (primaries begun)) heard.misses);
    each = All-map (HasFailed begun past) as_failure (filter (is_of (primaries begun)) heard.misses)
        (All-weaker (λ (one : ℕ × Miss). MissedAsk begun past one.0 one.1) (λ (one : ℕ × Miss). HasFailed begun past (as_failure one)) (λ one missed. inl missed) (filter (is_of (primaries begun)) heard.misses)
        (All-filter (is_of (primaries begun)) (λ (one : ℕ × Miss). MissedAsk begun past one.0 one.1) heard.misses surveyed.survey.misses));
    once = apart-map as_failure AreApart (filter (is_of (primaries begun)) heard.misses)
        (AllPairs-filter (λ (a b : ℕ × Miss). a.0 ≢ b.0) (is_of (primaries begun)) heard.misses (apart-from_once (λ (one : ℕ × Miss). one.0) heard.misses (λ device. omega (arith, surveyed.each_once device))));
    asks = λ device how primary missed.
        in_map as_failure (filter (is_of (primaries begun)) heard.misses) (device, how)
        (in_filter (is_of (primaries begun)) heard.misses (device, how) (surveyed.survey.all_misses device how missed) primary);
    misses = λ device msg answer how was missed. absurd (subst (λ (one : Msg). IsMissedWrite one answer how) (was-asked device msg answer was) missed);
    forbidden = λ device msg floor was forbids. absurd (subst (λ (one : Msg). IsForbidden one floor) (was-asked device msg _ was) forbids);
  }

-- ---- a burial

abbrev pub ToBury : Begun → Heard → (stamp : ℕ) → Errand → Type 0
ToBury begun heard stamp (Delete device) = Contains (primaries begun) device × (lists_below (tombstone_floor stamp) (listing_of heard.lists device) ≡ true)
ToBury begun heard stamp other = ⊥

pub record Burying (begun : Begun) (past : List Step) (burial : Burial) (due : List Errand) : Type 0 where
  pub heard : Heard
  pub surveyed : Surveyed begun past heard
  pub own : OwnFloor begun heard (tombstone_floor burial.stamp)
  pub does : Does begun burial.stamp (ToBury begun heard burial.stamp) past due
  pub once : Once begun burial.stamp (ToBury begun heard burial.stamp) past due
  pub marked : burial.tombstones ≡ capped (count_told is_marked past)
  pub failures : AreFailures begun past burial.failed

module _ (begun : Begun) (past : List Step) (heard : Heard) (stamp : ℕ) where
  planned-deletes : (device : ℕ) → Contains (filter (λ (device : ℕ). lists_below (tombstone_floor stamp) (listing_of heard.lists device)) (primaries begun)) device → ToBury begun heard stamp (Delete device)
  planned-deletes device there = from_filter (λ (device : ℕ). lists_below (tombstone_floor stamp) (listing_of heard.lists device)) (primaries begun) device there

  pub burying-begun : AllPairs (λ a b. a ≢ b) (primaries begun) → IsRun (IsNext begun) past → opens past ≡ [] → All (IsQuestion begun) (given past) → Surveyed begun past heard → OwnFloor begun heard (tombstone_floor stamp)
      → Burying begun past (record { stamp = stamp; tombstones = 0; failed = failed_asks (primaries begun) heard.misses }) (burial_of (primaries begun) heard stamp).due
  burying-begun apart run none questions surveyed own = record {
    heard = heard;
    surveyed = surveyed;
    own = own;
    does = does-begun begun stamp (ToBury begun heard stamp) past (map Delete deletes) none
        (All-map (ToBury begun heard stamp) Delete deletes (All-weaker (Contains deletes) (λ device. ToBury begun heard stamp (Delete device)) planned-deletes deletes (All-contains_itself deletes)))
        due;
    once = once-begun begun stamp (ToBury begun heard stamp) past (map Delete deletes) (λ device is. is) questions
        (each-once Delete (λ a b. a ≢ b) (λ a b other same. other (cc)) deletes
        (AllPairs-filter (λ a b. a ≢ b) (λ (device : ℕ). lists_below (tombstone_floor stamp) (listing_of heard.lists device)) (primaries begun) apart));
    marked = ap capped (sym (none-counted begun past run questions is_marked (λ answer. refl)));
    failures = failures-begun begun past run questions heard surveyed;
  }
    where
      deletes : List ℕ
      deletes = filter (λ (device : ℕ). lists_below (tombstone_floor stamp) (listing_of heard.lists device)) (primaries begun)

      due : (errand : Errand) → ToBury begun heard stamp errand → Contains (map Delete deletes) errand
      due (Delete device) is = in_map Delete deletes device (in_filter (λ (device : ℕ). lists_below (tombstone_floor stamp) (listing_of heard.lists device)) (primaries begun) device is.0 is.1)
      due (Ask device) is = absurd is
      due (Fetch source) is = absurd is
      due (Store target) is = absurd is
      due (Commit target) is = absurd is

module _ (begun : Begun) (past : List Step) (burial : Burial) (due : List Errand) (burying : Burying begun past burial due) where
  pub message-for : (errand : Errand) (sent : Sent) → IsMessage begun (Buries burial) errand sent.device sent.msg → IsFor begun burial.stamp errand sent
  message-for (Ask device) sent is = (sent.ticket, [], sent-is sent device (message.Ask begun.place) is.0 is.1)
  message-for (Delete device) sent is = (sent.ticket, [], sent-is sent device (message.Delete begun.place burial.stamp) is.0 is.1)
  message-for (Fetch source) sent is = absurd is
  message-for (Store target) sent is = absurd is
  message-for (Commit target) sent is = absurd is

  -- the tombstone is sent to a primary
  pub burying-gave : (errand : Errand) (later : List Errand) (sent : Sent) → due ≡ errand ∷ later → IsMessage begun (Buries burial) errand sent.device sent.msg → Burying begun (Gave sent ∷ past) burial later
  burying-gave errand later sent first is = record {
    heard = burying.heard;
    surveyed = surveyed-later begun past (Gave sent) burying.heard (λ device answer ticket same. cc) burying.surveyed;
    own = burying.own;
    does = does-gave begun burial.stamp (ToBury begun burying.heard burial.stamp) (ToBury begun burying.heard burial.stamp) past due burying.does (λ one is. is) errand later sent first (message-for errand sent is) (λ one is. is);
    once = once-gave begun burial.stamp (ToBury begun burying.heard burial.stamp) (ToBury begun burying.heard burial.stamp) past due burying.once (λ one is. is) errand later sent first (message-for errand sent is)
        (All-head (ToBury begun burying.heard burial.stamp) errand later (subst (All (ToBury begun burying.heard burial.stamp)) first burying.does.sought)) (λ one is. is);
    marked = burying.marked;
    failures = failures-gave begun past sent burial.failed burying.failures;
  }

  -- and it answers
  pub burying-told : (device ticket : ℕ) (answer : Option Reply) → ToBury begun burying.heard burial.stamp (Delete device) → IsRun (IsNext begun) past → IsUntold past (Delete device)
      → Burying begun (Closed (record { ticket = ticket; device = device; msg = message.Delete begun.place burial.stamp }) answer ∷ past) (buried burial device (delete_verdict burial.stamp answer)) (due ++ [])
  burying-told device ticket answer todo run untold = record {
    heard = burying.heard;
    surveyed = surveyed-later begun past (Closed sent answer) burying.heard (no-question begun sent answer (λ same. cc)) burying.surveyed;
    own = burying.own;
    does = does-told begun burial.stamp (ToBury begun burying.heard burial.stamp) (ToBury begun burying.heard burial.stamp) past due burying.does (λ one is. is) sent answer [] (All-nil (ToBury begun burying.heard burial.stamp)) (λ one is. inl is);
    once = once-told begun burial.stamp (ToBury begun burying.heard burial.stamp) (ToBury begun burying.heard burial.stamp) past due burying.once (λ one is. is) sent answer [] burying.does.sought (λ device is. is)
        (All-nil (λ errand. ToBury begun burying.heard burial.stamp errand → ⊥)) (λ errand. omega arith) (λ one is. inl is);
    marked = counted-more burial.tombstones (count_told is_marked past) (delete_verdict burial.stamp answer) (is_marked sent.msg answer) burying.marked (marked-is begun.place burial.stamp answer);
    failures = failures-told begun past ticket device (message.Delete begun.place burial.stamp) answer burial.failed burying.failures (λ same. cc) (delete_verdict burial.stamp answer)
        (judged-delete begun.place burial.stamp answer) (among-from_Contains (primaries begun) device todo.0) (none-failed begun past device never-missed never-refused burial.failed burying.failures.each);
  }
    where
      sent : Sent
      sent = record { ticket = ticket; device = device; msg = message.Delete begun.place burial.stamp }

      -- it was listed, and was not told this before
      never-missed : (how : Miss) → MissedAsk begun past device how → ⊥
      never-missed how missed =
          let below = lists-below begun past burying.heard burying.surveyed (tombstone_floor burial.stamp) device todo.1 in
          listed-answered begun past burying.heard burying.surveyed device below.0 below.1 how missed

      never-refused : (msg : Msg) (answer : Option Reply) → WasTold past device msg answer → HasRefused msg answer → ⊥
      never-refused msg answer (ticket, there) refused =
          let other : Sent = record { ticket = ticket; device = device; msg = msg } in
          by_about (told-about begun burial.stamp (ToBury begun burying.heard burial.stamp) past due burying.once run other answer there)
        where
          by_errand : (errand : Errand) → ToBury begun burying.heard burial.stamp errand → errand_of device msg ≡ Some errand → IsFor begun burial.stamp errand (record { ticket = ticket; device = device; msg = msg }) → ⊥
          by_errand (Delete one) is about for =
              let same : device ≡ one = ap (λ (sent : Sent). sent.device) for.2 in
              untold (record { ticket = ticket; device = device; msg = msg }) answer there (about ∙ ap (λ n. Some (Delete n)) (sym same))
          by_errand (Ask one) is about for = is
          by_errand (Fetch source) is about for = is
          by_errand (Store target) is about for = is
          by_errand (Commit target) is about for = is

          by_about : IsQuestion begun (record { ticket = ticket; device = device; msg = msg }) ⊎ IsAbout begun burial.stamp (ToBury begun burying.heard burial.stamp) (record { ticket = ticket; device = device; msg = msg }) → ⊥
          by_about (inl question) = asks-refused begun.place answer (subst (λ (one : Msg). HasRefused one answer) question refused)
          by_about (inr (errand, is, for)) = by_errand errand is (about-for begun burial.stamp errand (record { ticket = ticket; device = device; msg = msg }) for) for

  -- what is due may be sent
  pub may-delete : (device : ℕ) → ToBury begun burying.heard burial.stamp (Delete device) → MayDelete begun past device burial.stamp
  may-delete device is =
      let below = lists-below begun past burying.heard burying.surveyed (tombstone_floor burial.stamp) device is.1 in
      record {
        answered = burying.surveyed.answered;
        own = own-floor begun past burying.heard burying.surveyed (tombstone_floor burial.stamp) burying.own;
        primary = among-from_Contains (primaries begun) device is.0;
        listing = below.0;
        listed = below.1;
        below = below.2;
      }

-- once nothing is due and nothing is open
pub was-buried : (begun : Begun) (past : List Step) (burial : Burial) → IsRun (IsNext begun) past → opens past ≡ [] → Burying begun past burial [] → WasBuried begun past 0 0 burial.tombstones burial.failed
was-buried begun past burial run none burying =
    let floor = tombstone_floor burial.stamp in
    let own = own-floor begun past burying.heard burying.surveyed floor burying.own in
    record {
      stamp = burial.stamp;
      own = own;
      each = λ device listing primary listed. elim (cases_Bool (lists_below floor (listing_of burying.heard.lists device))) [
        | inl below ↦
            let sent = does-over begun burial.stamp (ToBury begun burying.heard burial.stamp) past run none burying.does (Delete device) (Contains-from_among (primaries begun) device primary, below) in
            inr (sent.1.0, (sent.2.0, subst (λ (one : Sent). Contains past (Closed one sent.1.0)) sent.2.2 sent.1.1))
        | inr not_below ↦ inl (lists-same begun past burying.heard burying.surveyed floor device listing own listed not_below)
      ];
      no_entries = (refl, refl);
      marked = burying.marked;
      failures = burying.failures;
    }
