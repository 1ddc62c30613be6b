-- What a pass has done at its end, where no partition is listed twice.
use Rattle.std.proofs.Common.{◌≡◌, ◌≢◌, inl, inr, ℕ, ◌+◌, ◌^◌, ◌==◌, true, false, not, Contains, List, [], ◌∷◌, length, take, Option, Some, refl, sym, ap, subst}
use Rattle.std.proofs.lemmas.Bool.{and_from, cases_Bool, eq-eqb, eqb-false, eqb-true, lt-ltb, ne_eqb}
use Rattle.sw_hashpath.specs.Place.{PlaceModel, part_of}
use Rattle.sw_suffix.specs.Suffix.{suffix_number}
use Rattle.sw_suffix.specs.Table.{Hashed}
use Rattle.sw_ring.specs.Cluster.{column_of}
use Rattle.sw_ring.proofs.Among.{Contains-from_among}
use Rattle.sw_message.specs.Message.{is_primary}
use Rattle.sw_message.specs.Transcript.{Closed, Gave, IsRun, Step, given, open_at}
use Rattle.sw_message.specs.declared.message.Msg.TheVariants as message
use Rattle.sw_message.specs.declared.reply.Reply.{Reply}
use Rattle.sw_message.specs.declared.reply.Reply.TheVariants as reply
use Rattle.sw_message.specs.declared.sent.Sent.{Sent}
use Rattle.sw_gather.proofs.Lists.{in_filter, none_in}
use Rattle.sw_sync.proofs.Messages.{told-later}
use Rattle.sw_sync.specs.Answers.{WasTold}
use Rattle.sw_daemon.specs.Causes.{AreOnce, DiffersAt, IsDifferent, IsHeld, IsPart, IsPrimaryIn, IsWhole, ListsPlaces, ListsSuffixes, WasAsked, WasTreated}
use Rattle.sw_daemon.specs.Pass.{Begun, DiffersIn, Does, Ends, Follows, Gives, IsBegun, IsEnd, IsNext, IsState, ListOther, ListOwn, ListParts, ListPlaces, State, Status, Takes, Task, Treat, Turns, is_of_part, is_of_ring, most_parts, most_places, others_of, renumbered, reported, stage_of}
use Rattle.sw_daemon.specs.Stage as stages
use Rattle.sw_daemon.specs.Stage.{Answered, End}
use Rattle.sw_daemon.specs.declared.report.PassReport.{PassReport}
use Rattle.sw_daemon.proofs.Asked.{job-asked}
use Rattle.sw_daemon.proofs.Justified.{IsTaskOf, hashes_in}
use Rattle.sw_daemon.proofs.Known.{AreTold, Knows, is-answer, known, own-open}
use Rattle.sw_daemon.proofs.Once.{IsOnce, IsOrderly, StaysOrderly, orderly-begun, orderly-follows, orderly-gave, orderly-told, place-next}
use Rattle.sw_daemon.proofs.Treated.{ComparedBut, GoesOn, IsGoing, IsListing, IsTreatedBut, OwnBut, TreatedBut, going-follows, going-later, job-follows, parts_in, places_of}

-- ---- what follows a stage

module _ (begun : Begun) (past own : List Step) (tells : AreTold past own) (places : List PlaceModel) (parts : List ℕ) (report : PassReport) where
  was-treated : (place : PlaceModel) (end : End) → IsRun (stages.IsNext (stage_of begun (Treat place))) own → stages.IsEnd (stage_of begun (Treat place)) own end → WasTreated begun past place
  was-treated place end run ends =
      let was = job-asked begun place own (is_primary begun.cluster begun.device place) refl run end ends in
      (was.0, tells (record { ticket = was.1.0; device = begun.device; msg = message.Ask place }) was.0 was.1.1)

  going-on : (task : Task) → IsGoing begun past task places parts → IsRun (stages.IsNext (stage_of begun task)) own → (end : End) → stages.IsEnd (stage_of begun task) own end
      → (status : Status) → Follows begun (record { task = task; places = places; parts = parts; report = report }) end status → GoesOn begun past status
  going-on task is run (Answered answer) ends status follows = going-follows begun past task places parts report answer is (is-answer begun past own tells task answer run ends) status follows
  going-on (Treat place) is run end ends status follows = subst (GoesOn begun past) (sym follows) (job-follows begun past place places parts (reported report end) (was-treated place end run ends) is)
  going-on ListParts is run end ends status follows = absurd ends
  going-on (ListPlaces part) is run end ends status follows = absurd ends
  going-on (ListOwn part) is run end ends status follows = absurd ends
  going-on (ListOther part listed heard device others) is run end ends status follows = absurd ends

  module _ (valid : IsBegun begun) (distinct : AreOnce begun past) where
    orderly-on : (task : Task) → IsTaskOf begun past task → IsOrderly past own task parts → IsRun (stages.IsNext (stage_of begun task)) own → (end : End) → stages.IsEnd (stage_of begun task) own end
        → (status : Status) → Follows begun (record { task = task; places = places; parts = parts; report = report }) end status → StaysOrderly past status
    orderly-on task of is run (Answered answer) ends status follows =
        orderly-follows begun past own parts task places report answer valid distinct of run is (is-answer begun past own tells task answer run ends) status follows
    orderly-on (Treat place) of is run end ends status follows = subst (StaysOrderly past) (sym follows) (place-next past is.once places parts (reported report end) is.apart is.unasked)
    orderly-on ListParts of is run end ends status follows = absurd ends
    orderly-on (ListPlaces part) of is run end ends status follows = absurd ends
    orderly-on (ListOwn part) of is run end ends status follows = absurd ends
    orderly-on (ListOther part listed heard device others) of is run end ends status follows = absurd ends

-- ---- at each transcript

pub record Treats (begun : Begun) (past : List Step) (state : State) : Type 0 where
  pub going : IsGoing begun past state.course.task state.course.places state.course.parts
  pub orderly : IsOrderly past state.own state.course.task state.course.parts

once-before : (begun : Begun) (past : List Step) (step : Step) → AreOnce begun (step ∷ past) → AreOnce begun past
once-before begun past step distinct parts told = distinct parts (told-later past step _ _ _ told)

module _ (begun : Begun) (valid : IsBegun begun) where
  module _ (past : List Step) (distinct : AreOnce begun past) where
    treats-turned : (count : ℕ) (state turned : State) → Turns begun count state turned → Knows begun past state → Treats begun past state → Treats begun past turned
    treats-turned count state turned (inl same) knows treats = subst (Treats begun past) (sym same) treats
    treats-turned count state turned (inr (end, ends, course, follows, turned_is)) knows treats =
        let now = state.course in
        subst (Treats begun past) (sym turned_is) (record {
          going = going-on begun past state.own knows.tells now.places now.parts now.report now.task treats.going knows.run end ends (Does course) follows;
          orderly = orderly-on begun past state.own knows.tells now.places now.parts now.report valid distinct now.task knows.justified.is_task treats.orderly knows.run end ends (Does course) follows;
        })

    treats-gave : (count : ℕ) (state : State) (sent : Sent) (after : State) → Gives begun count state sent after → Knows begun past state → Treats begun past state → Treats begun (Gave sent ∷ past) after
    treats-gave count state sent after gives knows treats =
        let turned = treats-turned count state gives.turned gives.turns knows treats in
        let course = gives.turned.course in
        subst (Treats begun (Gave sent ∷ past)) (sym gives.after_is) (record {
          going = going-later begun past (Gave sent) course.task course.places course.parts turned.going;
          orderly = orderly-gave past gives.turned.own sent gives.own course.task course.parts turned.orderly;
        })

  treats-took : (past : List Step) (state : State) (sent : Sent) (answer : Option Reply) (after : State) → IsState begun past state → Takes state sent answer after → open_at sent.ticket past ≡ Some sent → Knows begun past state
      → Treats begun past state → Treats begun (Closed sent answer ∷ past) after
  treats-took past state sent answer after is takes opened knows treats =
      let course = state.course in
      let open_own = own-open begun past state takes.own is (subst (λ (one : Sent). open_at one.ticket past ≡ Some one) takes.sent_is opened) in
      subst (Treats begun (Closed sent answer ∷ past)) (sym takes.after_is)
      (subst (λ (one : Sent). Treats begun (Closed one answer ∷ past) (record state { own = Closed takes.own answer ∷ state.own })) (sym takes.sent_is) (record {
        going = going-later begun past (Closed (renumbered state.before takes.own) answer) course.task course.places course.parts treats.going;
        orderly = orderly-told begun past state.own takes.own (state.before + takes.own.ticket) answer open_own course.task course.parts knows.run treats.orderly;
      }))

  treats : (past : List Step) (state : State) → AreOnce begun past → IsRun (IsNext begun) past → IsState begun past state → Treats begun past state
  treats [] state distinct run is = subst (Treats begun []) (sym is) (record { going = tt; orderly = orderly-begun })
  treats (Gave sent ∷ past) state distinct run (before, was, gives) =
      let earlier = once-before begun past (Gave sent) distinct in
      treats-gave past earlier (length (given past)) before sent state gives (known begun past before run.1 was) (treats past before earlier run.1 was)
  treats (Closed sent answer ∷ past) state distinct run (before, was, takes) =
      treats-took past before sent answer state was takes run.0 (known begun past before run.1 was) (treats past before (once-before begun past (Closed sent answer) distinct) run.1 was)

-- ---- at its end

differs-in : (own : List Hashed) (suffix : ℕ) (answer : Option Reply) → DiffersAt own suffix answer → DiffersIn own suffix (hashes_in answer)
differs-in own suffix (Some (reply.SuffixList hashes)) differs = differs
differs-in own suffix other differs = tt

module _ (begun : Begun) (past : List Step) (once : IsOnce past) (listing : IsListing begun past [] []) where
  part-treated : (part : ℕ) → IsPart begun past part → TreatedBut begun past [] part
  part-treated part is =
      let power = begun.cluster.part_power in
      let same : listing.0 ≡ Some (reply.PartList is.parts) = once begun.device message.Parts refl listing.0 (Some (reply.PartList is.parts)) listing.1 is.told in
      let there = in_filter (is_of_ring power) (take most_parts is.parts) part is.listed (lt-ltb part (2 ^ power) is.below) in
      elim (listing.2 part (subst (λ (answer : Option Reply). Contains (parts_in power answer) part) (sym same) there)) [ inl waits ↦ absurd (none_in part waits) | inr was ↦ was ]

  done : (place : PlaceModel) → IsTreatedBut begun past [] place → WasTreated begun past place
  done place (inl there) = absurd (none_in place there)
  done place (inr was) = was

  module _ (part : ℕ) (is : IsPart begun past part) where
    own-asked : (places : List PlaceModel) → IsPrimaryIn begun part begun.device → WasTold past begun.device (message.Places part) (Some (reply.PlaceList places)) → OwnBut begun past [] part (places_of begun part places)
    own-asked places primary told =
        let treated = part-treated part is in
        treated.by_primary places (once begun.device (message.Places part) refl treated.answer (Some (reply.PlaceList places)) treated.told told) primary

    were-compared : (places : List PlaceModel) (own : List Hashed) → IsPrimaryIn begun part begun.device → WasTold past begun.device (message.Places part) (Some (reply.PlaceList places))
        → WasTold past begun.device (message.Suffixes part) (Some (reply.SuffixList own)) → ComparedBut begun past [] part (places_of begun part places) own
    were-compared places own primary told own_told =
        let asked = own-asked places primary told in
        asked.compared own (once begun.device (message.Suffixes part) refl asked.answer (Some (reply.SuffixList own)) asked.told own_told)

    is-other : (device : ℕ) → device ≢ begun.device → IsPrimaryIn begun part device → Contains (others_of begun part) device
    is-other device other primary =
        in_filter (λ id. not (id == begun.device)) (column_of begun.cluster part) device (Contains-from_among (column_of begun.cluster part) device primary) (ap not (ne_eqb device begun.device other))

    other-asked : (device : ℕ) → IsPrimaryIn begun part begun.device → ListsPlaces begun past part → ListsSuffixes begun past part → IsPrimaryIn begun part device → WasAsked past device (message.Suffixes part)
    other-asked device primary (places, told) (own, own_told) is_primary = elim (cases_Bool (device == begun.device)) [
      | inl same ↦
          let asked = own-asked places primary told in
          (asked.answer, subst (λ n. WasTold past n (message.Suffixes part) asked.answer) (sym (eqb-true device begun.device same)) asked.told)
      | inr other ↦
          let one = (were-compared places own primary told own_told).each device (is-other device (eqb-false device begun.device other) is_primary) in
          (one.0, one.1)
    ]

  module _ (place : PlaceModel) (held : IsHeld begun past place) where
    is-left : Contains (places_of begun place.part held.places) place
    is-left =
        let power = begun.cluster.part_power in
        in_filter (is_of_part power place.part) (take most_places held.places) place held.listed
        (and_from (place.part == place.part) (part_of place.hash power == place.part) (eq-eqb place.part place.part refl) (eq-eqb (part_of place.hash power) place.part (sym held.right)))

    was-reverted : is_primary begun.cluster begun.device place ≡ false → WasTreated begun past place
    was-reverted other =
        let treated = part-treated place.part held.part in
        let same = once begun.device (message.Places place.part) refl treated.answer (Some (reply.PlaceList held.places)) treated.told held.told in
        done place (treated.by_handoff held.places same other place is-left)

    was-synced : is_primary begun.cluster begun.device place ≡ true → IsDifferent begun past place.part (suffix_number place.hash) → WasTreated begun past place
    was-synced primary is =
        let compared = were-compared place.part held.part held.places is.own primary held.told is.own_told in
        let one = compared.each is.device (is-other place.part held.part is.device is.other is.primary) in
        let same = once is.device (message.Suffixes place.part) refl is.answer one.0 is.told one.1 in
        done place (compared.synced place is-left (hashes_in one.0, one.2, subst (λ (answer : Option Reply). DiffersIn is.own (suffix_number place.hash) (hashes_in answer)) same (differs-in is.own (suffix_number place.hash) is.answer is.differs)))

  is-whole : IsWhole begun past
  is-whole = record {
    parts = (listing.0, listing.1);
    places = λ part is. let treated = part-treated part is in (treated.answer, treated.told);
    own = λ part is primary lists. let asked = own-asked part is lists.0 primary lists.1 in (asked.answer, asked.told);
    others = λ part device is primary lists own_lists is_primary. other-asked part is device primary lists own_lists is_primary;
    reverted = was-reverted;
    synced = was-synced;
  }

pub whole : (begun : Begun) (past : List Step) (report : PassReport) → IsBegun begun → IsRun (IsNext begun) past → IsEnd begun past report → AreOnce begun past → IsWhole begun past
whole begun past report valid run (state, is, (end, ends, follows)) distinct =
    let knows = known begun past state run is in
    let now = treats begun valid past state distinct run is in
    let course = state.course in
    is-whole begun past now.orderly.once (going-on begun past state.own knows.tells course.places course.parts course.report course.task now.going knows.run end ends (Ends report) follows)
