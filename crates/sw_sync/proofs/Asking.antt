-- Each device of the cluster is asked once, the handoffs of the place first.
use Rattle.std.proofs.Common.{◌≡◌, inl, inr, ℕ, ◌+◌, ◌<◌, ◌≤◌, ◌^◌, ◌==◌, ◌⊎◌, Bool, true, false, not, cond, Contains, List, [], ◌∷◌, map, Option, Some, None, refl, sym, ap, subst, ◌∙◌, arith}
use Rattle.std.specs.Prelude.{if◌then◌else◌}
use Rattle.std.specs.List.{All, count_by, find, sum_by}
use Rattle.std.proofs.lemmas.Bool.{cases_Bool, cases_lt, eq-eqb, eqb-true, true≢false}
use Rattle.std.proofs.lemmas.List.Elements.{All-contains, All-cons, All-head, All-nil, All-rest, All-weaker}
use Rattle.std.proofs.lemmas.List.Sums.{sum_by-cons, sum_by_push}
use Rattle.std.proofs.lemmas.Option.{none-some, same_Some}
use Rattle.sw_hashpath.proofs.Laws.{part_below}
use Rattle.sw_hashdir.specs.Listing.{ListingModel}
use Rattle.sw_ring.specs.Cluster.{column_of, ids_of}
use Rattle.sw_ring.specs.Ring.{is_among}
use Rattle.sw_ring.proofs.Among.{Contains-cons, Contains-from_among}
use Rattle.sw_message.specs.Message.{IsMember, is_primary}
use Rattle.sw_message.specs.Miss.{miss_of}
use Rattle.sw_message.specs.Transcript.{Closed, Gave, IsRun, Step, given, opens}
use Rattle.sw_message.specs.declared.message.Msg.{Msg}
use Rattle.sw_message.specs.declared.message.Msg.TheVariants as message
use Rattle.sw_message.specs.declared.miss.Miss.{Miss}
use Rattle.sw_message.specs.declared.miss.Miss.TheVariants as miss
use Rattle.sw_message.specs.declared.reply.Reply.{Reply}
use Rattle.sw_message.specs.declared.reply.Reply.TheVariants as reply
use Rattle.sw_message.specs.declared.sent.Sent.{Sent}
use Rattle.sw_quorum.proofs.Places.{counted-among, device_once, handoffs_apart, handoffs_known, one_if, some-counted}
use Rattle.sw_quorum.proofs.Transcripts.{sums-keep}
use Rattle.sw_quorum.specs.Transcripts.{closed}
use Rattle.sw_gather.proofs.Lists.{first_or_later, here, in_filter, none_in}
use Rattle.sw_sync.specs.Answers.{AllAnswered, HandoffsAnswered, WasAsked, WasListed}
use Rattle.sw_sync.specs.Parts.{Heard}
use Rattle.sw_sync.specs.Sends.{MayAsk}
use Rattle.sw_sync.specs.Sync.{Begun, IsBegun, IsMessage, IsNext, handoffs, heard_from, listing_in, listing_of, of_device, primaries}
use Rattle.sw_sync.specs.declared.errand.Errand.{Errand}
use Rattle.sw_sync.specs.declared.errand.Errand.TheVariants.{Ask}
use Rattle.sw_sync.specs.declared.stage.Stage.{Stage}
use Rattle.sw_sync.proofs.Messages.{answered-closed, as-told, closed-answered, numbers, to, told-each, told-later, told-once}
use Rattle.sw_sync.proofs.Surveys.{IsNoQuestion, Survey, survey-asked, survey-begun, survey-same}

abbrev pub IsQuestion : Begun → Sent → Type 0
IsQuestion begun sent = sent.msg ≡ message.Ask begun.place

abbrev pub is_this : ℕ → ℕ → Bool
is_this device other = other == device

abbrev pub IsHandoff : Begun → ℕ → Type 0
IsHandoff begun device = is_primary begun.cluster device begun.place ≡ false

-- While devices are asked, those that were, those that are due, and the rest are those of the place. Where each handoff has answered,
-- primaries may be due.
pub record Asking (begun : Begun) (past : List Step) (heard : Heard) (due : List Errand) (rest : List ℕ) : Type 0 where
  pub survey : Survey begun past heard
  pub questions : All (IsQuestion begun) (given past)
  pub left : List ℕ
  pub due_is : due ≡ map Ask left
  pub counted : (device : ℕ) → count_by (to device) (given past) + count_by (is_this device) left + count_by (is_this device) rest
      ≡ count_by (is_this device) (primaries begun) + count_by (is_this device) (handoffs begun)
  pub ordered : HandoffsAnswered begun past ⊎ All (IsHandoff begun) left
  -- what was heard of a device is what it answered
  pub heard_as : (device : ℕ) → count_by (of_device device) heard.lists + count_by (of_device device) heard.misses ≡ count_by (to device) (closed past)

-- nothing was handed out
pub asking-begun : (begun : Begun) → Asking begun [] (record { lists = []; misses = [] }) (map Ask (handoffs begun)) (primaries begun)
asking-begun begun = record {
  survey = survey-begun begun;
  questions = All-nil (IsQuestion begun);
  left = handoffs begun;
  due_is = refl;
  counted = λ device. omega arith;
  ordered = inr (handoffs_apart begun.cluster begun.place.part);
  heard_as = λ device. omega arith;
}

handoffs-later : (begun : Begun) (past : List Step) (step : Step) → HandoffsAnswered begun past → HandoffsAnswered begun (step ∷ past)
handoffs-later begun past step are device member handoff = let was = are device member handoff in (was.0, told-later past step device (message.Ask begun.place) was.0 was.1)

-- ---- a device is asked

module _ (begun : Begun) (past : List Step) (heard : Heard) (rest : List ℕ) (sent : Sent) where
  asked-next : (stage : Stage) (errand : Errand) (left : List ℕ) (later : List Errand) → map Ask left ≡ errand ∷ later → IsMessage begun stage errand sent.device sent.msg
      → (others : List ℕ) × (left ≡ sent.device ∷ others) × (later ≡ map Ask others) × (sent.msg ≡ message.Ask begun.place)
  asked-next stage errand [] later is message = absurd (cc)
  asked-next stage errand (device ∷ left) later is message =
      let this : errand ≡ Ask device = cc in
      let of = subst (λ (one : Errand). IsMessage begun stage one sent.device sent.msg) this message in
      (left, ap (λ n. n ∷ left) (sym of.0), cc, of.1)

  pub asking-gave : (stage : Stage) (errand : Errand) (due later : List Errand) → due ≡ errand ∷ later → IsMessage begun stage errand sent.device sent.msg → Asking begun past heard due rest
      → Asking begun (Gave sent ∷ past) heard later rest
  asking-gave stage errand due later first message asking =
      let next = asked-next stage errand asking.left later (sym asking.due_is ∙ first) message in
      record {
        survey = survey-same begun past (Gave sent) heard asking.survey (λ device answer ticket same. cc);
        questions = All-cons (IsQuestion begun) sent (given past) next.3 asking.questions;
        left = next.0;
        due_is = next.2;
        counted = λ device.
            omega (
              arith,
              asking.counted device,
              ap (count_by (is_this device)) next.1,
              sum_by-cons (λ (one : Sent). cond (to device one) 1 0) sent (given past),
              sum_by-cons (λ id. cond (is_this device id) 1 0) sent.device next.0,
            );
        ordered = elim asking.ordered [
          | inl answered ↦ inl (handoffs-later begun past (Gave sent) answered)
          | inr left ↦ inr (All-rest (IsHandoff begun) sent.device next.0 asking.left next.1 left)
        ];
        heard_as = asking.heard_as;
      }

  -- and answers
  heard-more : (answer : Option Reply) (device : ℕ)
      → count_by (of_device device) (heard_from heard sent.device answer).lists + count_by (of_device device) (heard_from heard sent.device answer).misses
      ≡ count_by (of_device device) heard.lists + count_by (of_device device) heard.misses + cond (to device sent) 1 0
  heard-more None device = omega (arith, sum_by_push (λ (one : ℕ × Miss). cond (of_device device one) 1 0) heard.misses (sent.device, miss.NoReply))
  heard-more (Some (reply.Held listing)) device = omega (arith, sum_by_push (λ (one : ℕ × ListingModel). cond (of_device device one) 1 0) heard.lists (sent.device, listing))
  heard-more (Some other) device = omega (arith, sum_by_push (λ (one : ℕ × Miss). cond (of_device device one) 1 0) heard.misses (sent.device, miss_of other))

  pub asking-told : (due : List Errand) (answer : Option Reply) → IsQuestion begun sent → Asking begun past heard due rest → Asking begun (Closed sent answer ∷ past) (heard_from heard sent.device answer) due rest
  asking-told due answer is asking = record {
    survey = subst (λ (one : Msg). Survey begun (Closed (record { ticket = sent.ticket; device = sent.device; msg = one }) answer ∷ past) (heard_from heard sent.device answer)) (sym is)
        (survey-asked begun past heard asking.survey sent.ticket sent.device answer);
    questions = asking.questions;
    left = asking.left;
    due_is = asking.due_is;
    counted = asking.counted;
    ordered = elim asking.ordered [ inl answered ↦ inl (handoffs-later begun past (Closed sent answer) answered) | inr left ↦ inr left ];
    heard_as = λ device. omega (arith, asking.heard_as device, heard-more answer device, sum_by-cons (λ (one : Sent). cond (to device one) 1 0) sent (closed past));
  }

none-left : (left : List ℕ) → [] ≡ map Ask left → left ≡ []
none-left [] is = refl
none-left (device ∷ left) is = absurd (cc)

-- a device of the cluster that is no primary is a handoff
handoff-there : (begun : Begun) (device : ℕ) → IsMember begun.cluster device → IsHandoff begun device → Contains (handoffs begun) device
handoff-there begun device member other =
    in_filter (λ id. not (is_among (column_of begun.cluster begun.place.part) id)) (ids_of begun.cluster) device (Contains-from_among (ids_of begun.cluster) device member) (ap not other)

module _ (begun : Begun) (past : List Step) (run : IsRun (IsNext begun) past) (none : opens past ≡ []) where
  -- where nothing is open, each that was asked has answered or was given up
  was-asked : All (IsQuestion begun) (given past) → (device : ℕ) → 0 < count_by (to device) (given past) → WasAsked begun past device
  was-asked questions device some =
      let f : Sent → ℕ = λ sent. cond (to device sent) 1 0 in
      let one = some-counted (λ (sent : Sent). sent.device) device (closed past) (omega (arith, some, sums-keep (IsNext begun) (numbers begun) f past run, ap (sum_by f) none)) in
      let told = closed-answered past one.0 one.1 in
      (told.0, as-told past one.0 device (message.Ask begun.place) told.0 one.2 (told-each begun (IsQuestion begun) past one.0 told.0 run questions told.1) told.1)

  -- the primaries are asked once each handoff was
  pub asking-primaries : (heard : Heard) → Asking begun past heard [] (primaries begun) → Asking begun past heard (map Ask (primaries begun)) []
  asking-primaries heard asking = record {
    survey = asking.survey;
    questions = asking.questions;
    left = primaries begun;
    due_is = refl;
    counted = λ device. omega (arith, asking.counted device, ap (count_by (is_this device)) (none-left asking.left asking.due_is));
    ordered = inl (λ device member other.
        was-asked asking.questions device
        (omega (
          arith,
          asking.counted device,
          counted-among (is_this device) (handoffs begun) device (eq-eqb device device refl) (handoff-there begun device member other),
          ap (count_by (is_this device)) (none-left asking.left asking.due_is),
        )));
    heard_as = asking.heard_as;
  }

-- ---- once all have answered

-- Each device of the cluster answered or was given up; what was heard lists a device once, and it is one of the cluster.
pub record Surveyed (begun : Begun) (past : List Step) (heard : Heard) : Type 0 where
  pub survey : Survey begun past heard
  pub answered : AllAnswered begun past
  pub once : (device : ℕ) (listing : ListingModel) → Contains heard.lists (device, listing) → listing_of heard.lists device ≡ Some listing
  pub members : All (λ (one : ℕ × ListingModel). IsMember begun.cluster one.0) heard.lists
  pub each_once : (device : ℕ) → count_by (of_device device) heard.lists + count_by (of_device device) heard.misses ≤ 1

-- the listing that is found for a device is one of those that are there
module _ (device : ℕ) (listing : ListingModel) where
  pub listing-in : (lists : List (ℕ × ListingModel)) → listing_of lists device ≡ Some listing → Contains lists (device, listing)
  listing-in [] is = absurd (none-some listing is)
  listing-in (one ∷ lists) is = by_test (of_device device one) refl is (listing-in lists)
    where
      by_test : (b : Bool) → of_device device one ≡ b → listing_in (if b then Some one else find (of_device device) lists) ≡ Some listing → (listing_of lists device ≡ Some listing → Contains lists (device, listing))
          → Contains (one ∷ lists) (device, listing)
      by_test true its found later =
          let listings : one.1 ≡ listing = same_Some one.1 listing found in
          subst (λ (other : ListingModel). Contains (one ∷ lists) (device, other)) listings
          (subst (λ n. Contains (one ∷ lists) (n, one.1)) (eqb-true one.0 device its) (here one lists))
      by_test false others found later = Contains-cons (device, listing) one lists (later found)

  listing-found : (lists : List (ℕ × ListingModel)) → Contains lists (device, listing) → (other : ListingModel) × (listing_of lists device ≡ Some other)
  listing-found [] is = absurd (none_in (device, listing) is)
  listing-found (one ∷ lists) is = by_test (of_device device one) refl (listing-found lists)
    where
      by_test : (b : Bool) → of_device device one ≡ b → (Contains lists (device, listing) → (other : ListingModel) × (listing_of lists device ≡ Some other)) → (other : ListingModel) × (listing_in (if b then Some one else find (of_device device) lists) ≡ Some other)
      by_test true its later = (one.1, refl)
      by_test false others later = elim (first_or_later one lists (device, listing) is) [
        | inl same ↦ absurd (true≢false (sym (eq-eqb one.0 device (ap (λ (other : ℕ × ListingModel). other.0) same)) ∙ others))
        | inr rest ↦ later rest
      ]

module _ (begun : Begun) (valid : IsBegun begun) where
  pub part_small : begun.place.part < 2 ^ begun.cluster.part_power
  part_small = subst (λ part. part < 2 ^ begun.cluster.part_power) (sym valid.right.part) (part_below begun.place.hash begun.cluster.part_power valid.right.hash)

  -- each device of the place is one of the cluster
  pub primary-member : (device : ℕ) → Contains (primaries begun) device → IsMember begun.cluster device
  primary-member device primary = All-contains (IsMember begun.cluster) (primaries begun) device (valid.rules.known begun.place.part part_small) primary

  member : (device : ℕ) → 0 < count_by (is_this device) (primaries begun) + count_by (is_this device) (handoffs begun) → IsMember begun.cluster device
  member device some = elim (cases_lt 0 (count_by (is_this device) (primaries begun))) [
    | inl primary ↦
        let one = some-counted (λ id. id) device (primaries begun) primary in
        subst (IsMember begun.cluster) one.2 (primary-member one.0 one.1)
    | inr none ↦
        let one = some-counted (λ id. id) device (handoffs begun) (omega (arith, some, none)) in
        subst (IsMember begun.cluster) one.2 (All-contains (IsMember begun.cluster) (handoffs begun) one.0 (handoffs_known begun.cluster begun.place.part) one.1)
  ]

  -- and each of the cluster is one of the place
  place-device : (device : ℕ) → IsMember begun.cluster device → 0 < count_by (is_this device) (primaries begun) + count_by (is_this device) (handoffs begun)
  place-device device member = elim (cases_Bool (is_primary begun.cluster device begun.place)) [
    | inl primary ↦ omega (arith, counted-among (is_this device) (primaries begun) device (eq-eqb device device refl) (Contains-from_among (primaries begun) device primary))
    | inr other ↦ omega (arith, counted-among (is_this device) (handoffs begun) device (eq-eqb device device refl) (handoff-there begun device member other))
  ]

  -- one that is asked next is one of them
  pub asking-member : (past : List Step) (heard : Heard) (due later : List Errand) (rest : List ℕ) (sent : Sent) (stage : Stage) (errand : Errand) → due ≡ errand ∷ later → IsMessage begun stage errand sent.device sent.msg
      → Asking begun past heard due rest → IsMember begun.cluster sent.device × IsQuestion begun sent
  asking-member past heard due later rest sent stage errand first message asking =
      let next = asked-next begun past heard rest sent stage errand asking.left later (sym asking.due_is ∙ first) message in
      let here : cond (is_this sent.device sent.device) 1 0 ≡ 1 = ap one_if (eq-eqb sent.device sent.device refl) in (
        member sent.device
            (omega (arith, asking.counted sent.device, ap (count_by (is_this sent.device)) next.1, sum_by-cons (λ id. cond (is_this sent.device id) 1 0) sent.device next.0, here)),
        next.3,
      )

  -- and may be asked
  pub asking-may : (past : List Step) (heard : Heard) (due later : List Errand) (rest : List ℕ) (sent : Sent) (stage : Stage) (errand : Errand) → due ≡ errand ∷ later → IsMessage begun stage errand sent.device sent.msg
      → Asking begun past heard due rest → MayAsk begun past sent.device
  asking-may past heard due later rest sent stage errand first message asking =
      let next = asked-next begun past heard rest sent stage errand asking.left later (sym asking.due_is ∙ first) message in
      record {
        member = (asking-member past heard due later rest sent stage errand first message asking).0;
        handoffs_first = λ primary. elim asking.ordered [
          | inl answered ↦ answered
          | inr left ↦ absurd (true≢false (sym primary ∙ All-head (IsHandoff begun) sent.device next.0 (subst (All (IsHandoff begun)) next.1 left)))
        ];
      }

  -- and was not asked before
  pub asking-first : (past : List Step) (heard : Heard) (due later : List Errand) (rest : List ℕ) (sent : Sent) (stage : Stage) (errand : Errand) → due ≡ errand ∷ later → IsMessage begun stage errand sent.device sent.msg
      → Asking begun past heard due rest → (other : Sent) → Contains (given past) other → other.device ≡ sent.device → ⊥
  asking-first past heard due later rest sent stage errand first message asking other there same =
      let next = asked-next begun past heard rest sent stage errand asking.left later (sym asking.due_is ∙ first) message in
      absurd (omega (
        arith,
        asking.counted sent.device,
        ap (count_by (is_this sent.device)) next.1,
        sum_by-cons (λ id. cond (is_this sent.device id) 1 0) sent.device next.0,
        ap one_if (eq-eqb sent.device sent.device refl),
        counted-among (to sent.device) (given past) other (eq-eqb other.device sent.device same) there,
        device_once begun.cluster begun.place.part valid.rules part_small sent.device,
      ))

module _ (begun : Begun) (valid : IsBegun begun) (past : List Step) (run : IsRun (IsNext begun) past) (heard : Heard) (none : opens past ≡ []) (asking : Asking begun past heard [] []) where
  -- each was asked as often as it is there, which is at most once
  closed-counted : (device : ℕ) → count_by (to device) (closed past) ≡ count_by (is_this device) (primaries begun) + count_by (is_this device) (handoffs begun)
  closed-counted device =
      let f : Sent → ℕ = λ sent. cond (to device sent) 1 0 in
      omega (arith, asking.counted device, ap (count_by (is_this device)) (none-left asking.left asking.due_is), sums-keep (IsNext begun) (numbers begun) f past run, ap (sum_by f) none)

  one-at-most : (device : ℕ) → count_by (to device) (closed past) ≤ 1
  one-at-most device = omega (arith, closed-counted device, device_once begun.cluster begun.place.part valid.rules (part_small begun valid) device)

  all-answered : AllAnswered begun past
  all-answered device member =
      was-asked begun past run none asking.questions device
      (omega (arith, asking.counted device, place-device begun valid device member, ap (count_by (is_this device)) (none-left asking.left asking.due_is)))

  listed-once : (device : ℕ) (listing : ListingModel) → Contains heard.lists (device, listing) → listing_of heard.lists device ≡ Some listing
  listed-once device listing is =
      let found = listing-found device listing heard.lists is in
      let listed = λ (other : ListingModel) (there : Contains heard.lists (device, other)).
      All-contains (λ (one : ℕ × ListingModel). WasListed begun past one.0 one.1) heard.lists (device, other) asking.survey.lists there in
      let first = listed found.0 (listing-in device found.0 heard.lists found.1) in
      let second = listed listing is in
      let this : (device == device) ≡ true = eq-eqb device device refl in
      let same : Some (reply.Held found.0) ≡ Some (reply.Held listing) = told-once (to device) past (one-at-most device) _ _ _ _ this this first.1 second.1 in
      let listings : found.0 ≡ listing = cc in
      found.1 ∙ ap (λ (one : ListingModel). Some one) listings

  pub surveyed : Surveyed begun past heard
  surveyed = record {
    survey = asking.survey;
    answered = all-answered;
    once = listed-once;
    members = All-weaker (λ (one : ℕ × ListingModel). WasListed begun past one.0 one.1) (λ (one : ℕ × ListingModel). IsMember begun.cluster one.0)
        (λ one listed. member begun valid one.0
        (omega (arith, closed-counted one.0, counted-among (to one.0) (closed past) _ (eq-eqb one.0 one.0 refl) (answered-closed past _ (Some (reply.Held one.1)) listed.1)))) heard.lists asking.survey.lists;
    each_once = λ device. omega (arith, asking.heard_as device, one-at-most device);
  }

-- later messages are no questions
module _ (begun : Begun) (past : List Step) (step : Step) (heard : Heard) where
  pub surveyed-later : IsNoQuestion begun step → Surveyed begun past heard → Surveyed begun (step ∷ past) heard
  surveyed-later other is = record {
    survey = survey-same begun past step heard is.survey other;
    answered = λ device of. let was = is.answered device of in (was.0, told-later past step device (message.Ask begun.place) was.0 was.1);
    once = is.once;
    members = is.members;
    each_once = is.each_once;
  }
