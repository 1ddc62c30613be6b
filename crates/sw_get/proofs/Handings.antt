-- A get that handed out a message.
use Rattle.std.proofs.Common.{◌≡◌, ℕ, ◌+◌, ◌<◌, ◌++◌, List, [], ◌∷◌, length, Option, Some, refl, sym, ap, subst, ◌∙◌, arith}
use Rattle.std.specs.Prelude.{if◌then◌else◌}
use Rattle.std.specs.List.{slice_get}
use Rattle.std.proofs.lemmas.Bool.{lt-ltb}
use Rattle.std.proofs.lemmas.Option.{slice_get_within}
use Rattle.sw_types.specs.Object.{ObjectModel}
use Rattle.sw_types.proofs.Policies.{bounds}
use Rattle.sw_hashpath.specs.Place.{PlaceModel}
use Rattle.sw_message.specs.Message.{IsMember}
use Rattle.sw_message.specs.Transcript.{Gave, Hand, Over, Step, opens}
use Rattle.sw_message.specs.declared.message.Msg.TheVariants as message
use Rattle.sw_message.specs.declared.sent.Sent.{Sent}
use Rattle.sw_message.specs.declared.target.Target.{Target}
use Rattle.sw_quorum.proofs.Places.{place_right}
use Rattle.sw_get.specs.Get.{Begun, IsNext, ask_first, ask_message, devices, events, fetch_message, most_kept, place_of, sends}
use Rattle.sw_gather.specs.Mailbox.{GoesWith, MailboxModel}
use Rattle.sw_get.specs.Round.{Facts, all_devices, no_facts}
use Rattle.sw_get.specs.Standing.{AreCounted, Findings, GetModel, IsReady, MayHand, Stands, Subject, going_of}
use Rattle.sw_get.specs.declared.errand.Errand.TheVariants.{Ask, Fetch}
use Rattle.sw_get.specs.declared.round_end.Going.TheVariants as going
use Rattle.sw_get.specs.declared.round_end.KeptEvent.{KeptEvent}
use Rattle.sw_get.specs.declared.errand.Errand.{Errand}
use Rattle.sw_get.proofs.Changes.{closes, counted_all, few, is_next, same_going, says, stands_gave, ticket_is}
use Rattle.sw_get.proofs.Counts.{counted-ask, counted-fetch}
use Rattle.sw_get.proofs.Findings.{finds-ask, finds-fetch, finds-kept}
use Rattle.sw_get.proofs.Members.{asked_known, devices_few, source_known}
use Rattle.sw_get.proofs.Readings.{with_read}

module _ (get : GetModel) (begun : Begun) (past : List Step) (stands : Stands get begun past) (ready : IsReady get) (ticket : ℕ) (ticket_made : ticket ≡ length get.mailbox.tickets) where
  place_is : get.subject.place ≡ place_of begun
  place_is = ap (λ (subject : Subject). subject.place) stands.subject_is

  number : sends stands.turns ≡ ticket
  number = ticket_is get begun past stands ready ∙ sym ticket_made

  -- ---- a device is asked

  module _ (device : ℕ) (goes : going_of get ≡ going.Ask device) where
    at : slice_get (all_devices (devices begun)) get.findings.facts.asked ≡ Some device
    at = says get begun past stands ready (going.Ask device) goes

    member : IsMember begun.cluster device
    member = asked_known begun stands.valid get.findings.facts.asked device at

    next_ask : IsNext begun past (Hand (ask_message begun ticket device))
    next_ask = is_next get begun past stands ready (Hand (ask_message begun ticket device)) (going.Ask device) goes (ap (λ n. Hand (ask_message begun n device)) number)

    may_ask_so : MayHand begun past (ask_message begun ticket device)
    may_ask_so = record { next = next_ask; of = record { member = member; place = place_right begun.cluster begun.name }; warranted = λ learnt. tt }

    pub may_ask : MayHand begun past (record { ticket = ticket; device = device; msg = message.Ask get.subject.place })
    may_ask = subst (λ (place : PlaceModel). MayHand begun past (record { ticket = ticket; device = device; msg = message.Ask place })) (sym place_is) may_ask_so

    pub few_asked : get.findings.facts.asked < 96
    few_asked = omega (arith, slice_get_within (all_devices (devices begun)) get.findings.facts.asked device at, devices_few begun stands.valid)

    pub stands_ask : (mailbox : MailboxModel Errand) → ((sent : Sent) → sent.ticket ≡ ticket → GoesWith mailbox (Gave sent ∷ past)) → mailbox.errands ≡ get.mailbox.errands ++ Ask device ∷ []
        → mailbox.unread ≡ get.mailbox.unread → (facts : Facts) (object : Option ObjectModel) → facts ≡ record get.findings.facts { asked = get.findings.facts.asked + 1 } → object ≡ get.object
        → Stands (with_read get get.findings.target facts object mailbox) begun (Gave (record { ticket = ticket; device = device; msg = message.Ask get.subject.place }) ∷ past)
    stands_ask mailbox goes_with errands unread facts object facts_is object_is =
        let sent = ask_message begun ticket device in
        let less = slice_get_within (all_devices (devices begun)) get.findings.facts.asked device at in
        let after : Facts = record get.findings.facts { asked = get.findings.facts.asked + 1 } in
        subst (λ (place : PlaceModel). Stands (with_read get get.findings.target facts object mailbox) begun (Gave (record { ticket = ticket; device = device; msg = message.Ask place }) ∷ past)) (sym place_is)
        (subst (λ (these : Facts). Stands (with_read get get.findings.target these object mailbox) begun (Gave sent ∷ past)) (sym facts_is)
        (subst (λ (it : Option ObjectModel). Stands (with_read get get.findings.target after it mailbox) begun (Gave sent ∷ past)) (sym object_is)
        (stands_gave get begun past stands ready (Ask device) sent (record { message = refl; member = member }) ticket_made next_ask mailbox (goes_with sent refl) errands unread
        (record get.findings { facts = after }) get.object
        (finds-ask begun stands.turns get.findings stands.finds ticket device (few get begun past stands ready).0 less)
        (counted-ask get.findings.facts (opens past) begun ticket device (counted_all get begun past stands ready))
        (stands.object_is ready.goes_on))))

  -- ---- an archive is fetched

  module _ (stamp : ℕ) (source : Target) (goes : going_of get ≡ going.Fetch stamp source) where
    source_member : IsMember begun.cluster source.device
    source_member =
        let is = (says get begun past stands ready (going.Fetch stamp source) goes).1 in
        source_known begun is.to.stamp get.findings.facts source is.source_is stands.finds.within.listed

    next_fetch : IsNext begun past (Hand (fetch_message begun ticket stamp source))
    next_fetch = is_next get begun past stands ready (Hand (fetch_message begun ticket stamp source)) (going.Fetch stamp source) goes (ap (λ n. Hand (fetch_message begun n stamp source)) number)

    may_fetch_so : MayHand begun past (fetch_message begun ticket stamp source)
    may_fetch_so = record { next = next_fetch; of = record { member = source_member; place = place_right begun.cluster begun.name }; warranted = λ learnt. tt }

    pub may_fetch : MayHand begun past (record { ticket = ticket; device = source.device; msg = message.Fetch get.subject.place stamp source.index })
    may_fetch = subst (λ (place : PlaceModel). MayHand begun past (record { ticket = ticket; device = source.device; msg = message.Fetch place stamp source.index })) (sym place_is) may_fetch_so

    pub stands_fetch : (mailbox : MailboxModel Errand) → ((sent : Sent) → sent.ticket ≡ ticket → GoesWith mailbox (Gave sent ∷ past)) → mailbox.errands ≡ get.mailbox.errands ++ Fetch stamp source ∷ []
        → mailbox.unread ≡ get.mailbox.unread → (facts : Facts) (object : Option ObjectModel) → facts ≡ record get.findings.facts { tried = get.findings.facts.tried ++ source ∷ [] } → object ≡ get.object
        → Stands (with_read get get.findings.target facts object mailbox) begun (Gave (record { ticket = ticket; device = source.device; msg = message.Fetch get.subject.place stamp source.index }) ∷ past)
    stands_fetch mailbox goes_with errands unread facts object facts_is object_is =
        let sent = fetch_message begun ticket stamp source in
        let says = says get begun past stands ready (going.Fetch stamp source) goes in
        let few = few get begun past stands ready in
        let after : Facts = record get.findings.facts { tried = get.findings.facts.tried ++ source ∷ [] } in
        subst (λ (place : PlaceModel). Stands (with_read get get.findings.target facts object mailbox) begun (Gave (record { ticket = ticket; device = source.device; msg = message.Fetch place stamp source.index }) ∷ past)) (sym place_is)
        (subst (λ (these : Facts). Stands (with_read get get.findings.target these object mailbox) begun (Gave sent ∷ past)) (sym facts_is)
        (subst (λ (it : Option ObjectModel). Stands (with_read get get.findings.target after it mailbox) begun (Gave sent ∷ past)) (sym object_is)
        (stands_gave get begun past stands ready (Fetch stamp source) sent (record { message = refl; member = source_member }) ticket_made next_fetch mailbox (goes_with sent refl) errands unread
        (record get.findings { facts = after }) get.object
        (finds-fetch begun stands.turns get.findings stands.finds ticket stamp source few.0 (omega (arith, says.0.all_asked, says.0.all_heard)) says.1)
        (counted-fetch get.findings.facts (opens past) begun ticket stamp source (counted_all get begun past stands ready))
        (stands.object_is ready.goes_on))))

  -- ---- another round begins

  module _ (device : ℕ) (event : KeptEvent) (goes : going_of get ≡ going.Keep event) (kept_few : length get.findings.events < most_kept) (first : slice_get (all_devices get.subject.devices) 0 ≡ Some device) where
    first_is : slice_get (all_devices (devices begun)) 0 ≡ Some device
    first_is = ap (λ (subject : Subject). slice_get (all_devices subject.devices) 0) (sym stands.subject_is) ∙ first

    first_member : IsMember begun.cluster device
    first_member = asked_known begun stands.valid 0 device first_is

    next_first : IsNext begun past (Hand (ask_message begun ticket device))
    next_first =
        let few : length (events begun stands.turns) < most_kept = omega (arith, kept_few, ap length stands.finds.events_are) in
        is_next get begun past stands ready (Hand (ask_message begun ticket device)) (going.Keep event) goes
        (ap (λ b. if b then ask_first begun (sends stands.turns) (slice_get (all_devices (devices begun)) 0) else Over) (lt-ltb (length (events begun stands.turns)) most_kept few)
        ∙ ap (ask_first begun (sends stands.turns)) first_is ∙ ap (λ n. Hand (ask_message begun n device)) number)

    may_first_so : MayHand begun past (ask_message begun ticket device)
    may_first_so = record { next = next_first; of = record { member = first_member; place = place_right begun.cluster begun.name }; warranted = λ learnt. tt }

    pub may_first : MayHand begun past (record { ticket = ticket; device = device; msg = message.Ask get.subject.place })
    may_first = subst (λ (place : PlaceModel). MayHand begun past (record { ticket = ticket; device = device; msg = message.Ask place })) (sym place_is) may_first_so

    -- the round that is asked first
    abbrev pub begun_round : Findings
    begun_round = record { target = get.findings.target; from = get.findings.target; events = get.findings.events ++ event ∷ []; facts = record no_facts { asked = 1 } }

    pub stands_first : (mailbox : MailboxModel Errand) → ((sent : Sent) → sent.ticket ≡ ticket → GoesWith mailbox (Gave sent ∷ past)) → mailbox.errands ≡ get.mailbox.errands ++ Ask device ∷ []
        → mailbox.unread ≡ get.mailbox.unread → (findings : Findings) (object : Option ObjectModel) → findings ≡ begun_round
        → Stands (record get { findings = findings; object = object; mailbox = mailbox }) begun (Gave (record { ticket = ticket; device = device; msg = message.Ask get.subject.place }) ∷ past)
    stands_first mailbox goes_with errands unread findings object findings_are =
        let sent = ask_message begun ticket device in
        let says = says get begun past stands ready (going.Keep event) goes in
        let none : opens past ≡ [] = closes get begun past stands ready says.0 says.1 in
        let some = slice_get_within (all_devices (devices begun)) 0 device first_is in
        subst (λ (place : PlaceModel). Stands (record get { findings = findings; object = object; mailbox = mailbox }) begun (Gave (record { ticket = ticket; device = device; msg = message.Ask place }) ∷ past)) (sym place_is)
        (subst (λ (these : Findings). Stands (record get { findings = these; object = object; mailbox = mailbox }) begun (Gave sent ∷ past)) (sym findings_are)
        (stands_gave get begun past stands ready (Ask device) sent (record { message = refl; member = first_member }) ticket_made next_first mailbox (goes_with sent refl) errands unread
        begun_round object
        (finds-kept begun stands.turns get.findings stands.finds ticket device event says.0.all_asked some (sym (same_going get begun past stands) ∙ goes))
        (subst (λ (opened : List Sent). AreCounted (record no_facts { asked = 1 }) [] (sent ∷ opened)) (sym none) (record { asks = refl; fetches = refl }))
        (λ enough. absurd (omega (arith, enough, (bounds begun.cluster.policy stands.valid.rules.policy).some_data)))))
