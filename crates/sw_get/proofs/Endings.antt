-- A get that has ended, and one that begins.
use Rattle.std.proofs.Common.{◌≡◌, ℕ, ◌≤◌, ◌++◌, true, List, [], ◌∷◌, length, Option, Some, None, IsSome, is_some, refl, sym, ap, subst, ◌∙◌, arith}
use Rattle.std.specs.Prelude.{if◌then◌else◌}
use Rattle.std.specs.List.{slice_get}
use Rattle.std.proofs.lemmas.Bool.{le-ltb}
use Rattle.std.proofs.lemmas.List.Elements.{All-nil}
use Rattle.std.proofs.lemmas.Option.{none-some, same_Some}
use Rattle.sw_types.specs.Name.{NameModel}
use Rattle.sw_types.specs.Object.{ObjectModel}
use Rattle.sw_types.specs.Policy.{PolicyModel}
use Rattle.sw_types.proofs.Policies.{bounds}
use Rattle.sw_hashdir.specs.Listing.{ListingModel}
use Rattle.sw_hashpath.specs.Place.{PlaceModel}
use Rattle.sw_message.specs.Message.{IsMember}
use Rattle.sw_message.specs.Targets.{ascending}
use Rattle.sw_message.specs.Transcript.{Over, Step}
use Rattle.sw_get.specs.Get.{Begun, EndsAfter, EndsBy, IsBegun, IsNext, Turn, ask_first, devices, events, facts_in, going_in, most_kept, next_after, place_of, sends}
use Rattle.sw_gather.specs.Mailbox.{GoesWith}
use Rattle.sw_get.specs.Round.{Facts, all_devices, no_facts}
use Rattle.sw_get.specs.Standing.{AreCounted, AreFindings, EndsWith, Findings, FindsObject, GetModel, IsOpen, IsReady, Lead, NeedsObject, Stands, Subject, going_of, subject_of}
use Rattle.sw_get.specs.declared.end.GetEnd.{GetEnd}
use Rattle.sw_get.specs.declared.end.GetEnd.TheVariants as gets
use Rattle.sw_get.specs.declared.round_end.Going.{Going}
use Rattle.sw_get.specs.declared.round_end.Going.TheVariants as going
use Rattle.sw_get.specs.declared.round_end.KeptEvent.{KeptEvent}
use Rattle.sw_get.specs.declared.round_end.RoundEnd.{RoundEnd}
use Rattle.sw_get.specs.declared.round_end.RoundEnd.TheVariants as round
use Rattle.sw_get.proofs.Changes.{closes, ends, is_next, says, stands_ended}
use Rattle.sw_get.proofs.Goings.{EndSays}

-- ---- the end of a round

module _ (policy : PolicyModel) (facts : Facts) (found : Option ObjectModel) (finds : FindsObject policy facts found) where
  -- the object that is there is the one that the archives tell and hold
  ends_by : (ending : RoundEnd) (how : GetEnd) → ((stamp : ℕ) → ending ≡ round.Found stamp → length facts.sources ≡ policy.k) → EndsWith facts found ending how → EndsBy facts ending how
  ends_by (round.Found stamp) how enough is =
      let there = finds (enough stamp refl) in
      let same : there.0 ≡ is.0 = same_Some there.0 is.0 (sym there.1 ∙ is.1) in
      (there.0, (there.2, there.3), is.2 ∙ ap (λ (object : ObjectModel). gets.Found stamp object (ascending facts.sources)) (sym same))
  ends_by round.Absent how enough is = is
  ends_by (round.Buried stamp) how enough is = is
  ends_by round.Unanswered how enough is = is
  ends_by (round.TooFew stamp have) how enough is = is

  needs : (ending : RoundEnd) → ((stamp : ℕ) → ending ≡ round.Found stamp → length facts.sources ≡ policy.k) → NeedsObject ending found
  needs (round.Found stamp) enough = let there = finds (enough stamp refl) in subst IsSome (sym there.1) refl
  needs round.Absent enough = tt
  needs (round.Buried stamp) enough = tt
  needs round.Unanswered enough = tt
  needs (round.TooFew stamp have) enough = tt

-- ---- the get

module _ (get : GetModel) (begun : Begun) (past : List Step) (stands : Stands get begun past) (ready : IsReady get) where
  module _ (ending : RoundEnd) (goes : going_of get ≡ going.End ending) where
    enough : (stamp : ℕ) → ending ≡ round.Found stamp → length get.findings.facts.sources ≡ begun.cluster.policy.k
    enough stamp is =
        let says = (says get begun past stands ready (going.End ending) goes).2 in
        (subst (EndSays begun.cluster.policy get.findings.from get.findings.facts) is says).enough

    pub needs_object : NeedsObject ending get.object
    needs_object = needs begun.cluster.policy get.findings.facts get.object (stands.object_is ready.goes_on) ending enough

    pub is_over : IsNext begun past Over
    is_over = is_next get begun past stands ready Over (going.End ending) goes refl

    pub stands_finished : (how : GetEnd) (facts : Facts) (object : Option ObjectModel) → facts ≡ get.findings.facts → EndsWith get.findings.facts get.object ending how
        → Stands (record get { findings = record get.findings { facts = facts }; object = object; end = Some how }) begun past
    stands_finished how facts object facts_are is =
        let says = says get begun past stands ready (going.End ending) goes in
        let by : EndsBy (facts_in begun stands.turns) ending how =
        subst (λ (these : Facts). EndsBy these ending how) stands.finds.facts_are (ends_by begun.cluster.policy get.findings.facts get.object (stands.object_is ready.goes_on) ending how enough is) in
        subst (λ (these : Facts). Stands (record get { findings = record get.findings { facts = these }; object = object; end = Some how }) begun past) (sym facts_are)
        (stands_ended get begun past stands ready object how (ends get begun past stands ready how (going.End ending) goes by) (closes get begun past stands ready says.0 says.1))

  -- after the last event
  module _ (event : KeptEvent) (goes : going_of get ≡ going.Keep event) (many : most_kept ≤ length get.findings.events) where
    kept_many : most_kept ≤ length (events begun stands.turns)
    kept_many = omega (arith, many, ap length stands.finds.events_are)

    pub is_overtaken : IsNext begun past Over
    is_overtaken =
        is_next get begun past stands ready Over (going.Keep event) goes
        (ap (λ b. if b then ask_first begun (sends stands.turns) (slice_get (all_devices (devices begun)) 0) else Over) (le-ltb (length (events begun stands.turns)) most_kept kept_many))

    pub stands_overtaken : (these : List KeptEvent) → these ≡ get.findings.events ++ event ∷ [] → Stands (record get { end = Some (gets.Overtaken these) }) begun past
    stands_overtaken these are =
        let says = says get begun past stands ready (going.Keep event) goes in
        let by : gets.Overtaken these ≡ gets.Overtaken (events begun stands.turns ++ event ∷ []) = ap gets.Overtaken (are ∙ ap (λ kept. kept ++ event ∷ []) stands.finds.events_are) in
        stands_ended get begun past stands ready get.object (gets.Overtaken these) (ends get begun past stands ready (gets.Overtaken these) (going.Keep event) goes (kept_many, by))
        (closes get begun past stands ready says.0 says.1)

-- ---- the beginning

abbrev pub no_findings : Findings
no_findings = record { target = None; from = None; events = []; facts = no_facts }

pub same_subject : (subject : Subject) (begun : Begun) → subject.policy ≡ begun.cluster.policy → subject.name ≡ begun.name → subject.place ≡ place_of begun
    → subject.devices.handoffs ≡ (devices begun).handoffs → subject.devices.primaries ≡ (devices begun).primaries → subject ≡ subject_of begun
same_subject subject begun policy name place handoffs primaries =
    ap (λ (p : PolicyModel). record subject { policy = p }) policy
    ∙ ap (λ (n : NameModel). record { policy = begun.cluster.policy; name = n; place = subject.place; devices = subject.devices }) name
    ∙ ap (λ (p : PlaceModel). record { policy = begun.cluster.policy; name = begun.name; place = p; devices = subject.devices }) place
    ∙ ap (λ (these : List ℕ). record { policy = begun.cluster.policy; name = begun.name; place = place_of begun; devices = record { handoffs = these; primaries = subject.devices.primaries } }) handoffs
    ∙ ap (λ (these : List ℕ). record { policy = begun.cluster.policy; name = begun.name; place = place_of begun; devices = record { handoffs = (devices begun).handoffs; primaries = these } }) primaries

pub stands_begun : (get : GetModel) (begun : Begun) → IsBegun begun → get.subject ≡ subject_of begun → get.findings ≡ no_findings → GoesWith get.mailbox [] → get.mailbox.unread ≡ [] → get.end ≡ None
    → Stands get begun []
stands_begun get begun valid subject findings goes unread goes_on = record {
  valid = valid;
  run = tt;
  subject_is = subject;
  goes_with = goes;
  opened = All-nil (IsOpen begun get.mailbox.errands);
  read = [];
  turns = [];
  reads = tt;
  leads = subst (λ these. Lead begun these [] []) (sym unread) refl;
  finds = subst (λ (found : Findings). AreFindings found begun []) (sym findings) (record {
    target_is = refl;
    from_is = refl;
    events_are = refl;
    facts_are = refl;
    within = record { asked_few = omega arith; tried_few = omega arith; listed = All-nil (λ (one : ℕ × ListingModel). IsMember begun.cluster one.0); fetching = λ some. absurd (omega (arith, some)) };
  });
  counted = subst (λ these. AreCounted get.findings.facts these []) (sym unread)
      (subst (λ (found : Findings). AreCounted found.facts [] []) (sym findings) (record { asks = refl; fetches = refl }));
  object_is = λ on enough.
      let none : 0 ≡ begun.cluster.policy.k = ap (λ (found : Findings). length found.facts.sources) (sym findings) ∙ enough in
      absurd (omega (arith, none, (bounds begun.cluster.policy valid.rules.policy).some_data));
  end_is = λ end is. absurd (none-some end (sym goes_on ∙ is));
}

-- ---- after the end

over_after : (begun : Begun) (turns : List Turn) (how : GetEnd) (going : Going) → EndsAfter begun turns going how → next_after begun turns going ≡ Over
over_after begun turns how (going.End ending) is = refl
over_after begun turns how (going.Keep event) is = ap (λ b. if b then ask_first begun (sends turns) (slice_get (all_devices (devices begun)) 0) else Over) (le-ltb (length (events begun turns)) most_kept is.0)
over_after begun turns how (going.Ask device) is = absurd is
over_after begun turns how (going.Fetch stamp source) is = absurd is
over_after begun turns how going.Wait is = absurd is

pub over_ended : (get : GetModel) (begun : Begun) (past : List Step) → Stands get begun past → is_some get.end ≡ true → IsNext begun past Over
over_ended get begun past stands ended = at get.end refl ended
  where
    at : (end : Option GetEnd) → get.end ≡ end → is_some end ≡ true → IsNext begun past Over
    at None is some = absurd (cc)
    at (Some end) is some = let known = (stands.end_is end is).is in (known.0, known.1, over_after begun known.0 end (going_in begun known.0) known.2)
