-- What every transcript of a get keeps.
use Rattle.std.proofs.Common.{◌≡◌, inl, inr, ℕ, zero, ◌+◌, ◌<◌, ◌≤◌, Bool, true, false, Contains, append-nil, ◌++◌, List, [], ◌∷◌, length, length-append, nat_lt, Option, Some, None, refl, sym, ap, subst, ◌∙◌, arith}
use Rattle.std.specs.Prelude.{if◌then◌else◌}
use Rattle.std.specs.List.{All, AllPairs, AllZip, flat_map, slice_get}
use Rattle.std.proofs.lemmas.Bool.{cases_Bool, ltb-false, ltb-true}
use Rattle.std.proofs.lemmas.Grind.{flat_map-append}
use Rattle.std.proofs.lemmas.List.{nil_from_length}
use Rattle.std.proofs.lemmas.List.Elements.{All-cons, All-filter, All-nil, All-push, All-weaker}
use Rattle.std.proofs.lemmas.Option.{slice_get_within}
use Rattle.sw_types.specs.Policy.{PolicyModel}
use Rattle.sw_hashdir.specs.Listing.{ListingModel}
use Rattle.sw_hashdir.specs.declared.floor.Floor.{Floor}
use Rattle.sw_archive.specs.Archive.{ArchiveModel}
use Rattle.sw_ring.proofs.Among.{Contains-cons}
use Rattle.sw_message.proofs.FloorLaws.{highest_from-append}
use Rattle.sw_message.specs.Floors.{floors_in, highest, highest_from}
use Rattle.sw_message.specs.Message.{IsMember}
use Rattle.sw_message.specs.Transcript.{Closed, Gave, Hand, IsRun, Over, Step, given, is_not, open_at, opens}
use Rattle.sw_message.specs.declared.message.Msg.{Msg}
use Rattle.sw_message.specs.declared.reply.Reply.{Reply}
use Rattle.sw_message.specs.declared.reply.Reply.TheVariants as reply
use Rattle.sw_message.specs.declared.sent.Sent.{Sent}
use Rattle.sw_message.specs.declared.target.Target.{Target}
use Rattle.sw_quorum.proofs.Transcripts.{found, numbered}
use Rattle.sw_quorum.specs.Transcripts.{HasOther}
use Rattle.sw_get.specs.Causes.{ListsAt}
use Rattle.sw_get.specs.Get.{AreTurns, Begun, Hears, IsBegun, IsMeant, IsNext, Sends, Turn, ask_first, ask_message, devices, event_of, events, facts_in, fetch_message, floors_shown, from_in, going_in, most_kept, next_after, round_in, sends, shown_by, wanted}
use Rattle.sw_get.specs.Meaning.{Brings, IsFetched, IsWanted, Lacks, Lists, Meaning, Misses, asked_meaning, with_asked, with_fetched}
use Rattle.sw_get.specs.Round.{Facts, all_devices, candidates, lost, no_facts, target_of}
use Rattle.sw_get.specs.Standing.{AreCounted, IsErrand, IsWithin, count_fetch, count_opens}
use Rattle.sw_get.specs.declared.errand.Errand.{Errand}
use Rattle.sw_get.specs.declared.errand.Errand.TheVariants.{Ask, Fetch}
use Rattle.sw_get.specs.declared.round_end.Going.{Going}
use Rattle.sw_get.specs.declared.round_end.Going.TheVariants as going
use Rattle.sw_get.specs.declared.round_end.KeptEvent.{KeptEvent}
use Rattle.sw_get.proofs.Changes.{none_open}
use Rattle.sw_get.proofs.Counts.{counted-answered, counted-ask, counted-fetch, counted-fetched, counted-taken, one_asked, within as answers_few}
use Rattle.sw_get.proofs.Findings.{within-answered, within-ask, within-fetch, within-fetched, within-first}
use Rattle.sw_get.proofs.Goings.{GoingSays, going_says}
use Rattle.sw_get.proofs.Indices.{all_listed}
use Rattle.sw_gather.proofs.Lists.{zip-none, zip-push, zip-weaker}
use Rattle.sw_get.proofs.Meanings.{AskedCases, asked_cases, never_lists}
use Rattle.sw_get.proofs.Members.{asked_known, source-kept, source_known}
use Rattle.sw_get.proofs.Sameness.{fragment_of, one_turns}
use Rattle.sw_get.proofs.Shown.{gone_of}
use Rattle.sw_get.proofs.Turns.{ask_goes_on, begins, facts-answered, facts-asked, facts-brought, facts-fetched, fetch_goes_on, sends-given, target-heard}

-- ---- what is kept

-- a source whose archive was gone: it is listed at the stamp of the round's target, and it said so of that
abbrev pub IsGoneOf : Begun → List Step → Option Floor → Facts → Target → Type 0
IsGoneOf begun past from facts source = (to : Floor) × (target_of from facts ≡ Some to) × ListsAt begun.cluster.policy facts.lists to.stamp source
    × (ticket : ℕ) × (listing : ListingModel) × Contains past (Closed (fetch_message begun ticket to.stamp source) (Some (reply.Gone listing)))

-- archives are fetched at that stamp, from a source that is listed
abbrev AtTarget : PolicyModel → Option Floor → Facts → Errand → Type 0
AtTarget policy from facts (Ask device) = Unit {0}
AtTarget policy from facts (Fetch stamp source) = (to : Floor) × (target_of from facts ≡ Some to) × (stamp ≡ to.stamp) × ListsAt policy facts.lists to.stamp source

record IsOpenOf (begun : Begun) (from : Option Floor) (facts : Facts) (sent : Sent) : Type 0 where
  errand : Errand
  is : IsErrand begun errand sent
  at : AtTarget begun.cluster.policy from facts errand

-- a source sent an archive, at the stamp of the target
pub record IsBrought (begun : Begun) (past : List Step) (from : Option Floor) (facts : Facts) (source : Target) (archive : ArchiveModel) : Type 0 where
  pub to : Floor
  pub target : target_of from facts ≡ Some to
  pub ticket : ℕ
  pub bytes : List ℕ
  pub told : Contains past (Closed (fetch_message begun ticket to.stamp source) (Some (reply.Fragment bytes)))
  pub wanted : IsWanted (wanted begun to.stamp) source.index bytes archive

-- of a transcript, by what its round knows, the floors that were shown, and the count of events before
pub record KeepsFacts (begun : Begun) (past : List Step) (from : Option Floor) (facts : Facts) (shown : List Floor) (kept : ℕ) : Type 0 where
  pub counted : AreCounted facts [] (opens past)
  pub within : IsWithin begun from facts
  opened : All (IsOpenOf begun from facts) (opens past)
  pub brought : AllZip (IsBrought begun past from facts) facts.sources facts.archives
  pub gone_told : All (IsGoneOf begun past from facts) facts.gone
  -- until archives are fetched, the target is the greatest floor that was shown
  pub level : length facts.tried ≡ 0 → highest shown ≡ target_of from facts
  pub events_few : kept ≤ most_kept

abbrev pub Keeps : Begun → List Step → List Turn → Type 0
Keeps begun past turns = KeepsFacts begun past (from_in begun turns) (facts_in begun turns) (floors_shown turns) (length (events begun turns))

-- ---- what stays

module _ (policy : PolicyModel) (from : Option Floor) (a b : Facts) (target : target_of from a ≡ target_of from b) (lists : a.lists ≡ b.lists) where
  same_at : (errand : Errand) → AtTarget policy from a errand → AtTarget policy from b errand
  same_at (Ask device) at = tt
  same_at (Fetch stamp source) at = (at.0, sym target ∙ at.1, at.2, subst (λ these. ListsAt policy these at.0.stamp source) lists at.3)

same_gone : (begun : Begun) (past : List Step) (step : Step) (from : Option Floor) (a b : Facts) → target_of from a ≡ target_of from b → a.lists ≡ b.lists → (source : Target) → IsGoneOf begun past from a source
    → IsGoneOf begun (step ∷ past) from b source
same_gone begun past step from a b target lists source is = (
  is.0,
  sym target ∙ is.1,
  subst (λ these. ListsAt begun.cluster.policy these is.0.stamp source) lists is.2,
  is.3,
  is.4,
  Contains-cons (Closed (fetch_message begun is.3 is.0.stamp source) (Some (reply.Gone is.4))) step past is.5,
)

same_open : (begun : Begun) (from : Option Floor) (a b : Facts) → target_of from a ≡ target_of from b → a.lists ≡ b.lists → (sent : Sent) → IsOpenOf begun from a sent → IsOpenOf begun from b sent
same_open begun from a b target lists sent is = record { errand = is.errand; is = is.is; at = same_at begun.cluster.policy from a b target lists is.errand is.at }

same_brought : (begun : Begun) (past : List Step) (step : Step) (from : Option Floor) (a b : Facts) → target_of from a ≡ target_of from b → (source : Target) (archive : ArchiveModel)
    → IsBrought begun past from a source archive → IsBrought begun (step ∷ past) from b source archive
same_brought begun past step from a b same source archive is = record {
  to = is.to;
  target = sym same ∙ is.target;
  ticket = is.ticket;
  bytes = is.bytes;
  told = Contains-cons (Closed (fetch_message begun is.ticket is.to.stamp source) (Some (reply.Fragment is.bytes))) step past is.told;
  wanted = is.wanted;
}

none_counted : (count : Msg → ℕ) (sents : List Sent) → count_opens count sents ≡ 0 → All (λ (sent : Sent). count sent.msg ≡ 0) sents
none_counted count [] none = All-nil (λ (sent : Sent). count sent.msg ≡ 0)
none_counted count (sent ∷ sents) none =
    All-cons (λ (sent : Sent). count sent.msg ≡ 0) sent sents (omega (arith, none)) (none_counted count sents (omega (arith, none)))

-- an open message that is no fetch
asks_only : (begun : Begun) (from : Option Floor) (a b : Facts) (sent : Sent) → count_fetch sent.msg ≡ 0 → IsOpenOf begun from a sent → IsOpenOf begun from b sent
asks_only begun from a b sent none known = record { errand = known.errand; is = known.is; at = at known.errand known.is }
  where
    at : (errand : Errand) → IsErrand begun errand sent → AtTarget begun.cluster.policy from b errand
    at (Ask device) is = tt
    at (Fetch stamp source) is = let one : count_fetch sent.msg ≡ 1 = ap (λ (one : Sent). count_fetch one.msg) is.message in absurd (omega (arith, none, one))

-- ---- a message was handed out

module _ (begun : Begun) (valid : IsBegun begun) (past : List Step) (turns : List Turn) (keeps : Keeps begun past turns) where
  abbrev from : Option Floor
  from = from_in begun turns

  abbrev facts : Facts
  facts = facts_in begun turns

  few : (facts.answered ≤ facts.asked) × (length facts.sources + lost facts ≤ length facts.tried)
  few = answers_few facts (opens past) [] keeps.counted

  -- what its round knows, by what it does next
  pub says : (going : Going) → going_in begun turns ≡ going → GoingSays begun.cluster.policy (devices begun) from facts going
  says going is = subst (GoingSays begun.cluster.policy (devices begun) from facts) is
      (going_says begun.cluster.policy (devices begun) from facts keeps.within.asked_few keeps.within.tried_few few.1)

  -- the same, by other words for what is known
  by_facts : (path : List Step) (more : List Turn) (start : Option Floor) (known : Facts) (kept : List KeptEvent) → from_in begun more ≡ start → facts_in begun more ≡ known → events begun more ≡ kept
      → KeepsFacts begun path start known (floors_shown more) (length kept) → Keeps begun path more
  by_facts path more start known kept from_is facts_are events_are keeps =
      subst (λ one. KeepsFacts begun path one (facts_in begun more) (floors_shown more) (length (events begun more))) (sym from_is)
      (subst (λ these. KeepsFacts begun path start these (floors_shown more) (length (events begun more))) (sym facts_are)
      (subst (λ these. KeepsFacts begun path start known (floors_shown more) (length these)) (sym events_are) keeps))

  asked : (ticket device : ℕ) → going_in begun turns ≡ going.Ask device → Keeps begun (Gave (ask_message begun ticket device) ∷ past) (Sends (ask_message begun ticket device) ∷ turns)
  asked ticket device goes =
      let sent = ask_message begun ticket device in
      let at = says (going.Ask device) goes in
      let less = slice_get_within (all_devices (devices begun)) facts.asked device at in
      let on = ask_goes_on begun turns ticket device less in
      let known : Facts = record facts { asked = facts.asked + 1 } in
      by_facts (Gave sent ∷ past) (Sends sent ∷ turns) from known (events begun turns) on.from (on.facts ∙ facts-asked (round_in begun turns).turns ticket device begun) on.events (record {
        counted = counted-ask facts (opens past) begun ticket device keeps.counted;
        within = within-ask begun from facts keeps.within few.0 less;
        opened = All-cons (IsOpenOf begun from known) sent (opens past)
            (record { errand = Ask device; is = record { message = refl; member = asked_known begun valid facts.asked device at }; at = tt })
            (All-weaker (IsOpenOf begun from facts) (IsOpenOf begun from known) (same_open begun from facts known refl refl) (opens past) keeps.opened);
        brought = zip-weaker (IsBrought begun past from facts) (IsBrought begun (Gave sent ∷ past) from known) (same_brought begun past (Gave sent) from facts known refl) facts.sources facts.archives keeps.brought;
        gone_told = All-weaker (IsGoneOf begun past from facts) (IsGoneOf begun (Gave sent ∷ past) from known) (same_gone begun past (Gave sent) from facts known refl refl) facts.gone keeps.gone_told;
        level = keeps.level;
        events_few = keeps.events_few;
      })

  fetched : (ticket stamp : ℕ) (source : Target) → going_in begun turns ≡ going.Fetch stamp source
      → Keeps begun (Gave (fetch_message begun ticket stamp source) ∷ past) (Sends (fetch_message begun ticket stamp source) ∷ turns)
  fetched ticket stamp source goes =
      let sent = fetch_message begun ticket stamp source in
      let says = says (going.Fetch stamp source) goes in
      let next = says.1 in
      let on = fetch_goes_on begun turns ticket stamp source in
      let known : Facts = record facts { tried = facts.tried ++ source ∷ [] } in
      let listed = source-kept (ListsAt begun.cluster.policy facts.lists next.to.stamp) begun.cluster.policy (candidates begun.cluster.policy next.to.stamp facts) facts source next.source_is
      (all_listed begun.cluster.policy facts next.to.stamp) in
      by_facts (Gave sent ∷ past) (Sends sent ∷ turns) from known (events begun turns) on.from (on.facts ∙ facts-fetched (round_in begun turns).turns ticket stamp source begun) on.events (record {
        counted = counted-fetch facts (opens past) begun ticket stamp source keeps.counted;
        within = within-fetch begun from facts keeps.within stamp source few.0 (omega (arith, says.0.all_asked, says.0.all_heard)) next;
        opened = All-cons (IsOpenOf begun from known) sent (opens past)
            (record {
              errand = Fetch stamp source;
              is = record { message = refl; member = source_known begun next.to.stamp facts source next.source_is keeps.within.listed };
              at = (next.to, next.chosen.target, next.stamp_is, listed);
            })
            (All-weaker (IsOpenOf begun from facts) (IsOpenOf begun from known) (same_open begun from facts known refl refl) (opens past) keeps.opened);
        brought = zip-weaker (IsBrought begun past from facts) (IsBrought begun (Gave sent ∷ past) from known) (same_brought begun past (Gave sent) from facts known refl) facts.sources facts.archives keeps.brought;
        gone_told = All-weaker (IsGoneOf begun past from facts) (IsGoneOf begun (Gave sent ∷ past) from known) (same_gone begun past (Gave sent) from facts known refl refl) facts.gone keeps.gone_told;
        level = λ none. absurd (omega (arith, none, length-append facts.tried (source ∷ [])));
        events_few = keeps.events_few;
      })

  first : (ticket device : ℕ) (event : KeptEvent) → going_in begun turns ≡ going.Keep event → length (events begun turns) < most_kept → slice_get (all_devices (devices begun)) 0 ≡ Some device
      → Keeps begun (Gave (ask_message begun ticket device) ∷ past) (Sends (ask_message begun ticket device) ∷ turns)
  first ticket device event goes fewer at =
      let sent = ask_message begun ticket device in
      let says = says (going.Keep event) goes in
      let none = none_open begun from facts (opens past) keeps.counted keeps.within says.0 says.1 in
      let another = begins begun turns ticket device says.0.all_asked in
      let start = highest (floors_shown turns) in
      let known : Facts = record no_facts { asked = 1 } in
      let kept = events begun turns ++ event ∷ [] in
      by_facts (Gave sent ∷ past) (Sends sent ∷ turns) start known kept another.from (another.facts ∙ facts-asked [] ticket device begun) (another.events ∙ ap (λ one. events begun turns ++ event_of one) goes)
      (record {
        counted = subst (λ (opened : List Sent). AreCounted known [] (sent ∷ opened)) (sym none) (record { asks = refl; fetches = refl });
        within = within-first begun start (slice_get_within (all_devices (devices begun)) 0 device at);
        opened = All-cons (IsOpenOf begun start known) sent (opens past)
            (record { errand = Ask device; is = record { message = refl; member = asked_known begun valid 0 device at }; at = tt })
            (subst (All (IsOpenOf begun start known)) (sym none) (All-nil (IsOpenOf begun start known)));
        brought = tt;
        gone_told = All-nil (IsGoneOf begun (Gave sent ∷ past) start known);
        level = λ untried. refl;
        events_few = omega (arith, fewer, length-append (events begun turns) (event ∷ []));
      })

  -- the message that its machine hands out
  handed : (sent : Sent) (going : Going) → going_in begun turns ≡ going → next_after begun turns going ≡ Hand sent → Keeps begun (Gave sent ∷ past) (Sends sent ∷ turns)
  handed sent (going.Ask device) goes is =
      let same : ask_message begun (sends turns) device ≡ sent = cc in
      subst (λ (one : Sent). Keeps begun (Gave one ∷ past) (Sends one ∷ turns)) same (asked (sends turns) device goes)
  handed sent (going.Fetch stamp source) goes is =
      let same : fetch_message begun (sends turns) stamp source ≡ sent = cc in
      subst (λ (one : Sent). Keeps begun (Gave one ∷ past) (Sends one ∷ turns)) same (fetched (sends turns) stamp source goes)
  handed sent going.Wait goes is = absurd (cc)
  handed sent (going.End ending) goes is = absurd (cc)
  handed sent (going.Keep event) goes is = by_count (nat_lt (length (events begun turns)) most_kept) refl is
    where
      by_device : (device : Option ℕ) → length (events begun turns) < most_kept → slice_get (all_devices (devices begun)) 0 ≡ device → ask_first begun (sends turns) device ≡ Hand sent
          → Keeps begun (Gave sent ∷ past) (Sends sent ∷ turns)
      by_device None fewer at same = absurd (cc)
      by_device (Some device) fewer at same =
          let this : ask_message begun (sends turns) device ≡ sent = cc in
          subst (λ (one : Sent). Keeps begun (Gave one ∷ past) (Sends one ∷ turns)) this (first (sends turns) device event goes fewer at)

      by_count : (b : Bool) → nat_lt (length (events begun turns)) most_kept ≡ b → (if b then ask_first begun (sends turns) (slice_get (all_devices (devices begun)) 0) else Over) ≡ Hand sent
          → Keeps begun (Gave sent ∷ past) (Sends sent ∷ turns)
      by_count true less same = by_device (slice_get (all_devices (devices begun)) 0) (ltb-true (length (events begun turns)) most_kept less) refl same
      by_count false less same = absurd (cc)

  -- ---- an answer came

  module _ (ticket : ℕ) (answer : Option Reply) (apart : AllPairs HasOther (opens past)) where
    heard_ask : (device : ℕ) → let sent = ask_message begun ticket device in open_at ticket past ≡ Some sent → IsErrand begun (Ask device) sent
        → Keeps begun (Closed sent answer ∷ past) (Hears sent (asked_meaning answer) ∷ turns)
    heard_ask device is errand =
        let sent = ask_message begun ticket device in
        let step = Closed sent answer in
        let meaning = asked_meaning answer in
        let left = opens (step ∷ past) in
        let taken = counted-taken facts (opens past) begun [] (Ask device) answer sent errand is apart keeps.counted in
        let less = one_asked facts left device answer [] taken in
        let none : length facts.tried ≡ 0 = nothing_tried less in
        let after : Facts = with_asked facts device meaning in
        let Brought : Meaning → Type 0 = λ meaning. AllZip (IsBrought begun (step ∷ past) from after) (with_asked facts device meaning).sources (with_asked facts device meaning).archives in
        let brought = zip-none (IsBrought begun past from facts) (IsBrought begun (step ∷ past) from after) facts.sources facts.archives (nil_from_length facts.sources (omega (arith, none, few.1))) keeps.brought in
        let WasGone : Target → Type 0 = λ source. IsGoneOf begun (step ∷ past) from after source in
        let Gone : Meaning → Type 0 = λ meaning. All WasGone (with_asked facts device meaning).gone in
        let gone : All WasGone facts.gone = subst (All WasGone) (sym (nil_from_length facts.gone (omega (arith, none, few.1)))) (All-nil WasGone) in
        let none_fetched = none_counted count_fetch (opens past) (omega (arith, none, keeps.counted.fetches)) in
        by_facts (step ∷ past) (Hears sent meaning ∷ turns) from after (events begun turns) refl (facts-answered (round_in begun turns).turns ticket device begun answer) refl (record {
          counted = counted-answered facts left device answer [] taken;
          within = within-answered begun from facts keeps.within device answer errand.member less;
          opened = All-filter (is_not ticket) (IsOpenOf begun from after) (opens past) (λ i d below. asks_only begun from facts after _ (none_fetched i d below) (keeps.opened i d below));
          brought = elim (asked_cases answer) [ inl lists ↦ subst Brought (sym lists.1) brought | inr misses ↦ subst Brought (sym misses.1) brought ];
          gone_told = elim (asked_cases answer) [ inl lists ↦ subst Gone (sym lists.1) gone | inr misses ↦ subst Gone (sym misses.1) gone ];
          level = λ untried. target-heard turns sent meaning ∙ ap (λ best. highest_from best (shown_by meaning)) (keeps.level none) ∙ target_more answer (asked_cases answer);
          events_few = keeps.events_few;
        })
      where
        target_more : (answer : Option Reply) → AskedCases answer → highest_from (target_of from facts) (shown_by (asked_meaning answer)) ≡ target_of from (with_asked facts device (asked_meaning answer))
        target_more answer (inl lists) =
            let floors : ℕ × ListingModel → List Floor = λ one. floors_in one.1 in
            subst (λ meaning. highest_from (target_of from facts) (shown_by meaning) ≡ target_of from (with_asked facts device meaning)) (sym lists.1)
            (sym (ap (highest_from from) (flat_map-append floors facts.lists ((device, lists.0) ∷ []) ∙ ap (λ these. flat_map floors facts.lists ++ these) (append-nil (floors_in lists.0)))
            ∙ highest_from-append from (flat_map floors facts.lists) (floors_in lists.0)))
        target_more answer (inr misses) = subst (λ meaning. highest_from (target_of from facts) (shown_by meaning) ≡ target_of from (with_asked facts device meaning)) (sym misses.1) refl

        nothing_tried : facts.answered < facts.asked → length facts.tried ≡ 0
        nothing_tried less = elim (cases_Bool (nat_lt 0 (length facts.tried))) [
          | inl some ↦
              let fetching = keeps.within.fetching (ltb-true 0 (length facts.tried) some) in
              absurd (omega (arith, less, fetching.all_answered, keeps.within.asked_few))
          | inr none ↦ let no_more = ltb-false 0 (length facts.tried) none in omega (arith, no_more)
        ]

    heard_fetch : (stamp : ℕ) (source : Target) (meaning : Meaning) → let sent = fetch_message begun ticket stamp source in open_at ticket past ≡ Some sent → IsErrand begun (Fetch stamp source) sent
        → AtTarget begun.cluster.policy from facts (Fetch stamp source) → IsFetched (wanted begun stamp) facts.archives source.index answer meaning
        → Keeps begun (Closed sent answer ∷ past) (Hears sent meaning ∷ turns)
    heard_fetch stamp source meaning is errand at means =
        let sent = fetch_message begun ticket stamp source in
        let step = Closed sent answer in
        let left = opens (step ∷ past) in
        let taken = counted-taken facts (opens past) begun [] (Fetch stamp source) answer sent errand is apart keeps.counted in
        let after : Facts = with_fetched facts source meaning in
        let one_fetched : 0 < length facts.tried = omega (arith, taken.fetches) in
        by_facts (step ∷ past) (Hears sent meaning ∷ turns) from after (events begun turns) refl (facts-brought (round_in begun turns).turns ticket stamp source begun meaning) refl (record {
          counted = counted-fetched facts left stamp source answer [] meaning
              (λ listing lists. never_lists (wanted begun stamp) facts.archives source.index answer listing (subst (IsFetched (wanted begun stamp) facts.archives source.index answer) lists means)) taken;
          within = within-fetched begun from facts keeps.within source meaning;
          opened = All-filter (is_not ticket) (IsOpenOf begun from after) (opens past)
              (All-weaker (IsOpenOf begun from facts) (IsOpenOf begun from after) (same_open begun from facts after (same_target meaning) (same_lists meaning)) (opens past) keeps.opened);
          brought = brings meaning means;
          gone_told = gone_more meaning means;
          level = λ untried. absurd (omega (arith, one_fetched, same_tried meaning, untried));
          events_few = keeps.events_few;
        })
      where
        same_target : (meaning : Meaning) → target_of from facts ≡ target_of from (with_fetched facts source meaning)
        same_target (Brings archive) = refl
        same_target (Lacks listing) = refl
        same_target (Misses how) = refl
        same_target (Lists listing) = refl

        same_lists : (meaning : Meaning) → facts.lists ≡ (with_fetched facts source meaning).lists
        same_lists (Brings archive) = refl
        same_lists (Lacks listing) = refl
        same_lists (Misses how) = refl
        same_lists (Lists listing) = refl

        before_gone : (meaning : Meaning) → All (IsGoneOf begun (Closed (fetch_message begun ticket stamp source) answer ∷ past) from (with_fetched facts source meaning)) facts.gone
        before_gone meaning =
            All-weaker (IsGoneOf begun past from facts) (IsGoneOf begun (Closed (fetch_message begun ticket stamp source) answer ∷ past) from (with_fetched facts source meaning))
            (same_gone begun past (Closed (fetch_message begun ticket stamp source) answer) from facts (with_fetched facts source meaning) (same_target meaning) (same_lists meaning)) facts.gone keeps.gone_told

        gone_more : (meaning : Meaning) → IsFetched (wanted begun stamp) facts.archives source.index answer meaning
            → All (IsGoneOf begun (Closed (fetch_message begun ticket stamp source) answer ∷ past) from (with_fetched facts source meaning)) (with_fetched facts source meaning).gone
        gone_more (Brings archive) means = before_gone (Brings archive)
        gone_more (Lacks listing) means =
            let path = Closed (fetch_message begun ticket stamp source) answer ∷ past in
            let told = subst (λ n. Contains path (Closed (fetch_message begun ticket n source) answer)) at.2 (zero, omega arith, refl) in
            All-push (IsGoneOf begun path from (with_fetched facts source (Lacks listing))) facts.gone source (before_gone (Lacks listing))
            (at.0, at.1, at.3, ticket, listing, subst (λ given. Contains path (Closed (fetch_message begun ticket at.0.stamp source) given)) (gone_of begun turns stamp source.index listing answer means) told)
        gone_more (Misses how) means = before_gone (Misses how)
        gone_more (Lists listing) means = before_gone (Lists listing)

        same_tried : (meaning : Meaning) → length (with_fetched facts source meaning).tried ≡ length facts.tried
        same_tried (Brings archive) = refl
        same_tried (Lacks listing) = refl
        same_tried (Misses how) = refl
        same_tried (Lists listing) = refl

        still : (after : Facts) → target_of from facts ≡ target_of from after
            → AllZip (IsBrought begun (Closed (fetch_message begun ticket stamp source) answer ∷ past) from after) facts.sources facts.archives
        still after same =
            zip-weaker (IsBrought begun past from facts) (IsBrought begun (Closed (fetch_message begun ticket stamp source) answer ∷ past) from after)
            (same_brought begun past (Closed (fetch_message begun ticket stamp source) answer) from facts after same) facts.sources facts.archives keeps.brought

        brings : (meaning : Meaning) → IsFetched (wanted begun stamp) facts.archives source.index answer meaning
            → AllZip (IsBrought begun (Closed (fetch_message begun ticket stamp source) answer ∷ past) from (with_fetched facts source meaning)) (with_fetched facts source meaning).sources (with_fetched facts source meaning).archives
        brings (Brings archive) means =
            let fragment = fragment_of (wanted begun stamp) facts.archives source.index archive answer means in
            zip-push (IsBrought begun (Closed (fetch_message begun ticket stamp source) answer ∷ past) from (with_fetched facts source (Brings archive))) facts.sources facts.archives source archive
            (still (with_fetched facts source (Brings archive)) refl)
            (record {
              to = at.0;
              target = at.1;
              ticket = ticket;
              bytes = fragment.bytes;
              told = subst (λ (n : ℕ). Contains (Closed (fetch_message begun ticket stamp source) answer ∷ past) (Closed (fetch_message begun ticket n source) (Some (reply.Fragment fragment.bytes)))) at.2
                  (zero, omega arith, ap (λ given. Closed (fetch_message begun ticket stamp source) given) fragment.given);
              wanted = subst (λ (n : ℕ). IsWanted (wanted begun n) source.index fragment.bytes archive) at.2 fragment.spelled;
            })
        brings (Lacks listing) means = still (with_fetched facts source (Lacks listing)) refl
        brings (Misses how) means = still (with_fetched facts source (Misses how)) refl
        brings (Lists listing) means = still facts refl

    told : (sent : Sent) (meaning : Meaning) → open_at sent.ticket past ≡ Some sent → sent.ticket ≡ ticket → IsMeant begun turns sent.msg answer meaning → (errand : Errand) → IsErrand begun errand sent → AtTarget begun.cluster.policy from facts errand
        → Keeps begun (Closed sent answer ∷ past) (Hears sent meaning ∷ turns)
    told sent meaning is own means (Ask device) errand at =
        let same : sent ≡ ask_message begun ticket device = errand.message ∙ ap (λ n. ask_message begun n device) own in
        let meant : meaning ≡ asked_meaning answer = subst (λ (one : Sent). IsMeant begun turns one.msg answer meaning) same means in
        let opened : open_at ticket past ≡ Some (ask_message begun ticket device) = ap (λ n. open_at n past) (sym own) ∙ is ∙ ap (λ (one : Sent). Some one) same in
        subst (λ (one : Sent). Keeps begun (Closed one answer ∷ past) (Hears one meaning ∷ turns)) (sym same)
        (subst (λ m. Keeps begun (Closed (ask_message begun ticket device) answer ∷ past) (Hears (ask_message begun ticket device) m ∷ turns)) (sym meant)
        (heard_ask device opened (subst (IsErrand begun (Ask device)) same errand)))
    told sent meaning is own means (Fetch stamp source) errand at =
        let same : sent ≡ fetch_message begun ticket stamp source = errand.message ∙ ap (λ n. fetch_message begun n stamp source) own in
        let opened : open_at ticket past ≡ Some (fetch_message begun ticket stamp source) = ap (λ n. open_at n past) (sym own) ∙ is ∙ ap (λ (one : Sent). Some one) same in
        subst (λ (one : Sent). Keeps begun (Closed one answer ∷ past) (Hears one meaning ∷ turns)) (sym same)
        (heard_fetch stamp source meaning opened (subst (IsErrand begun (Fetch stamp source)) same errand) at
        (subst (λ (one : Sent). IsMeant begun turns one.msg answer meaning) same means))

-- ---- every transcript

ticket_after : (begun : Begun) (turns : List Turn) (sent : Sent) (going : Going) → next_after begun turns going ≡ Hand sent → sent.ticket ≡ sends turns
ticket_after begun turns sent (going.Ask device) is = let same : ask_message begun (sends turns) device ≡ sent = cc in ap (λ (one : Sent). one.ticket) (sym same)
ticket_after begun turns sent (going.Fetch stamp source) is = let same : fetch_message begun (sends turns) stamp source ≡ sent = cc in ap (λ (one : Sent). one.ticket) (sym same)
ticket_after begun turns sent going.Wait is = absurd (cc)
ticket_after begun turns sent (going.End ending) is = absurd (cc)
ticket_after begun turns sent (going.Keep event) is = by_count (nat_lt (length (events begun turns)) most_kept) is
  where
    by_device : (device : Option ℕ) → ask_first begun (sends turns) device ≡ Hand sent → sent.ticket ≡ sends turns
    by_device None same = absurd (cc)
    by_device (Some device) same = let this : ask_message begun (sends turns) device ≡ sent = cc in ap (λ (one : Sent). one.ticket) (sym this)

    by_count : (b : Bool) → (if b then ask_first begun (sends turns) (slice_get (all_devices (devices begun)) 0) else Over) ≡ Hand sent → sent.ticket ≡ sends turns
    by_count true same = by_device (slice_get (all_devices (devices begun)) 0) same
    by_count false same = absurd (cc)

pub numbers : (begun : Begun) (past : List Step) (sent : Sent) → IsNext begun past (Hand sent) → sent.ticket ≡ length (given past)
numbers begun past sent next = ticket_after begun next.0 sent (going_in begun next.0) next.2 ∙ sends-given begun past next.0 next.1

none_kept : (begun : Begun) → Keeps begun [] []
none_kept begun = record {
  counted = record { asks = refl; fetches = refl };
  within = record { asked_few = omega arith; tried_few = omega arith; listed = All-nil (λ (one : ℕ × ListingModel). IsMember begun.cluster one.0); fetching = λ some. absurd (omega (arith, some)) };
  opened = All-nil (IsOpenOf begun (from_in begun []) (facts_in begun []));
  brought = tt;
  gone_told = All-nil (IsGoneOf begun [] (from_in begun []) (facts_in begun []));
  level = λ untried. refl;
  events_few = omega arith;
}

pub all_kept : (begun : Begun) → IsBegun begun → (past : List Step) → IsRun (IsNext begun) past → (turns : List Turn) → AreTurns begun past turns → Keeps begun past turns
all_kept begun valid [] run [] are = none_kept begun
all_kept begun valid [] run (turn ∷ turns) are = absurd are
all_kept begun valid (Gave sent ∷ past) run [] are = absurd are
all_kept begun valid (Gave sent ∷ past) run (Sends same ∷ turns) are =
    let keeps = all_kept begun valid past run.1 turns are.1 in
    let next = subst (λ these. next_after begun these (going_in begun these) ≡ Hand sent) (one_turns begun past run.0.0 turns run.0.1 are.1) run.0.2 in
    subst (λ (one : Sent). Keeps begun (Gave sent ∷ past) (Sends one ∷ turns)) (sym are.0) (handed begun valid past turns keeps sent (going_in begun turns) refl next)
all_kept begun valid (Gave sent ∷ past) run (Hears same meaning ∷ turns) are = absurd are
all_kept begun valid (Closed sent answer ∷ past) run [] are = absurd are
all_kept begun valid (Closed sent answer ∷ past) run (Sends same ∷ turns) are = absurd are
all_kept begun valid (Closed sent answer ∷ past) run (Hears same meaning ∷ turns) are =
    let keeps = all_kept begun valid past run.1 turns are.2 in
    let own = found (IsOpenOf begun (from_in begun turns) (facts_in begun turns)) sent.ticket (opens past) sent run.0 keeps.opened in
    let apart = (numbered (IsNext begun) (numbers begun) past run.1).apart in
    subst (λ (one : Sent). Keeps begun (Closed sent answer ∷ past) (Hears one meaning ∷ turns)) (sym are.0)
    (told begun valid past turns keeps sent.ticket answer apart sent meaning run.0 refl are.1 own.0.errand own.0.is own.0.at)
