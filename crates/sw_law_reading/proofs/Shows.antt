-- A get over a growing view that knew a put acknowledged: it tells of nothing older, and with few devices out shows it or something newer.
use Rattle.std.proofs.Common.{◌≡◌, ◌⊎◌, inl, inr, ⊎_elim, ℕ, ◌+◌, ◌<◌, ◌≤◌, true, Contains, List, [], ◌∷◌, length, Some, None, refl, sym, ap, subst, arith}
use Rattle.std.specs.List.{slice_index_or}
use Rattle.std.proofs.lemmas.Bool.{cases_eq}
use Rattle.std.proofs.lemmas.List.Elements.{All-contains, All-get_or, Contains-append_right}
use Rattle.sw_types.specs.Object.{ObjectModel}
use Rattle.sw_hashdir.specs.Directory.{StandsAbove}
use Rattle.sw_hashdir.specs.Listing.{ListingModel}
use Rattle.sw_hashdir.specs.declared.floor.Floor.{Floor}
use Rattle.sw_hashpath.specs.Place.{PlaceModel}
use Rattle.sw_diskfile.proofs.Lists.{Contains-first, Contains-later, Contains-map, Contains-none}
use Rattle.sw_ring.specs.Cluster.{ClusterModel, ids_of, place_of_name}
use Rattle.sw_ring.proofs.Among.{Contains-from_among}
use Rattle.sw_message.specs.Floors.{durable_at, floors_in}
use Rattle.sw_message.specs.Learnt.{AreKnown, KnowsReply, Learnt}
use Rattle.sw_message.specs.Message.{IsMember}
use Rattle.sw_message.specs.Transcript.{Closed, Gave, IsRun, Step, given}
use Rattle.sw_message.specs.Warrant.{HasListing, IsDecided, IsHome, IsSynced}
use Rattle.sw_message.specs.declared.message.Msg.{Msg}
use Rattle.sw_message.specs.declared.message.Msg.TheVariants as message
use Rattle.sw_message.specs.declared.reply.Reply.{Reply}
use Rattle.sw_message.specs.declared.reply.Reply.TheVariants as reply
use Rattle.sw_message.specs.declared.target.Target.{Target}
use Rattle.sw_quorum.proofs.Places.{part_small, place_right}
use Rattle.sw_gather.proofs.Lists.{in_flat}
use Rattle.sw_get.specs.Causes.{AreWanting, IsBuried, IsLevel, IsPutFound, LastRound, LeavesUnanswered, floors_before, floors_listed}
use Rattle.sw_get.specs.Get as gets
use Rattle.sw_get.specs.declared.end.GetEnd.{GetEnd}
use Rattle.sw_get.specs.declared.end.GetEnd.TheVariants.{Absent, Buried, Found, Overtaken, TooFew, Unanswered}
use Rattle.sw_get.proofs.Ends.{ends_absent, ends_buried, ends_overtaken, ends_too_few, ends_unanswered}
use Rattle.sw_get.proofs.Founds.{found_put}
use Rattle.sw_get.proofs.Members.{primaries_some}
use Rattle.sw_get.proofs.Runs.{numbers}
use Rattle.sw_get.proofs.Shown.{shown_among}
use Rattle.sw_get.proofs.Turns.{now}
use Rattle.sw_law_claim.specs.Claim.{ADurableEntry, AnEntry}
use Rattle.sw_law_owed.specs.Decided.{AreApart}
use Rattle.sw_law_homes.specs.Homes.{IsUntouched}
use Rattle.sw_law_homes.proofs.Counting.{homes}
use Rattle.sw_law_homes.proofs.Floors.{above_in, durable_in}
use Rattle.sw_law_homes.proofs.Heard.{Lists}
use Rattle.sw_law_rounds.specs.Asked.{IsSentAfter}
use Rattle.sw_law_rounds.specs.Ends.{IsNotOlder, IsOvertaken, Shows}
use Rattle.sw_law_rounds.proofs.Handed.{told-here}
use Rattle.sw_law_rounds.proofs.Listed.{durable_entry, has_listing, tombstone_there}
use Rattle.sw_law_rounds.proofs.Openings.{IsSentFirst, first-sent}
use Rattle.sw_law_rounds.proofs.Reached.{IsReached, target-reached}
use Rattle.sw_law_rounds.proofs.Sendings.{sent_from}
use Rattle.sw_law_rounds.proofs.Showings.{floors_first}
use Rattle.sw_view.specs.View.{DrawnPut, IsSoundView, View, known_to}
use Rattle.sw_view.specs.declared.event.Event.{Event}
use Rattle.sw_view.specs.declared.event.Event.TheVariants.{Handled}
use Rattle.sw_view.proofs.Known.{failed_known, from_known, handled_known}
use Rattle.sw_law_view.specs.Replies.{IsListingOf}
use Rattle.sw_law_view.proofs.Replies.{replies}
use Rattle.sw_law_reading.specs.Reading.{AddsReply, AreCallsOver, AreOut, FoundOver, IsEventIn, IsLatest, KnowsCreated, NeverOlderOver, ReadsAfter, ShowsOver}
use Rattle.sw_law_reading.proofs.Called.{answered_event}
use Rattle.sw_law_reading.proofs.Chains.{AreViews, are-views, itself_at, messages_of, timed, closed-below}
use Rattle.sw_law_reading.proofs.Counted.{all_seen}
use Rattle.sw_law_reading.proofs.Ended.{IsListed, not-wanting}
use Rattle.sw_law_reading.proofs.Fragments.{HadClaimed, IsBorneIn, IsRead, at_home}

-- an answer with a listing is the latest event
added : (before after : View) (device : ℕ) (msg : Msg) (given_so : Reply) (listing : ListingModel) → AddsReply before after device msg (Some given_so) → HasListing given_so listing → IsLatest before after device (Handled msg given_so)
added before after device msg (reply.Held held) listing adds has = adds
added before after device msg (reply.Gone held) listing adds has = adds
added before after device msg other listing adds none = absurd none

module _ (begun : gets.Begun) (before after : View) (sound : IsSoundView begun.cluster before) (past : List Step) (run : IsRun (gets.IsNext begun) past) (chain : AreCallsOver begun.cluster before past after) where
  abbrev cluster : ClusterModel
  cluster = begun.cluster

  abbrev place : PlaceModel
  place = gets.place_of begun

  valid : gets.IsBegun begun
  valid = record { rules = sound.rules }

  views : AreViews begun before past after
  views = are-views begun before sound past after run chain

  -- ---- what was found

  abbrev learnt : Learnt
  learnt = known_to cluster after

  sound_after : IsSoundView cluster after
  sound_after = subst (IsSoundView cluster) views.last (views.sound (length (given past)) (omega arith))

  latest_has : (first second : View) (device : ℕ) (event : Event) → IsLatest first second device event → Contains (second.history device) event
  latest_has first second device event is = subst (λ events. Contains events event) (sym is.2) (Contains-first event is.0)

  -- what was answered is known at the end
  knows_reply : (device : ℕ) (msg : Msg) (given_so : Reply) → IsMember cluster device → IsEventIn after device msg given_so → KnowsReply cluster learnt device msg (Some given_so)
  knows_reply device msg reply.NoMemory member has = (λ not. absurd (not refl), tt)
  knows_reply device msg reply.DiskFault member has = (λ not. failed_known after device (ids_of cluster) msg (Contains-from_among (ids_of cluster) device member) has, tt)
  knows_reply device msg other member has =
      (λ not. handled_known after device (ids_of cluster) msg other (Contains-from_among (ids_of cluster) device member) has, (replies cluster after sound_after).genuine device msg other has)

  are_known : (steps : List Step) → ((step : Step) → Contains steps step → Contains past step) → AreKnown cluster learnt steps
  are_known [] all = sound_after.book
  are_known (Gave sent ∷ steps) all = are_known steps (λ step has. all step (Contains-later (Gave sent) steps step has))
  are_known (Closed sent None ∷ steps) all = (tt, are_known steps (λ step has. all step (Contains-later (Closed sent None) steps step has)))
  are_known (Closed sent (Some given_so) ∷ steps) all =
      let here = all (Closed sent (Some given_so)) (Contains-first (Closed sent (Some given_so)) steps) in (
        knows_reply sent.device sent.msg given_so (views.calls sent (Some given_so) here).1.member (answered_event cluster before past after chain sent given_so here),
        are_known steps (λ step has. all step (Contains-later (Closed sent (Some given_so)) steps step has)),
      )

  found-put : (stamp : ℕ) (object : ObjectModel) (sources : List Target) → gets.IsEnd begun past (Found stamp object sources) → IsPutFound begun past learnt stamp object sources
  found-put stamp object sources ended =
      found_put begun past learnt stamp object sources valid run (record { one = sound_after.book.one; objects = λ booked there. (sound_after.book.puts booked there).object_rules }) (are_known past (λ step has. has)) ended

  module _ (put : DrawnPut) (commits : ℕ) (out : List ℕ) (same_name : begun.name ≡ put.booked.name) (knows : KnowsCreated begun.cluster before put commits) (out_of : AreOut after begun past put.mark out) where
    abbrev own : ℕ
    own = put.booked.stamp

    abbrev read : (last : LastRound begun past) → IsRead begun put out past last.turns
    read last = record {
      valid = valid;
      is_place = place_right cluster begun.name;
      run = run;
      are = last.are;
      answered = last.all_answered;
      before = before;
      after = after;
      known = knows.known;
      chain = views;
      out_of = out_of;
    }

    -- ---- never older

    own_place : place_of_name cluster put.booked.name ≡ place
    own_place = ap (place_of_name cluster) (sym same_name)

    apart : AreApart cluster place knows.targets
    apart = subst (λ p. AreApart cluster p knows.targets) own_place knows.apart

    -- a fragment that was committed
    had_committed : (last : LastRound begun past) (target : Target) → Contains knows.targets target → HadClaimed begun put out past last.turns (read last) 0 target.device own (ADurableEntry target.index)
    had_committed last target has =
        let event = All-contains (λ (one : Target). Contains (before.history one.device) (Handled (message.Commit (place_of_name cluster put.booked.name) own one.index) reply.Committed)) knows.targets target knows.committed has in
        let here = subst (λ p. Contains (before.history target.device) (Handled (message.Commit p own target.index) reply.Committed)) own_place event in
        record {
          msg = message.Commit place own target.index;
          given_so = reply.Committed;
          has = subst (λ (one : View). Contains (one.history target.device) (Handled (message.Commit place own target.index) reply.Committed)) (sym views.start) here;
          there = refl;
          claims = inl refl;
        }

    -- a durable entry that is borne shows a floor that is high enough
    reached_by : (last : LastRound begun past) (index : ℕ) → IsBorneIn begun put out past last.turns (read last) own (ADurableEntry index) → IsReached begun past last.turns own
    reached_by last index is = by_lists is.lists
      where
        with_floor : (floor : Floor) → Contains (floors_in is.one.listing) floor → own ≤ floor.stamp → IsReached begun past last.turns own
        with_floor floor there high = record {
          listing = is.one.listing;
          floor = floor;
          shown = record { sent = gets.ask_message begun is.one.ticket is.device; given = reply.Held is.one.listing; told = is.one.told; shows = refl };
          there = there;
          among = in_flat (λ (one : ℕ × ListingModel). floors_in one.1) (gets.facts_in begun last.turns).lists (is.device, is.one.listing) floor is.one.among there;
          high = high;
        }

        by_lists : Lists is.one.listing own (ADurableEntry index) → IsReached begun past last.turns own
        by_lists (inl entry) = with_floor (durable_at own) (durable_in is.one.listing own index entry) (omega arith)
        by_lists (inr above) = with_floor above.0 (above_in is.one.listing own above.0 above.1) (⊎_elim (λ less. omega (arith, less)) (λ level. omega (arith, level.0)) above.1.0)

    reached : length out < commits → (last : LastRound begun past) → IsReached begun past last.turns own
    reached fewer last =
        let targets = knows.targets in
        let some = homes cluster place out targets sound.rules (place_right cluster begun.name) apart in
        let nobody : Target = record { index = 0; device = 0 } in
        let target : Target = slice_index_or some.left 0 nobody in
        let within : 0 < length some.left = omega (arith, some.many, fewer, knows.count) in
        let has = some.some 0 nobody within in
        reached_by last target.index
        (at_home begun put out past last.turns (read last) own (omega arith) target.index (ADurableEntry target.index) (λ other same. same) (λ listing lists. lists) 0 target.device
        (had_committed last target has) (λ sent there. omega arith) (some.untouched 0 nobody within) (some.apart.homes 0 nobody within))

    -- ---- not older

    not-older : length out < commits → (end : GetEnd) → gets.IsEnd begun past end → IsNotOlder own end
    not-older fewer Absent ended =
        let absent = ends_absent begun past valid run ended in
        let high = reached fewer absent.last in
        absurd (Contains-none high.floor (subst (λ floors. Contains floors high.floor) (absent.none_shown high.listing high.shown) high.there))
    not-older fewer (Found other object sources) ended =
        let is = found-put other object sources ended in
        target-reached begun past is.last.turns own other (reached fewer is.last) is.target
    not-older fewer (Buried other) ended =
        let buried = ends_buried begun past valid run other ended in
        let high = reached fewer buried.last in
        let upto : other < high.floor.stamp → ⊥ = λ above. buried.greatest high.listing high.floor high.shown high.there (inl above) in
        omega (arith, upto, high.high)
    not-older fewer (Unanswered misses) ended = tt
    not-older fewer (TooFew other have) ended =
        let few = ends_too_few begun past valid run other have ended in
        target-reached begun past few.last.turns own other (reached fewer few.last) few.level.target
    not-older fewer (Overtaken these) ended = tt

    -- ---- a target that had been shown before

    module _ (last : LastRound begun past) (other : ℕ) (least : own ≤ other) (level : IsLevel begun last.turns other) where
      -- the first message of the round
      opening : IsSentFirst itself_at past (now begun last.turns)
      opening =
          let primaries = (gets.devices begun).primaries in
          let some = primaries_some begun valid in
          let member = All-get_or (IsMember cluster) primaries 0 0 some (valid.rules.known place.part (part_small cluster begun.name)) in
          let one = last.all_answered.each _ member in
          first-sent (messages_of past) 0 itself_at begun past (length (given past)) (timed begun cluster (messages_of past) before past after run chain (λ messages has. has) (length (given past)) (omega arith)) last.turns last.are _ one.sent

      -- the target was decided by then, as some view knew
      record WasDecidedBy : Type 0 where
        s : ℕ
        in_time : s ≤ opening.sent.ticket
        within : s ≤ length (given past)
        listing : ListingModel
        is : IsListingOf cluster (known_to cluster (views.views s)) place listing
        index : ℕ
        entry : Contains listing.entries (record { stamp = other; index = index; durable = true })

      was_decided : WasDecidedBy
      was_decided =
          let sent_after : IsSentAfter begun past last.turns opening.sent opening.earlier = record { later = opening.later; place = opening.place; in_round = opening.in_round } in
          let was = floors_first begun past opening.earlier last.turns opening.sent (durable_at other) valid run last.are sent_after level.before in
          let shown = was.1 in
          let from = sent_from begun past opening.earlier last.turns opening.sent run last.are sent_after in
          let early = closed-below begun opening.earlier from.run.1 shown.sent (Some shown.given) shown.told in
          let number = numbers begun opening.earlier opening.sent from.run.0 in
          let told : Contains past (Closed shown.sent (Some shown.given)) = subst (λ steps. Contains steps (Closed shown.sent (Some shown.given))) (sym opening.place)
          (Contains-append_right opening.later (Gave opening.sent ∷ opening.earlier) _ (Contains-later (Gave opening.sent) opening.earlier _ shown.told)) in
          let call = views.calls shown.sent (Some shown.given) told in
          let shows = has_listing shown.sent.msg shown.given was.0 shown.shows in
          let adds = added (views.views shown.sent.ticket) (views.views (shown.sent.ticket + 1)) shown.sent.device shown.sent.msg shown.given was.0 call.1.adds shows in
          let has = latest_has (views.views shown.sent.ticket) (views.views (shown.sent.ticket + 1)) shown.sent.device (Handled shown.sent.msg shown.given) adds in
          let entry = durable_entry was.0 other was.2 in
          record {
            s = shown.sent.ticket + 1;
            in_time = omega (arith, early, number);
            within = omega (arith, call.0);
            listing = was.0;
            is = (replies cluster (views.views (shown.sent.ticket + 1)) call.1.sound).listings place shown.sent.device shown.sent.msg shown.given was.0 has (told-here begun past run shown.sent (Some shown.given) told) shows;
            index = entry.0;
            entry = entry.1;
          }

      abbrev s : ℕ
      s = was_decided.s

      decided : IsDecided cluster (known_to cluster (views.views s)).heard place other
      decided = (was_decided.is.entries (record { stamp = other; index = was_decided.index; durable = true }) was_decided.entry).2 refl

      -- nothing above it is listed in the round
      none_above : (device : ℕ) (listing : ListingModel) → Contains (gets.facts_in begun last.turns).lists (device, listing) → (floor : Floor) → Contains (floors_in listing) floor → StandsAbove floor other → ⊥
      none_above device listing among floor there above =
          let listed = in_flat (λ (one : ℕ × ListingModel). floors_in one.1) (gets.facts_in begun last.turns).lists (device, listing) floor among there in
          level.target.1 floor (Contains-append_right (floors_before begun last.turns) (floors_listed begun last.turns) floor listed) (⊎_elim (λ less. inl less) (λ same. inr (same.0, same.1, refl)) above)

      -- a fragment that is borne is listed
      listed_so : (index : ℕ) → IsBorneIn begun put out past last.turns (read last) other (AnEntry index) → (device : ℕ) × IsListed begun past last.turns last.are out out_of.missed other (record { index = index; device = device })
      listed_so index is = ⊎_elim
          (λ entry. (
            is.device,
            (
              is.clear,
              record {
                below = below entry.0 entry.1;
                listing = is.one.listing;
                listed = is.one.among;
                durable = entry.0;
                entry = entry.1;
              },
            ),
          ))
          (λ above. absurd (none_above is.device is.one.listing is.one.among above.0 (above_in is.one.listing other above.0 above.1) above.1.0))
          is.lists
        where
          below : (durable : _) → Contains is.one.listing.entries (record { stamp = other; index = index; durable = durable }) → index < cluster.policy.k + cluster.policy.m
          below durable entry =
              let latest = is.one.call.adds in
              let has = latest_has (views.views is.one.ticket) (views.views (is.one.ticket + 1)) is.device (Handled (message.Ask place) (reply.Held is.one.listing)) latest in
              (((replies cluster (views.views (is.one.ticket + 1)) is.one.call.sound).listings place is.device (message.Ask place) (reply.Held is.one.listing) is.one.listing has refl refl).entries
              (record { stamp = other; index = index; durable = durable }) entry).1

      -- of each fragment that was stored
      target_listed : (target : Target) → IsSynced (known_to cluster (views.views s)).heard place other target → IsHome cluster place target → IsUntouched cluster place out target
          → (device : ℕ) × IsListed begun past last.turns last.are out out_of.missed other (record { index = target.index; device = device })
      target_listed target (bytes, known) home untouched = ⊎_elim
          (λ has. listed_so target.index
          (at_home begun put out past last.turns (read last) other least target.index (AnEntry target.index) (λ index same. same) weaker s target.device
          (record { msg = message.PutFrag place other target.index bytes; given_so = reply.Synced; has = has; there = refl; claims = inl refl })
          (λ sent there. let first = opening.least sent there in omega (arith, first, was_decided.in_time)) untouched home))
          (λ failed. absurd (cc (failed.1)))
          (from_known (ids_of cluster) (views.views s) _ known)
        where
          weaker : (listing : ListingModel) → Lists listing other (ADurableEntry target.index) → Lists listing other (AnEntry target.index)
          weaker listing (inl durable) = inl (true, durable)
          weaker listing (inr above) = inr above

      never-wanting : length out + cluster.policy.k ≤ cluster.policy.q → AreWanting begun last.turns other → ⊥
      never-wanting room =
          let some = homes cluster place out decided.targets sound.rules (place_right cluster begun.name) (record { indices = decided.indices; devices = decided.devices; homes = decided.homes }) in
          let seen = all_seen (IsListed begun past last.turns last.are out out_of.missed other) some.left some.apart.indices (λ i d within.
          target_listed _ (All-contains (IsSynced (known_to cluster (views.views s)).heard place other) decided.targets _ decided.synced (some.some i d within)) (some.apart.homes i d within) (some.untouched i d within)) in
          not-wanting begun past last.turns last.are out out_of.missed other seen.targets (omega (arith, seen.many, some.many, decided.enough, room)) seen.indices seen.holds

    -- ---- it shows the put or something newer

    module _ (fewer : length out < commits) (room : length out + begun.cluster.policy.k ≤ begun.cluster.policy.q) where
      wanting-not : (last : LastRound begun past) (other : ℕ) → IsLevel begun last.turns other → AreWanting begun last.turns other → ⊥
      wanting-not last other level = never-wanting last other (target-reached begun past last.turns own other (reached fewer last) level.target) level room

      never-unanswered : (last : LastRound begun past) → LeavesUnanswered begun last.turns → ⊥
      never-unanswered last (inl (none_shown, many)) =
          let high = reached fewer last in
          Contains-none high.floor (subst (λ floors. Contains floors high.floor) none_shown
          (shown_among begun past last.turns last.are high.listing high.shown.sent high.shown.given high.shown.told high.shown.shows high.floor high.there))
      never-unanswered last (inr (other, level, wanting)) = wanting-not last other level wanting

      -- a tombstone that is shown is not of the put's stamp
      other-stamp : IsBuried begun past own → ⊥
      other-stamp buried =
          let shown = buried.shown.shown in
          let listing = buried.shown.listing in
          let call = views.calls shown.sent (Some shown.given) shown.told in
          let shows = has_listing shown.sent.msg shown.given listing shown.shows in
          let one = views.views (shown.sent.ticket + 1) in
          let adds = added (views.views shown.sent.ticket) one shown.sent.device shown.sent.msg shown.given listing call.1.adds shows in
          let has = latest_has (views.views shown.sent.ticket) one shown.sent.device (Handled shown.sent.msg shown.given) adds in
          let lists = (replies cluster one call.1.sound).listings place shown.sent.device shown.sent.msg shown.given listing has (told-here begun past run shown.sent (Some shown.given) shown.told) shows in
          let deleted = lists.tombstones own (tombstone_there listing own buried.shown.greatest.0) in
          let known = (views.grows 0 (shown.sent.ticket + 1) (omega arith) (omega (arith, call.0))).puts put (subst (λ (v : View). Contains v.puts put) (sym views.start) knows.known) in
          call.1.sound.apart put.booked deleted.0 (Contains-map (λ (p : DrawnPut). p.booked) one.puts put known) deleted.1 (sym deleted.2)

      by-end : (how : GetEnd) → gets.IsEnd begun past how → IsNotOlder own how → Shows own how ⊎ IsOvertaken how
      by-end Absent ended older = absurd older
      by-end (Found other object sources) ended older = inl older
      by-end (Buried other) ended older = inl (⊎_elim
          (λ same. absurd (other-stamp (subst (IsBuried begun past) (sym same) (ends_buried begun past valid run other ended))))
          (λ differ. omega (arith, older, differ))
          (cases_eq own other))
      by-end (Unanswered misses) ended older = let cause = ends_unanswered begun past valid run misses ended in absurd (never-unanswered cause.last cause.why)
      by-end (TooFew other have) ended older = let cause = ends_too_few begun past valid run other have ended in absurd (wanting-not cause.last other cause.level (inl cause.short))
      by-end (Overtaken events) ended older = inr (ends_overtaken begun past valid run events ended).count

-- ---- the promises

back : (P : ClusterModel → Type 0) (one other : ClusterModel) → one ≡ other → P other → P one
back P one other same has = subst P (sym same) has

module _ (cluster : ClusterModel) (put : DrawnPut) (commits : ℕ) (out : List ℕ) (end : GetEnd) (is : ReadsAfter cluster put commits out end) where
  here : (P : ClusterModel → Type 0) → P cluster → P is.begun.cluster
  here P has = back P is.begun.cluster cluster is.cluster_is has

  older : length out < commits → IsNotOlder put.booked.stamp end
  older fewer =
      not-older is.begun is.before is.after (here (λ c. IsSoundView c is.before) is.sound) is.past is.run (here (λ c. AreCallsOver c is.before is.past is.after) is.calls) put commits out is.same_name
      (here (λ c. KnowsCreated c is.before put commits) is.knows) is.out_of fewer end is.ended

  newer : length out < commits → length out + cluster.policy.k ≤ cluster.policy.q → Shows put.booked.stamp end ⊎ IsOvertaken end
  newer fewer room =
      by-end is.begun is.before is.after (here (λ c. IsSoundView c is.before) is.sound) is.past is.run (here (λ c. AreCallsOver c is.before is.past is.after) is.calls) put commits out is.same_name
      (here (λ c. KnowsCreated c is.before put commits) is.knows) is.out_of fewer (here (λ (c : ClusterModel). length out + c.policy.k ≤ c.policy.q) room) end is.ended (older fewer)

pub never_older : (cluster : ClusterModel) → NeverOlderOver cluster
never_older cluster put commits out end is fewer = older cluster put commits out end is fewer

pub shows : (cluster : ClusterModel) → ShowsOver cluster
shows cluster put commits out end is fewer room = newer cluster put commits out end is fewer room

pub found_over : (cluster : ClusterModel) → FoundOver cluster
found_over cluster before after begun past stamp object sources sound cluster_is run calls ended = record {
  put = subst (λ (c : ClusterModel). IsPutFound begun past (known_to c after) stamp object sources) cluster_is
      (found-put begun before after (back (λ c. IsSoundView c before) begun.cluster cluster cluster_is sound) past run (back (λ c. AreCallsOver c before past after) begun.cluster cluster cluster_is calls) stamp object sources ended);
  events = λ sent given_so has. answered_event cluster before past after calls sent given_so has;
}
