-- A message of a sync is of its cluster, and is warranted by what was answered before.
use Rattle.std.proofs.Common.{◌≡◌, inl, inr, ℕ, ◌<◌, ◌≤◌, true, Contains, List, [], ◌∷◌, length, map, Some, refl, sym, ap, subst, ◌∙◌, arith}
use Rattle.std.specs.List.{All, filter}
use Rattle.std.proofs.lemmas.List.Elements.{All-contains, All-head, All-weaker, Contains-append_cases}
use Rattle.std.proofs.lemmas.Option.{slice_get_within}
use Rattle.sw_types.proofs.Policies.{bounds}
use Rattle.sw_hashdir.specs.Listing.{ListingModel}
use Rattle.sw_hashdir.specs.declared.floor.Floor.{Floor}
use Rattle.sw_archive.specs.Archive.{ArchiveModel}
use Rattle.sw_archive.specs.Put.{IsPut, put_fields}
use Rattle.sw_ring.specs.Cluster.{ClusterModel, place_of_name}
use Rattle.sw_ring.proofs.Roles.{column_length}
use Rattle.sw_message.specs.Floors.{durable_at, durable_floor, floors_in, is_durable, tombstone_floor}
use Rattle.sw_message.specs.Learnt.{AreKnown, Booked, IsOfBook, IsSoundBook, KnowsReply, Learnt}
use Rattle.sw_message.specs.Message.{IsMember, IsPlaceOf, place_in}
use Rattle.sw_message.specs.Running.{IsOf}
use Rattle.sw_message.specs.Transcript.{Closed, Gave, IsRun, Step}
use Rattle.sw_message.specs.Warrant.{IsOfPut, IsWarranted}
use Rattle.sw_message.specs.declared.message.Msg.{Msg}
use Rattle.sw_message.specs.declared.message.Msg.TheVariants as message
use Rattle.sw_message.specs.declared.reply.Reply.{Reply}
use Rattle.sw_message.specs.declared.reply.Reply.TheVariants as reply
use Rattle.sw_message.specs.declared.sent.Sent.{Sent}
use Rattle.sw_message.specs.declared.target.Target.{Target}
use Rattle.sw_gather.proofs.Lists.{first_or_later, from_filter, from_map, none_in}
use Rattle.sw_gather.proofs.Sources.{OfEntries, choices-of}
use Rattle.sw_sync.specs.Answers.{IsOwnFloor, WasBrought}
use Rattle.sw_sync.specs.Parts.{Burial, Repair}
use Rattle.sw_sync.specs.Standing.{ends}
use Rattle.sw_sync.specs.State.{State}
use Rattle.sw_sync.specs.Sync.{Begun, Hands, IsBegun, IsMessage, IsNext, IsRebuilt, IsState, primaries, total}
use Rattle.sw_sync.specs.declared.errand.Errand.{Errand}
use Rattle.sw_sync.specs.declared.errand.Errand.TheVariants.{Ask, Commit, Delete, Fetch, Store}
use Rattle.sw_sync.specs.declared.stage.Stage.{Stage}
use Rattle.sw_sync.specs.declared.stage.Stage.TheVariants.{Buries, Ends, Handoffs, Primaries, Repairs}
use Rattle.sw_sync.proofs.Asking.{asking-member, primary-member}
use Rattle.sw_sync.proofs.Burying as bury
use Rattle.sw_sync.proofs.Burying.{Burying, ToBury}
use Rattle.sw_sync.proofs.Ending.{over_settled}
use Rattle.sw_sync.proofs.Errands.{sent_for}
use Rattle.sw_sync.proofs.Known.{Knows, known}
use Rattle.sw_sync.proofs.Repairing as repairs
use Rattle.sw_sync.proofs.Repairing.{Repairing, ToRepair, commit-target, lacking-target, primary-there}
use Rattle.sw_sync.proofs.Shows.{is-primary, own-floor}

-- ---- what is known of replies

module _ (cluster : ClusterModel) (learnt : Learnt) where
  reply-known : (past : List Step) (sent : Sent) (given : Reply) → AreKnown cluster learnt past → Contains past (Closed sent (Some given)) → KnowsReply cluster learnt sent.device sent.msg (Some given)
  reply-known [] sent given known is = absurd (none_in (Closed sent (Some given)) is)
  reply-known (Gave other ∷ past) sent given known is = elim (first_or_later (Gave other) past (Closed sent (Some given)) is) [ inl same ↦ absurd (cc) | inr later ↦ reply-known past sent given known later ]
  reply-known (Closed other answer ∷ past) sent given known is = elim (first_or_later (Closed other answer) past (Closed sent (Some given)) is) [
    | inl same ↦
        let same_sent : other ≡ sent = cc in
        let same_answer : answer ≡ Some given = cc in
        subst (λ (one : Sent). KnowsReply cluster learnt one.device one.msg (Some given)) same_sent (subst (KnowsReply cluster learnt other.device other.msg) same_answer known.0)
    | inr later ↦ reply-known past sent given known.1 later
  ]

  book-sound : (past : List Step) → AreKnown cluster learnt past → IsSoundBook cluster.policy learnt.book
  book-sound [] known = known
  book-sound (Gave sent ∷ past) known = book-sound past known
  book-sound (Closed sent answer ∷ past) known = book-sound past known.1

-- ---- floors that a listing shows

durable-shown : (listing : ListingModel) (stamp : ℕ) → Contains (floors_in listing) (durable_at stamp) → (index : ℕ) × Contains listing.entries (record { stamp = stamp; index = index; durable = true })
durable-shown listing stamp there = elim (Contains-append_cases (map durable_floor (filter is_durable listing.entries)) (map tombstone_floor listing.tombstones) (durable_at stamp) there) [
  | inl entries ↦
      let one = from_map durable_floor (filter is_durable listing.entries) (durable_at stamp) entries in
      let entry = from_filter is_durable listing.entries one.0 one.1 in
      let same : one.0 ≡ record { stamp = stamp; index = one.0.index; durable = true } =
      ap (λ n. record { stamp = n; index = one.0.index; durable = one.0.durable }) (ap (λ (floor : Floor). floor.stamp) one.2) ∙ ap (λ b. record { stamp = stamp; index = one.0.index; durable = b }) entry.1 in
      (one.0.index, subst (Contains listing.entries) same entry.0)
  | inr tombstones ↦ let one = from_map tombstone_floor listing.tombstones (durable_at stamp) tombstones in absurd (cc (ap (λ (floor : Floor). floor.kind) one.2))
]

tombstone-shown : (listing : ListingModel) (stamp : ℕ) → Contains (floors_in listing) (tombstone_floor stamp) → Contains listing.tombstones stamp
tombstone-shown listing stamp there = elim (Contains-append_cases (map durable_floor (filter is_durable listing.entries)) (map tombstone_floor listing.tombstones) (tombstone_floor stamp) there) [
  | inl entries ↦ let one = from_map durable_floor (filter is_durable listing.entries) (tombstone_floor stamp) entries in absurd (cc (ap (λ (floor : Floor). floor.kind) one.2))
  | inr tombstones ↦ let one = from_map tombstone_floor listing.tombstones (tombstone_floor stamp) tombstones in subst (Contains listing.tombstones) (ap (λ (floor : Floor). floor.stamp) one.2) one.1
]

module _ (begun : Begun) (past : List Step) (learnt : Learnt) (knows : AreKnown begun.cluster learnt past) where
  -- a tombstone that is the own floor, and an entry of a stamp that is it
  delete-warranted : (stamp : ℕ) → IsOwnFloor begun past (tombstone_floor stamp) → IsWarranted begun.cluster learnt (message.Delete begun.place stamp)
  delete-warranted stamp own = inr (record {
    heard = record { device = begun.device; msg = message.Ask begun.place; reply = reply.Held own.listing };
    known = (reply-known begun.cluster learnt past _ (reply.Held own.listing) knows own.own.1).0 (λ same. cc);
    same_place = refl;
    shows = (own.listing, refl, tombstone-shown own.listing stamp own.floor_is.shown);
  })

  commit-warranted : (stamp index : ℕ) → IsOwnFloor begun past (durable_at stamp) → IsWarranted begun.cluster learnt (message.Commit begun.place stamp index)
  commit-warranted stamp index own =
      let entry = durable-shown own.listing stamp own.floor_is.shown in
      inr (record {
        heard = record { device = begun.device; msg = message.Ask begun.place; reply = reply.Held own.listing };
        known = (reply-known begun.cluster learnt past _ (reply.Held own.listing) knows own.own.1).0 (λ same. cc);
        same_place = refl;
        shows = (own.listing, refl, entry.0, entry.1);
      })

  -- archives that were brought are of one put
  module _ (stamp : ℕ) where
    of-book : (archive : ArchiveModel) → WasBrought begun past stamp archive → IsOfBook begun.cluster learnt.book archive
    of-book archive was = (reply-known begun.cluster learnt past _ (reply.Fragment was.bytes) knows was.told.1).1 archive was.is.is

    -- the put has their stamp
    booked-stamp : (archive : ArchiveModel) (was : WasBrought begun past stamp archive) → (of-book archive was).0.stamp ≡ stamp
    booked-stamp archive was = sym (ap (λ (one : ArchiveModel). one.stamp) (of-book archive was).2) ∙ was.is.asked.stamp_is

    one-put : (first archive : ArchiveModel) (was : WasBrought begun past stamp first) (other : WasBrought begun past stamp archive) → (of-book archive other).0 ≡ (of-book first was).0
    one-put first archive was other =
        (book-sound begun.cluster learnt past knows).one _ _ (of-book archive other).1 (of-book first was).1 (booked-stamp archive other ∙ sym (booked-stamp first was))

    pub put-warranted : (archives : List ArchiveModel) (index : ℕ) (bytes : List ℕ) → 1 ≤ length archives → All (WasBrought begun past stamp) archives → IsRebuilt archives index bytes → index < total begun
        → IsOfPut begun.cluster learnt.book begun.place stamp index bytes
    put-warranted [] index bytes some brought rebuilt below = absurd (omega (arith, some))
    put-warranted (first ∷ archives) index bytes some brought rebuilt below =
        let was = All-head (WasBrought begun past stamp) first archives brought in
        let booked = (of-book first was).0 in
        let put = (book-sound begun.cluster learnt past knows).puts booked (of-book first was).1 in
        let stamp_is = booked-stamp first was in
        record {
          booked = booked;
          known = (of-book first was).1;
          stamp_is = stamp_is;
          place_is = ap (λ (archive : ArchiveModel). place_of_name begun.cluster archive.name) (sym (of-book first was).2) ∙ was.is.asked.name;
          index_below = below;
          archive = rebuilt.put begun.cluster.policy stamp booked.name booked.object (subst (λ n. IsPut begun.cluster.policy n booked.name booked.object) stamp_is put)
              (All-weaker (WasBrought begun past stamp) (λ (archive : ArchiveModel). archive ≡ put_fields begun.cluster.policy stamp booked.name booked.object archive.index)
              (λ archive other. (of-book archive other).2
              ∙ ap (λ (one : Booked). put_fields begun.cluster.policy one.stamp one.name one.object archive.index) (one-put first archive was other)
              ∙ ap (λ n. put_fields begun.cluster.policy n booked.name booked.object archive.index) stamp_is) (first ∷ archives) brought);
        }

-- ---- what is handed out

module _ (begun : Begun) (valid : IsBegun begun) (sent : Sent) where
  abbrev IsOfCluster : Type 0
  IsOfCluster = IsOf begun.cluster sent.device sent.msg

  sent-of : (stamp ticket : ℕ) (bytes : List ℕ) (errand : Errand) → IsMember begun.cluster (sent_for begun stamp ticket bytes errand).device → sent ≡ sent_for begun stamp ticket bytes errand → IsOfCluster
  sent-of stamp ticket bytes errand member is = subst (λ (one : Sent). IsOf begun.cluster one.device one.msg) (sym is) (by_errand errand member)
    where
      by_errand : (errand : Errand) → IsMember begun.cluster (sent_for begun stamp ticket bytes errand).device → IsOf begun.cluster (sent_for begun stamp ticket bytes errand).device (sent_for begun stamp ticket bytes errand).msg
      by_errand (Ask device) member = record { member = member; place = valid.right }
      by_errand (Delete device) member = record { member = member; place = valid.right }
      by_errand (Fetch source) member = record { member = member; place = valid.right }
      by_errand (Store target) member = record { member = member; place = valid.right }
      by_errand (Commit target) member = record { member = member; place = valid.right }

  asks-of : IsMember begun.cluster sent.device × (sent.msg ≡ message.Ask begun.place) → IsOfCluster
  asks-of asked = record { member = asked.0; place = subst (λ (msg : Msg). IsPlaceOf begun.cluster (place_in msg)) (sym asked.1) valid.right }

  module _ (past : List Step) (due later : List Errand) (errand : Errand) (first : due ≡ errand ∷ later) where
    pub head-of : (P : Errand → Type 0) → All P due → P errand
    head-of P all = All-head P errand later (subst (All P) first all)

    bury-member : (burial : Burial) (burying : Burying begun past burial due) (stamp ticket : ℕ) (bytes : List ℕ) (one : Errand) → ToBury begun burying.heard burial.stamp one → IsMember begun.cluster (sent_for begun stamp ticket bytes one).device
    bury-member burial burying stamp ticket bytes (Delete device) todo = primary-member begun valid device todo.0
    bury-member burial burying stamp ticket bytes (Ask device) todo = absurd todo
    bury-member burial burying stamp ticket bytes (Fetch source) todo = absurd todo
    bury-member burial burying stamp ticket bytes (Store target) todo = absurd todo
    bury-member burial burying stamp ticket bytes (Commit target) todo = absurd todo

    repair-member : (repair : Repair) (repairing : Repairing begun past repair due) (stamp ticket : ℕ) (bytes : List ℕ) (one : Errand) → ToRepair begun past repairing.heard repair one
        → IsMember begun.cluster (sent_for begun stamp ticket bytes one).device
    repair-member repair repairing stamp ticket bytes (Commit target) todo =
        primary-member begun valid target.device (primary-there begun target (commit-target begun past repair due repairing target todo))
    repair-member repair repairing stamp ticket bytes (Store target) todo =
        primary-member begun valid target.device (primary-there begun target (lacking-target begun past repair due repairing target todo.0).0)
    repair-member repair repairing stamp ticket bytes (Fetch source) todo =
        let AtMember : Target → Type 0 = λ target. IsMember begun.cluster target.device in
        let choices = choices-of AtMember (total begun) repair.stamp repairing.heard.lists
        (All-weaker (λ (one : ℕ × ListingModel). IsMember begun.cluster one.0) (OfEntries AtMember (total begun) repair.stamp) (λ one member entry among listed. member) repairing.heard.lists repairing.surveyed.members) in
        All-contains AtMember repair.choices source (subst (All AtMember) (sym repairing.choices) choices) (All-contains (Contains repair.choices) repair.tried source repairing.gathers.chosen todo)
    repair-member repair repairing stamp ticket bytes (Ask device) todo = absurd todo
    repair-member repair repairing stamp ticket bytes (Delete device) todo = absurd todo

    of-stage : (stage : Stage) → IsMessage begun stage errand sent.device sent.msg → (ends stage ≡ true → due ≡ []) → Knows begun past stage due → IsOfCluster
    of-stage (Handoffs heard) message over knows = asks-of (asking-member begun valid past heard due later (primaries begun) sent (Handoffs heard) errand first message knows)
    of-stage (Primaries heard) message over knows = asks-of (asking-member begun valid past heard due later [] sent (Primaries heard) errand first message knows)
    of-stage (Buries burial) message over knows =
        let for = bury.message-for begun past burial due knows errand sent message in
        sent-of burial.stamp for.0 for.1 errand (bury-member burial knows burial.stamp for.0 for.1 errand (head-of (ToBury begun knows.heard burial.stamp) knows.does.sought)) for.2
    of-stage (Repairs repair) message over knows =
        let for = repairs.message-for begun past repair due knows errand sent message in
        sent-of repair.stamp for.0 for.1 errand (repair-member repair knows repair.stamp for.0 for.1 errand (head-of (ToRepair begun past knows.heard repair) knows.does.sought)) for.2
    of-stage (Ends end) message over knows = absurd (let none = over refl in cc (sym none ∙ first))

    module _ (learnt : Learnt) (known_is : AreKnown begun.cluster learnt past) where
      abbrev IsWarrantedFor : Type 0
      IsWarrantedFor = IsWarranted begun.cluster learnt sent.msg

      abbrev ByMessage : Msg → Type 0
      ByMessage msg = IsWarranted begun.cluster learnt msg

      bury-warranted : (burial : Burial) (burying : Burying begun past burial due) (one : Errand) → ToBury begun burying.heard burial.stamp one → IsMessage begun (Buries burial) one sent.device sent.msg → IsWarrantedFor
      bury-warranted burial burying (Delete device) todo message =
          subst ByMessage (sym message.1) (delete-warranted begun past learnt known_is burial.stamp (own-floor begun past burying.heard burying.surveyed (tombstone_floor burial.stamp) burying.own))
      bury-warranted burial burying (Ask device) todo message = absurd todo
      bury-warranted burial burying (Fetch source) todo message = absurd todo
      bury-warranted burial burying (Store target) todo message = absurd todo
      bury-warranted burial burying (Commit target) todo message = absurd todo

      repair-warranted : (repair : Repair) (repairing : Repairing begun past repair due) (one : Errand) → ToRepair begun past repairing.heard repair one → IsMessage begun (Repairs repair) one sent.device sent.msg → IsWarrantedFor
      repair-warranted repair repairing (Commit target) todo message =
          subst ByMessage (sym message.1) (commit-warranted begun past learnt known_is repair.stamp target.index (own-floor begun past repairing.heard repairing.surveyed (durable_at repair.stamp) repairing.own))
      repair-warranted repair repairing (Store target) todo message =
          let at = is-primary begun target (lacking-target begun past repair due repairing target todo.0).0 in
          let below : target.index < total begun = omega (arith, slice_get_within (primaries begun) target.index target.device at, column_length begun.cluster begun.place.part valid.rules) in
          subst ByMessage (sym message.3)
          (put-warranted begun past learnt known_is repair.stamp repair.archives target.index message.0 (omega (arith, todo.1, (bounds begun.cluster.policy valid.rules.policy).some_data)) repairing.gathers.brought.each message.1 below)
      repair-warranted repair repairing (Fetch source) todo message = subst ByMessage (sym message.1) tt
      repair-warranted repair repairing (Ask device) todo message = absurd todo
      repair-warranted repair repairing (Delete device) todo message = absurd todo

      warranted-in : (stage : Stage) → IsMessage begun stage errand sent.device sent.msg → (ends stage ≡ true → due ≡ []) → Knows begun past stage due → IsWarrantedFor
      warranted-in (Handoffs heard) message over knows = subst ByMessage (sym (asking-member begun valid past heard due later (primaries begun) sent (Handoffs heard) errand first message knows).1) tt
      warranted-in (Primaries heard) message over knows = subst ByMessage (sym (asking-member begun valid past heard due later [] sent (Primaries heard) errand first message knows).1) tt
      warranted-in (Buries burial) message over knows = bury-warranted burial knows errand (head-of (ToBury begun knows.heard burial.stamp) knows.does.sought) message
      warranted-in (Repairs repair) message over knows = repair-warranted repair knows errand (head-of (ToRepair begun past knows.heard repair) knows.does.sought) message
      warranted-in (Ends end) message over knows = absurd (let none = over refl in cc (sym none ∙ first))

module _ (begun : Begun) (valid : IsBegun begun) (past : List Step) (state after : State) (sent : Sent) (run : IsRun (IsNext begun) past) (is : IsState begun past state) (hands : Hands begun state sent after) where
  pub hands_of : IsOf begun.cluster sent.device sent.msg
  hands_of = of-stage begun valid sent past state.due hands.later hands.errand hands.first state.stage hands.message (λ so. (over_settled begun valid past state is so).1) (known begun valid past run state is)

  pub hands_warranted : (learnt : Learnt) → AreKnown begun.cluster learnt past → IsWarranted begun.cluster learnt sent.msg
  hands_warranted learnt knows =
      warranted-in begun valid sent past state.due hands.later hands.errand hands.first learnt knows state.stage hands.message (λ so. (over_settled begun valid past state is so).1) (known begun valid past run state is)
