-- A message of a revert is of its cluster, and is warranted by what was answered before.
use Rattle.std.proofs.Common.{◌≡◌, ◌≢◌, ◌⊎◌, inl, inr, ℕ, zero, suc, ◌+◌, ◌<◌, ◌^◌, true, false, List, [], ◌∷◌, take, drop, length, Contains, Some, None, refl, sym, ap, subst, ◌∙◌, arith}
use Rattle.std.specs.List.{slice_index}
use Rattle.std.proofs.lemmas.List.{take-append-drop}
use Rattle.std.proofs.lemmas.List.Elements.{Contains-append_left, Contains-append_right}
use Rattle.std.proofs.lemmas.Option.{slice_get-get_or}
use Rattle.sw_hashdir.specs.declared.entry.Entry.{Entry}
use Rattle.sw_hashpath.proofs.Laws.{part_below}
use Rattle.sw_hashpath.specs.Place.{PlaceModel}
use Rattle.sw_archive.specs.Archive.{ArchiveModel, archive_bytes}
use Rattle.sw_archive.specs.Put.{put_fields}
use Rattle.sw_ring.specs.Cluster.{ClusterModel, column_of, place_of_name}
use Rattle.sw_ring.proofs.Roles.{column_length, primary_known}
use Rattle.sw_message.specs.Learnt.{AreKnown, KnowsReply, Learnt}
use Rattle.sw_message.specs.Message.{IsMember}
use Rattle.sw_message.specs.Running.{IsOf}
use Rattle.sw_message.specs.Spoil.{IsArchiveOf}
use Rattle.sw_message.specs.Transcript.{Closed, Gave, Hand, IsRun, Step}
use Rattle.sw_message.specs.Warrant.{IsOfPut, IsPrimaryOf, IsWarranted, ShowsAbove, ShowsDurable}
use Rattle.sw_message.specs.declared.message.Msg.{Msg}
use Rattle.sw_message.specs.declared.message.Msg.TheVariants as message
use Rattle.sw_message.specs.declared.reply.Reply.{Reply}
use Rattle.sw_message.specs.declared.reply.Reply.TheVariants as reply
use Rattle.sw_message.specs.declared.sent.Sent.{Sent}
use Rattle.sw_recon.specs.Causes.{WasTold}
use Rattle.sw_recon.specs.Course.{Course, most_entries}
use Rattle.sw_recon.specs.Revert.{Begun, IsBegun, IsNext, IsStatus, next_at, own_message, primary_of, sent_for, total, treat_message}
use Rattle.sw_recon.specs.Standing.{MayHand, RevertModel, Stands}
use Rattle.sw_recon.specs.declared.kept.KeptEntry.{KeptEntry}
use Rattle.sw_recon.specs.declared.revert_end.RevertEnd.{RevertEnd}
use Rattle.sw_recon.specs.declared.status.Status.{Status}
use Rattle.sw_recon.specs.declared.status.Status.TheVariants.{Ends, Starts, Treats}
use Rattle.sw_recon.specs.declared.treatment.Treatment.{Treatment}
use Rattle.sw_recon.specs.declared.treatment.Treatment.TheVariants.{Ask, Commit, Fetch, Remove, Store}
use Rattle.sw_recon.proofs.Changes.{comes_next, has_status}
use Rattle.sw_recon.proofs.Known.{IsCourse, known}

-- ---- what is known of replies

module _ (begun : Begun) (learnt : Learnt) where
  reply_known : (past : List Step) (sent : Sent) (given : Reply) → AreKnown begun.cluster learnt past → Contains past (Closed sent (Some given)) → KnowsReply begun.cluster learnt sent.device sent.msg (Some given)
  reply_known [] sent given known (k, within, is) = absurd (omega (arith, within))
  reply_known (Gave other ∷ past) sent given known (zero, within, is) = absurd (cc)
  reply_known (Gave other ∷ past) sent given known (suc k, within, is) = reply_known past sent given known (k, omega (arith, within), is)
  reply_known (Closed other answer ∷ past) sent given known (zero, within, is) =
      let same_sent : other ≡ sent = cc in
      let same_answer : answer ≡ Some given = cc in
      subst (λ (one : Sent). KnowsReply begun.cluster learnt one.device one.msg (Some given)) same_sent (subst (KnowsReply begun.cluster learnt other.device other.msg) same_answer known.0)
  reply_known (Closed other answer ∷ past) sent given known (suc k, within, is) = reply_known past sent given known.1 (k, omega (arith, within), is)

shown-known : (stamp index : ℕ) (msg : Msg) (given : Reply) → ShowsDurable stamp index msg given ⊎ ShowsAbove stamp given → given ≢ reply.NoMemory
shown-known stamp index msg given shows same = none msg (subst (λ (one : Reply). ShowsDurable stamp index msg one ⊎ ShowsAbove stamp one) same shows)
  where
    none : (msg : Msg) → ShowsDurable stamp index msg reply.NoMemory ⊎ ShowsAbove stamp reply.NoMemory → ⊥
    none (message.Commit place other at) (inl shows) = shows.1
    none other (inl shows) = shows.1
    none other (inr shows) = shows.1

-- ---- devices

module _ (begun : Begun) (valid : IsBegun begun) where
  pub part_small : begun.place.part < 2 ^ begun.cluster.part_power
  part_small = subst (λ part. part < 2 ^ begun.cluster.part_power) (sym valid.right.part) (part_below begun.place.hash begun.cluster.part_power valid.right.hash)

  primary_member : (index : ℕ) → index < total begun → IsMember begun.cluster (primary_of begun index)
  primary_member index below = primary_known begun.cluster begun.place.part index valid.rules part_small below

  primary_is : (index : ℕ) → index < total begun → IsPrimaryOf begun.cluster begun.place index (primary_of begun index)
  primary_is index below =
      slice_get-get_or (column_of begun.cluster begun.place.part) index 0 (omega (arith, below, column_length begun.cluster begun.place.part valid.rules))

  own_of : (ticket : ℕ) → IsOf begun.cluster (own_message begun ticket).device (own_message begun ticket).msg
  own_of ticket = record { member = valid.member; place = valid.right }

  module _ (ticket : ℕ) (entry : Entry) (later : List Entry) (gone : ℕ) (kept : List KeptEntry) (below : entry.index < total begun) where
    abbrev sent : Treatment → Sent
    sent treatment = treat_message begun ticket (record { entry = entry; later = later; treatment = treatment; removed = gone; kept = kept })

    treats_of : (treatment : Treatment) → IsOf begun.cluster (sent treatment).device (sent treatment).msg
    treats_of Ask = record { member = primary_member entry.index below; place = valid.right }
    treats_of Fetch = record { member = valid.member; place = valid.right }
    treats_of (Store bytes) = record { member = primary_member entry.index below; place = valid.right }
    treats_of Commit = record { member = primary_member entry.index below; place = valid.right }
    treats_of Remove = record { member = valid.member; place = valid.right }

-- ---- warrants

-- bytes that are the archive of an index, and that of a put
of_put : (begun : Begun) (learnt : Learnt) (stamp index : ℕ) (bytes : List ℕ) (is : IsArchiveOf begun.cluster begun.place stamp index bytes) → index < total begun
    → KnowsReply begun.cluster learnt begun.device (message.Fetch begun.place stamp index) (Some (reply.Fragment bytes)) → IsOfPut begun.cluster learnt.book begun.place stamp index bytes
of_put begun learnt stamp index bytes is below knows =
    let put = knows.1 is.archive is.spelled in
    let fields = put.2 in
    let policy = begun.cluster.policy in
    let stamp_is : put.0.stamp ≡ stamp = ap (λ (archive : ArchiveModel). archive.stamp) (sym fields) ∙ is.asked.stamp_is in
    record {
      booked = put.0;
      known = put.1;
      stamp_is = stamp_is;
      place_is = ap (λ (archive : ArchiveModel). place_of_name begun.cluster archive.name) (sym fields) ∙ is.asked.name;
      index_below = below;
      archive = is.spelled.spelled ∙ ap archive_bytes (fields ∙ ap (λ n. put_fields policy n put.0.name put.0.object is.archive.index) stamp_is
          ∙ ap (put_fields policy stamp put.0.name put.0.object) is.asked.index_is);
    }

module _ (begun : Begun) (past : List Step) (learnt : Learnt) (knows : AreKnown begun.cluster learnt past) where
  told_known : (device : ℕ) (msg : Msg) (given : Reply) → WasTold past device msg (Some given) → KnowsReply begun.cluster learnt device msg (Some given)
  told_known device msg given (ticket, there) = reply_known begun learnt past (record { ticket = ticket; device = device; msg = msg }) given knows there

  module _ (valid : IsBegun begun) (ticket : ℕ) (entry : Entry) (later : List Entry) (gone : ℕ) (kept : List KeptEntry) where
    abbrev at : Treatment → Course
    at treatment = record { entry = entry; later = later; treatment = treatment; removed = gone; kept = kept }

    -- the own device listed the entry
    listed : (treatment : Treatment) (is : IsCourse begun past (at treatment)) → Contains is.listing.entries entry
    listed treatment is =
        let there : Contains (take most_entries is.listing.entries) entry =
        subst (λ (these : List Entry). Contains these entry) (sym is.are) (Contains-append_right is.front (entry ∷ later) entry (0, omega arith, refl)) in
        subst (λ (these : List Entry). Contains these entry) (take-append-drop most_entries is.listing.entries)
        (Contains-append_left (take most_entries is.listing.entries) (drop most_entries is.listing.entries) entry there)

    warranted_by : (treatment : Treatment) → IsCourse begun past (at treatment) → IsWarranted begun.cluster learnt (treat_message begun ticket (at treatment)).msg
    warranted_by Ask is = tt
    warranted_by Fetch is = tt
    warranted_by (Store bytes) is =
        of_put begun learnt entry.stamp entry.index bytes is.treated.2 is.below (told_known begun.device (message.Fetch begun.place entry.stamp entry.index) (reply.Fragment bytes) is.treated.1)
    warranted_by Commit is =
        let durable : entry ≡ record { stamp = entry.stamp; index = entry.index; durable = true } = ap (λ b. record { stamp = entry.stamp; index = entry.index; durable = b }) is.treated.durable in
        inr (record {
          heard = record { device = begun.device; msg = message.Ask begun.place; reply = reply.Held is.listing };
          known = (reply_known begun learnt past (own_message begun 0) (reply.Held is.listing) knows is.own).0 (λ same. cc);
          same_place = refl;
          shows = (is.listing, refl, entry.index, subst (Contains is.listing.entries) durable (listed Commit is));
        })
    warranted_by Remove is =
        let covered = is.treated in
        record {
          heard = record { device = primary_of begun entry.index; msg = covered.msg; reply = covered.given };
          known = (told_known (primary_of begun entry.index) covered.msg covered.given covered.told).0 (shown-known entry.stamp entry.index covered.msg covered.given covered.shows);
          same_place = covered.place;
          shows = (primary_is begun valid entry.index is.below, covered.shows);
        }

-- ---- what is handed out

module _ (begun : Begun) (past : List Step) (valid : IsBegun begun) (run : IsRun (IsNext begun) past) where
  pub own_handed : (ticket : ℕ) → IsNext begun past (Hand (own_message begun ticket)) → MayHand begun past (own_message begun ticket)
  own_handed ticket next = record { next = next; of = own_of begun valid ticket; warranted = λ learnt knows. tt }

  pub index_below : (course : Course) → IsStatus begun past (Treats course) → course.entry.index < total begun
  index_below course is = (known begun past (Treats course) run is).below

  pub treats_handed : (ticket : ℕ) (course : Course) → IsStatus begun past (Treats course) → IsNext begun past (Hand (treat_message begun ticket course)) → MayHand begun past (treat_message begun ticket course)
  treats_handed ticket course is next = record {
    next = next;
    of = treats_of begun valid ticket course.entry course.later course.removed course.kept (index_below course is) course.treatment;
    warranted = λ learnt knows. warranted_by begun past learnt knows valid ticket course.entry course.later course.removed course.kept course.treatment (known begun past (Treats course) run is);
  }

module _ (job : RevertModel) (begun : Begun) (past : List Step) (stands : Stands job begun past) (none_waits : job.is_waiting ≡ false) (none_unread : job.unread ≡ None) (ticket : ℕ) (number : ticket ≡ length job.tickets) where
  comes : (now : Status) → job.status ≡ now → IsNext begun past (next_at begun ticket now)
  comes now is =
      subst (λ (one : Status). IsNext begun past (next_at begun ticket one)) is
      (subst (λ n. IsNext begun past (next_at begun n job.status)) (sym (number ∙ stands.tickets_are.count)) (comes_next job begun past stands none_waits none_unread))

  pub may_start : job.status ≡ Starts → MayHand begun past (record { ticket = ticket; device = job.device; msg = message.Ask job.place })
  may_start is =
      subst (λ device. MayHand begun past (record { ticket = ticket; device = device; msg = message.Ask job.place })) (sym stands.device_is)
      (subst (λ (place : PlaceModel). MayHand begun past (record { ticket = ticket; device = begun.device; msg = message.Ask place })) (sym stands.place_is)
      (own_handed begun past stands.valid stands.run ticket (comes Starts is)))

  module _ (course : Course) (is : job.status ≡ Treats course) where
    has_course : IsStatus begun past (Treats course)
    has_course = subst (IsStatus begun past) is (has_status job begun past stands none_waits none_unread)

    pub primary_there : (job.place.part < 2 ^ job.cluster.part_power) × (course.entry.index < job.cluster.policy.k + job.cluster.policy.m)
    primary_there =
        subst (λ (cluster : ClusterModel). (job.place.part < 2 ^ cluster.part_power) × (course.entry.index < cluster.policy.k + cluster.policy.m)) (sym stands.cluster_is)
        (subst (λ (place : PlaceModel). place.part < 2 ^ begun.cluster.part_power) (sym stands.place_is) (part_small begun stands.valid), index_below begun past stands.valid stands.run course has_course)

    abbrev treat_with : PlaceModel → (own primary : ℕ) → Sent
    treat_with place own primary =
        let sent = sent_for place own primary course.entry course.treatment in
        record { ticket = ticket; device = sent.0; msg = sent.1 }

    pub may_treat : (primary : ℕ) → primary ≡ slice_index (column_of job.cluster job.place.part) course.entry.index → MayHand begun past (treat_with job.place job.device primary)
    may_treat primary at =
        let same : primary ≡ primary_of begun course.entry.index =
        at ∙ ap (λ (cluster : ClusterModel). slice_index (column_of cluster job.place.part) course.entry.index) stands.cluster_is
        ∙ ap (λ (place : PlaceModel). slice_index (column_of begun.cluster place.part) course.entry.index) stands.place_is in
        subst (λ (place : PlaceModel). MayHand begun past (treat_with place job.device primary)) (sym stands.place_is)
        (subst (λ own. MayHand begun past (treat_with begun.place own primary)) (sym stands.device_is)
        (subst (λ n. MayHand begun past (treat_with begun.place begun.device n)) (sym same)
        (treats_handed begun past stands.valid stands.run ticket course has_course (comes (Treats course) is))))

-- a status that is none of the others
pub starts : (status : Status) → ((end : RevertEnd) → status ≡ Ends end → ⊥) → ((course : Course) → status ≡ Treats course → ⊥) → status ≡ Starts
starts Starts no_end no_course = refl
starts (Treats course) no_end no_course = absurd (no_course course refl)
starts (Ends end) no_end no_course = absurd (no_end end refl)
