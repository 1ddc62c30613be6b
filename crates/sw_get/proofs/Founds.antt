-- What a get has found was put under its name.
use Rattle.std.proofs.Common.{◌≡◌, ◌≢◌, ℕ, zero, suc, ◌+◌, ◌≤◌, Bool, true, false, Contains, List, [], ◌∷◌, length, get_or, Option, Some, refl, sym, ap, subst, ◌∙◌, arith}
use Rattle.std.specs.Prelude.{if◌then◌else◌, Ok}
use Rattle.std.specs.List.{All, AllPairs, AllZip}
use Rattle.std.proofs.lemmas.List.Elements.{All-cons, All-head, All-nil, All-tail}
use Rattle.std.proofs.lemmas.List.Kept.{AllPairs-cons}
use Rattle.std.proofs.lemmas.Option.{same_Some}
use Rattle.std.proofs.lemmas.Slice.Zip.{AllZip-long}
use Rattle.sw_types.specs.Name.{name_fault}
use Rattle.sw_types.specs.Object.{ObjectModel}
use Rattle.sw_types.specs.Stamp.{greatest_stamp}
use Rattle.sw_types.proofs.Policies.{bounds}
use Rattle.sw_hashdir.specs.declared.floor.Floor.{Floor}
use Rattle.sw_hashdir.specs.declared.floor.FloorKind.TheVariants.{Durable}
use Rattle.sw_archive.specs.Archive.{ArchiveModel, IsSound, archive_bytes}
use Rattle.sw_archive.specs.Assemble.{AreEnough}
use Rattle.sw_archive.specs.Put.{IsPut, put_fields}
use Rattle.sw_archive.proofs.Objects.{no_archive, object_of_put, some_archive}
use Rattle.sw_message.specs.Floors.{durable_at}
use Rattle.sw_message.specs.Learnt.{AreKnown, Booked, KnowsReply, Learnt}
use Rattle.sw_message.specs.Targets.{ascending, is_before, with_target}
use Rattle.sw_message.specs.Transcript.{Closed, Gave, IsRun, Step}
use Rattle.sw_message.specs.declared.reply.Reply.TheVariants as reply
use Rattle.sw_message.specs.declared.target.Target.{Target}
use Rattle.sw_get.specs.Causes.{HasTarget, IsBook, IsPutFound, IsSource, LastRound}
use Rattle.sw_get.specs.Get.{AreTurns, Begun, EndsAfter, IsBegun, IsEnd, IsFoundObject, IsNext, Turn, facts_in, fetch_message, from_in, going_in}
use Rattle.sw_get.specs.Round.{Facts, target_of}
use Rattle.sw_get.specs.declared.end.GetEnd.TheVariants as gets
use Rattle.sw_get.specs.declared.round_end.Going.{Going}
use Rattle.sw_get.specs.declared.round_end.Going.TheVariants as going
use Rattle.sw_get.specs.declared.round_end.RoundEnd.TheVariants as round
use Rattle.sw_get.proofs.Goings.{IsFound, of_kind}
use Rattle.sw_get.proofs.Kept.{all_answered, nothing_open, target_so}
use Rattle.sw_gather.proofs.Lists.{zip-weaker}
use Rattle.sw_gather.proofs.Sources.{ascending-kept, with-kept}
use Rattle.sw_get.proofs.Runs.{IsBrought, Keeps, all_kept, says}
use Rattle.sw_get.proofs.Sameness.{turns_together}
use Rattle.sw_get.proofs.Says.{are_heard}
use Rattle.sw_get.proofs.Shown.{target_shown}

-- ---- targets in order

module _ (R : Target → Target → Type 0) (turned : (a b : Target) → R a b → R b a) where
  with-apart : (target : Target) (others : List Target) → All (R target) others → AllPairs R others → AllPairs R (with_target target others)
  with-apart target [] all pairs = AllPairs-cons R target [] all pairs
  with-apart target (other ∷ others) all pairs =
      by_order (is_before target other) (with-apart target others (All-tail (R target) other others all) (λ i j d less within. pairs (suc i) (suc j) d (omega arith) (omega arith)))
    where
      by_order : (b : Bool) → AllPairs R (with_target target others) → AllPairs R (if b then target ∷ other ∷ others else other ∷ with_target target others)
      by_order true later = AllPairs-cons R target (other ∷ others) all pairs
      by_order false later =
          AllPairs-cons R other (with_target target others)
          (with-kept (R other) target others (turned target other (All-head (R target) other others all)) (λ i d within. pairs zero (suc i) d (omega arith) (omega arith)))
          later

  ascending-apart : (targets : List Target) → AllPairs R targets → AllPairs R (ascending targets)
  ascending-apart [] pairs = pairs
  ascending-apart (target ∷ targets) pairs =
      with-apart target (ascending targets)
      (ascending-kept (R target) targets (λ i d within. pairs zero (suc i) d (omega arith) (omega arith)))
      (ascending-apart targets (λ i j d less within. pairs (suc i) (suc j) d (omega arith) (omega arith)))

length-with : (target : Target) (others : List Target) → length (with_target target others) ≡ length others + 1
length-with target [] = refl
length-with target (other ∷ others) = by_order (is_before target other) (length-with target others)
  where
    by_order : (b : Bool) → length (with_target target others) ≡ length others + 1 → length (if b then target ∷ other ∷ others else other ∷ with_target target others) ≡ length (other ∷ others) + 1
    by_order true later = omega arith
    by_order false later = omega (arith, later)

length-ascending : (targets : List Target) → length (ascending targets) ≡ length targets
length-ascending [] = refl
length-ascending (target ∷ targets) = omega (arith, length-with target (ascending targets), length-ascending targets)

-- ---- sources and their archives

abbrev Apart : Target → Target → Type 0
Apart one other = one.index ≢ other.index

module _ {A B : Type 0} where
  zip-left : (R : A → B → Type 0) (P : A → Type 0) → ((x : A) (y : B) → R x y → P x) → (xs : List A) (ys : List B) → AllZip R xs ys → All P xs
  zip-left R P follows [] ys all = All-nil P
  zip-left R P follows (x ∷ xs) [] all = absurd all
  zip-left R P follows (x ∷ xs) (y ∷ ys) all = All-cons P x xs (follows x y all.0) (zip-left R P follows xs ys all.1)

  zip-right : (R : A → B → Type 0) (P : B → Type 0) → ((x : A) (y : B) → R x y → P y) → (xs : List A) (ys : List B) → AllZip R xs ys → All P ys
  zip-right R P follows xs [] all = All-nil P
  zip-right R P follows [] (y ∷ ys) all = absurd all
  zip-right R P follows (x ∷ xs) (y ∷ ys) all = All-cons P y ys (follows x y all.0) (zip-right R P follows xs ys all.1)

others_apart : (n : ℕ) (sources : List Target) (archives : List ArchiveModel) → AllZip (λ source archive. archive.index ≡ source.index) sources archives → All (λ archive. n ≢ archive.index) archives
    → All (λ source. n ≢ source.index) sources
others_apart n [] archives same all = All-nil (λ (source : Target). n ≢ source.index)
others_apart n (source ∷ sources) [] same all = absurd same
others_apart n (source ∷ sources) (archive ∷ archives) same all =
    All-cons (λ (source : Target). n ≢ source.index) source sources (λ is. All-head (λ (archive : ArchiveModel). n ≢ archive.index) archive archives all (is ∙ sym same.0))
    (others_apart n sources archives same.1 (All-tail (λ (archive : ArchiveModel). n ≢ archive.index) archive archives all))

sources_apart : (sources : List Target) (archives : List ArchiveModel) → AllZip (λ source archive. archive.index ≡ source.index) sources archives → AllPairs (λ (a b : ArchiveModel). a.index ≢ b.index) archives
    → AllPairs Apart sources
sources_apart [] archives same pairs = λ i j d less within. absurd (omega arith)
sources_apart (source ∷ sources) [] same pairs = absurd same
sources_apart (source ∷ sources) (archive ∷ archives) same pairs =
    AllPairs-cons Apart source sources
    (subst (λ n. All (λ (other : Target). n ≢ other.index) sources) same.0
    (others_apart archive.index sources archives same.1 (λ i d within. pairs zero (suc i) d (omega arith) (omega arith))))
    (sources_apart sources archives same.1 (λ i j d less within. pairs (suc i) (suc j) d (omega arith) (omega arith)))

-- ---- what is known of answers

abbrev KnownStep : Begun → Learnt → Step → Type 0
KnownStep begun learnt (Gave sent) = Unit {0}
KnownStep begun learnt (Closed sent answer) = KnowsReply begun.cluster learnt sent.device sent.msg answer

known_steps : (begun : Begun) (learnt : Learnt) (past : List Step) → AreKnown begun.cluster learnt past → All (KnownStep begun learnt) past
known_steps begun learnt [] known = All-nil (KnownStep begun learnt)
known_steps begun learnt (Gave sent ∷ past) known = All-cons (KnownStep begun learnt) (Gave sent) past tt (known_steps begun learnt past known)
known_steps begun learnt (Closed sent answer ∷ past) known = All-cons (KnownStep begun learnt) (Closed sent answer) past known.0 (known_steps begun learnt past known.1)

known_at : (begun : Begun) (learnt : Learnt) (past : List Step) (step : Step) → AreKnown begun.cluster learnt past → Contains past step → KnownStep begun learnt step
known_at begun learnt past step known is = subst (KnownStep begun learnt) is.2 (known_steps begun learnt past known is.0 step is.1)

-- ---- an archive that was brought is that of a put

module _ (begun : Begun) (past : List Step) (learnt : Learnt) (known : AreKnown begun.cluster learnt past) (from : Option Floor) (facts : Facts) (to : Floor) (target : target_of from facts ≡ Some to) where
  -- the put, of which it is
  record IsOfPutAt (booked : Booked) (source : Target) (archive : ArchiveModel) : Type 0 where
    stamp : booked.stamp ≡ to.stamp
    name : booked.name ≡ begun.name
    fields : archive ≡ put_fields begun.cluster.policy booked.stamp booked.name booked.object archive.index
    sound : IsSound archive
    index : archive.index ≡ source.index
    ticket : ℕ
    bytes : List ℕ
    told : Contains past (Closed (fetch_message begun ticket to.stamp source) (Some (reply.Fragment bytes)))
    spelled : bytes ≡ archive_bytes archive

  put_of : (source : Target) (archive : ArchiveModel) → IsBrought begun past from facts source archive → (booked : Booked) × Contains learnt.book booked × IsOfPutAt booked source archive
  put_of source archive is =
      let same : is.to ≡ to = same_Some is.to to (sym is.target ∙ target) in
      let genuine = (known_at begun learnt past (Closed (fetch_message begun is.ticket is.to.stamp source) (Some (reply.Fragment is.bytes))) known is.told).1 archive is.wanted.0 in
      let asked = is.wanted.1 in (
        genuine.0,
        genuine.1,
        record {
          stamp = ap (λ (a : ArchiveModel). a.stamp) (sym genuine.2) ∙ asked.stamp_is ∙ ap (λ (floor : Floor). floor.stamp) same;
          name = ap (λ (a : ArchiveModel). a.name) (sym genuine.2) ∙ asked.name;
          fields = genuine.2;
          sound = is.wanted.0.sound;
          index = asked.index_is;
          ticket = is.ticket;
          bytes = is.bytes;
          told = subst (λ (floor : Floor). Contains past (Closed (fetch_message begun is.ticket floor.stamp source) (Some (reply.Fragment is.bytes)))) same is.told;
          spelled = is.wanted.0.spelled;
        },
      )

  module _ (book : IsBook learnt.book) (booked : Booked) (known_put : Contains learnt.book booked) (stamp_is : booked.stamp ≡ to.stamp) where
    -- it is the same put for each
    one_put : (source : Target) (archive : ArchiveModel) → IsBrought begun past from facts source archive → IsOfPutAt booked source archive
    one_put source archive is =
        let other = put_of source archive is in
        let same : other.0 ≡ booked = book.one other.0 booked other.1 known_put (other.2.stamp ∙ sym stamp_is) in
        subst (λ (one : Booked). IsOfPutAt one source archive) same other.2

    source_of : (source : Target) (archive : ArchiveModel) → IsOfPutAt booked source archive → IsSource begun past to.stamp booked.object source
    source_of source archive is = record {
      ticket = is.ticket;
      bytes = is.bytes;
      told = is.told;
      archive = is.spelled ∙ ap archive_bytes (is.fields
          ∙ ap (λ n. put_fields begun.cluster.policy n booked.name booked.object archive.index) is.stamp
          ∙ ap (λ n. put_fields begun.cluster.policy to.stamp n booked.object archive.index) is.name
          ∙ ap (put_fields begun.cluster.policy to.stamp begun.name booked.object) is.index);
    }

-- ---- what was found

-- how a get ends as found
record EndsFound (begun : Begun) (turns : List Turn) (stamp : ℕ) (object : ObjectModel) (sources : List Target) (next : Going) : Type 0 where
  goes : next ≡ going.End (round.Found stamp)
  is : IsFoundObject (facts_in begun turns) object
  sources_are : sources ≡ ascending (facts_in begun turns).sources

ends_found : (begun : Begun) (turns : List Turn) (stamp : ℕ) (object : ObjectModel) (sources : List Target) (next : Going) → EndsAfter begun turns next (gets.Found stamp object sources)
    → EndsFound begun turns stamp object sources next
ends_found begun turns stamp object sources (going.End (round.Found other)) is =
    let stamps : other ≡ stamp = cc (is.2) in
    let objects : is.0 ≡ object = cc (is.2) in
    record { goes = ap (λ n. going.End (round.Found n)) stamps; is = subst (IsFoundObject (facts_in begun turns)) objects is.1; sources_are = cc (is.2) }
ends_found begun turns stamp object sources (going.End round.Absent) is = absurd (cc)
ends_found begun turns stamp object sources (going.End (round.Buried other)) is = absurd (cc)
ends_found begun turns stamp object sources (going.End round.Unanswered) is = absurd (cc)
ends_found begun turns stamp object sources (going.End (round.TooFew other have)) is = absurd (cc)
ends_found begun turns stamp object sources (going.Keep event) is = absurd (cc (is.1))
ends_found begun turns stamp object sources (going.Ask device) is = absurd is
ends_found begun turns stamp object sources (going.Fetch other source) is = absurd is
ends_found begun turns stamp object sources going.Wait is = absurd is

module _ (begun : Begun) (valid : IsBegun begun) (past : List Step) (learnt : Learnt) (book : IsBook learnt.book) (known : AreKnown begun.cluster learnt past) (turns : List Turn)
    (are : AreTurns begun past turns) (keeps : Keeps begun past turns) (last : LastRound begun past) (same_turns : last.turns ≡ turns) (stamp : ℕ) (found : IsFound begun.cluster.policy (from_in begun turns) (facts_in begun turns) stamp)
    (object : ObjectModel) (is : IsFoundObject (facts_in begun turns) object) where
  abbrev facts : Facts
  facts = facts_in begun turns

  -- by the first source and its archive
  with_first : (sources : List Target) (archives : List ArchiveModel) → AllZip (λ source archive. IsBrought begun past (from_in begun turns) facts source archive) sources archives → length sources ≡ begun.cluster.policy.k
      → (booked : Booked) × Contains learnt.book booked × (booked.stamp ≡ found.to.stamp) × (booked.name ≡ begun.name)
  with_first [] archives all enough = absurd (omega (arith, enough, (bounds begun.cluster.policy valid.rules.policy).some_data))
  with_first (source ∷ sources) [] all enough = absurd all
  with_first (source ∷ sources) (archive ∷ archives) all enough =
      let first = put_of begun past learnt known (from_in begun turns) facts found.to found.chosen.target source archive all.0 in
      (first.0, first.1, first.2.stamp, first.2.name)

  enough_of : (sources : List Target) (archives : List ArchiveModel) (booked : Booked)
      → AllZip (λ source archive. IsOfPutAt begun past learnt known (from_in begun turns) facts found.to found.chosen.target booked source archive) sources archives → length sources ≡ begun.cluster.policy.k
      → AreEnough archives
  enough_of [] archives booked all enough = absurd (omega (arith, enough, (bounds begun.cluster.policy valid.rules.policy).some_data))
  enough_of (source ∷ sources) [] booked all enough = absurd all
  enough_of (source ∷ sources) (archive ∷ archives) booked all enough =
      let same = AllZip-long (λ source archive. IsOfPutAt begun past learnt known (from_in begun turns) facts found.to found.chosen.target booked source archive) sources archives all.1 in
      omega (arith, same, enough, ap (λ (a : ArchiveModel). a.k) all.0.fields)

  put_found : IsPutFound begun past learnt stamp object (ascending facts.sources)
  put_found =
      let policy = begun.cluster.policy in
      let from = from_in begun turns in
      let to = found.to in
      let put = with_first facts.sources facts.archives keeps.brought found.enough in
      let booked = put.0 in
      let Of : Target → ArchiveModel → Type 0 = λ source archive. IsOfPutAt begun past learnt known from facts to found.chosen.target booked source archive in
      let all = zip-weaker (λ source archive. IsBrought begun past from facts source archive) Of (one_put begun past learnt known from facts to found.chosen.target book booked put.1 put.2)
      facts.sources facts.archives keeps.brought in
      let together = turns_together begun past turns are in
      let enough = enough_of facts.sources facts.archives booked all found.enough in
      let fields : (source : Target) (archive : ArchiveModel) → Of source archive → archive ≡ put_fields policy booked.stamp booked.name booked.object archive.index = λ source archive one. one.fields in
      let first : IsSound (get_or facts.archives 0 no_archive) = together.sound 0 no_archive (some_archive facts.archives enough) in
      let told = zip-right Of (λ (archive : ArchiveModel). archive ≡ put_fields policy booked.stamp booked.name booked.object archive.index) fields facts.sources facts.archives all in
      let first_is = told 0 no_archive (some_archive facts.archives enough) in
      let is_put : IsPut policy booked.stamp booked.name booked.object = record {
        policy_rules = valid.rules.policy;
        stamp_bound = subst (λ n. n ≤ greatest_stamp) (ap (λ (a : ArchiveModel). a.stamp) first_is) first.stamp;
        name_rules = ap name_fault (ap (λ (a : ArchiveModel). a.name) (sym first_is)) ∙ first.name;
        object_rules = book.objects booked put.1;
      } in
      let same : object ≡ booked.object =
      let ok = object_of_put facts.archives (Ok object) is.1 enough together policy booked.stamp booked.name booked.object is_put told (λ refused. cc) in cc in
      let stamps : booked.stamp ≡ stamp = put.2 ∙ sym found.stamp_is in
      let at_stamp : target_of (from_in begun turns) facts ≡ Some (durable_at stamp) =
      found.chosen.target ∙ ap (λ (floor : Floor). Some floor) (of_kind to Durable found.chosen.durable) ∙ ap (λ n. Some (durable_at n)) (sym found.stamp_is) in
      let sent = zip-left Of (IsSource begun past to.stamp booked.object) (source_of begun past learnt known from facts to found.chosen.target book booked put.1 put.2) facts.sources facts.archives all in
      let distinct = sources_apart facts.sources facts.archives
      (zip-weaker Of (λ source archive. archive.index ≡ source.index) (λ source archive one. one.index) facts.sources facts.archives all) together.distinct in
      record {
        booked = subst (λ (one : Booked). Contains learnt.book one)
            (ap (λ n. record { stamp = n; name = booked.name; object = booked.object }) stamps ∙ ap (λ n. record { stamp = stamp; name = n; object = booked.object }) put.3
            ∙ ap (λ o. record { stamp = stamp; name = begun.name; object = o }) (sym same)) put.1;
        last = last;
        target = subst (λ these. HasTarget begun these (durable_at stamp)) (sym same_turns) (target_so begun turns (durable_at stamp) at_stamp);
        durable = target_shown begun past turns (durable_at stamp) are at_stamp;
        count = length-ascending facts.sources ∙ found.enough;
        apart = ascending-apart Apart (λ a b apart same. apart (sym same)) facts.sources distinct;
        sent = ascending-kept (IsSource begun past stamp object) facts.sources
            (subst (λ n. All (IsSource begun past n object) facts.sources) (sym found.stamp_is) (subst (λ o. All (IsSource begun past to.stamp o) facts.sources) (sym same) sent));
      }

pub found_put : (begun : Begun) (past : List Step) (learnt : Learnt) (stamp : ℕ) (object : ObjectModel) (sources : List Target) → IsBegun begun → IsRun (IsNext begun) past → IsBook learnt.book
    → AreKnown begun.cluster learnt past → IsEnd begun past (gets.Found stamp object sources) → IsPutFound begun past learnt stamp object sources
found_put begun past learnt stamp object sources valid run book known_replies end =
    let turns = end.0 in
    let keeps = all_kept begun valid past run turns end.1 in
    let ends = ends_found begun turns stamp object sources (going_in begun turns) end.2 in
    let known = says begun valid past turns keeps (going.End (round.Found stamp)) ends.goes in
    let last : LastRound begun past = record {
      turns = turns;
      are = end.1;
      heard = are_heard begun past turns end.1;
      closed = nothing_open begun valid past run turns end.1 known.0 known.1;
      all_answered = all_answered begun valid past run turns end.1 known.0 known.1;
    } in
    subst (IsPutFound begun past learnt stamp object) (sym ends.sources_are) (put_found begun valid past learnt book known_replies turns end.1 keeps last refl stamp known.2 object ends.is)
