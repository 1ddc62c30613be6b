-- What a pass does next is justified by what was told before.
use Rattle.std.proofs.Common.{◌≡◌, ◌≢◌, ℕ, ◌^◌, ◌==◌, Bool, true, false, Contains, List, [], ◌∷◌, ◌++◌, filter, not, take, ◌⊎◌, Option, Some, None, inl, inr, refl, sym, ap, subst, ◌∙◌, true≢false}
use Rattle.std.specs.Prelude.{⊤}
use Rattle.std.proofs.lemmas.Bool.{and_parts, eq-eqb, eqb-true, ltb-true}
use Rattle.std.proofs.lemmas.List.Elements.{Contains-push_cases}
use Rattle.sw_hashpath.specs.Place.{PlaceModel, part_of}
use Rattle.sw_suffix.specs.Suffix.{suffix_number}
use Rattle.sw_suffix.specs.Table.{Hashed}
use Rattle.sw_ring.specs.Cluster.{column_of}
use Rattle.sw_ring.specs.Ring.{is_among}
use Rattle.sw_ring.proofs.Among.{Contains-cons, among-from_Contains}
use Rattle.sw_message.specs.Transcript.{Step}
use Rattle.sw_message.specs.declared.message.Msg.TheVariants as message
use Rattle.sw_message.specs.declared.reply.Reply.{Reply}
use Rattle.sw_message.specs.declared.reply.Reply.TheVariants as reply
use Rattle.sw_gather.proofs.Lists.{from_filter, here, none_in}
use Rattle.sw_sync.proofs.Messages.{told-later}
use Rattle.sw_sync.specs.Answers.{WasTold}
use Rattle.sw_daemon.specs.Causes.{DiffersAt, IsDifferent, IsHeld, IsPart, IsPrimaryIn, MayTreat}
use Rattle.sw_daemon.specs.Pass.{AfterOther, AfterOwn, AreDue, AsksOn, Begun, Course, Differs, DiffersIn, Does, Ends, FollowsAnswer, ListOther, ListOwn, ListParts, ListPlaces, Status, Task, Treat, after_parts, after_places, begin_part, is_of_part, is_of_ring, missed, most_parts, most_places, next_part, next_place, others_of}
use Rattle.sw_daemon.specs.declared.report.PassReport.{PassReport}
use Rattle.sw_daemon.proofs.Later.{held-later, part-later, treat-later}

-- ---- what is known

abbrev pub IsOther : Begun → (part device : ℕ) → Type 0
IsOther begun part device = (device ≢ begun.device) × IsPrimaryIn begun part device

-- the suffixes that an answer lists
abbrev pub hashes_in : Option Reply → Option (List Hashed)
hashes_in (Some (reply.SuffixList hashes)) = Some hashes
hashes_in other = None

-- another primary of a partition listed these suffixes, or missed
pub record WasHeard (begun : Begun) (past : List Step) (part : ℕ) (hashes : Option (List Hashed)) : Type 0 where
  pub device : ℕ
  pub other : IsOther begun part device
  pub answer : Option Reply
  pub told : WasTold past device (message.Suffixes part) answer
  pub hashes_are : hashes ≡ hashes_in answer

-- the other primaries of a partition are asked for their suffixes
pub record IsCompared (begun : Begun) (past : List Step) (part : ℕ) (own : List Hashed) (heard : List (Option (List Hashed))) (others : List ℕ) : Type 0 where
  pub is_part : IsPart begun past part
  pub primary : IsPrimaryIn begun part begun.device
  pub own_told : WasTold past begun.device (message.Suffixes part) (Some (reply.SuffixList own))
  pub were_heard : (hashes : Option (List Hashed)) → Contains heard hashes → WasHeard begun past part hashes
  pub are_others : (device : ℕ) → Contains others device → IsOther begun part device

abbrev pub IsTaskOf : Begun → List Step → Task → Type 0
IsTaskOf begun past ListParts = ⊤
IsTaskOf begun past (ListPlaces part) = IsPart begun past part
IsTaskOf begun past (ListOwn part) = IsPart begun past part × IsPrimaryIn begun part begun.device
IsTaskOf begun past (ListOther part own heard device others) = IsCompared begun past part own heard (device ∷ others)
IsTaskOf begun past (Treat place) = MayTreat begun past place

-- a place that is left to be treated
abbrev pub IsHeldIn : Begun → List Step → ℕ → PlaceModel → Type 0
IsHeldIn begun past part place = IsHeld begun past place × (place.part ≡ part)

abbrev pub IsPlaceOf : Begun → List Step → Task → PlaceModel → Type 0
IsPlaceOf begun past (ListOwn part) place = IsHeldIn begun past part place
IsPlaceOf begun past (ListOther part own heard device others) place = IsHeldIn begun past part place
IsPlaceOf begun past (Treat one) place = MayTreat begun past place
IsPlaceOf begun past other place = ⊤

pub record IsJustified (begun : Begun) (past : List Step) (course : Course) : Type 0 where
  pub is_task : IsTaskOf begun past course.task
  pub are_places : (place : PlaceModel) → Contains course.places place → IsPlaceOf begun past course.task place
  pub are_parts : (part : ℕ) → Contains course.parts part → IsPart begun past part

-- ---- it stays so

module _ (begun : Begun) (past : List Step) (step : Step) where
  heard-later : (part : ℕ) (hashes : Option (List Hashed)) → WasHeard begun past part hashes → WasHeard begun (step ∷ past) part hashes
  heard-later part hashes was = record { device = was.device; other = was.other; answer = was.answer; told = told-later past step _ _ _ was.told; hashes_are = was.hashes_are }

  task-later : (task : Task) → IsTaskOf begun past task → IsTaskOf begun (step ∷ past) task
  task-later ListParts is = tt
  task-later (ListPlaces part) is = part-later past step begun part is
  task-later (ListOwn part) is = (part-later past step begun part is.0, is.1)
  task-later (ListOther part own heard device others) is = record {
    is_part = part-later past step begun part is.is_part;
    primary = is.primary;
    own_told = told-later past step _ _ _ is.own_told;
    were_heard = λ hashes there. heard-later part hashes (is.were_heard hashes there);
    are_others = is.are_others;
  }
  task-later (Treat place) is = treat-later past step begun place is

  place-later : (task : Task) (place : PlaceModel) → IsPlaceOf begun past task place → IsPlaceOf begun (step ∷ past) task place
  place-later ListParts place is = tt
  place-later (ListPlaces part) place is = tt
  place-later (ListOwn part) place is = (held-later past step begun place is.0, is.1)
  place-later (ListOther part own heard device others) place is = (held-later past step begun place is.0, is.1)
  place-later (Treat one) place is = treat-later past step begun place is

  pub justified-later : (course : Course) → IsJustified begun past course → IsJustified begun (step ∷ past) course
  justified-later course is = record {
    is_task = task-later course.task is.is_task;
    are_places = λ place there. place-later course.task place (is.are_places place there);
    are_parts = λ part there. part-later past step begun part (is.are_parts part there);
  }

-- ---- what is next

module _ (begun : Begun) (past : List Step) where
  abbrev pub IsStill : Status → Type 0
  IsStill (Does course) = IsJustified begun past course
  IsStill (Ends report) = ⊤

  abbrev AreParts : List ℕ → Type 0
  AreParts parts = (part : ℕ) → Contains parts part → IsPart begun past part

  part-next : (parts : List ℕ) (report : PassReport) → AreParts parts → IsStill (next_part parts report)
  part-next [] report are = tt
  part-next (part ∷ parts) report are = record { is_task = are part (here part parts); are_places = λ place there. tt; are_parts = λ one there. are one (Contains-cons one part parts there) }

  pub place-next : (places : List PlaceModel) (parts : List ℕ) (report : PassReport) → ((place : PlaceModel) → Contains places place → MayTreat begun past place) → AreParts parts → IsStill (next_place places parts report)
  place-next [] parts report may are = part-next parts report are
  place-next (place ∷ places) parts report may are =
      record { is_task = may place (here place places); are_places = λ one there. may one (Contains-cons one place places there); are_parts = are }

  pub justified-begun : (report : PassReport) → IsJustified begun past (record { task = ListParts; places = []; parts = []; report = report })
  justified-begun report = record { is_task = tt; are_places = λ place there. tt; are_parts = λ part there. absurd (none_in part there) }

  -- ---- partitions and places

  parts-follow : (places : List PlaceModel) (parts : List ℕ) (report : PassReport) (answer : Option Reply) → AreParts parts → WasTold past begun.device message.Parts answer
      → IsStill (after_parts begun.cluster.part_power (record { task = ListParts; places = places; parts = parts; report = report }) answer)
  parts-follow places parts report (Some (reply.PartList listed)) are told = part-next (filter (is_of_ring begun.cluster.part_power) (take most_parts listed)) report (λ part there.
      let kept = from_filter (is_of_ring begun.cluster.part_power) (take most_parts listed) part there in
      record { parts = listed; told = told; listed = kept.0; below = ltb-true part (2 ^ begun.cluster.part_power) kept.1 })
  parts-follow places parts report other are told = part-next parts (missed report) are

  module _ (part : ℕ) (is : IsPart begun past part) where
    held-in : (places : List PlaceModel) → WasTold past begun.device (message.Places part) (Some (reply.PlaceList places)) → (place : PlaceModel)
        → Contains (filter (is_of_part begun.cluster.part_power part) (take most_places places)) place → IsHeldIn begun past part place
    held-in places told place there =
        let kept = from_filter (is_of_part begun.cluster.part_power part) (take most_places places) place there in
        let tests = and_parts (place.part == part) (part_of place.hash begun.cluster.part_power == part) kept.1 in
        let same : place.part ≡ part = eqb-true place.part part tests.0 in (
          record {
            part = subst (IsPart begun past) (sym same) is;
            places = places;
            told = subst (λ n. WasTold past begun.device (message.Places n) (Some (reply.PlaceList places))) (sym same) told;
            listed = kept.0;
            right = same ∙ sym (eqb-true (part_of place.hash begun.cluster.part_power) part tests.1);
          },
          same,
        )

    module _ (places : List PlaceModel) (held : (place : PlaceModel) → Contains places place → IsHeldIn begun past part place) (parts : List ℕ) (are : AreParts parts) where
      -- a device that is no primary reverts each place
      to-revert : is_among (column_of begun.cluster part) begun.device ≡ false → (place : PlaceModel) → Contains places place → MayTreat begun past place
      to-revert other place there = record {
        held = (held place there).0;
        differs = λ primary. absurd (true≢false (sym primary ∙ ap (λ n. is_among (column_of begun.cluster n) begun.device) (held place there).1 ∙ other));
      }

      part-begun : (primary : Bool) (report : PassReport) → is_among (column_of begun.cluster part) begun.device ≡ primary → IsStill (begin_part primary part places parts report)
      part-begun true report primary = record { is_task = (is, primary); are_places = held; are_parts = are }
      part-begun false report other = place-next places parts report (to-revert other) are

  places-follow : (part : ℕ) (places : List PlaceModel) (parts : List ℕ) (report : PassReport) (answer : Option Reply) → IsPart begun past part → AreParts parts → WasTold past begun.device (message.Places part) answer
      → IsStill (after_places begun part (record { task = ListPlaces part; places = places; parts = parts; report = report }) answer)
  places-follow part places parts report (Some (reply.PlaceList listed)) is are told =
      part-begun part is (filter (is_of_part begun.cluster.part_power part) (take most_places listed)) (held-in part is listed told) parts are (is_among (column_of begun.cluster part) begun.device) report refl
  places-follow part places parts report other is are told = part-next parts (missed report) are

  -- ---- suffixes

  differs-at : (own : List Hashed) (suffix : ℕ) (answer : Option Reply) → DiffersIn own suffix (hashes_in answer) → DiffersAt own suffix answer
  differs-at own suffix (Some (reply.SuffixList hashes)) differs = differs
  differs-at own suffix other differs = tt

  module _ (part : ℕ) (own : List Hashed) (heard : List (Option (List Hashed))) (places : List PlaceModel) (held : (place : PlaceModel) → Contains places place → IsHeldIn begun past part place) (parts : List ℕ) (are : AreParts parts)
      (report : PassReport) where
    different : (others : List ℕ) (suffix : ℕ) → IsCompared begun past part own heard others → Differs own heard suffix → IsDifferent begun past part suffix
    different others suffix is (hashes, there, differs) =
        let was = is.were_heard hashes there in
        record {
          own = own;
          own_told = is.own_told;
          device = was.device;
          other = was.other.0;
          primary = was.other.1;
          answer = was.answer;
          told = was.told;
          differs = differs-at own suffix was.answer (subst (DiffersIn own suffix) was.hashes_are differs);
        }

    to-sync : (others : List ℕ) (due : List PlaceModel) → IsCompared begun past part own heard others → AreDue own heard places due → (place : PlaceModel) → Contains due place → MayTreat begun past place
    to-sync others due is are_due place there =
        let kept = from_filter are_due.test places place (subst (λ (these : List PlaceModel). Contains these place) are_due.due_are there) in
        record {
          held = (held place kept.0).0;
          differs = λ primary. subst (λ n. IsDifferent begun past n (suffix_number place.hash)) (sym (held place kept.0).1)
              (different others (suffix_number place.hash) is ((are_due.decides place).0 kept.1));
        }

    asked-on : (others : List ℕ) → IsCompared begun past part own heard others → (status : Status) → AsksOn part own heard others places parts report status → IsStill status
    asked-on [] is status (due, are_due, status_is) = subst IsStill (sym status_is) (place-next due parts report (to-sync [] due is are_due) are)
    asked-on (device ∷ others) is status status_is = subst IsStill (sym status_is) (record { is_task = is; are_places = held; are_parts = are })

  pub others-are : (part device : ℕ) → Contains (others_of begun part) device → IsOther begun part device
  others-are part device there =
      let kept = from_filter (λ id. not (id == begun.device)) (column_of begun.cluster part) device there in (
        λ same. absurd (true≢false (sym kept.1 ∙ ap not (eq-eqb device begun.device same))),
        among-from_Contains (column_of begun.cluster part) device kept.0,
      )

  own-follow : (part : ℕ) (places : List PlaceModel) (parts : List ℕ) (report : PassReport) (answer : Option Reply) → IsPart begun past part → IsPrimaryIn begun part begun.device
      → ((place : PlaceModel) → Contains places place → IsHeldIn begun past part place) → AreParts parts → WasTold past begun.device (message.Suffixes part) answer
      → (status : Status) → AfterOwn begun part (record { task = ListOwn part; places = places; parts = parts; report = report }) answer status → IsStill status
  own-follow part places parts report (Some (reply.SuffixList own)) is primary held are told status follows = asked-on part own [] places held parts are report (others_of begun part) (record {
    is_part = is;
    primary = primary;
    own_told = told;
    were_heard = λ hashes there. absurd (none_in hashes there);
    are_others = others-are part;
  }) status follows
  own-follow part places parts report other is primary held are told status follows = subst IsStill (sym follows) (part-next parts (missed report) are)

  module _ (part : ℕ) (own : List Hashed) (heard : List (Option (List Hashed))) (device : ℕ) (others : List ℕ) (is : IsCompared begun past part own heard (device ∷ others)) where
    -- one more was heard
    heard-more : (answer : Option Reply) → WasTold past device (message.Suffixes part) answer → (hashes : Option (List Hashed)) → hashes ≡ hashes_in answer
        → (one : Option (List Hashed)) → Contains heard one ⊎ (hashes ≡ one) → WasHeard begun past part one
    heard-more answer told hashes are one (inl there) = is.were_heard one there
    heard-more answer told hashes are one (inr same) = record { device = device; other = is.are_others device (here device others); answer = answer; told = told; hashes_are = sym same ∙ are }

    compared-more : (answer : Option Reply) → WasTold past device (message.Suffixes part) answer → (hashes : Option (List Hashed)) → hashes ≡ hashes_in answer → IsCompared begun past part own (heard ++ hashes ∷ []) others
    compared-more answer told hashes are = record {
      is_part = is.is_part;
      primary = is.primary;
      own_told = is.own_told;
      were_heard = λ one there. heard-more answer told hashes are one (Contains-push_cases heard hashes one there);
      are_others = λ one there. is.are_others one (Contains-cons one device others there);
    }

    other-follow : (places : List PlaceModel) (parts : List ℕ) (report : PassReport) (answer : Option Reply) → ((place : PlaceModel) → Contains places place → IsHeldIn begun past part place) → AreParts parts
        → WasTold past device (message.Suffixes part) answer
        → (status : Status) → AfterOther part own heard others (record { task = ListOther part own heard device others; places = places; parts = parts; report = report }) answer status → IsStill status
    other-follow places parts report (Some (reply.SuffixList hashes)) held are told status follows =
        asked-on part own (heard ++ Some hashes ∷ []) places held parts are report others (compared-more (Some (reply.SuffixList hashes)) told (Some hashes) refl) status follows
    other-follow places parts report other held are told status follows = asked-on part own (heard ++ None ∷ []) places held parts are (missed report) others (compared-more other told None refl) status follows

  -- ---- what follows an answer

  -- the answer to the question of a task
  abbrev pub IsAnswer : Task → Option Reply → Type 0
  IsAnswer ListParts answer = WasTold past begun.device message.Parts answer
  IsAnswer (ListPlaces part) answer = WasTold past begun.device (message.Places part) answer
  IsAnswer (ListOwn part) answer = WasTold past begun.device (message.Suffixes part) answer
  IsAnswer (ListOther part own heard device others) answer = WasTold past device (message.Suffixes part) answer
  IsAnswer (Treat place) answer = ⊤

  pub answer-follows : (task : Task) (places : List PlaceModel) (parts : List ℕ) (report : PassReport) (answer : Option Reply)
      → IsJustified begun past (record { task = task; places = places; parts = parts; report = report }) → IsAnswer task answer
      → (status : Status) → FollowsAnswer begun (record { task = task; places = places; parts = parts; report = report }) task answer status → IsStill status
  answer-follows ListParts places parts report answer is told status follows = subst IsStill (sym follows) (parts-follow places parts report answer is.are_parts told)
  answer-follows (ListPlaces part) places parts report answer is told status follows =
      subst IsStill (sym follows) (places-follow part places parts report answer is.is_task is.are_parts told)
  answer-follows (ListOwn part) places parts report answer is told status follows = own-follow part places parts report answer is.is_task.0 is.is_task.1 is.are_places is.are_parts told status follows
  answer-follows (ListOther part own heard device others) places parts report answer is told status follows =
      other-follow part own heard device others is.is_task places parts report answer is.are_places is.are_parts told status follows
  answer-follows (Treat place) places parts report answer is told status follows = absurd follows
