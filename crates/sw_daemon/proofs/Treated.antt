-- What a pass was told to treat is treated already, is treated now, or is left.
use Rattle.std.proofs.Common.{◌≡◌, ◌⊎◌, inl, inr, ℕ, Bool, true, false, Contains, List, [], ◌∷◌, ◌++◌, filter, take, Option, Some, None, refl, sym, subst, ◌∙◌, true≢false}
use Rattle.std.specs.Prelude.{⊤}
use Rattle.std.proofs.lemmas.List.Elements.{Contains-append_left, Contains-push}
use Rattle.sw_hashpath.specs.Place.{PlaceModel}
use Rattle.sw_suffix.specs.Suffix.{suffix_number}
use Rattle.sw_suffix.specs.Table.{Hashed}
use Rattle.sw_ring.specs.Cluster.{column_of}
use Rattle.sw_ring.specs.Ring.{is_among}
use Rattle.sw_message.specs.Transcript.{Step}
use Rattle.sw_message.specs.declared.message.Msg.{Msg}
use Rattle.sw_message.specs.declared.message.Msg.TheVariants as message
use Rattle.sw_message.specs.declared.reply.Reply.{Reply}
use Rattle.sw_message.specs.declared.reply.Reply.TheVariants as reply
use Rattle.sw_gather.proofs.Lists.{first_or_later, in_filter, none_in}
use Rattle.sw_sync.proofs.Messages.{told-later}
use Rattle.sw_sync.specs.Answers.{WasTold}
use Rattle.sw_daemon.specs.Causes.{IsPrimaryIn, WasTreated}
use Rattle.sw_daemon.specs.Pass.{AfterOther, AfterOwn, AreDue, AsksOn, Begun, Differs, Does, Ends, FollowsAnswer, ListOther, ListOwn, ListParts, ListPlaces, Status, Task, Treat, after_parts, after_places, begin_part, is_of_part, is_of_ring, missed, most_parts, most_places, next_part, next_place, others_of}
use Rattle.sw_daemon.specs.declared.report.PassReport.{PassReport}
use Rattle.sw_daemon.proofs.Justified.{IsAnswer, hashes_in}

-- ---- partitions that are treated but for places that are left

abbrev pub parts_in : ℕ → Option Reply → List ℕ
parts_in power (Some (reply.PartList parts)) = filter (is_of_ring power) (take most_parts parts)
parts_in power other = []

abbrev pub places_of : Begun → ℕ → List PlaceModel → List PlaceModel
places_of begun part places = filter (is_of_part begun.cluster.part_power part) (take most_places places)

abbrev pub IsTreatedBut : Begun → List Step → List PlaceModel → PlaceModel → Type 0
IsTreatedBut begun past left place = Contains left place ⊎ WasTreated begun past place

-- a primary was asked for its suffixes, and what it answered was heard
abbrev pub IsHeardOf : List Step → ℕ → List (Option (List Hashed)) → ℕ → Type 0
IsHeardOf past part heard device = (answer : Option Reply) × WasTold past device (message.Suffixes part) answer × Contains heard (hashes_in answer)

pub record ComparedBut (begun : Begun) (past : List Step) (left : List PlaceModel) (part : ℕ) (places : List PlaceModel) (own : List Hashed) : Type 0 where
  pub heard : List (Option (List Hashed))
  pub each : (device : ℕ) → Contains (others_of begun part) device → IsHeardOf past part heard device
  pub synced : (place : PlaceModel) → Contains places place → Differs own heard (suffix_number place.hash) → IsTreatedBut begun past left place

pub record OwnBut (begun : Begun) (past : List Step) (left : List PlaceModel) (part : ℕ) (places : List PlaceModel) : Type 0 where
  pub answer : Option Reply
  pub told : WasTold past begun.device (message.Suffixes part) answer
  pub compared : (own : List Hashed) → answer ≡ Some (reply.SuffixList own) → ComparedBut begun past left part places own

pub record TreatedBut (begun : Begun) (past : List Step) (left : List PlaceModel) (part : ℕ) : Type 0 where
  pub answer : Option Reply
  pub told : WasTold past begun.device (message.Places part) answer
  pub by_primary : (places : List PlaceModel) → answer ≡ Some (reply.PlaceList places) → IsPrimaryIn begun part begun.device → OwnBut begun past left part (places_of begun part places)
  pub by_handoff : (places : List PlaceModel) → answer ≡ Some (reply.PlaceList places) → is_among (column_of begun.cluster part) begun.device ≡ false
      → (place : PlaceModel) → Contains (places_of begun part places) place → IsTreatedBut begun past left place

-- so they stay as more is told and less is left
module _ (begun : Begun) (past more : List Step) (left rest : List PlaceModel) (told : (device : ℕ) (msg : Msg) (answer : Option Reply) → WasTold past device msg answer → WasTold more device msg answer)
    (treated : (place : PlaceModel) → IsTreatedBut begun past left place → IsTreatedBut begun more rest place) where
  still-compared : (part : ℕ) (places : List PlaceModel) (own : List Hashed) → ComparedBut begun past left part places own → ComparedBut begun more rest part places own
  still-compared part places own is = record {
    heard = is.heard;
    each = λ device there. let one = is.each device there in (one.0, told device (message.Suffixes part) one.0 one.1, one.2);
    synced = λ place there differs. treated place (is.synced place there differs);
  }

  still-own : (part : ℕ) (places : List PlaceModel) → OwnBut begun past left part places → OwnBut begun more rest part places
  still-own part places is = record { answer = is.answer; told = told _ _ _ is.told; compared = λ own same. still-compared part places own (is.compared own same) }

  pub still-treated : (part : ℕ) → TreatedBut begun past left part → TreatedBut begun more rest part
  still-treated part is = record {
    answer = is.answer;
    told = told _ _ _ is.told;
    by_primary = λ places same primary. still-own part (places_of begun part places) (is.by_primary places same primary);
    by_handoff = λ places same other place there. treated place (is.by_handoff places same other place there);
  }

-- ---- how far a pass is

-- of the partitions that were listed some are to be treated, and the others are treated but for places that are left
abbrev pub IsListing : Begun → List Step → List ℕ → List PlaceModel → Type 0
IsListing begun past parts left = (answer : Option Reply) × WasTold past begun.device message.Parts answer
    × ((part : ℕ) → Contains (parts_in begun.cluster.part_power answer) part → Contains parts part ⊎ TreatedBut begun past left part)

-- the own device is a primary of a partition, and listed these places of it
pub record HasPlaces (begun : Begun) (past : List Step) (part : ℕ) (places : List PlaceModel) : Type 0 where
  pub primary : IsPrimaryIn begun part begun.device
  pub listed : List PlaceModel
  pub told : WasTold past begun.device (message.Places part) (Some (reply.PlaceList listed))
  pub places_are : places ≡ places_of begun part listed

-- so it did its suffixes; each other primary is to be asked for its own, or was heard
pub record HasOwn (begun : Begun) (past : List Step) (part : ℕ) (places : List PlaceModel) (own : List Hashed) (heard : List (Option (List Hashed))) (others : List ℕ) : Type 0 where
  pub has : HasPlaces begun past part places
  pub own_told : WasTold past begun.device (message.Suffixes part) (Some (reply.SuffixList own))
  pub asked : (device : ℕ) → Contains (others_of begun part) device → Contains others device ⊎ IsHeardOf past part heard device

abbrev pub IsGoing : Begun → List Step → Task → List PlaceModel → List ℕ → Type 0
IsGoing begun past ListParts places parts = ⊤
IsGoing begun past (ListPlaces part) places parts = IsListing begun past (part ∷ parts) []
IsGoing begun past (ListOwn part) places parts = IsListing begun past (part ∷ parts) [] × HasPlaces begun past part places
IsGoing begun past (ListOther part own heard device others) places parts = IsListing begun past (part ∷ parts) [] × HasOwn begun past part places own heard (device ∷ others)
IsGoing begun past (Treat place) places parts = IsListing begun past parts (place ∷ places)

abbrev pub GoesOn : Begun → List Step → Status → Type 0
GoesOn begun past (Does course) = IsGoing begun past course.task course.places course.parts
GoesOn begun past (Ends report) = IsListing begun past [] []

module _ (begun : Begun) (past : List Step) (step : Step) where
  treated-later : (left : List PlaceModel) (place : PlaceModel) → IsTreatedBut begun past left place → IsTreatedBut begun (step ∷ past) left place
  treated-later left place (inl there) = inl there
  treated-later left place (inr (answer, told)) = inr (answer, told-later past step begun.device (message.Ask place) answer told)

  listing-later : (parts : List ℕ) (left : List PlaceModel) → IsListing begun past parts left → IsListing begun (step ∷ past) parts left
  listing-later parts left (answer, told, each) = (
    answer,
    told-later past step begun.device message.Parts answer told,
    λ part there. elim (each part there) [ inl waits ↦ inl waits | inr treated ↦ inr (still-treated begun past (step ∷ past) left left (told-later past step) (treated-later left) part treated) ],
  )

  places-later : (part : ℕ) (places : List PlaceModel) → HasPlaces begun past part places → HasPlaces begun (step ∷ past) part places
  places-later part places has = record { primary = has.primary; listed = has.listed; told = told-later past step _ _ _ has.told; places_are = has.places_are }

  own-later : (part : ℕ) (places : List PlaceModel) (own : List Hashed) (heard : List (Option (List Hashed))) (others : List ℕ) → HasOwn begun past part places own heard others → HasOwn begun (step ∷ past) part places own heard others
  own-later part places own heard others has = record {
    has = places-later part places has.has;
    own_told = told-later past step _ _ _ has.own_told;
    asked = λ device there. elim (has.asked device there) [ inl waits ↦ inl waits | inr was ↦ inr (was.0, told-later past step device (message.Suffixes part) was.0 was.1, was.2) ];
  }

  pub going-later : (task : Task) (places : List PlaceModel) (parts : List ℕ) → IsGoing begun past task places parts → IsGoing begun (step ∷ past) task places parts
  going-later ListParts places parts is = tt
  going-later (ListPlaces part) places parts is = listing-later (part ∷ parts) [] is
  going-later (ListOwn part) places parts is = (listing-later (part ∷ parts) [] is.0, places-later part places is.1)
  going-later (ListOther part own heard device others) places parts is = (listing-later (part ∷ parts) [] is.0, own-later part places own heard (device ∷ others) is.1)
  going-later (Treat place) places parts is = listing-later parts (place ∷ places) is

-- ---- what follows

module _ (begun : Begun) (past : List Step) where
  part-next : (parts : List ℕ) (report : PassReport) → IsListing begun past parts [] → GoesOn begun past (next_part parts report)
  part-next [] report is = is
  part-next (part ∷ parts) report is = is

  place-next : (places : List PlaceModel) (parts : List ℕ) (report : PassReport) → IsListing begun past parts places → GoesOn begun past (next_place places parts report)
  place-next [] parts report is = part-next parts report is
  place-next (place ∷ places) parts report is = is

  none-left : (left : List PlaceModel) (place : PlaceModel) → IsTreatedBut begun past [] place → IsTreatedBut begun past left place
  none-left left place (inl there) = absurd (none_in place there)
  none-left left place (inr was) = inr was

  -- a partition is treated but for places that are left
  treated-one : (part : ℕ) (parts : List ℕ) (left : List PlaceModel) → IsListing begun past (part ∷ parts) [] → TreatedBut begun past left part → IsListing begun past parts left
  treated-one part parts left (answer, told, each) now = (
    answer,
    told,
    λ one there. elim (each one there) [
      | inr was ↦ inr (still-treated begun past past [] left (λ device msg answer told. told) (none-left left) one was)
      | inl waits ↦ elim (first_or_later part parts one waits) [ inl same ↦ inr (subst (TreatedBut begun past left) same now) | inr rest ↦ inl rest ]
    ],
  )

  -- a place of them is treated
  treated-place : (place : PlaceModel) (places : List PlaceModel) (parts : List ℕ) → WasTreated begun past place → IsListing begun past parts (place ∷ places) → IsListing begun past parts places
  treated-place place places parts now (answer, told, each) = (
    answer,
    told,
    λ part there. elim (each part there) [ inl waits ↦ inl waits | inr was ↦ inr (still-treated begun past past (place ∷ places) places (λ device msg answer told. told) still part was) ],
  )
    where
      still : (one : PlaceModel) → IsTreatedBut begun past (place ∷ places) one → IsTreatedBut begun past places one
      still one (inr was) = inr was
      still one (inl there) = elim (first_or_later place places one there) [ inl same ↦ inr (subst (WasTreated begun past) same now) | inr rest ↦ inl rest ]

  pub job-follows : (place : PlaceModel) (places : List PlaceModel) (parts : List ℕ) (report : PassReport) → WasTreated begun past place → IsGoing begun past (Treat place) places parts → GoesOn begun past (next_place places parts report)
  job-follows place places parts report now is = place-next places parts report (treated-place place places parts now is)

  -- ---- partitions and places

  parts-follow : (places : List PlaceModel) (parts : List ℕ) (report : PassReport) (answer : Option Reply) → WasTold past begun.device message.Parts answer
      → GoesOn begun past (after_parts begun.cluster.part_power (record { task = ListParts; places = places; parts = parts; report = report }) answer)
  parts-follow places parts report (Some (reply.PartList listed)) told = part-next (filter (is_of_ring begun.cluster.part_power) (take most_parts listed)) report (Some (reply.PartList listed), told, λ part there. inl there)
  parts-follow places parts report other told = part-next parts (missed report) (other, told, λ part there. absurd (none_in part there))

  module _ (part : ℕ) (parts : List ℕ) (is : IsListing begun past (part ∷ parts) []) where
    module _ (listed : List PlaceModel) (told : WasTold past begun.device (message.Places part) (Some (reply.PlaceList listed))) where
      by-handoff : is_among (column_of begun.cluster part) begun.device ≡ false → TreatedBut begun past (places_of begun part listed) part
      by-handoff other = record {
        answer = Some (reply.PlaceList listed);
        told = told;
        by_primary = λ places same primary. absurd (true≢false (sym primary ∙ other));
        by_handoff = λ places same no_primary place there.
            let these : listed ≡ places = cc in
            inl (subst (λ (all : List PlaceModel). Contains (places_of begun part all) place) (sym these) there);
      }

      by-primary : (left : List PlaceModel) → IsPrimaryIn begun part begun.device → OwnBut begun past left part (places_of begun part listed) → TreatedBut begun past left part
      by-primary left primary own = record {
        answer = Some (reply.PlaceList listed);
        told = told;
        by_primary = λ places same is_primary.
            let these : listed ≡ places = cc in
            subst (λ (all : List PlaceModel). OwnBut begun past left part (places_of begun part all)) these own;
        by_handoff = λ places same other place there. absurd (true≢false (sym primary ∙ other));
      }

      part-begun : (primary : Bool) (report : PassReport) → is_among (column_of begun.cluster part) begun.device ≡ primary → GoesOn begun past (begin_part primary part (places_of begun part listed) parts report)
      part-begun true report primary = (is, record { primary = primary; listed = listed; told = told; places_are = refl })
      part-begun false report other = place-next (places_of begun part listed) parts report (treated-one part parts (places_of begun part listed) is (by-handoff other))

    places-missed : (answer : Option Reply) → ((places : List PlaceModel) → answer ≡ Some (reply.PlaceList places) → ⊥) → WasTold past begun.device (message.Places part) answer → TreatedBut begun past [] part
    places-missed answer none told = record { answer = answer; told = told; by_primary = λ places same primary. absurd (none places same); by_handoff = λ places same other place there. absurd (none places same) }

    places-follow : (places : List PlaceModel) (report : PassReport) (answer : Option Reply) → WasTold past begun.device (message.Places part) answer
        → GoesOn begun past (after_places begun part (record { task = ListPlaces part; places = places; parts = parts; report = report }) answer)
    places-follow places report (Some (reply.PlaceList listed)) told = part-begun listed told (is_among (column_of begun.cluster part) begun.device) report refl
    places-follow places report other told = part-next parts (missed report) (treated-one part parts [] is (places-missed other (λ these same. cc) told))

    -- ---- suffixes

    module _ (places : List PlaceModel) (has : HasPlaces begun past part places) where
      own-treated : (left : List PlaceModel) → OwnBut begun past left part places → TreatedBut begun past left part
      own-treated left own = by-primary has.listed has.told left has.primary (subst (OwnBut begun past left part) has.places_are own)

      own-missed : (answer : Option Reply) → ((own : List Hashed) → answer ≡ Some (reply.SuffixList own) → ⊥) → WasTold past begun.device (message.Suffixes part) answer → OwnBut begun past [] part places
      own-missed answer none told = record { answer = answer; told = told; compared = λ own same. absurd (none own same) }

    module _ (places : List PlaceModel) (own : List Hashed) (heard : List (Option (List Hashed))) (report : PassReport) where
      all-heard : (due : List PlaceModel) → HasOwn begun past part places own heard [] → AreDue own heard places due → OwnBut begun past due part places
      all-heard due has are_due = record {
        answer = Some (reply.SuffixList own);
        told = has.own_told;
        compared = λ other same.
            let these : own ≡ other = cc in
            subst (ComparedBut begun past due part places) these (record {
              heard = heard;
              each = λ device there. elim (has.asked device there) [ inl waits ↦ absurd (none_in device waits) | inr was ↦ was ];
              synced = λ place there differs. inl
                  (subst (λ (all : List PlaceModel). Contains all place) (sym are_due.due_are) (in_filter are_due.test places place there ((are_due.decides place).1 differs)));
            });
      }

      asked-on : (others : List ℕ) → HasOwn begun past part places own heard others → (status : Status) → AsksOn part own heard others places parts report status → GoesOn begun past status
      asked-on [] has status (due, are_due, status_is) =
          subst (GoesOn begun past) (sym status_is) (place-next due parts report (treated-one part parts due is (own-treated places has.has due (all-heard due has are_due))))
      asked-on (device ∷ others) has status status_is = subst (GoesOn begun past) (sym status_is) (is, has)

    own-follow : (places : List PlaceModel) (report : PassReport) (answer : Option Reply) → HasPlaces begun past part places → WasTold past begun.device (message.Suffixes part) answer
        → (status : Status) → AfterOwn begun part (record { task = ListOwn part; places = places; parts = parts; report = report }) answer status → GoesOn begun past status
    own-follow places report (Some (reply.SuffixList own)) has told status follows = asked-on places own [] report (others_of begun part) (record { has = has; own_told = told; asked = λ device there. inl there }) status follows
    own-follow places report other has told status follows =
        subst (GoesOn begun past) (sym follows) (part-next parts (missed report) (treated-one part parts [] is (own-treated places has [] (own-missed places has other (λ own same. cc) told))))

    module _ (places : List PlaceModel) (own : List Hashed) (heard : List (Option (List Hashed))) (device : ℕ) (others : List ℕ) (has : HasOwn begun past part places own heard (device ∷ others)) where
      heard-more : (answer : Option Reply) → WasTold past device (message.Suffixes part) answer → HasOwn begun past part places own (heard ++ hashes_in answer ∷ []) others
      heard-more answer told = record {
        has = has.has;
        own_told = has.own_told;
        asked = λ one there. elim (has.asked one there) [
          | inr was ↦ inr (was.0, was.1, Contains-append_left heard (hashes_in answer ∷ []) (hashes_in was.0) was.2)
          | inl waits ↦ elim (first_or_later device others one waits) [
            | inl same ↦ inr (subst (IsHeardOf past part (heard ++ hashes_in answer ∷ [])) same (answer, told, Contains-push heard (hashes_in answer)))
            | inr rest ↦ inl rest
          ]
        ];
      }

      other-follow : (report : PassReport) (answer : Option Reply) → WasTold past device (message.Suffixes part) answer
          → (status : Status) → AfterOther part own heard others (record { task = ListOther part own heard device others; places = places; parts = parts; report = report }) answer status → GoesOn begun past status
      other-follow report (Some (reply.SuffixList hashes)) told status follows = asked-on places own (heard ++ Some hashes ∷ []) report others (heard-more (Some (reply.SuffixList hashes)) told) status follows
      other-follow report other told status follows = asked-on places own (heard ++ None ∷ []) (missed report) others (heard-more other told) status follows

  pub going-follows : (task : Task) (places : List PlaceModel) (parts : List ℕ) (report : PassReport) (answer : Option Reply) → IsGoing begun past task places parts → IsAnswer begun past task answer
      → (status : Status) → FollowsAnswer begun (record { task = task; places = places; parts = parts; report = report }) task answer status → GoesOn begun past status
  going-follows ListParts places parts report answer is told status follows = subst (GoesOn begun past) (sym follows) (parts-follow places parts report answer told)
  going-follows (ListPlaces part) places parts report answer is told status follows = subst (GoesOn begun past) (sym follows) (places-follow part parts is places report answer told)
  going-follows (ListOwn part) places parts report answer is told status follows = own-follow part parts is.0 places report answer is.1 told status follows
  going-follows (ListOther part own heard device others) places parts report answer is told status follows = other-follow part parts is.0 places own heard device others is.1 report answer told status follows
  going-follows (Treat place) places parts report answer is told status follows = absurd follows
