-- A get in the small cluster, of a name of which device 0 has the archive of a put and device 1, which was lost, has nothing.
use Rattle.std.proofs.Common.{◌≡◌, ℕ, ◌≤◌, List, [], ◌∷◌, length, Some, refl, sym, ap, subst, ◌∙◌, arith}
use Rattle.std.specs.List.{All}
use Rattle.std.proofs.lemmas.List.Elements.{All-cons, All-nil}
use Rattle.sw_types.specs.Name.{NameModel}
use Rattle.sw_types.specs.Object.{ObjectModel}
use Rattle.sw_archive.specs.Archive.{ArchiveModel, IsSound}
use Rattle.sw_archive.specs.Assemble.{AreTogether, IsNext as StandsBeside, IsTold}
use Rattle.sw_archive.specs.Pieces.{IsDecoded, joined_segments}
use Rattle.sw_archive.specs.Put.{IsPut, put_archive, put_fields}
use Rattle.sw_archive.proofs.Archives.{put_is_archive}
use Rattle.sw_archive.proofs.Objects.{decoded_of_put, some_together}
use Rattle.sw_message.specs.Floors.{highest}
use Rattle.sw_message.specs.Transcript.{Closed, Gave, Hand, Next, Over, Step, Wait}
use Rattle.sw_message.specs.declared.reply.Reply.TheVariants as reply
use Rattle.sw_message.specs.declared.sent.Sent.{Sent}
use Rattle.sw_message.specs.declared.target.Target.{Target}
use Rattle.sw_gather.specs.Gathered.{AreRight}
use Rattle.sw_get.specs.Get.{AreTurns, Begun, EndsAfter, EndsBy, Hears, IsEnd, IsMeant, IsNext, Round, Sends, Turn, ask_message, devices, facts_in, facts_of, fetch_message, floors_shown, going_in, next_after, round_of, wanted}
use Rattle.sw_get.specs.Meaning.{Brings, IsFetched, IsWanted, Lists}
use Rattle.sw_get.specs.Round.{Devices, Facts, all_devices, round_going}
use Rattle.sw_get.specs.declared.end.GetEnd.TheVariants.{Found}
use Rattle.sw_get.specs.declared.round_end.Going.{Going}
use Rattle.sw_get.specs.declared.round_end.Going.TheVariants as going
use Rattle.sw_get.specs.declared.round_end.RoundEnd.TheVariants as round
use Rattle.sw_core.specs.World.{first_clock}
use Rattle.sw_law_example.specs.Pair.{pair}
use Rattle.sw_law_example.proofs.Pairs.{both, handoffs_are, primaries_are}
use Rattle.sw_law_example.proofs.Serving.{lists_nothing, lists_one}

module _ (name : NameModel) (object : ObjectModel) where
  abbrev pub get_begun : Begun
  get_begun = record { cluster = pair; name = name }

  -- ---- messages

  abbrev pub ask : ℕ → Sent
  ask device = ask_message get_begun device device

  abbrev pub source : Target
  source = record { index = 0; device = 0 }

  abbrev pub fetch : Sent
  fetch = fetch_message get_begun 2 first_clock source

  abbrev pub bytes : List ℕ
  bytes = put_archive pair.policy first_clock name object 0

  abbrev archive : ArchiveModel
  archive = put_fields pair.policy first_clock name object 0

  -- ---- transcripts, one after the other, each with its turns

  abbrev pub asked : List Step
  asked = Gave (ask 1) ∷ Gave (ask 0) ∷ []

  abbrev pub heard_one : List Step
  heard_one = Closed (ask 0) (Some (reply.Held (lists_one first_clock 0))) ∷ asked

  abbrev pub heard_both : List Step
  heard_both = Closed (ask 1) (Some (reply.Held lists_nothing)) ∷ heard_one

  abbrev pub fetched : List Step
  fetched = Gave fetch ∷ heard_both

  abbrev pub brought : List Step
  brought = Closed fetch (Some (reply.Fragment bytes)) ∷ fetched

  abbrev asked_turns : List Turn
  asked_turns = Sends (ask 1) ∷ Sends (ask 0) ∷ []

  abbrev heard_one_turns : List Turn
  heard_one_turns = Hears (ask 0) (Lists (lists_one first_clock 0)) ∷ asked_turns

  abbrev heard_both_turns : List Turn
  heard_both_turns = Hears (ask 1) (Lists lists_nothing) ∷ heard_one_turns

  abbrev fetched_turns : List Turn
  fetched_turns = Sends fetch ∷ heard_both_turns

  abbrev pub brought_turns : List Turn
  brought_turns = Hears fetch (Brings archive) ∷ fetched_turns

  -- ---- what a round knows and does next

  -- by whatever devices there are
  abbrev round_by : Devices → List Turn → Round
  round_by these turns = round_of (length (all_devices these)) turns

  abbrev facts_by : Devices → List Turn → Facts
  facts_by these turns = facts_of (round_by these turns).turns

  abbrev going_by : Devices → List Turn → Going
  going_by these turns = round_going pair.policy these (highest (floors_shown (round_by these turns).earlier)) (facts_by these turns)

  abbrev the_devices : Devices
  the_devices = record { handoffs = []; primaries = both }

  devices_are : devices get_begun ≡ the_devices
  devices_are =
      ap (λ (these : List ℕ). record { handoffs = these; primaries = (devices get_begun).primaries }) (handoffs_are name)
      ∙ ap (λ (these : List ℕ). record { handoffs = []; primaries = these }) (primaries_are name)

  goes : (turns : List Turn) (next : Going) → going_by the_devices turns ≡ next → going_in get_begun turns ≡ next
  goes turns next is = ap (λ these. going_by these turns) devices_are ∙ is

  facts_are : (turns : List Turn) (facts : Facts) → facts_by the_devices turns ≡ facts → facts_in get_begun turns ≡ facts
  facts_are turns facts is = ap (λ these. facts_by these turns) devices_are ∙ is

  next_is : (past : List Step) (turns : List Turn) (how : Going) (next : Next) → AreTurns get_begun past turns → going_by the_devices turns ≡ how → next_after get_begun turns how ≡ next → IsNext get_begun past next
  next_is past turns how next are goes_so is = (turns, are, ap (next_after get_begun turns) (goes turns how goes_so) ∙ is)

  -- ---- what is asked

  pub asks_first : IsNext get_begun [] (Hand (ask 0))
  asks_first = next_is [] [] (going.Ask 0) (Hand (ask 0)) tt refl refl

  pub asks_second : IsNext get_begun (Gave (ask 0) ∷ []) (Hand (ask 1))
  asks_second = next_is (Gave (ask 0) ∷ []) (Sends (ask 0) ∷ []) (going.Ask 1) (Hand (ask 1)) (refl, tt) refl refl

  asked_are : AreTurns get_begun asked asked_turns
  asked_are = (refl, (refl, tt))

  pub waits_for_both : IsNext get_begun asked Wait
  waits_for_both = next_is asked asked_turns going.Wait Wait asked_are refl refl

  heard_one_are : AreTurns get_begun heard_one heard_one_turns
  heard_one_are = (refl, refl, asked_are)

  pub waits_for_second : IsNext get_begun heard_one Wait
  waits_for_second = next_is heard_one heard_one_turns going.Wait Wait heard_one_are refl refl

  -- ---- what is fetched

  heard_both_are : AreTurns get_begun heard_both heard_both_turns
  heard_both_are = (refl, refl, heard_one_are)

  pub fetches : IsNext get_begun heard_both (Hand fetch)
  fetches = next_is heard_both heard_both_turns (going.Fetch first_clock source) (Hand fetch) heard_both_are refl refl

  fetched_are : AreTurns get_begun fetched fetched_turns
  fetched_are = (refl, heard_both_are)

  pub waits_for_archive : IsNext get_begun fetched Wait
  waits_for_archive = next_is fetched fetched_turns going.Wait Wait fetched_are refl refl

  -- ---- the archive and its object

  abbrev archives : List ArchiveModel
  archives = archive ∷ []

  alone : (P : ArchiveModel → Type 0) → P archive → All P archives
  alone P is = All-cons P archive [] is (All-nil P)

  module _ (put : IsPut pair.policy first_clock name object) where
    together : AreTogether archives
    together = record {
      sound = alone IsSound (put_is_archive pair.policy first_clock name object 0 put (omega arith)).sound;
      alike = λ i j d less within. absurd (omega (arith, less, within));
      distinct = λ i j d less within. absurd (omega (arith, less, within));
      few = alone (λ (one : ArchiveModel). length archives ≤ one.k) (omega arith);
    }

    told : IsTold archives object
    told =
        let some = some_together archives refl together in
        let body = joined_segments archive.segment archive.body_length some.0 in
        let decoded : IsDecoded archives body = record { pieces = some.0; of = some.1; joined = alone (λ (one : ArchiveModel). body ≡ joined_segments one.segment one.body_length some.0) refl } in
        let same = decoded_of_put pair.policy first_clock name object archives body refl together put (alone (λ (one : ArchiveModel). one ≡ put_fields pair.policy first_clock name object one.index) refl) decoded in
        record {
          head = alone (λ (one : ArchiveModel). object.head ≡ one.head) refl;
          length = alone (λ (one : ArchiveModel). length object.body ≡ one.body_length) refl;
          body_md5 = alone (λ (one : ArchiveModel). object.body_md5 ≡ one.body_md5) refl;
          decoded = subst (IsDecoded archives) same decoded;
        }

    right : AreRight pair.policy archives
    right enough = (object, put.object_rules, told)

    beside : StandsBeside [] archive
    beside = record { alike = All-nil _; new = All-nil _; few = omega arith }

    asked_for : IsWanted (wanted get_begun first_clock) 0 bytes archive
    asked_for = (put_is_archive pair.policy first_clock name object 0 put (omega arith), record { name = refl; stamp_is = refl; index_is = refl; code = (refl, refl, refl) })

    brings : IsMeant get_begun fetched_turns fetch.msg (Some (reply.Fragment bytes)) (Brings archive)
    brings =
        subst (λ (facts : Facts). IsFetched (wanted get_begun first_clock) facts.archives 0 (Some (reply.Fragment bytes)) (Brings archive))
        (sym (facts_are fetched_turns (facts_by the_devices fetched_turns) refl)) (asked_for, beside, right)

    pub brought_are : AreTurns get_begun brought brought_turns
    brought_are = (refl, brings, fetched_are)

    pub is_over : IsNext get_begun brought Over
    is_over = next_is brought brought_turns (going.End (round.Found first_clock)) Over brought_are refl refl

    -- ---- how it ends

    ends_so : EndsAfter get_begun brought_turns (going.End (round.Found first_clock)) (Found first_clock object (source ∷ []))
    ends_so =
        subst (λ (facts : Facts). EndsBy facts (round.Found first_clock) (Found first_clock object (source ∷ [])))
        (sym (facts_are brought_turns (facts_by the_devices brought_turns) refl)) (object, (put.object_rules, told), refl)

    pub is_found : IsEnd get_begun brought (Found first_clock object (source ∷ []))
    is_found =
        (brought_turns, brought_are, subst (λ (how : Going). EndsAfter get_begun brought_turns how (Found first_clock object (source ∷ []))) (sym (goes brought_turns (going.End (round.Found first_clock)) refl)) ends_so)
