-- Each answer to a message of a get means something, so each transcript has turns.
use Rattle.std.proofs.Common.{◌≡◌, inl, inr, ℕ, ◌≤◌, nat_lt, Bool, true, false, List, [], ◌∷◌, length, Option, Some, None, refl, subst}
use Rattle.std.specs.Prelude.{if◌then◌else◌, ⊤}
use Rattle.std.specs.List.{All, AllZip, slice_get}
use Rattle.std.proofs.lemmas.Bool.{cases_Bool}
use Rattle.std.proofs.lemmas.List.Elements.{All-cons, All-nil}
use Rattle.sw_types.specs.Name.{name_eq}
use Rattle.sw_types.proofs.Names.{name_eq-same, name_eq-true}
use Rattle.sw_types.proofs.Policies.{bounds}
use Rattle.sw_hashdir.specs.declared.floor.Floor.{Floor}
use Rattle.sw_hashpath.specs.Place.{PlaceModel}
use Rattle.sw_archive.specs.Archive.{ArchiveModel}
use Rattle.sw_archive.specs.Assemble.{AreTogether}
use Rattle.sw_message.specs.Learnt.{Booked, IsOfBook, IsSoundBook}
use Rattle.sw_message.specs.Miss.{miss_of}
use Rattle.sw_message.specs.Transcript.{Closed, Gave, Hand, IsRun, Over, Step, given, opens}
use Rattle.sw_message.specs.declared.message.Msg.{Msg}
use Rattle.sw_message.specs.declared.message.Msg.TheVariants as message
use Rattle.sw_message.specs.declared.miss.Miss.TheVariants as miss
use Rattle.sw_message.specs.declared.reply.Reply.{Reply}
use Rattle.sw_message.specs.declared.reply.Reply.TheVariants as reply
use Rattle.sw_message.specs.declared.sent.Sent.{Sent}
use Rattle.sw_message.specs.declared.spoil.Foreign.TheVariants as foreign
use Rattle.sw_message.specs.declared.spoil.Spoil.TheVariants as spoil
use Rattle.sw_message.specs.declared.target.Target.{Target}
use Rattle.sw_quorum.proofs.Transcripts.{found}
use Rattle.sw_get.specs.Get.{AreTurns, Begun, Hears, IsBegun, IsMeant, IsNext, Sends, Turn, ask_first, ask_message, devices, events, facts_in, fetch_message, from_in, going_in, most_kept, next_after, sends, wanted}
use Rattle.sw_get.specs.Meaning.{Brings, IsRead, IsWanted, Lacks, Meaning, Misses, asked_meaning}
use Rattle.sw_get.specs.Round.{Facts, all_devices}
use Rattle.sw_get.specs.declared.round_end.Going.{Going}
use Rattle.sw_get.specs.declared.round_end.Going.TheVariants as going
use Rattle.sw_get.proofs.Runs.{IsBrought, all_kept}
use Rattle.sw_get.proofs.Sameness.{turns_together}
use Rattle.sw_sync.proofs.Messages.{opens-each}
use Rattle.sw_law_going.proofs.Brought.{AnswerBrings, AreStored, IsStored, earlier_stored, last_brings}
use Rattle.sw_law_going.proofs.Puts.{right_or_strays}

-- ---- what is handed out

-- a question, or a fetch
abbrev AsksOrFetches : Msg → Type 0
AsksOrFetches (message.Ask place) = ⊤
AsksOrFetches (message.Fetch place stamp index) = ⊤
AsksOrFetches msg = ⊥

module _ (begun : Begun) where
  abbrev IsOfGet : Sent → Type 0
  IsOfGet sent = AsksOrFetches sent.msg

  module _ (sent : Sent) where
    as_one : (one : Sent) → Hand one ≡ Hand sent → IsOfGet one → IsOfGet sent
    as_one one same is = let these : one ≡ sent = cc in subst IsOfGet these is

    asks_first : (ticket : ℕ) (device : Option ℕ) → ask_first begun ticket device ≡ Hand sent → IsOfGet sent
    asks_first ticket (Some device) same = as_one (ask_message begun ticket device) same tt
    asks_first ticket None same = absurd (cc)

    asks_again : (few : Bool) (ticket : ℕ) (device : Option ℕ) → (if few then ask_first begun ticket device else Over) ≡ Hand sent → IsOfGet sent
    asks_again true ticket device same = asks_first ticket device same
    asks_again false ticket device same = absurd (cc)

    handed_so : (turns : List Turn) (goes : Going) → next_after begun turns goes ≡ Hand sent → IsOfGet sent
    handed_so turns (going.Ask device) same = as_one (ask_message begun (sends turns) device) same tt
    handed_so turns (going.Fetch stamp source) same = as_one (fetch_message begun (sends turns) stamp source) same tt
    handed_so turns going.Wait same = absurd (cc)
    handed_so turns (going.End ending) same = absurd (cc)
    handed_so turns (going.Keep event) same = asks_again (nat_lt (length (events begun turns)) most_kept) (sends turns) (slice_get (all_devices (devices begun)) 0) same

  given_so : (past : List Step) → IsRun (IsNext begun) past → All IsOfGet (given past)
  given_so [] run = All-nil IsOfGet
  given_so (Gave sent ∷ past) run = All-cons IsOfGet sent (given past) (handed_so sent run.0.0 (going_in begun run.0.0) run.0.2) (given_so past run.1)
  given_so (Closed sent answer ∷ past) run = given_so past run.1

  -- ---- what an answer means

  module _ (valid : IsBegun begun) (book : List Booked) (sound : IsSoundBook begun.cluster.policy book) where
    abbrev IsPutOne : ArchiveModel → Type 0
    IsPutOne archive = IsOfBook begun.cluster book archive

    some_data : 1 ≤ begun.cluster.policy.k
    some_data = (bounds begun.cluster.policy valid.rules.policy).some_data

    module _ (others : List ArchiveModel) (together : AreTogether others) (are : All IsPutOne others) where
      read_so : (place : PlaceModel) (stamp index : ℕ) (bytes : List ℕ) → IsStored begun.cluster book place stamp index bytes → (meaning : Meaning) × IsRead (wanted begun stamp) others index bytes meaning
      read_so place stamp index bytes stored =
          let archive = stored.is.archive in
          let spelled = stored.is.spelled in
          let asked = stored.is.asked in
          elim (cases_Bool (name_eq archive.name begun.name)) [
            | inr other ↦ (
              Misses (miss.Spoiled (spoil.Foreign foreign.Name)),
              (archive, spelled, λ named. let same = name_eq-same begun.name in absurd (cc (other, same, named))),
            )
            | inl same ↦
                let named = name_eq-true archive.name begun.name same in
                let is_wanted : IsWanted (wanted begun stamp) index bytes archive = (spelled, record { name = named; stamp_is = asked.stamp_is; index_is = asked.index_is; code = asked.code }) in
                elim (right_or_strays begun.cluster book sound some_data others are together archive (stored.of archive spelled) spelled.sound) [
                  | inl right ↦ (Brings archive, (is_wanted, right.0, right.1))
                  | inr strays ↦ (Misses (miss.Spoiled (spoil.Foreign foreign.Object)), (archive, is_wanted, strays))
                ]
          ]

    meant_so : (turns : List Turn) → AreTogether (facts_in begun turns).archives → All IsPutOne (facts_in begun turns).archives → (msg : Msg) (answer : Option Reply) → AsksOrFetches msg → AnswerBrings begun.cluster book msg answer
        → (meaning : Meaning) × IsMeant begun turns msg answer meaning
    meant_so turns together are (message.Ask place) answer kind brings = (asked_meaning answer, refl)
    meant_so turns together are (message.Fetch place stamp index) None kind brings = (Misses miss.NoReply, refl)
    meant_so turns together are (message.Fetch place stamp index) (Some (reply.Fragment bytes)) kind brings = read_so (facts_in begun turns).archives together are place stamp index bytes brings
    meant_so turns together are (message.Fetch place stamp index) (Some (reply.Gone listing)) kind brings = (Lacks listing, refl)
    meant_so turns together are (message.Fetch place stamp index) (Some other) kind brings = (Misses (miss_of other), refl)
    meant_so turns together are msg answer kind brings = absurd kind

    -- ---- turns

    -- the archives that were brought are those of puts
    brought_so : (past : List Step) → AreStored begun.cluster book past → (from : Option Floor) (facts : Facts) (sources : List Target) (archives : List ArchiveModel) → AllZip (IsBrought begun past from facts) sources archives
        → All IsPutOne archives
    brought_so past stored from facts [] [] all = All-nil IsPutOne
    brought_so past stored from facts [] (archive ∷ archives) all = absurd all
    brought_so past stored from facts (source ∷ sources) [] all = absurd all
    brought_so past stored from facts (source ∷ sources) (archive ∷ archives) all =
        let one = all.0 in
        let is = stored (fetch_message begun one.ticket one.to.stamp source) (reply.Fragment one.bytes) one.told in
        All-cons IsPutOne archive archives (is.of archive one.wanted.0) (brought_so past stored from facts sources archives all.1)

    pub turns_of : (past : List Step) → IsRun (IsNext begun) past → AreStored begun.cluster book past → (turns : List Turn) × AreTurns begun past turns
    turns_of [] run stored = ([], tt)
    turns_of (Gave sent ∷ past) run stored = (Sends sent ∷ run.0.0, (refl, run.0.1))
    turns_of (Closed sent answer ∷ past) run stored =
        let earlier = earlier_stored begun.cluster book (Closed sent answer) past stored in
        let before = turns_of past run.1 earlier in
        let facts = facts_in begun before.0 in
        let brought = brought_so past earlier (from_in begun before.0) facts facts.sources facts.archives (all_kept begun valid past run.1 before.0 before.1).brought in
        let kind = (found IsOfGet sent.ticket (opens past) sent run.0 (opens-each IsOfGet past (given_so past run.1))).0 in
        let meaning = meant_so before.0 (turns_together begun past before.0 before.1) brought sent.msg answer kind (last_brings begun.cluster book sent answer past stored) in
        (Hears sent meaning.0 ∷ before.0, (refl, meaning.1, before.1))
