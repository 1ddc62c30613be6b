-- A get without misses hears a source, which brings the archive that it was asked for.
use Rattle.std.proofs.Common.{◌≡◌, ◌≢◌, inl, inr, ℕ, ◌<◌, add-zero, append-nil, ◌++◌, List, [], ◌∷◌, length, length-append, Option, Some, refl, sym, ap, subst, ◌∙◌, arith}
use Rattle.std.specs.List.{All, AllPairs, AllZip}
use Rattle.std.proofs.lemmas.List.Elements.{All-cons, All-head, All-nil, All-tail}
use Rattle.std.proofs.lemmas.Option.{same_Some}
use Rattle.std.proofs.lemmas.Slice.Zip.{AllZip-long}
use Rattle.sw_types.specs.Name.{NameModel}
use Rattle.sw_types.specs.Object.{ObjectModel}
use Rattle.sw_types.specs.Policy.{PolicyModel}
use Rattle.sw_hashpath.specs.Place.{PlaceModel}
use Rattle.sw_hashdir.specs.Listing.{ListingModel}
use Rattle.sw_hashdir.specs.declared.floor.Floor.{Floor}
use Rattle.sw_diskfile.proofs.Lists.{Contains-first}
use Rattle.sw_archive.specs.Archive.{ArchiveModel}
use Rattle.sw_archive.specs.Put.{put_fields}
use Rattle.sw_message.specs.Learnt.{Booked, IsSoundBook}
use Rattle.sw_message.specs.Spoil.{IsNamed}
use Rattle.sw_message.specs.Transcript.{Closed, IsRun, Step, open_at, opens}
use Rattle.sw_message.specs.Warrant.{IsOfPut}
use Rattle.sw_message.specs.declared.message.Msg.TheVariants as message
use Rattle.sw_message.specs.declared.reply.Reply.{Reply}
use Rattle.sw_message.specs.declared.reply.Reply.TheVariants as reply
use Rattle.sw_message.specs.declared.sent.Sent.{Sent}
use Rattle.sw_message.specs.declared.spoil.Foreign.TheVariants as foreign
use Rattle.sw_message.specs.declared.spoil.Spoil.{Spoil}
use Rattle.sw_message.specs.declared.spoil.Spoil.TheVariants as spoil
use Rattle.sw_message.specs.declared.target.Target.{Target}
use Rattle.sw_message.proofs.Spoils.{asked_or_spoil}
use Rattle.sw_quorum.proofs.Transcripts.{found, numbered}
use Rattle.sw_quorum.specs.Transcripts.{HasOther}
use Rattle.sw_get.specs.Causes.{IsSpoilt, Says as SaysOf}
use Rattle.sw_get.specs.Get.{AreTurns, Begun, Hears, IsBegun, IsMeant, IsNext, Turn, facts_in, facts_of, fetch_message, from_in, place_of, sends}
use Rattle.sw_get.specs.Meaning.{Brings, Lacks, Lists, Meaning, Misses, with_fetched}
use Rattle.sw_get.specs.Round.{Facts}
use Rattle.sw_get.specs.Standing.{count_fetch}
use Rattle.sw_get.proofs.Counts.{one_less}
use Rattle.sw_get.proofs.Runs.{IsBrought, all_kept, numbers, says}
use Rattle.sw_get.proofs.Sameness.{turns_together}
use Rattle.sw_get.proofs.Says.{are_heard}
use Rattle.sw_get.proofs.Turns.{now}
use Rattle.sw_law_scene.specs.Scene.{Scene, known_to}
use Rattle.sw_law_complete.specs.Complete.{HasOwnPlace}
use Rattle.sw_law_complete.proofs.GetArchives.{IsOne, none_strays}
use Rattle.sw_law_complete.proofs.GetClean.{IsAtTarget, clean-brought, none_before}
use Rattle.sw_law_complete.proofs.GetGone.{none_gone}
use Rattle.sw_law_complete.proofs.GetHanded.{AreClean, IsNoMiss, by_facts}
use Rattle.sw_law_complete.proofs.GetReplies.{AreTrue, fetched_by}
use Rattle.sw_law_complete.proofs.GetThere.{get_of, one_there, put_there, reply_true, wanted_there}

-- what a round knows once a source brought an archive
facts_brought : (turns : List Turn) (ticket device : ℕ) (place : PlaceModel) (stamp index : ℕ) (archive : ArchiveModel)
    → facts_of (Hears (record { ticket = ticket; device = device; msg = message.Fetch place stamp index }) (Brings archive) ∷ turns) ≡ with_fetched (facts_of turns) (record { index = index; device = device }) (Brings archive)
facts_brought turns ticket device place stamp index archive = simp (add-zero, append-nil)

module _ (scene : Scene) (name : NameModel) (valid : IsBegun (get_of scene name)) (sound : IsSoundBook scene.cluster.policy (known_to scene).book) (own : HasOwnPlace scene name) where
  abbrev get : Begun
  get = get_of scene name

  abbrev place : PlaceModel
  place = place_of get

  abbrev policy : PolicyModel
  policy = scene.cluster.policy

  module _ (past : List Step) (run : IsRun (IsNext get) past) (truly : AreTrue scene place past) (turns : List Turn) (are : AreTurns get past turns) where
    -- a source has what it was asked for
    module _ (ticket device : ℕ) (other : PlaceModel) (stamp index : ℕ) (given : Reply) (meaning : Meaning) (is : open_at ticket past ≡ Some (record { ticket = ticket; device = device; msg = message.Fetch other stamp index }))
        (means : IsMeant get turns (message.Fetch other stamp index) (Some given) meaning)
        (then_truly : AreTrue scene place (Closed (record { ticket = ticket; device = device; msg = message.Fetch other stamp index }) (Some given) ∷ past)) (clean : AreClean scene name past turns) where
      abbrev fetch : Sent
      fetch = record { ticket = ticket; device = device; msg = message.Fetch other stamp index }

      abbrev source : Target
      source = record { index = index; device = device }

      abbrev facts : Facts
      facts = facts_in get turns

      abbrev from : Option Floor
      from = from_in get turns

      abbrev fetch_past : List Step
      fetch_past = Closed fetch (Some given) ∷ past

      distinct : AllPairs HasOther (opens past)
      distinct = (numbered (IsNext get) (numbers get) past run).apart

      at_target : IsAtTarget from facts (message.Fetch other stamp index)
      at_target = (found (λ (one : Sent). IsAtTarget from facts one.msg) ticket (opens past) fetch is clean.0.at_target).0

      -- fewer than k were brought before it
      few_before : length facts.sources < policy.k
      few_before =
          let keeps = all_kept get valid past run turns are in
          omega (arith, keeps.counted.fetches, keeps.within.tried_few, one_less count_fetch ticket (opens past) fetch is distinct)

      module _ (bytes : List ℕ) (of : IsOfPut scene.cluster (known_to scene).book place stamp index bytes) where
        abbrev object : ObjectModel
        object = of.booked.object

        -- each that was brought before it is of the same put
        of_brought : (one : Target) (archive : ArchiveModel) → IsBrought get past from facts one archive → IsOne policy stamp name object archive × (archive.index ≡ one.index)
        of_brought one archive brought =
            let to = brought.to in
            let target = at_target in
            let same : to ≡ target.0 = same_Some to target.0 (sym brought.target ∙ target.1) in
            let stamps : to.stamp ≡ stamp = ap (λ (floor : Floor). floor.stamp) same ∙ sym target.2 in
            let before : IsOfPut scene.cluster (known_to scene).book place to.stamp one.index brought.bytes =
            (reply_true scene name past truly (fetch_message get brought.ticket to.stamp one) (reply.Fragment brought.bytes) brought.told).says in
            let fields = one_there scene name sound own to.stamp one.index brought.bytes before archive brought.wanted.0 in
            let puts : before.booked ≡ of.booked = sound.one before.booked of.booked before.known of.known (before.stamp_is ∙ stamps ∙ sym of.stamp_is) in
            let index_is : archive.index ≡ one.index = ap (λ (it : ArchiveModel). it.index) fields in (
              fields ∙ ap (λ s. put_fields policy s name before.booked.object one.index) stamps ∙ ap (λ (put : Booked). put_fields policy stamp name put.object one.index) puts ∙ ap (put_fields policy stamp name object) (sym index_is),
              index_is,
            )

        all_of : (sources : List Target) (archives : List ArchiveModel) → AllZip (IsBrought get past from facts) sources archives → All (λ (one : Target). (one.index ≡ index) → ⊥) sources
            → All (IsOne policy stamp name object) archives × All (λ (archive : ArchiveModel). archive.index ≢ index) archives
        all_of [] [] zip unlike = (All-nil (IsOne policy stamp name object), All-nil (λ (archive : ArchiveModel). archive.index ≢ index))
        all_of [] (archive ∷ archives) zip unlike = absurd zip
        all_of (one ∷ sources) [] zip unlike = absurd zip
        all_of (one ∷ sources) (archive ∷ archives) zip unlike =
            let this = of_brought one archive zip.0 in
            let others = all_of sources archives zip.1 (All-tail (λ (it : Target). (it.index ≡ index) → ⊥) one sources unlike) in
            let new : archive.index ≢ index = λ same. All-head (λ (it : Target). (it.index ≡ index) → ⊥) one sources unlike (sym this.1 ∙ same) in
            (All-cons (IsOne policy stamp name object) archive archives this.0 others.0, All-cons (λ (it : ArchiveModel). it.index ≢ index) archive archives new others.1)

        -- so it does not stray, nor is it spoilt
        not_spoilt : (why : Spoil) → IsSpoilt get facts.archives stamp index bytes why → ⊥
        not_spoilt (spoil.Foreign foreign.Object) (archive, asked, strays) =
            let keeps = all_kept get valid past run turns are in
            let fields = one_there scene name sound own stamp index bytes of archive asked.0 in
            let index_is : archive.index ≡ index = ap (λ (it : ArchiveModel). it.index) fields in
            let before = all_of facts.sources facts.archives keeps.brought
            (none_before policy from facts (opens past) clean.0 fetch is distinct other stamp source refl at_target.0 at_target.1) in
            none_strays policy stamp name object (put_there scene name sound own stamp index bytes of) facts.archives archive before.0 (fields ∙ ap (put_fields policy stamp name object) (sym index_is))
            (turns_together get past turns are) asked.0.sound (subst (λ n. All (λ (it : ArchiveModel). it.index ≢ n) facts.archives) (sym index_is) before.1)
            (omega (arith, few_before, AllZip-long (IsBrought get past from facts) facts.sources facts.archives keeps.brought)) strays
        not_spoilt why spoils =
            let wanted = wanted_there scene name sound own stamp index bytes of in
            asked_or_spoil (IsNamed name) policy stamp index bytes (put_fields policy stamp name object index) wanted.0 wanted.1 why spoils

        -- what it says is not a miss
        fragment_by : (what : Meaning) → SaysOf get facts.archives (message.Fetch other stamp index) (Some (reply.Fragment bytes)) what → AreClean scene name fetch_past (Hears fetch what ∷ turns)
        fragment_by (Brings archive) says = (
          by_facts policy (opens fetch_past) from from (facts_in get (Hears fetch (Brings archive) ∷ turns)) (with_fetched facts source (Brings archive)) refl (facts_brought (now get turns) ticket device other stamp index archive)
              (clean-brought policy from facts (opens past) clean.0 fetch is distinct other stamp source refl archive),
          All-cons IsNoMiss (Hears fetch (Brings archive)) turns tt clean.1,
        )
        fragment_by (Misses how) (why, same, spoils) = absurd (not_spoilt why spoils)
        fragment_by (Lists listing) none = absurd none
        fragment_by (Lacks listing) none = absurd none

      -- and it is not gone
      lacks_none : (listing : ListingModel) → given ≡ reply.Gone listing → ⊥
      lacks_none listing gone =
          let lacks : meaning ≡ Lacks listing = subst (λ one. IsMeant get turns (message.Fetch other stamp index) (Some one) meaning) gone means in
          let none = none_gone scene name valid fetch_past (is, run) then_truly (Hears fetch meaning ∷ turns) (refl, means, are) in
          let empty : facts.gone ++ source ∷ [] ≡ [] = subst (λ what. (facts_in get (Hears fetch what ∷ turns)).gone ≡ []) lacks none in
          omega (arith, ap length empty, length-append facts.gone (source ∷ []))

      -- so its archive is brought
      pub heard_fetch : AreClean scene name fetch_past (Hears fetch meaning ∷ turns)
      heard_fetch =
          let truth = reply_true scene name fetch_past then_truly fetch given (Contains-first (Closed fetch (Some given)) past) in
          elim (fetched_by scene.cluster (known_to scene).book place truth.names other stamp index given truth.says) [
            | inl gone ↦ absurd (lacks_none gone.0 gone.1)
            | inr sends ↦
                let says = (are_heard get fetch_past (Hears fetch meaning ∷ turns) (refl, means, are)).1 in
                fragment_by sends.0 sends.2 meaning (subst (λ one. SaysOf get facts.archives (message.Fetch other stamp index) (Some one) meaning) sends.1 says)
          ]
