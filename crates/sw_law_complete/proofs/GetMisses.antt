-- No answer to a get is a miss, where each is a true reply.
use Rattle.std.proofs.Common.{◌≡◌, ℕ, List, [], ◌∷◌, Some, refl, sym, subst}
use Rattle.std.proofs.lemmas.List.Elements.{All-nil}
use Rattle.sw_types.specs.Name.{NameModel}
use Rattle.sw_hashpath.specs.Place.{PlaceModel}
use Rattle.sw_diskfile.proofs.Lists.{Contains-first, Contains-later}
use Rattle.sw_message.specs.Learnt.{IsSoundBook}
use Rattle.sw_message.specs.Transcript.{Closed, Gave, IsRun, Step, open_at}
use Rattle.sw_message.specs.declared.message.Msg.{Msg}
use Rattle.sw_message.specs.declared.message.Msg.TheVariants as message
use Rattle.sw_message.specs.declared.reply.Reply.{Reply}
use Rattle.sw_message.specs.declared.sent.Sent.{Sent}
use Rattle.sw_get.specs.Get.{AreTurns, Begun, Hears, IsBegun, IsMeant, IsNext, Sends, Turn, facts_in, from_in, place_of}
use Rattle.sw_get.specs.Meaning.{Meaning}
use Rattle.sw_get.proofs.Rounds.{handed_so}
use Rattle.sw_law_scene.specs.Scene.{Scene, known_to}
use Rattle.sw_law_complete.specs.Complete.{HasOwnPlace}
use Rattle.sw_law_complete.proofs.GetClean.{IsAtTarget}
use Rattle.sw_law_complete.proofs.GetAnswers.{heard_ask}
use Rattle.sw_law_complete.proofs.GetFetches.{heard_fetch}
use Rattle.sw_law_complete.proofs.GetHanded.{AreClean, IsNoMiss, gave}
use Rattle.sw_law_complete.proofs.GetReplies.{AreTrue}
use Rattle.sw_law_complete.proofs.GetThere.{get_of}

module _ (scene : Scene) (name : NameModel) (valid : IsBegun (get_of scene name)) (sound : IsSoundBook scene.cluster.policy (known_to scene).book) (own : HasOwnPlace scene name) where
  abbrev get : Begun
  get = get_of scene name

  abbrev place : PlaceModel
  place = place_of get

  module _ (past : List Step) (run : IsRun (IsNext get) past) (truly : AreTrue scene place past) (turns : List Turn) (are : AreTurns get past turns) where
    -- an answer comes to what was asked
    heard : (ticket device : ℕ) (msg : Msg) (given : Reply) (meaning : Meaning) → open_at ticket past ≡ Some (record { ticket = ticket; device = device; msg = msg }) → IsMeant get turns msg (Some given) meaning
        → AreTrue scene place (Closed (record { ticket = ticket; device = device; msg = msg }) (Some given) ∷ past) → AreClean scene name past turns
        → AreClean scene name (Closed (record { ticket = ticket; device = device; msg = msg }) (Some given) ∷ past) (Hears (record { ticket = ticket; device = device; msg = msg }) meaning ∷ turns)
    heard ticket device (message.Ask other) given meaning is means then_truly clean = heard_ask scene name valid past run truly turns are ticket device other given meaning is means then_truly clean
    heard ticket device (message.Fetch other stamp index) given meaning is means then_truly clean = heard_fetch scene name valid sound own past run truly turns are ticket device other stamp index given meaning is means then_truly clean
    heard ticket device msg given meaning is none then_truly clean = absurd none

  -- what is true of more is true of less
  fewer_true : (step : Step) (past : List Step) → AreTrue scene place (step ∷ past) → AreTrue scene place past
  fewer_true step past truly sent answer has = truly sent answer (Contains-later step past (Closed sent answer) has)

  -- no miss is in the turns of a transcript
  pub all_clean : (past : List Step) → IsRun (IsNext get) past → AreTrue scene place past → (turns : List Turn) → AreTurns get past turns → AreClean scene name past turns
  all_clean [] run truly [] are = (
    record { at_target = All-nil (λ (sent : Sent). IsAtTarget (from_in get []) (facts_in get []) sent.msg); first_ones = λ to is. refl; counts = λ n. refl; none_failed = refl },
    All-nil IsNoMiss,
  )
  all_clean [] run truly (turn ∷ turns) are = absurd are
  all_clean (Gave sent ∷ past) run truly [] are = absurd are
  all_clean (Gave sent ∷ past) run truly (Sends same ∷ turns) are =
      let before = fewer_true (Gave sent) past truly in
      subst (λ (one : Sent). AreClean scene name (Gave sent ∷ past) (Sends one ∷ turns)) (sym are.0)
      (gave scene name valid past run.1 before turns are.1 sent (handed_so get past sent turns run.0 are.1) (all_clean past run.1 before turns are.1))
  all_clean (Gave sent ∷ past) run truly (Hears same meaning ∷ turns) are = absurd are
  all_clean (Closed sent answer ∷ past) run truly [] are = absurd are
  all_clean (Closed sent answer ∷ past) run truly (Sends same ∷ turns) are = absurd are
  all_clean (Closed sent answer ∷ past) run truly (Hears same meaning ∷ turns) are =
      let before = fewer_true (Closed sent answer) past truly in
      let this = truly sent answer (Contains-first (Closed sent answer) past) in
      let means = subst (λ one. IsMeant get turns sent.msg one meaning) this.1 are.1 in
      let then_truly = subst (λ one. AreTrue scene place (Closed sent one ∷ past)) this.1 truly in
      subst (λ (one : Sent). AreClean scene name (Closed sent answer ∷ past) (Hears one meaning ∷ turns)) (sym are.0)
      (subst (λ one. AreClean scene name (Closed sent one ∷ past) (Hears sent meaning ∷ turns)) (sym this.1)
      (heard past run.1 before turns are.2 sent.ticket sent.device sent.msg this.0 meaning run.0 means then_truly (all_clean past run.1 before turns are.2)))
