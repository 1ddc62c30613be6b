-- A get without misses hands out a message.
use Rattle.std.proofs.Common.{◌≡◌, inl, inr, ◌+◌, ◌++◌, List, [], ◌∷◌, Option, refl, sym, subst, ◌∙◌}
use Rattle.std.specs.Prelude.{⊤}
use Rattle.std.specs.List.{All}
use Rattle.std.proofs.lemmas.List.Elements.{All-cons}
use Rattle.std.proofs.lemmas.Option.{slice_get_within}
use Rattle.sw_types.specs.Name.{NameModel}
use Rattle.sw_types.specs.Policy.{PolicyModel}
use Rattle.sw_hashpath.specs.Place.{PlaceModel}
use Rattle.sw_hashdir.specs.declared.floor.Floor.{Floor}
use Rattle.sw_message.specs.Transcript.{Gave, IsRun, Step, opens}
use Rattle.sw_message.specs.declared.sent.Sent.{Sent}
use Rattle.sw_get.specs.Get.{AreTurns, Begun, Hears, IsBegun, IsNext, Sends, Turn, ask_message, devices, facts_in, facts_of, fetch_message, from_in, place_of, sends}
use Rattle.sw_get.specs.Meaning.{Misses}
use Rattle.sw_get.specs.Round.{Facts, all_devices}
use Rattle.sw_get.specs.declared.round_end.Going.TheVariants as going
use Rattle.sw_get.proofs.Kept.{nothing_open}
use Rattle.sw_get.proofs.Rounds.{HandedSo}
use Rattle.sw_get.proofs.Runs.{all_kept, says}
use Rattle.sw_get.proofs.Turns.{ask_goes_on, begins, facts-asked, facts-fetched, fetch_goes_on, now}
use Rattle.sw_law_scene.specs.Scene.{Scene}
use Rattle.sw_law_complete.proofs.GetClean.{IsClean, clean-ask, clean-fetch, clean-first}
use Rattle.sw_law_complete.proofs.GetGone.{none_gone}
use Rattle.sw_law_complete.proofs.GetReplies.{AreTrue}
use Rattle.sw_law_complete.proofs.GetThere.{get_of}

-- no answer that a turn hears is a miss
abbrev pub IsNoMiss : Turn → Type 0
IsNoMiss (Hears sent (Misses miss)) = ⊥
IsNoMiss other = ⊤

-- a round in which no fetch has failed, and no miss in any
abbrev pub AreClean : Scene → NameModel → List Step → List Turn → Type 0
AreClean scene name past turns =
    IsClean scene.cluster.policy (from_in (get_of scene name) turns) (facts_in (get_of scene name) turns) (opens past) × All IsNoMiss turns

-- by the same facts and the same floor before the round
pub by_facts : (policy : PolicyModel) (opened : List Sent) (from start : Option Floor) (facts known : Facts) → from ≡ start → facts ≡ known → IsClean policy start known opened → IsClean policy from facts opened
by_facts policy opened from start facts known froms are clean = subst (λ one. IsClean policy one facts opened) (sym froms) (subst (λ these. IsClean policy start these opened) (sym are) clean)

module _ (scene : Scene) (name : NameModel) (valid : IsBegun (get_of scene name)) where
  abbrev get : Begun
  get = get_of scene name

  abbrev place : PlaceModel
  place = place_of get

  abbrev policy : PolicyModel
  policy = scene.cluster.policy

  module _ (past : List Step) (run : IsRun (IsNext get) past) (truly : AreTrue scene place past) (turns : List Turn) (are : AreTurns get past turns) where
    -- a device is asked, an archive is fetched, or another round begins
    pub gave : (sent : Sent) → HandedSo get turns sent → AreClean scene name past turns → AreClean scene name (Gave sent ∷ past) (Sends sent ∷ turns)
    gave sent (inl asks) clean =
        let keeps = all_kept get valid past run turns are in
        let ask = ask_message get (sends turns) asks.device in
        let at = says get valid past turns keeps (going.Ask asks.device) asks.goes in
        let on = ask_goes_on get turns (sends turns) asks.device (slice_get_within (all_devices (devices get)) (facts_in get turns).asked asks.device at) in
        subst (λ (one : Sent). AreClean scene name (Gave one ∷ past) (Sends one ∷ turns)) (sym asks.is) (
          by_facts policy (ask ∷ opens past) (from_in get (Sends ask ∷ turns)) (from_in get turns) (facts_in get (Sends ask ∷ turns)) (record (facts_in get turns) { asked = (facts_in get turns).asked + 1 }) on.from
              (on.facts ∙ facts-asked (now get turns) (sends turns) asks.device get) (clean-ask policy (from_in get turns) (facts_in get turns) (opens past) clean.0 get (sends turns) asks.device),
          All-cons IsNoMiss (Sends ask) turns tt clean.1,
        )
    gave sent (inr (inl fetches)) clean =
        let keeps = all_kept get valid past run turns are in
        let fetch = fetch_message get (sends turns) fetches.stamp fetches.source in
        let next = (says get valid past turns keeps (going.Fetch fetches.stamp fetches.source) fetches.goes).1 in
        let on = fetch_goes_on get turns (sends turns) fetches.stamp fetches.source in
        subst (λ (one : Sent). AreClean scene name (Gave one ∷ past) (Sends one ∷ turns)) (sym fetches.is) (
          by_facts policy (fetch ∷ opens past) (from_in get (Sends fetch ∷ turns)) (from_in get turns) (facts_in get (Sends fetch ∷ turns)) (record (facts_in get turns) { tried = (facts_in get turns).tried ++ fetches.source ∷ [] }) on.from
              (on.facts ∙ facts-fetched (now get turns) (sends turns) fetches.stamp fetches.source get)
              (clean-fetch policy (from_in get turns) (facts_in get turns) (opens past) clean.0 get (sends turns) fetches.stamp fetches.source (none_gone scene name valid past run truly turns are) next),
          All-cons IsNoMiss (Sends fetch) turns tt clean.1,
        )
    gave sent (inr (inr starts)) clean =
        let keeps = all_kept get valid past run turns are in
        let first = ask_message get (sends turns) starts.device in
        let known = says get valid past turns keeps (going.Keep starts.event) starts.goes in
        let another = begins get turns (sends turns) starts.device known.0.all_asked in
        let none = nothing_open get valid past run turns are known.0 known.1 in
        subst (λ (one : Sent). AreClean scene name (Gave one ∷ past) (Sends one ∷ turns)) (sym starts.is) (
          subst (λ these. IsClean policy (from_in get (Sends first ∷ turns)) (facts_in get (Sends first ∷ turns)) (first ∷ these)) (sym none)
              (by_facts policy (first ∷ []) (from_in get (Sends first ∷ turns)) (from_in get (Sends first ∷ turns)) (facts_in get (Sends first ∷ turns)) (record (facts_of []) { asked = (facts_of []).asked + 1 }) refl
              (another.facts ∙ facts-asked [] (sends turns) starts.device get) (clean-first policy (from_in get (Sends first ∷ turns)) get (sends turns) starts.device ((facts_of []).asked + 1))),
          All-cons IsNoMiss (Sends first) turns tt clean.1,
        )
