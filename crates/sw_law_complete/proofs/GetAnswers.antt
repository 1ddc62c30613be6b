-- A get without misses hears a device, which lists what it has.
use Rattle.std.proofs.Common.{◌≡◌, inl, inr, ℕ, ◌+◌, ◌≤◌, append-nil, List, [], ◌∷◌, length, nat_lt, Some, refl, sym, ap, subst, ◌∙◌, arith}
use Rattle.std.specs.List.{AllPairs}
use Rattle.std.proofs.lemmas.Bool.{cases_Bool, ltb-false, ltb-true}
use Rattle.std.proofs.lemmas.List.Elements.{All-cons}
use Rattle.sw_types.specs.Name.{NameModel}
use Rattle.sw_types.specs.Policy.{PolicyModel}
use Rattle.sw_hashpath.specs.Place.{PlaceModel}
use Rattle.sw_hashdir.specs.Listing.{ListingModel}
use Rattle.sw_diskfile.proofs.Lists.{Contains-first}
use Rattle.sw_message.specs.Transcript.{Closed, IsRun, Step, open_at, opens}
use Rattle.sw_message.specs.declared.message.Msg.TheVariants as message
use Rattle.sw_message.specs.declared.reply.Reply.{Reply}
use Rattle.sw_message.specs.declared.sent.Sent.{Sent}
use Rattle.sw_quorum.proofs.Transcripts.{numbered}
use Rattle.sw_quorum.specs.Transcripts.{HasOther}
use Rattle.sw_get.specs.Get.{AreTurns, Begun, Hears, IsBegun, IsMeant, IsNext, Turn, facts_in, facts_of, from_in, place_of}
use Rattle.sw_get.specs.Meaning.{Lists, Meaning, asked_meaning, with_asked}
use Rattle.sw_get.specs.Standing.{count_fetch, count_opens}
use Rattle.sw_get.proofs.Counts.{within as answers_few}
use Rattle.sw_get.proofs.Runs.{Keeps, all_kept, numbers}
use Rattle.sw_get.proofs.Turns.{now}
use Rattle.sw_law_scene.specs.Scene.{Scene, known_to}
use Rattle.sw_law_complete.proofs.GetClean.{clean-listed}
use Rattle.sw_law_complete.proofs.GetHanded.{AreClean, IsNoMiss, by_facts}
use Rattle.sw_law_complete.proofs.GetReplies.{AreTrue, held_by}
use Rattle.sw_law_complete.proofs.GetThere.{get_of, reply_true}

-- what a round knows once a device listed
facts_listed : (turns : List Turn) (ticket device : ℕ) (place : PlaceModel) (listing : ListingModel)
    → facts_of (Hears (record { ticket = ticket; device = device; msg = message.Ask place }) (Lists listing) ∷ turns) ≡ with_asked (facts_of turns) device (Lists listing)
facts_listed turns ticket device place listing = simp append-nil

module _ (scene : Scene) (name : NameModel) (valid : IsBegun (get_of scene name)) where
  abbrev get : Begun
  get = get_of scene name

  abbrev place : PlaceModel
  place = place_of get

  abbrev policy : PolicyModel
  policy = scene.cluster.policy

  module _ (past : List Step) (run : IsRun (IsNext get) past) (truly : AreTrue scene place past) (turns : List Turn) (are : AreTurns get past turns) where
    -- a device lists what it has
    module _ (ticket device : ℕ) (other : PlaceModel) (given : Reply) (meaning : Meaning) (is : open_at ticket past ≡ Some (record { ticket = ticket; device = device; msg = message.Ask other }))
        (means : IsMeant get turns (message.Ask other) (Some given) meaning) (then_truly : AreTrue scene place (Closed (record { ticket = ticket; device = device; msg = message.Ask other }) (Some given) ∷ past)) where
      abbrev ask : Sent
      ask = record { ticket = ticket; device = device; msg = message.Ask other }

      distinct : AllPairs HasOther (opens past)
      distinct = (numbered (IsNext get) (numbers get) past run).apart

      -- nothing was fetched before it
      untried : (listing : ListingModel) → Keeps get (Closed ask (Some given) ∷ past) (Hears ask (Lists listing) ∷ turns) → length (facts_in get turns).tried ≡ 0
      untried listing after =
          let facts = facts_in get turns in
          let within = (all_kept get valid past run turns are).within in
          let answers = answers_few (facts_in get (Hears ask (Lists listing) ∷ turns)) (opens (Closed ask (Some given) ∷ past)) [] after.counted in
          let fewer : facts.answered + 1 ≤ facts.asked = answers.0 in
          elim (cases_Bool (nat_lt 0 (length facts.tried))) [
            | inl some ↦ let fetching = within.fetching (ltb-true 0 (length facts.tried) some) in absurd (omega (arith, fewer, fetching.all_answered, within.asked_few))
            | inr none ↦ let no_more = ltb-false 0 (length facts.tried) none in omega (arith, no_more)
          ]

      -- it is no miss
      pub heard_ask : AreClean scene name past turns → AreClean scene name (Closed ask (Some given) ∷ past) (Hears ask meaning ∷ turns)
      heard_ask clean =
          let then_past = Closed ask (Some given) ∷ past in
          let truth = reply_true scene name then_past then_truly ask given (Contains-first (Closed ask (Some given)) past) in
          let held = held_by scene.cluster (known_to scene).book place truth.names other given truth.says in
          let listing = held.0 in
          let lists : meaning ≡ Lists listing = means ∙ ap (λ one. asked_meaning (Some one)) held.1 in
          let after = subst (λ m. Keeps get then_past (Hears ask m ∷ turns)) lists (all_kept get valid then_past (is, run) (Hears ask meaning ∷ turns) (refl, means, are)) in
          let none_tried = untried listing after in
          let keeps = all_kept get valid past run turns are in
          let none_open : count_opens count_fetch (opens past) ≡ 0 = omega (arith, keeps.counted.fetches, none_tried) in
          subst (λ m. AreClean scene name then_past (Hears ask m ∷ turns)) (sym lists) (
            by_facts policy (opens then_past) (from_in get turns) (from_in get turns) (facts_in get (Hears ask (Lists listing) ∷ turns)) (with_asked (facts_in get turns) device (Lists listing)) refl
                (facts_listed (now get turns) ticket device other listing)
                (clean-listed policy (from_in get turns) (facts_in get turns) (opens past) clean.0 ask is distinct other refl device listing none_tried none_open),
            All-cons IsNoMiss (Hears ask (Lists listing)) turns tt clean.1,
          )
