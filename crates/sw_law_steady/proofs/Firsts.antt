-- Where devices show no change, of the rounds of a get only the first is kept as an event.
use Rattle.std.proofs.Common.{◌≡◌, inl, inr, ◌≤◌, Contains, List, [], ◌∷◌, length, Option, refl, sym, ap, subst, ◌∙◌, arith}
use Rattle.std.specs.List.{All}
use Rattle.std.proofs.lemmas.List.Elements.{All-contains, All-contains_itself, Contains-append_cases, Contains-append_left, Contains-append_right}
use Rattle.sw_hashdir.specs.Directory.{IsAbove}
use Rattle.sw_hashdir.specs.Listing.{ListingModel}
use Rattle.sw_hashdir.specs.declared.floor.Floor.{Floor}
use Rattle.sw_diskfile.proofs.Lists.{Contains-cases, Contains-none}
use Rattle.sw_message.specs.Floors.{floors_in}
use Rattle.sw_message.specs.Transcript.{Closed, IsRun, Step}
use Rattle.sw_message.specs.declared.reply.Reply.TheVariants as reply
use Rattle.sw_message.specs.declared.sent.Sent.{Sent}
use Rattle.sw_message.specs.declared.target.Target.{Target}
use Rattle.sw_gather.proofs.Lists.{from_flat}
use Rattle.sw_get.specs.Causes.{AllAnswered, AreKept, IsEventOf, IsGone, IsRisen, floors_before, floors_listed}
use Rattle.sw_get.specs.Get.{Begun, Hears, IsBegun, IsNext, Sends, Turn, ask_message, facts_in, fetch_message, floors_shown, round_in, shown_by}
use Rattle.sw_get.specs.Meaning.{Lists, Meaning, asked_meaning}
use Rattle.sw_get.specs.declared.round_end.KeptEvent.{KeptEvent}
use Rattle.sw_get.specs.declared.round_end.KeptEvent.TheVariants.{Gone, Rose}
use Rattle.sw_get.proofs.Shown.{IsTold, parts}
use Rattle.sw_get.proofs.Turns.{all, now}
use Rattle.sw_law_steady.specs.Steady.{IsShownBy, IsSteady, MissesAlike}
use Rattle.sw_law_steady.proofs.Listings.{IsListed, listed}

-- no floor is above itself
never_above : (floor : Floor) → IsAbove floor floor → ⊥
never_above floor (inl less) = omega (arith, less)
never_above floor (inr level) = let tombstone = level.1 in let durable = level.2 in absurd (cc)

-- the floors that one turn shows are among those of all
shown_heard : (turns : List Turn) (sent : Sent) (meaning : Meaning) (floor : Floor) → Contains turns (Hears sent meaning) → Contains (shown_by meaning) floor → Contains (floors_shown turns) floor
shown_heard [] sent meaning floor has is = absurd (Contains-none (Hears sent meaning) has)
shown_heard (Sends other ∷ turns) sent meaning floor has is = elim (Contains-cases (Sends other) turns (Hears sent meaning) has) [
  | inl this ↦ absurd (cc this)
  | inr later ↦ shown_heard turns sent meaning floor later is
]
shown_heard (Hears other means ∷ turns) sent meaning floor has is = elim (Contains-cases (Hears other means) turns (Hears sent meaning) has) [
  | inl this ↦
      let same : means ≡ meaning = cc this in
      Contains-append_right (floors_shown turns) (shown_by means) floor (subst (λ one. Contains (shown_by one) floor) (sym same) is)
  | inr later ↦ Contains-append_left (floors_shown turns) (shown_by means) floor (shown_heard turns sent meaning floor later is)
]

module _ (begun : Begun) (valid : IsBegun begun) (past : List Step) (run : IsRun (IsNext begun) past) (steady : IsSteady begun past) (alike : MissesAlike begun past) where
  shown_listed : (device : _) (listing : ListingModel) → IsListed begun past device listing → IsShownBy past device listing
  shown_listed device listing is = (ask_message begun is.ticket device, reply.Held listing, is.told, refl, refl)

  module _ (turns : List Turn) (told : All (IsTold begun past) turns) where
    abbrev earlier : List Turn
    earlier = (round_in begun turns).earlier

    told_now : All (IsTold begun past) (now begun turns)
    told_now = (parts (IsTold begun past) (all begun turns) turns told).0

    told_before : All (IsTold begun past) (now begun earlier)
    told_before = (parts (IsTold begun past) (all begun earlier) earlier (parts (IsTold begun past) (all begun turns) turns told).1).0

    -- no archive is gone that a device listed in the round
    never_gone : (source : Target) → IsGone begun past turns source → ⊥
    never_gone source is =
        let lists = is.listed in
        let one = listed begun valid past run source.device lists.listing (now begun turns) told_now lists.listed in
        let same : lists.listing ≡ is.listing =
        steady.one source.device lists.listing is.listing (shown_listed source.device lists.listing one) (fetch_message begun is.ticket is.stamp source, reply.Gone is.listing, is.told, refl, refl) in
        steady.gone is.ticket is.stamp source is.listing lists.durable is.told
        (subst (λ (these : ListingModel). Contains these.entries (record { stamp = is.stamp; index = source.index; durable = lists.durable })) same lists.entry)

    module _ (answered : AllAnswered begun earlier) (floor : Floor) where
      -- where a device shows a listing, it has answered by it in the round before
      before_by : (device : _) (listing : ListingModel) → IsListed begun past device listing → Contains (floors_in listing) floor → Contains (floors_shown earlier) floor
      before_by device listing is has =
          let asked = answered.each device is.member in
          let heard = Hears (ask_message begun asked.ticket device) asked.meaning in
          let answer = All-contains (IsTold begun past) (now begun earlier) heard told_before asked.heard in
          let again = alike device is.ticket asked.ticket answer.0 listing is.told answer.1 in
          let same : again.0 ≡ listing =
          steady.one device again.0 listing
          (ask_message begun asked.ticket device, reply.Held again.0, subst (λ one. Contains past (Closed (ask_message begun asked.ticket device) one)) again.1 answer.1, refl, refl)
          (shown_listed device listing is) in
          let means : asked.meaning ≡ Lists listing = answer.3 ∙ ap asked_meaning again.1 ∙ ap (λ one. Lists one) same in
          let among = All-contains (Contains earlier) (now begun earlier) heard (parts (Contains earlier) (all begun earlier) earlier (All-contains_itself earlier)).0 asked.heard in
          shown_heard earlier (ask_message begun asked.ticket device) asked.meaning floor among (subst (λ one. Contains (shown_by one) floor) (sym means) has)

      -- so a floor that is listed in a round was shown before it, where there was one
      shown_before : Contains (floors_listed begun turns) floor → Contains (floors_before begun turns) floor
      shown_before has =
          let from = from_flat (λ (one : _ × ListingModel). floors_in one.1) (facts_in begun turns).lists floor has in
          before_by from.0.0 from.0.1 (listed begun valid past run from.0.0 from.0.1 (now begun turns) told_now from.1) from.2

    never_risen : AllAnswered begun earlier → (start : Option Floor) (to : Floor) → IsRisen begun turns start to → ⊥
    never_risen answered start to is = elim (Contains-append_cases (floors_before begun turns) (floors_listed begun turns) to is.target.0) [
      | inl before ↦ never_above to (is.above to before)
      | inr now ↦ never_above to (is.above to (shown_before answered to now))
    ]

    -- no round is kept after another one
    never_second : AllAnswered begun earlier → (event : KeptEvent) → IsEventOf begun past turns event → ⊥
    never_second answered (Gone device index) is = never_gone (record { index = index; device = device }) is
    never_second answered (Rose start to) is = never_risen answered start to is

  -- of the rounds of some turns at most one is kept
  pub kept_few : (turns : List Turn) → All (IsTold begun past) turns → (these : List KeptEvent) → AreKept begun past turns these → length these ≤ 1
  kept_few turns told [] kept = omega arith
  kept_few turns told (event ∷ []) kept = omega arith
  kept_few turns told (event ∷ other ∷ these) kept = let before : AreKept begun past (round_in begun turns).earlier (other ∷ these) = kept.2 in absurd (never_second turns told before.0 event kept.1)
