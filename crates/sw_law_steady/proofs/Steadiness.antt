-- A get to which devices show no change keeps at most one round as an event, and is not overtaken.
use Rattle.std.proofs.Common.{◌≡◌, ◌≤◌, ◌++◌, List, [], ◌∷◌, length, length-append, reverse, refl, arith}
use Rattle.std.specs.List.{All}
use Rattle.std.proofs.lemmas.List.{length-reverse}
use Rattle.sw_message.specs.Transcript.{IsRun, Step}
use Rattle.sw_get.specs.Get.{AreTurns, Begun, IsBegun, IsEnd, IsNext, Turn, event_of, events, going_in, round_in}
use Rattle.sw_get.specs.declared.end.GetEnd.TheVariants.{Overtaken}
use Rattle.sw_get.specs.declared.round_end.Going.{Going}
use Rattle.sw_get.specs.declared.round_end.Going.TheVariants as going
use Rattle.sw_get.specs.declared.round_end.KeptEvent.{KeptEvent}
use Rattle.sw_get.proofs.Ends.{ends_overtaken}
use Rattle.sw_get.proofs.Kept.{kept_now, were_kept}
use Rattle.sw_get.proofs.Shown.{IsTold, all_told, parts}
use Rattle.sw_get.proofs.Turns.{all}
use Rattle.sw_law_steady.specs.Steady.{IsSteady, MissesAlike, kept_events}
use Rattle.sw_law_steady.proofs.Firsts.{kept_few}

module _ (begun : Begun) (past : List Step) (turns : List Turn) (valid : IsBegun begun) (run : IsRun (IsNext begun) past) (are : AreTurns begun past turns) (steady : IsSteady begun past) (alike : MissesAlike begun past) where
  told : All (IsTold begun past) turns
  told = all_told begun past turns are

  -- the rounds before the last one
  few_before : length (events begun turns ++ []) ≤ 1
  few_before =
      let before = kept_few begun valid past run steady alike (round_in begun turns).earlier (parts (IsTold begun past) (all begun turns) turns told).1 (reverse (events begun turns)) (were_kept begun valid past run turns are) in
      omega (arith, before, length-reverse (events begun turns), length-append (events begun turns) [])

  few_by : (next : Going) → going_in begun turns ≡ next → length (events begun turns ++ event_of next) ≤ 1
  few_by (going.Keep event) goes =
      let these = events begun turns ++ event ∷ [] in
      let few = kept_few begun valid past run steady alike turns told (reverse these) (kept_now begun valid past run turns are event goes (were_kept begun valid past run turns are)) in
      omega (arith, few, length-reverse these)
  few_by (going.Ask device) goes = few_before
  few_by (going.Fetch stamp source) goes = few_before
  few_by going.Wait goes = few_before
  few_by (going.End ending) goes = few_before

  -- at most one round is kept, with the last one if it is
  pub few_events : length (kept_events begun turns) ≤ 1
  few_events = few_by (going_in begun turns) refl

-- it does not end as overtaken
pub never_overtaken : (begun : Begun) (past : List Step) (these : List KeptEvent) → IsBegun begun → IsRun (IsNext begun) past → IsSteady begun past → MissesAlike begun past → IsEnd begun past (Overtaken these) → ⊥
never_overtaken begun past these valid run steady alike end =
    let is = ends_overtaken begun past valid run these end in
    let few = kept_few begun valid past run steady alike is.last.turns (all_told begun past is.last.turns is.last.are) (reverse these) is.kept in
    absurd (omega (arith, few, length-reverse these, is.count))
