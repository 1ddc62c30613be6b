-- Steps one after the other.
use Rattle.std.proofs.Common.{◌≡◌, ◌+◌, ◌-◌, ◌<◌, ℕ, suc, List, [], ◌∷◌, ◌++◌, length, Option, Some, None, MatchOption, option_to_list, ap, refl, ◌∙◌, arith}
use Rattle.std.proofs.lemmas.List.{length-append}
use Rattle.sw_script.specs.declared.event.Event.{Event}
use Rattle.sw_script.specs.declared.event.Event.TheVariants.{Run}
use Rattle.sw_lab.specs.Workload.{draw_behind, job_of, outage_of, step_of, steps_from}
use Rattle.sw_lab.specs.declared.draw.Draw.{Draw}

-- where steps are left, the next is done, and then the rest
pub steps_more : (devices : List ℕ) (steps begun number : ℕ) → begun < steps
    → steps_from devices (steps - begun) (begun + 1) number
    ≡ step_of devices (begun + 1) (draw_behind number) ++ steps_from devices (steps - (begun + 1)) (begun + 1 + 1) (draw_behind number).body
steps_more devices steps begun number less =
    let left : steps - begun ≡ suc (steps - (begun + 1)) = omega arith in
    ap (λ left. steps_from devices left (begun + 1) number) left

-- a step has a job
some_event : (devices : List ℕ) (step : ℕ) (draw : Draw) → 0 < length (step_of devices step draw)
some_event devices step draw = omega (arith, length-append (outage_of devices step draw) (Run (job_of draw) ∷ []))

-- the first event of a step leaves
pub first_leaves : (devices : List ℕ) (step : ℕ) (draw : Draw) (event : Option Event) (rest later all : List Event)
    → step_of devices step draw ≡ option_to_list event ++ rest → (event ≡ None → length (step_of devices step draw) ≡ 0) → all ≡ step_of devices step draw ++ later
    → MatchOption event ((all ≡ []) × (rest ++ later ≡ [])) (λ first. all ≡ first ∷ rest ++ later)
first_leaves devices step draw None rest later all is none all_is = absurd (omega (arith, none refl, some_event devices step draw))
first_leaves devices step draw (Some first) rest later all is none all_is = all_is ∙ ap (λ events. events ++ later) is
