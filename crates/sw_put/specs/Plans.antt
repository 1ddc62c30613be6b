-- Where commits have to go, by what was counted of fragments.
use Rattle.std.specs.Prelude.{ℕ, not, ◌&&◌, ◌||◌, if◌then◌else◌, nat_lt, List, [], length, map, is_some, Option, Some, None}
use Rattle.sw_message.specs.Targets.{ascending}
use Rattle.sw_message.specs.declared.miss.Miss.{Miss}
use Rattle.sw_message.specs.declared.target.Target.{Target}
use Rattle.sw_quorum.specs.Tally.{Counts}
use Rattle.sw_put.specs.declared.errand.Errand.{Errand}
use Rattle.sw_put.specs.declared.errand.Errand.TheVariants.{CommitAt, StoreAt}

-- of so many fragments, of which so many are to be stored
abbrev pub planned : Counts Target → (count enough : ℕ) → List Target
planned counts count enough =
    if not (nat_lt counts.answered count) && not (is_some counts.floor || nat_lt (length counts.done) enough) then ascending counts.done else []

-- each miss, with its device
abbrev pub told_misses : List (Target × Miss) → List (ℕ × Miss)
told_misses missed = map (λ (one : Target × Miss). (one.0.device, one.1)) missed

-- the device of an errand
abbrev pub device_in : Errand → ℕ
device_in (StoreAt target) = target.device
device_in (CommitAt target) = target.device

-- the index of a miss, at a handoff, if there is one
abbrev pub replacement : Option (Target × Miss) → Option ℕ → Option Target
replacement None handoff = None
replacement (Some miss) None = None
replacement (Some miss) (Some handoff) = Some (record { index = miss.0.index; device = handoff })
