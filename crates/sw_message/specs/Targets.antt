-- Targets in order.
use Rattle.std.specs.Prelude.{◌==◌, Bool, ◌&&◌, ◌||◌, if◌then◌else◌, nat_lt, List, [], ◌∷◌}
use Rattle.sw_message.specs.declared.target.Target.{Target}

-- by index, and of one index by device
abbrev pub is_before : Target → Target → Bool
is_before a b = nat_lt a.index b.index || (a.index == b.index && nat_lt a.device b.device)

-- a target among some that ascend
abbrev pub with_target : Target → List Target → List Target
with_target target [] = target ∷ []
with_target target (other ∷ others) = if is_before target other then target ∷ other ∷ others else other ∷ with_target target others

-- targets, ascending
abbrev pub ascending : List Target → List Target
ascending [] = []
ascending (target ∷ targets) = with_target target (ascending targets)
