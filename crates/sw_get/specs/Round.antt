-- One round of a get: every device is asked, and then archives of the greatest floor's stamp are fetched.
use Rattle.std.specs.Prelude.{◌≡◌, ℕ, ◌+◌, ◌==◌, Bool, true, false, not, ◌&&◌, ◌||◌, if◌then◌else◌, nat_lt, List, [], ◌∷◌, ◌++◌, find, flat_map, length, slice_get, Option, Some, None}
use Rattle.std.specs.List.{list_any}
use Rattle.sw_types.specs.Object.{ObjectModel}
use Rattle.sw_types.specs.Policy.{PolicyModel}
use Rattle.sw_hashdir.specs.Listing.{ListingModel}
use Rattle.sw_hashdir.specs.declared.floor.Floor.{Floor}
use Rattle.sw_hashdir.specs.declared.floor.FloorKind.{FloorKind}
use Rattle.sw_hashdir.specs.declared.floor.FloorKind.TheVariants.{Durable, Tombstone}
use Rattle.sw_archive.specs.Archive.{ArchiveModel}
use Rattle.sw_message.specs.Floors.{floors_in, highest_from, is_above}
use Rattle.sw_message.specs.declared.miss.Miss.{Miss}
use Rattle.sw_message.specs.declared.target.Target.{Target}
use Rattle.sw_gather.specs.Choices.{choices_in, firsts, has_index, same_target}
use Rattle.sw_gather.specs.Gathered.{IsThere}
use Rattle.sw_get.specs.declared.round_end.Going.{Going}
use Rattle.sw_get.specs.declared.round_end.Going.TheVariants.{Ask, End, Fetch, Keep, Wait}
use Rattle.sw_get.specs.declared.round_end.KeptEvent.TheVariants.{Gone, Rose}
use Rattle.sw_get.specs.declared.round_end.RoundEnd.{RoundEnd}
use Rattle.sw_get.specs.declared.round_end.RoundEnd.TheVariants as end

-- ---- what a round knows

-- the devices of a place: the handoffs are asked first, ascending, and then the primaries, by index
pub record Devices : Type 0 where
  pub handoffs : List ℕ
  pub primaries : List ℕ

abbrev pub all_devices : Devices → List ℕ
all_devices devices = devices.handoffs ++ devices.primaries

-- what was handed out in a round, and what became of it, each list in the order in which it came
pub record Facts : Type 0 where
  -- how many devices were asked, and how many of them answered or were given up
  pub asked : ℕ
  pub answered : ℕ
  -- what devices list
  pub lists : List (ℕ × ListingModel)
  -- the sources from which an archive was fetched
  pub tried : List Target
  -- those that brought an archive, and the archives; those that lack theirs; and those that missed
  pub sources : List Target
  pub archives : List ArchiveModel
  pub gone : List Target
  pub failed : List Target
  -- each miss, of an asked device or of a source, with the device
  pub misses : List (ℕ × Miss)

-- what is seen of a round: what it knows, the object once k archives were brought, and whether there is room for the answer of
-- one device, or for one source
pub record RoundModel : Type 0 where
  pub facts : Facts
  pub object : Option ObjectModel
  pub has_room : Bool

-- where k sources brought archives, the object is there
abbrev pub HasObject : ℕ → RoundModel → Type 0
HasObject k round = length round.facts.sources ≡ k → IsThere round.facts.archives round.object

-- a round that has handed out nothing
abbrev pub no_facts : Facts
no_facts = record { asked = 0; answered = 0; lists = []; tried = []; sources = []; archives = []; gone = []; failed = []; misses = [] }

-- ---- the target

-- the greatest floor that was shown before the round, or in it by a listing
abbrev pub target_of : Option Floor → Facts → Option Floor
target_of from facts = highest_from from (flat_map (λ (one : ℕ × ListingModel). floors_in one.1) facts.lists)

-- whether it is greater than before the round, or there was none then
abbrev pub rises : Option Floor → Floor → Bool
rises None to = true
rises (Some from) to = is_above to from

-- ---- the candidates

-- the pairs of index and device that the listings show, ascending
abbrev pub candidates : PolicyModel → ℕ → Facts → List Target
candidates policy stamp facts = choices_in (policy.k + policy.m) stamp facts.lists

-- ---- fetches

-- the sources that answered or were given up
abbrev pub closed : Facts → List Target
closed facts = facts.sources ++ facts.gone ++ facts.failed

-- a source neither answered nor was given up
abbrev pub is_open : Facts → Target → Bool
is_open facts source = not (list_any (same_target source) (closed facts))

-- an archive of the index was brought, or is being fetched
abbrev pub is_taken : Facts → ℕ → Bool
is_taken facts index = list_any (has_index index) facts.sources || list_any (λ (source : Target). has_index index source && is_open facts source) facts.tried

-- a candidate that was not tried, of an index of which no archive was brought or is being fetched
abbrev pub is_free : Facts → Target → Bool
is_free facts source = not (list_any (same_target source) facts.tried) && not (is_taken facts source.index)

-- the first candidate of each of the least k indices, and then, for each that was lost, the least that is free
abbrev pub next_source : PolicyModel → List Target → Facts → Option Target
next_source policy choices facts = if nat_lt (length facts.tried) policy.k then slice_get (firsts choices) (length facts.tried) else find (is_free facts) choices

abbrev pub lost : Facts → ℕ
lost facts = length facts.gone + length facts.failed

-- ---- what a round does next

-- the target rose, and else the get ends
abbrev pub risen_or : Option Floor → Floor → RoundEnd → Going
risen_or from to ending = if rises from to then Keep (Rose from to) else End ending

-- the candidates ran out
abbrev pub ran_out : Option Floor → Floor → List Target → Going
ran_out from to (source ∷ others) = Keep (Gone source.device source.index)
ran_out from to [] = risen_or from to end.Unanswered

abbrev pub fetch_or : Option Floor → Floor → Facts → Option Target → Going
fetch_or from to facts (Some source) = Fetch to.stamp source
fetch_or from to facts None = if nat_lt (length (closed facts)) (length facts.tried) then Wait else ran_out from to facts.gone

-- there are candidates of k indices
abbrev pub fetch_going : PolicyModel → Option Floor → Floor → List Target → Facts → Going
fetch_going policy from to choices facts =
    if length facts.sources == policy.k then End (end.Found to.stamp)
    else if nat_lt (length facts.tried) (policy.k + lost facts) then fetch_or from to facts (next_source policy choices facts)
    else Wait

abbrev pub is_empty : {A : Type 0} → List A → Bool
is_empty [] = true
is_empty (x ∷ xs) = false

-- there are candidates of fewer
abbrev pub few_going : Option Floor → Floor → ℕ → Facts → Going
few_going from to have facts = risen_or from to (if is_empty facts.misses then end.TooFew to.stamp have else end.Unanswered)

abbrev pub choices_going : PolicyModel → Option Floor → Floor → List Target → Facts → Going
choices_going policy from to choices facts =
    if nat_lt (length (firsts choices)) policy.k then few_going from to (length (firsts choices)) facts else fetch_going policy from to choices facts

abbrev pub target_going : PolicyModel → Option Floor → Floor → FloorKind → Facts → Going
target_going policy from to Tombstone facts = End (end.Buried to.stamp)
target_going policy from to Durable facts = choices_going policy from to (candidates policy to.stamp facts) facts

-- every device has answered or was given up
abbrev pub asked_going : PolicyModel → Option Floor → Option Floor → Facts → Going
asked_going policy from None facts = End (if nat_lt (length facts.misses) policy.c then end.Absent else end.Unanswered)
asked_going policy from (Some to) facts = target_going policy from to to.kind facts

-- no primary is asked before every handoff has answered or was given up
abbrev pub ask_or : PolicyModel → Devices → Option Floor → Facts → Option ℕ → Going
ask_or policy devices from facts (Some device) =
    if not (nat_lt facts.asked (length devices.handoffs)) && nat_lt facts.answered (length devices.handoffs) then Wait else Ask device
ask_or policy devices from facts None = if nat_lt facts.answered facts.asked then Wait else asked_going policy from (target_of from facts) facts

-- what a round does next, by the greatest floor before it and what it knows
abbrev pub round_going : PolicyModel → Devices → Option Floor → Facts → Going
round_going policy devices from facts = ask_or policy devices from facts (slice_get (all_devices devices) facts.asked)
