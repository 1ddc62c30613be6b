-- Where at most q - k devices are out and nothing above a decided stamp is heard, k of its fragments are.
use Rattle.std.proofs.Common.{◌≡◌, ◌≢◌, inl, inr, ⊎_elim, ℕ, ◌+◌, ◌≤◌, true, All, AllPairs, Contains, List, [], ◌∷◌, length, refl, sym, subst, ◌∙◌, arith}
use Rattle.std.proofs.lemmas.List.Elements.{All-cons, All-contains, All-head, All-nil, All-tail, All-weaker}
use Rattle.std.proofs.lemmas.List.Kept.{AllPairs-cons}
use Rattle.sw_diskfile.proofs.Lists.{Contains-first, Contains-later, first_before, rest_ascend}
use Rattle.sw_hashdir.specs.Directory.{StandsAbove}
use Rattle.sw_hashdir.specs.Listing.{ListingModel}
use Rattle.sw_hashdir.specs.declared.floor.Floor.{Floor}
use Rattle.sw_hashpath.specs.Place.{IsPlace, PlaceModel}
use Rattle.sw_message.specs.Floors.{floors_in}
use Rattle.sw_message.specs.Warrant.{IsHome}
use Rattle.sw_message.specs.declared.message.Msg.TheVariants as message
use Rattle.sw_message.specs.declared.reply.Reply.TheVariants as reply
use Rattle.sw_message.specs.declared.target.Target.{Target}
use Rattle.sw_law_claim.specs.Claim.{ADurableEntry, AnEntry}
use Rattle.sw_law_scene.specs.Scene.{Scene, StartedPut}
use Rattle.sw_law_scene.specs.Sound.{IsSoundScene}
use Rattle.sw_law_owed.specs.Promise.{KeepsPromises}
use Rattle.sw_law_owed.proofs.Claimed.{change_claimed}
use Rattle.sw_law_owed.specs.Decided.{IsMessageBy, KeepsStamps, WasDecided, WasPut, WasStored}
use Rattle.sw_law_homes.specs.Homes.{AreHeard, IsListed, IsUntouched, Shown}
use Rattle.sw_law_homes.proofs.Counting.{homes}
use Rattle.sw_law_owed.proofs.Dates.{IsFrom, asked_by, from_put, put_from}
use Rattle.sw_law_homes.proofs.Floors.{above_in}
use Rattle.sw_law_homes.proofs.Heard.{IsBorne, Lists, borne}

-- ---- of each fragment

-- a device that is not out is heard to list an entry of the index
abbrev IsSeen : List ℕ → List Shown → (stamp index : ℕ) → Type 0
IsSeen out heard stamp index = (device : ℕ) × IsListed out heard stamp (record { index = index; device = device })

-- nothing above the stamp is heard
abbrev NoneAbove : List Shown → (stamp : ℕ) → Type 0
NoneAbove heard stamp = (shown : Shown) (floor : Floor) → Contains heard shown → Contains (floors_in shown.listing) floor → StandsAbove floor stamp → ⊥

-- so what bears the entry lists it
seen : (out : List ℕ) (heard : List Shown) (stamp index : ℕ) → NoneAbove heard stamp → IsBorne out heard stamp (AnEntry index) → IsSeen out heard stamp index
seen out heard stamp index none is = ⊎_elim
    (λ entry. (is.shown.device, (is.clear, (is.shown, is.has, refl, entry.0, entry.1))))
    (λ above. absurd (none is.shown above.0 is.has (above_in is.shown.listing stamp above.0 above.1) above.1.0))
    is.lists

-- a durable entry is an entry
durable_entry : (stamp index : ℕ) (listing : ListingModel) → Lists listing stamp (ADurableEntry index) → Lists listing stamp (AnEntry index)
durable_entry stamp index listing (inl durable) = inl (true, durable)
durable_entry stamp index listing (inr above) = inr above

-- the puts of the stamp were started at a step or later
abbrev PutsFrom : Scene → (stamp start : ℕ) → Type 0
PutsFrom scene stamp start = (put : StartedPut) → Contains scene.book put → put.booked.stamp ≡ stamp → start ≤ put.start

-- so is all that was drawn of the stamp or above, where there is a put of it
from_step : (scene : Scene) (place : PlaceModel) (start stamp by : ℕ) → KeepsStamps scene → PutsFrom scene stamp start → WasPut scene place stamp by → IsFrom scene stamp start
from_step scene place start stamp by stamps puts (put, has, same, at, before) = λ draw there least.
    omega (arith, puts put has same, put_from scene stamps put has draw there (omega (arith, same, least)))

-- a fragment that was stored and is untouched is heard of
target_heard : (scene : Scene) (place : PlaceModel) (start since stamp : ℕ) (out : List ℕ) (heard : List Shown) (target : Target) → IsSoundScene scene → KeepsPromises scene → KeepsStamps scene → IsPlace scene.cluster.part_power place
    → AreHeard scene place start since out heard → PutsFrom scene stamp start → WasStored scene place stamp since target → IsHome scene.cluster place target → IsUntouched scene.cluster place out target
    → IsBorne out heard stamp (AnEntry target.index)
target_heard scene place start since stamp out heard target sound promises stamps is_place are puts (made, was_made, before, device, bytes, msg, reply_is) home untouched =
    let asked = asked_by scene sound stamps made was_made in
    let by : WasPut scene place stamp asked.0 = subst (IsMessageBy scene asked.0) msg asked.2 in
    let from = from_step scene place start stamp asked.0 stamps puts by in
    let after = from_put scene stamp start from place stamp asked.0 (omega arith) by in
    borne scene promises place start since out heard are sound stamps is_place stamp from target.index (AnEntry target.index) (durable_entry stamp target.index) (λ other same. same) made
    (change_claimed scene made place (record { stamp = stamp; what = AnEntry target.index }) (message.PutFrag place stamp target.index bytes) reply.Synced was_made msg reply_is refl refl)
    (omega (arith, after, asked.1)) before
    (subst (λ d. IsHome scene.cluster place (record { index = target.index; device = d })) (sym device) home)
    (subst (λ d. IsUntouched scene.cluster place out (record { index = target.index; device = d })) (sym device) untouched)

-- ---- of all

-- as many fragments as these, of their indices, each heard of
record AreSeen (out : List ℕ) (heard : List Shown) (stamp : ℕ) (left : List Target) : Type 0 where
  targets : List Target
  many : length left ≤ length targets
  indices : AllPairs (λ one other. one.index ≢ other.index) targets
  of : All (λ target. (other : Target) × Contains left other × (other.index ≡ target.index)) targets
  listed : All (IsListed out heard stamp) targets

-- where each is heard of, so are as many
all_seen : (out : List ℕ) (heard : List Shown) (stamp : ℕ) (left : List Target) → AllPairs (λ one other. one.index ≢ other.index) left → All (λ target. IsSeen out heard stamp target.index) left → AreSeen out heard stamp left
all_seen out heard stamp [] apart each = record { targets = []; many = omega arith; indices = apart; of = All-nil _; listed = All-nil _ }
all_seen out heard stamp (target ∷ left) apart each =
    let later = all_seen out heard stamp left (rest_ascend (λ one other. one.index ≢ other.index) target left apart) (All-tail (λ one. IsSeen out heard stamp one.index) target left each) in
    let here : IsSeen out heard stamp target.index = All-head (λ one. IsSeen out heard stamp one.index) target left each in
    let new : Target = record { index = target.index; device = here.0 } in
    record {
      targets = new ∷ later.targets;
      many = omega (arith, later.many);
      indices = AllPairs-cons (λ one other. one.index ≢ other.index) new later.targets
          (All-weaker (λ one. (other : Target) × Contains left other × (other.index ≡ one.index)) (λ other. new.index ≢ other.index)
          (λ one from same. first_before (λ one other. one.index ≢ other.index) target left apart from.0 from.1 (same ∙ sym from.2)) later.targets later.of)
          later.indices;
      of = All-cons (λ one. (other : Target) × Contains (target ∷ left) other × (other.index ≡ one.index)) new later.targets (target, Contains-first target left, refl)
          (All-weaker (λ one. (other : Target) × Contains left other × (other.index ≡ one.index)) (λ one. (other : Target) × Contains (target ∷ left) other × (other.index ≡ one.index))
          (λ one from. (from.0, Contains-later target left from.0 from.1, from.2)) later.targets later.of);
      listed = All-cons (IsListed out heard stamp) new later.targets here.1 later.listed;
    }

-- of the fragments that decided the stamp enough are untouched, and heard of
pub decided : (scene : Scene) (place : PlaceModel) (start since stamp : ℕ) (out : List ℕ) (heard : List Shown)
    → IsSoundScene scene → KeepsPromises scene → KeepsStamps scene → IsPlace scene.cluster.part_power place → AreHeard scene place start since out heard
    → ((put : StartedPut) → Contains scene.book put → put.booked.stamp ≡ stamp → start ≤ put.start) → WasDecided scene place stamp since
    → ((shown : Shown) (floor : Floor) → Contains heard shown → Contains (floors_in shown.listing) floor → StandsAbove floor stamp → ⊥)
    → length out + scene.cluster.policy.k ≤ scene.cluster.policy.q
    → (targets : List Target) × (scene.cluster.policy.k ≤ length targets) × AllPairs (λ one other. one.index ≢ other.index) targets × All (IsListed out heard stamp) targets
decided scene place start since stamp out heard sound promises stamps is_place are puts was none few =
    let some = homes scene.cluster place out was.targets sound.rules is_place was.apart in
    let each : All (λ (target : Target). IsSeen out heard stamp target.index) some.left = λ i d within.
    seen out heard stamp _ none (target_heard scene place start since stamp out heard _ sound promises stamps is_place are puts
    (All-contains (WasStored scene place stamp since) was.targets _ was.stored (some.some i d within)) (some.apart.homes i d within) (some.untouched i d within)) in
    let found = all_seen out heard stamp some.left some.apart.indices each in
    (found.targets, omega (arith, found.many, some.many, was.enough, few), found.indices, found.listed)
