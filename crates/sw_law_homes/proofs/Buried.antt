-- Where fewer devices are out than had a tombstone, a floor of that tombstone is heard, or one above it.
use Rattle.std.proofs.Common.{◌≡◌, ◌≢◌, inl, inr, ⊎_elim, ℕ, ◌==◌, ◌<◌, Bool, true, not, All, AllPairs, Contains, List, length, refl, sym, subst, ◌∙◌, arith}
use Rattle.std.specs.List.{slice_index_or}
use Rattle.std.proofs.lemmas.Bool.{eq-eqb, eqb-true}
use Rattle.std.proofs.lemmas.List.Elements.{All-filter, filter_passes}
use Rattle.sw_hashpath.specs.Place.{IsPlace, PlaceModel}
use Rattle.sw_message.specs.Floors.{tombstone_floor}
use Rattle.sw_message.specs.Message.{IsMember}
use Rattle.sw_message.specs.declared.message.Msg.TheVariants as message
use Rattle.sw_message.specs.declared.reply.Reply.TheVariants as reply
use Rattle.sw_law_claim.specs.Claim.{ATombstone, Claim}
use Rattle.sw_law_scene.specs.Scene.{Scene, StartedDelete}
use Rattle.sw_law_scene.specs.Sound.{IsSoundScene}
use Rattle.sw_law_owed.specs.Promise.{KeepsPromises}
use Rattle.sw_law_owed.proofs.Claimed.{change_claimed}
use Rattle.sw_law_owed.specs.Decided.{IsMessageBy, KeepsStamps}
use Rattle.sw_law_homes.specs.Homes.{AreHeard, IsFloorHeard, Reaches, Shown, WasBuried}
use Rattle.sw_law_owed.proofs.Dates.{asked_by, delete_from, from_delete}
use Rattle.sw_law_homes.proofs.Fewer.{fewer_left, is_touched, left_by, untouched}
use Rattle.sw_law_homes.proofs.Floors.{above_in, tombstone_in}
use Rattle.sw_law_homes.proofs.Heard.{IsBorne, heard_of}

-- what bears a tombstone shows such a floor
floor_heard : (out : List ℕ) (heard : List Shown) (stamp : ℕ) → IsBorne out heard stamp ATombstone → IsFloorHeard heard (Reaches (tombstone_floor stamp))
floor_heard out heard stamp is = ⊎_elim
    (λ buried. (is.shown, is.has, tombstone_floor stamp, tombstone_in is.shown.listing stamp buried, inl refl))
    (λ above. (is.shown, is.has, above.0, above_in is.shown.listing stamp above.0 above.1, inr above.1.0))
    is.lists

-- a tombstone of a device that is not out is heard of
device_heard : (scene : Scene) (place : PlaceModel) (since : ℕ) (out : List ℕ) (heard : List Shown) (delete : StartedDelete) (device : ℕ) → IsSoundScene scene → KeepsPromises scene → KeepsStamps scene
    → Contains scene.marks delete → AreHeard scene place delete.start since out heard → IsMember scene.cluster device → WasBuried scene place delete.marked.stamp since device → (Contains out device → ⊥)
    → IsBorne out heard delete.marked.stamp ATombstone
device_heard scene place since out heard delete device sound promises stamps has are member (made, was_made, before, same, msg, answer) clear =
    let stamp = delete.marked.stamp in
    let claim : Claim = record { stamp = stamp; what = ATombstone } in
    let from = delete_from scene stamps delete has in
    let asked = asked_by scene sound stamps made was_made in
    let by = subst (IsMessageBy scene asked.0) msg asked.2 in
    let after = from_delete scene stamp delete.start from place stamp asked.0 (omega arith) by in
    let own = are.each device member clear in
    heard_of scene promises place delete.start since out heard are made claim
    (change_claimed scene made place claim (message.Delete place stamp) (reply.Deleted answer.0) was_made msg answer.1 refl refl)
    (omega (arith, after, asked.1)) (λ is. clear (subst (Contains out) same is)) own.0 own.1 (own.2 ∙ sym same) (omega (arith, before, are.not_before own.0 own.1)) ATombstone (λ listing lists. lists)
    (λ handed. absurd handed.entry)

-- each device is itself alone
abbrev is_same : ℕ → ℕ → Bool
is_same device other = other == device

-- so it touches one of different devices at most
once : (devices : List ℕ) → AllPairs (λ one other. one ≢ other) devices → (device : ℕ) → AllPairs (λ one other. is_same device one ≡ true → is_same device other ≡ true → ⊥) devices
once devices apart device = λ i j d less within here there. apart i j d less within (eqb-true _ device here ∙ sym (eqb-true _ device there))

-- some device that had it is not out, so it is heard of
pub buried : (scene : Scene) (place : PlaceModel) (since : ℕ) (out : List ℕ) (heard : List Shown) (delete : StartedDelete) (devices : List ℕ)
    → IsSoundScene scene → KeepsPromises scene → KeepsStamps scene → IsPlace scene.cluster.part_power place → Contains scene.marks delete → AreHeard scene place delete.start since out heard
    → AllPairs (λ one other. one ≢ other) devices → All (IsMember scene.cluster) devices → All (WasBuried scene place delete.marked.stamp since) devices → length out < length devices
    → IsFloorHeard heard (Reaches (tombstone_floor delete.marked.stamp))
buried scene place since out heard delete devices sound promises stamps is_place has are apart members were fewer =
    let test : ℕ → Bool = λ device. not (is_touched is_same out device) in
    let device : ℕ = slice_index_or (left_by is_same out devices) 0 0 in
    let within : 0 < length (left_by is_same out devices) = omega (arith, fewer_left is_same out devices (once devices apart), fewer) in
    floor_heard out heard delete.marked.stamp (device_heard scene place since out heard delete device sound promises stamps has are
    (All-filter test (IsMember scene.cluster) devices members 0 0 within)
    (All-filter test (WasBuried scene place delete.marked.stamp since) devices were 0 0 within)
    (λ is. untouched is_same out device (filter_passes test devices 0 0 within) device is (eq-eqb device device refl)))
