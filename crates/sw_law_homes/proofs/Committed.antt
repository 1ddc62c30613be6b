-- Where fewer devices are out than fragments were made durable, a floor of that stamp is heard, or one above it.
use Rattle.std.proofs.Common.{inl, inr, ⊎_elim, ℕ, ◌<◌, All, Contains, List, length, refl, sym, subst, arith}
use Rattle.std.proofs.lemmas.List.Elements.{All-contains}
use Rattle.std.specs.List.{slice_index_or}
use Rattle.sw_hashpath.specs.Place.{IsPlace, PlaceModel}
use Rattle.sw_message.specs.Floors.{durable_at}
use Rattle.sw_message.specs.Warrant.{IsHome}
use Rattle.sw_message.specs.declared.message.Msg.TheVariants as message
use Rattle.sw_message.specs.declared.reply.Reply.TheVariants as reply
use Rattle.sw_message.specs.declared.target.Target.{Target}
use Rattle.sw_law_claim.specs.Claim.{ADurableEntry}
use Rattle.sw_law_scene.specs.Scene.{Scene, StartedPut}
use Rattle.sw_law_scene.specs.Sound.{IsSoundScene}
use Rattle.sw_law_owed.specs.Promise.{KeepsPromises}
use Rattle.sw_law_owed.proofs.Claimed.{change_claimed}
use Rattle.sw_law_owed.specs.Decided.{AreApart, IsMessageBy, KeepsStamps}
use Rattle.sw_law_homes.specs.Homes.{AreHeard, IsFloorHeard, IsUntouched, Reaches, Shown, WasCommitted}
use Rattle.sw_law_homes.proofs.Counting.{homes}
use Rattle.sw_law_owed.proofs.Dates.{asked_by, from_put, put_from}
use Rattle.sw_law_homes.proofs.Floors.{above_in, durable_in}
use Rattle.sw_law_homes.proofs.Heard.{IsBorne, borne}

-- what bears a durable entry shows such a floor
floor_heard : (out : List ℕ) (heard : List Shown) (stamp index : ℕ) → IsBorne out heard stamp (ADurableEntry index) → IsFloorHeard heard (Reaches (durable_at stamp))
floor_heard out heard stamp index is = ⊎_elim
    (λ entry. (is.shown, is.has, durable_at stamp, durable_in is.shown.listing stamp index entry, inl refl))
    (λ above. (is.shown, is.has, above.0, above_in is.shown.listing stamp above.0 above.1, inr above.1.0))
    is.lists

-- a fragment that was made durable and is untouched is heard of
target_heard : (scene : Scene) (place : PlaceModel) (since : ℕ) (out : List ℕ) (heard : List Shown) (put : StartedPut) (target : Target) → IsSoundScene scene → KeepsPromises scene → KeepsStamps scene → IsPlace scene.cluster.part_power place
    → Contains scene.book put → AreHeard scene place put.start since out heard → WasCommitted scene place put.booked.stamp since target → IsHome scene.cluster place target → IsUntouched scene.cluster place out target
    → IsBorne out heard put.booked.stamp (ADurableEntry target.index)
target_heard scene place since out heard put target sound promises stamps is_place has are (made, was_made, before, device, msg, reply_is) home untouched =
    let stamp = put.booked.stamp in
    let from = put_from scene stamps put has in
    let asked = asked_by scene sound stamps made was_made in
    let by = subst (IsMessageBy scene asked.0) msg asked.2 in
    let after = from_put scene stamp put.start from place stamp asked.0 (omega arith) by.put in
    borne scene promises place put.start since out heard are sound stamps is_place stamp from target.index (ADurableEntry target.index) (λ listing lists. lists) (λ other same. same) made
    (change_claimed scene made place (record { stamp = stamp; what = ADurableEntry target.index }) (message.Commit place stamp target.index) reply.Committed was_made msg reply_is refl refl)
    (omega (arith, after, asked.1)) before
    (subst (λ d. IsHome scene.cluster place (record { index = target.index; device = d })) (sym device) home)
    (subst (λ d. IsUntouched scene.cluster place out (record { index = target.index; device = d })) (sym device) untouched)

-- some fragment is untouched, so it is heard of
pub committed : (scene : Scene) (place : PlaceModel) (since : ℕ) (out : List ℕ) (heard : List Shown) (put : StartedPut) (targets : List Target)
    → IsSoundScene scene → KeepsPromises scene → KeepsStamps scene → IsPlace scene.cluster.part_power place → Contains scene.book put → AreHeard scene place put.start since out heard
    → AreApart scene.cluster place targets → All (WasCommitted scene place put.booked.stamp since) targets → length out < length targets → IsFloorHeard heard (Reaches (durable_at put.booked.stamp))
committed scene place since out heard put targets sound promises stamps is_place has are apart were fewer =
    let some = homes scene.cluster place out targets sound.rules is_place apart in
    let nobody : Target = record { index = 0; device = 0 } in
    let target : Target = slice_index_or some.left 0 nobody in
    let within : 0 < length some.left = omega (arith, some.many, fewer) in
    floor_heard out heard put.booked.stamp target.index (target_heard scene place since out heard put target sound promises stamps is_place has are
    (All-contains (WasCommitted scene place put.booked.stamp since) targets target were (some.some 0 nobody within)) (some.apart.homes 0 nobody within) (some.untouched 0 nobody within))
