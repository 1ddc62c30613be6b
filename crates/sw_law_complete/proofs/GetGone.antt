-- What a round of a get lists is what devices have, so that no archive is gone, where each answer is a true reply.
use Rattle.std.proofs.Common.{◌≡◌, ℕ, Contains, List, [], ◌∷◌, refl}
use Rattle.sw_types.specs.Name.{NameModel}
use Rattle.sw_hashpath.specs.Place.{PlaceModel}
use Rattle.sw_hashdir.specs.Listing.{ListingModel}
use Rattle.sw_message.specs.Transcript.{IsRun, Step}
use Rattle.sw_gather.proofs.Lists.{All-contains, here}
use Rattle.sw_get.specs.Get.{AreTurns, Begun, IsBegun, IsNext, Turn, facts_in, from_in, place_of}
use Rattle.sw_get.proofs.Runs.{IsGoneOf, all_kept}
use Rattle.sw_get.proofs.Shown.{IsTold, all_told, parts}
use Rattle.sw_get.proofs.Turns.{all, now}
use Rattle.sw_law_scene.specs.Scene.{Scene}
use Rattle.sw_law_steady.proofs.Listings.{listed}
use Rattle.sw_law_complete.proofs.GetReplies.{AreTrue}
use Rattle.sw_law_complete.proofs.GetThere.{IsListedAt, get_of, gone_unlisted, held_true}

nil_from_none : {A : Type 0} (xs : List A) → ((x : A) → Contains xs x → ⊥) → xs ≡ []
nil_from_none [] none = refl
nil_from_none (x ∷ xs) none = absurd (none x (here x xs))

module _ (scene : Scene) (name : NameModel) (valid : IsBegun (get_of scene name)) where
  abbrev get : Begun
  get = get_of scene name

  abbrev place : PlaceModel
  place = place_of get

  module _ (past : List Step) (run : IsRun (IsNext get) past) (truly : AreTrue scene place past) (turns : List Turn) (are : AreTurns get past turns) where
    -- what the round knows that a device lists is what it has
    listed_there : (device : ℕ) (listing : ListingModel) → Contains (facts_in get turns).lists (device, listing) → IsListedAt scene name past truly device listing
    listed_there device listing has =
        let told_now = (parts (IsTold get past) (all get turns) turns (all_told get past turns are)).0 in
        let is = listed get valid past run device listing (now get turns) told_now has in
        held_true scene name past truly is.ticket device listing is.told

    -- no source lacks its archive
    pub none_gone : (facts_in get turns).gone ≡ []
    none_gone = nil_from_none (facts_in get turns).gone (λ source has.
        let keeps = all_kept get valid past run turns are in
        let is = All-contains (IsGoneOf get past (from_in get turns) (facts_in get turns)) (facts_in get turns).gone source keeps.gone_told has in
        let lists = is.2 in
        gone_unlisted scene name past truly is.3 is.0.stamp source is.4 lists.listing lists.durable is.5 (listed_there source.device lists.listing lists.listed) lists.entry)
