-- Moves of a scene in which a device replies.
use Rattle.std.proofs.Common.{◌≡◌, ◌⊎◌, inl, inr, ⊎_elim, ℕ, ◌<◌, [], ◌∷◌, Some, refl, sym, ap, subst, ◌∙◌, arith}
use Rattle.std.proofs.lemmas.List.Elements.{Contains-append_left, Contains-push_cases}
use Rattle.sw_hashdir.specs.Listing.{ListingModel}
use Rattle.sw_hashpath.specs.Place.{IsPlace, PlaceModel}
use Rattle.sw_message.specs.Message.{is_primary, place_in}
use Rattle.sw_message.specs.Warrant.{HasListing}
use Rattle.sw_message.specs.declared.reply.Reply.{Reply}
use Rattle.sw_message.specs.declared.sent.Sent.{Sent}
use Rattle.sw_law_claim.specs.Claim.{Claim, Claims, IsListedIn}
use Rattle.sw_law_scene.specs.Moves.{replies}
use Rattle.sw_law_scene.specs.Scene.{Answer, DeviceState, Scene, set_device}
use Rattle.sw_law_scene.specs.Sound.{IsSoundScene}
use Rattle.sw_law_owed.specs.Promise.{BearsAt, Borne, HandedOn, IsClaimed, Made, WasHandedOn, WasMade}
use Rattle.sw_law_kept.proofs.Devices.{here_bears, set_bears}
use Rattle.sw_law_kept.proofs.Grown.{GoesOn, handed_still}
use Rattle.sw_law_owed.proofs.Kept.{DiskBears}
use Rattle.sw_law_kept.proofs.PromiseNews.{IsListingStamped, IsPromising, promising_on}
use Rattle.sw_law_owed.proofs.Replies.{made_before, made_place}

module _ (scene : Scene) (sound : IsSoundScene scene) (operation : ℕ) (sent : Sent) (given : Reply) (state : DeviceState) where
  -- the reply
  abbrev new : Made
  new = record { at = scene.now; device = sent.device; msg = sent.msg; reply = given }

  abbrev after : Scene
  after = replies operation sent given (set_device sent.device state scene)

  goes : GoesOn scene after
  goes = record { cluster = refl; messages = λ messages has. Contains-append_left scene.messages (Answer scene.now operation sent given ∷ []) messages has; losses = λ loss has. has; now = omega arith }

  -- a reply was made before, or it is the new one
  cases : (made : Made) → WasMade after made → WasMade scene made ⊎ (new ≡ made)
  cases made (number, other, there, device, msg) = ⊎_elim
      (λ old. inl (number, other, old, device, msg))
      (λ same.
      let times : scene.now ≡ made.at = cc in
      let sents : sent ≡ other = cc in
      let replied : given ≡ made.reply = cc in
      let devices : sent.device ≡ made.device = ap (λ (one : Sent). one.device) sents ∙ device in
      let messages : sent.msg ≡ made.msg = ap (λ (one : Sent). one.msg) sents ∙ msg in
      inr (λ i. record { at = times i; device = devices i; msg = messages i; reply = replied i }))
      (Contains-push_cases scene.messages (Answer scene.now operation sent given) (Answer made.at number other made.reply) there)

  -- none was made later
  none_later : (made later : Made) → new ≡ made → WasMade after later → made.at < later.at → ⊥
  none_later made later is was_made earlier = ⊎_elim
      (λ old. omega (arith, earlier, ap (λ (one : Made). one.at) is, made_before scene sound later old))
      (λ also. omega (arith, earlier, ap (λ (one : Made). one.at) is, ap (λ (one : Made). one.at) also))
      (cases later was_made)

  -- what was borne is borne by the new disk, or the duty was handed on; the new disk bears what the reply claims; a listing in it bears
  -- what was borne, and has stamps that there are
  pub replies_promising : ((place : PlaceModel) (claim : Claim) → IsPlace scene.cluster.part_power place → BearsAt scene sent.device place claim
      → DiskBears scene.cluster sent.device place claim state.disk ⊎ WasHandedOn scene sent.device place claim scene.now)
      → ((place : PlaceModel) (claim : Claim) → place_in sent.msg ≡ Some place → Claims (is_primary scene.cluster sent.device place) sent.msg given claim → DiskBears scene.cluster sent.device place claim state.disk)
      → ((place : PlaceModel) (claim : Claim) (listing : ListingModel) → place_in sent.msg ≡ Some place → HasListing given listing → BearsAt scene sent.device place claim
      → IsListedIn (is_primary scene.cluster sent.device place) claim listing)
      → IsListingStamped new → IsPromising scene → IsPromising after
  replies_promising itself claims lists stamped = promising_on scene after (λ made. new ≡ made) (record {
    goes = goes;
    replies = cases;
    time = λ made is. sym (ap (λ (one : Made). one.at) is);
    last = none_later;
    kept = λ made place claim was_made there borne. ⊎_elim
        (λ bears. Borne bears)
        (λ handed. HandedOn (handed_still scene after goes made.device place claim scene.now after.now (omega arith) handed))
        (set_bears scene sent.device state place claim (λ (other : ℕ). WasHandedOn scene other place claim scene.now) (itself place claim (made_place scene sound made was_made place there)) made.device borne);
    claimed = λ made place claim is. subst (λ (one : Made). IsClaimed after one place claim → BearsAt after one.device place claim) is
        (λ claimed. here_bears scene sent.device state place claim (claims place claim claimed.there claimed.claims));
    listed = λ made later place claim listing is. subst
        (λ (one : Made). one.device ≡ made.device → place_in one.msg ≡ Some place → HasListing one.reply listing → BearsAt scene made.device place claim → IsListedIn (is_primary scene.cluster made.device place) claim listing) is
        (λ device there has. subst (λ (d : ℕ). BearsAt scene d place claim → IsListedIn (is_primary scene.cluster d place) claim listing) device (lists place claim listing there has));
    marks = λ marks. marks;
    tombstones = λ made is. subst IsListingStamped is stamped;
  })
