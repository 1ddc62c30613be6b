-- Moves of a scene in which nothing is started or asked: time passes, a device has another disk, or replies.
use Rattle.std.proofs.Common.{◌≡◌, ◌⊎◌, inl, inr, ⊎_elim, ℕ, ◌+◌, ◌==◌, Bool, true, false, List, [], ◌∷◌, ◌++◌, Some, refl, ap, subst, ◌∙◌, arith}
use Rattle.std.specs.Prelude.{if◌then◌else◌}
use Rattle.std.proofs.lemmas.List.Elements.{Contains-append_left, Contains-push_cases}
use Rattle.sw_hashpath.specs.Place.{PlaceModel}
use Rattle.sw_message.specs.Message.{place_in}
use Rattle.sw_message.specs.declared.reply.Reply.{Reply}
use Rattle.sw_message.specs.declared.sent.Sent.{Sent}
use Rattle.sw_law_scene.specs.Moves.{replies, ticked}
use Rattle.sw_law_scene.specs.Scene.{Answer, DeviceState, Loss, Scene, set_device, with_device}
use Rattle.sw_law_owed.specs.Promise.{Made, WasMade}
use Rattle.sw_law_owed.specs.Decided.{IsReplyBy}
use Rattle.sw_law_owed.proofs.Draws.{still_rise}
use Rattle.sw_law_owed.proofs.Held.{DiskNames}
use Rattle.sw_law_kept.proofs.StampNews.{IsKeeping, keeping_on}

module _ (scene : Scene) (keeping : IsKeeping scene) where
  -- whatever a device's disk may hold has names that are by now
  abbrev pub HasNames : DeviceState → Type 0
  HasNames state = DiskNames scene scene.now state.disk

  -- ---- without a reply

  -- devices, losses and time change alone
  passes : (devices : ℕ → DeviceState) (losses : List Loss) → ((device : ℕ) → HasNames (devices device)) → IsKeeping (record scene { devices = devices; losses = losses; now = scene.now + 1 })
  passes devices losses names = keeping_on scene (record scene { devices = devices; losses = losses; now = scene.now + 1 }) (record {
    goes = record { cluster = refl; messages = λ messages has. has; book = λ put has. has; marks = λ delete has. has; now = omega arith };
    rise = still_rise scene _ refl (omega arith) keeping.keeps.rise;
    disks = names;
    replies = λ made place was_made there. inl was_made;
    requests = λ at operation sent has. inl has;
    marks = keeping.marks;
  }) keeping.keeps

  -- nothing else happens
  pub ticked_keeping : IsKeeping (ticked scene)
  ticked_keeping = passes scene.devices scene.losses keeping.keeps.disks

  -- ---- with one device

  chosen : (b : Bool) (one other : DeviceState) → HasNames one → HasNames other → HasNames (if b then one else other)
  chosen true one other first second = first
  chosen false one other first second = second

  module _ (device : ℕ) (state : DeviceState) (names : HasNames state) where
    all_names : (other : ℕ) → HasNames (with_device device state scene.devices other)
    all_names other = chosen (other == device) state (scene.devices other) names (keeping.keeps.disks other)

    -- it has another disk
    pub set_keeping : IsKeeping (ticked (set_device device state scene))
    set_keeping = passes (with_device device state scene.devices) scene.losses all_names

    -- and a loss is noted
    pub lost_keeping : (loss : Loss) → IsKeeping (ticked (record (set_device device state scene) { losses = scene.losses ++ loss ∷ [] }))
    lost_keeping loss = passes (with_device device state scene.devices) (scene.losses ++ loss ∷ []) all_names

  -- ---- with a reply

  module _ (operation : ℕ) (sent : Sent) (given : Reply) (state : DeviceState) (names : HasNames state) (shows : (place : PlaceModel) → place_in sent.msg ≡ Some place → IsReplyBy scene place scene.now given) where
    abbrev after : Scene
    after = replies operation sent given (set_device sent.device state scene)

    -- a reply was made before, or it is the new one
    cases : (made : Made) (place : PlaceModel) → WasMade after made → place_in made.msg ≡ Some place → WasMade scene made ⊎ IsReplyBy scene place made.at made.reply
    cases made place (number, other, there, device, msg) about = ⊎_elim
        (λ old. inl (number, other, old, device, msg))
        (λ same.
        let times : scene.now ≡ made.at = cc in
        let sents : sent ≡ other = cc in
        let replied : given ≡ made.reply = cc in
        let here = shows place (ap (λ (one : Sent). place_in one.msg) sents ∙ ap place_in msg ∙ about) in
        inr (subst (λ (at : ℕ). IsReplyBy scene place at made.reply) times (subst (IsReplyBy scene place scene.now) replied here)))
        (Contains-push_cases scene.messages (Answer scene.now operation sent given) (Answer made.at number other made.reply) there)

    -- the device has another disk, and replies
    pub replies_keeping : IsKeeping after
    replies_keeping = keeping_on scene after (record {
      goes = record { cluster = refl; messages = λ messages has. Contains-append_left scene.messages (Answer scene.now operation sent given ∷ []) messages has; book = λ put has. has; marks = λ delete has. has; now = omega arith };
      rise = still_rise scene after refl (omega arith) keeping.keeps.rise;
      disks = all_names sent.device state names;
      replies = cases;
      requests = λ at number request has. ⊎_elim (λ old. inl old) (λ same. absurd (cc)) (Contains-push_cases scene.messages (Answer scene.now operation sent given) _ has);
      marks = keeping.marks;
    }) keeping.keeps
