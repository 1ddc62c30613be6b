-- Moves of a scene in which no reply is made.
use Rattle.std.proofs.Common.{◌≡◌, ◌⊎◌, inl, inr, ⊎_elim, ℕ, ◌+◌, ◌≤◌, List, [], ◌∷◌, Option, Some, refl, arith}
use Rattle.std.proofs.lemmas.List.Elements.{Contains-append_cases, Contains-append_left, Contains-push}
use Rattle.sw_types.specs.Name.{NameModel}
use Rattle.sw_types.specs.Object.{ObjectModel}
use Rattle.sw_types.specs.Stamp.{greatest_stamp}
use Rattle.sw_hashpath.specs.Place.{IsPlace, PlaceModel}
use Rattle.sw_diskfile.proofs.Lists.{mapped}
use Rattle.sw_message.specs.Message.{place_in}
use Rattle.sw_message.specs.declared.sent.Sent.{Sent}
use Rattle.sw_law_claim.specs.Claim.{Claim}
use Rattle.sw_law_scene.specs.Devices.{no_folders}
use Rattle.sw_law_scene.specs.Disks.{Sure}
use Rattle.sw_law_scene.specs.Moves.{books, lost, marks, requests_of, sends, ticked}
use Rattle.sw_law_scene.specs.Scene.{Answer, DeviceState, IsLostSince, Loss, Message, Request, Scene, StartedDelete, StartedPut, set_device}
use Rattle.sw_law_scene.specs.Sound.{IsSoundScene}
use Rattle.sw_law_owed.specs.Promise.{BearsAt, Borne, HandedOn, IsKept, Lost, Made, WasHandedOn, WasMade}
use Rattle.sw_law_kept.proofs.Devices.{set_bears}
use Rattle.sw_law_kept.proofs.Grown.{GoesOn, handed_still}
use Rattle.sw_law_owed.proofs.Kept.{DiskBears}
use Rattle.sw_law_kept.specs.Kept.{AreMarksStamped}
use Rattle.sw_law_kept.proofs.PromiseNews.{IsPromising, promising_on}
use Rattle.sw_law_owed.proofs.Replies.{made_before, made_place}
use Rattle.sw_law_kept.proofs.Warrants.{marks_stamped}

-- where no reply is new, and what was borne is kept, so are the promises
quiet : (before after : Scene) → GoesOn before after → ((made : Made) → WasMade after made → WasMade before made) → (AreMarksStamped before → AreMarksStamped after)
    → ((made : Made) (place : PlaceModel) (claim : Claim) → WasMade before made → place_in made.msg ≡ Some place → BearsAt before made.device place claim → IsKept after made place claim)
    → IsPromising before → IsPromising after
quiet before after goes replies marks kept = promising_on before after (λ made. ⊥) (record {
  goes = goes;
  replies = λ made was_made. inl (replies made was_made);
  time = λ made none. absurd none;
  last = λ made later none. absurd none;
  kept = kept;
  claimed = λ made place claim none. absurd none;
  listed = λ made later place claim listing none. absurd none;
  marks = marks;
  tombstones = λ made none. absurd none;
})

module _ (scene : Scene) where
  -- ---- without devices

  -- puts and deletes are noted, and time passes
  noted : (book : List StartedPut) (marks : List StartedDelete) (last : Option ℕ) (now : ℕ) → scene.now ≤ now → (AreMarksStamped scene → AreMarksStamped (record scene { marks = marks })) → IsPromising scene
      → IsPromising (record scene { book = book; marks = marks; last = last; now = now })
  noted book marks last now later stamped =
      quiet scene (record scene { book = book; marks = marks; last = last; now = now }) (record { cluster = refl; messages = λ messages has. has; losses = λ loss has. has; now = later })
      (λ made was_made. was_made) stamped (λ made place claim was_made there borne. Borne borne)

  pub ticked_promising : IsPromising scene → IsPromising (ticked scene)
  ticked_promising = noted scene.book scene.marks scene.last (scene.now + 1) (omega arith) (λ stamped. stamped)

  pub books_promising : (stamp : ℕ) (name : NameModel) (object : ObjectModel) → IsPromising scene → IsPromising (books stamp name object scene)
  books_promising stamp name object = noted (books stamp name object scene).book scene.marks (Some stamp) scene.now (omega arith) (λ stamped. stamped)

  pub marks_promising : (stamp : ℕ) (name : NameModel) → stamp ≤ greatest_stamp → IsPromising scene → IsPromising (marks stamp name scene)
  marks_promising stamp name fits = noted scene.book (marks stamp name scene).marks (Some stamp) scene.now (omega arith) (marks_stamped scene stamp name fits)

  -- requests are made
  pub sends_promising : (operation : ℕ) (sents : List Sent) → IsPromising scene → IsPromising (sends operation sents scene)
  sends_promising operation sents =
      quiet scene (sends operation sents scene) (record { cluster = refl; messages = λ messages has. Contains-append_left scene.messages more messages has; losses = λ loss has. has; now = omega arith })
      old (λ stamped. stamped) (λ made place claim was_made there borne. Borne borne)
    where
      more : List Message
      more = requests_of scene.now operation sents

      -- none of them is a reply
      old : (made : Made) → WasMade (sends operation sents scene) made → WasMade scene made
      old made (number, sent, there, device, msg) = ⊎_elim
          (λ before. (number, sent, before, device, msg))
          (λ new. let from = mapped (λ (one : Sent). Request scene.now operation one) sents (Answer made.at number sent made.reply) new in absurd (cc))
          (Contains-append_cases scene.messages more (Answer made.at number sent made.reply) there)

  -- ---- with one device

  module _ (sound : IsSoundScene scene) (device : ℕ) where
    -- the device has another disk, that bears what the one before did, or the duty was handed on
    pub set_promising : (state : DeviceState)
        → ((place : PlaceModel) (claim : Claim) → IsPlace scene.cluster.part_power place → BearsAt scene device place claim → DiskBears scene.cluster device place claim state.disk ⊎ WasHandedOn scene device place claim scene.now)
        → IsPromising scene → IsPromising (ticked (set_device device state scene))
    set_promising state itself =
        let after = ticked (set_device device state scene) in
        let goes : GoesOn scene after = record { cluster = refl; messages = λ messages has. has; losses = λ loss has. has; now = omega arith } in
        quiet scene after goes (λ made was_made. was_made) (λ stamped. stamped) (λ made place claim was_made there borne. ⊎_elim
        (λ bears. Borne bears)
        (λ handed. HandedOn (handed_still scene after goes made.device place claim scene.now after.now (omega arith) handed))
        (set_bears scene device state place claim (λ (other : ℕ). WasHandedOn scene other place claim scene.now) (itself place claim (made_place scene sound made was_made place there)) made.device borne))

    -- its disk is lost
    pub lost_promising : IsPromising scene → IsPromising (lost device scene)
    lost_promising =
        let loss : Loss = record { device = device; step = scene.now } in
        quiet scene (lost device scene) (record { cluster = refl; messages = λ messages has. has; losses = λ one has. Contains-append_left scene.losses (loss ∷ []) one has; now = omega arith })
        (λ made was_made. was_made) (λ stamped. stamped) (λ made place claim was_made there borne. ⊎_elim
        (λ bears. Borne bears)
        (λ gone. Lost gone)
        (set_bears scene device (record (scene.devices device) { disk = Sure no_folders }) place claim (λ (other : ℕ). IsLostSince (lost device scene) other made.at)
        (λ bears. inr (loss, Contains-push scene.losses loss, refl, omega (arith, made_before scene sound made was_made))) made.device borne))
