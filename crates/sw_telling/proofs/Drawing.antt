-- A draw of a link that tells: it has learnt the put or the delete, and its book is sound still.
use Rattle.std.proofs.Common.{◌≡◌, ◌⊎◌, inl, inr, ⊎_elim, ℕ, ◌<◌, ◌≤◌, Bool, true, false, Contains, List, [], ◌∷◌, Option, Some, None, refl, sym, subst, arith}
use Rattle.std.specs.Prelude.{IfSome}
use Rattle.std.proofs.lemmas.List.{map-append}
use Rattle.std.proofs.lemmas.List.Elements.{Contains-append_cases, Contains-append_left, Contains-append_right, Contains-push, Contains-push_cases}
use Rattle.sw_types.specs.Name.{NameModel, name_fault}
use Rattle.sw_types.specs.Object.{IsObject, ObjectModel}
use Rattle.sw_types.specs.Stamp.{greatest_stamp}
use Rattle.sw_message.specs.Learnt.{Booked, Keeps, Learnt, Marked}
use Rattle.sw_message.specs.Running.{Draws, LearnsOwn, StillTells}
use Rattle.sw_message.specs.Soundly.{is_sound_learnt, stamps_of, stamps_of_book, stamps_of_marks}
use Rattle.sw_message.proofs.Soundly.{learnt-more_deletes, learnt-more_puts}
use Rattle.sw_sim_nodes.specs.Nodes.{devices_of}
use Rattle.sw_law_scene.specs.Disks.{Sure}
use Rattle.sw_law_scene.specs.Filed.{AreFiled, FoldersFiled}
use Rattle.sw_law_scene.specs.Moves.{next_stamp}
use Rattle.sw_law_scene.specs.Sound.{IsDrawn}
use Rattle.sw_law_scene.proofs.Knowledge.{disk_kept}
use Rattle.sw_telling.specs.Telling.{IsTelling, Tells, TellingModel, learnt_by, with_own}
use Rattle.sw_telling.proofs.Tells.{silent_none, still_by, tells_all}

-- a stamp that was drawn is before the next one, which is drawn then
below_next : (clock : ℕ) (last : Option ℕ) (stamp : ℕ) → IsDrawn last stamp → stamp < next_stamp clock last
below_next clock None stamp drawn = absurd drawn
below_next clock (Some last) stamp drawn = omega arith

module _ (known : Learnt) (stamp : ℕ) (name : NameModel) where
  keeps_own : (object : Option ObjectModel) → Keeps known (with_own known stamp name object)
  keeps_own None = record { book = λ booked has. has; marks = λ marked has. Contains-append_left known.marks _ marked has; heard = λ heard has. has }
  keeps_own (Some object) = record { book = λ booked has. Contains-append_left known.book _ booked has; marks = λ marked has. has; heard = λ heard has. has }

  -- the stamps after it are those before, and its own
  stamps_after : (object : Option ObjectModel) (other : ℕ) → Contains (stamps_of (with_own known stamp name object)) other → (stamp ≡ other) ⊎ Contains (stamps_of known) other
  stamps_after None other has = ⊎_elim
      (λ left. inr (Contains-append_left (stamps_of_book known.book) (stamps_of_marks known.marks) other left))
      (λ right. ⊎_elim (λ old. inr (Contains-append_right (stamps_of_book known.book) (stamps_of_marks known.marks) other old)) (λ same. inl same)
      (Contains-push_cases (stamps_of_marks known.marks) stamp other (subst (λ (stamps : List ℕ). Contains stamps other) (map-append (λ (one : Marked). one.stamp) known.marks (record { stamp = stamp; name = name } ∷ [])) right)))
      (Contains-append_cases (stamps_of_book known.book) (stamps_of_marks (with_own known stamp name None).marks) other has)
  stamps_after (Some object) other has = ⊎_elim
      (λ left. ⊎_elim (λ old. inr (Contains-append_left (stamps_of_book known.book) (stamps_of_marks known.marks) other old)) (λ same. inl same)
      (Contains-push_cases (stamps_of_book known.book) stamp other (subst (λ (stamps : List ℕ). Contains stamps other) (map-append (λ (one : Booked). one.stamp) known.book (record { stamp = stamp; name = name; object = object } ∷ [])) left)))
      (λ right. inr (Contains-append_right (stamps_of_book known.book) (stamps_of_marks known.marks) other right))
      (Contains-append_cases (stamps_of_book (with_own known stamp name (Some object)).book) (stamps_of_marks known.marks) other has)

  learns_own : (object : Option ObjectModel) → LearnsOwn (with_own known stamp name object) name object stamp
  learns_own None = Contains-push known.marks _
  learns_own (Some object) = Contains-push known.book _

module _ (before : TellingModel) (was : IsTelling before) (name : NameModel) (named : name_fault name ≡ None)
    (stamp : ℕ) (stamp_is : stamp ≡ next_stamp before.clock before.last) (bound : stamp ≤ greatest_stamp) where
  -- a stamp that was drawn is before it
  below : (other : ℕ) → IsDrawn before.last other → other < stamp
  below other drawn = rw stamp_is (below_next before.clock before.last other drawn)

  module _ (tells : Tells before) where
    sound_after : (object : Option ObjectModel) → IfSome object IsObject → is_sound_learnt before.nodes.cluster.policy (with_own before.known stamp name object) ≡ true
    sound_after None is_object = learnt-more_deletes before.nodes.cluster.policy before.known tells.sound (record { stamp = stamp; name = name }) (λ other has. below other (tells.drawn other has))
    sound_after (Some object) is_object = learnt-more_puts before.nodes.cluster.policy before.known tells.sound (record { stamp = stamp; name = name; object = object })
        (record { policy_rules = was.rules.policy; stamp_bound = bound; name_rules = named; object_rules = is_object })
        (λ other has. below other (tells.drawn other has))

    drawn_after : (object : Option ObjectModel) (other : ℕ) → Contains (stamps_of (with_own before.known stamp name object)) other → other ≤ stamp
    drawn_after object other has = ⊎_elim
        (λ same. omega (arith, same))
        (λ old. let less = below other (tells.drawn other old) in omega (arith, less))
        (stamps_after before.known stamp name object other has)

    filed_with : (known : Learnt) → Keeps before.known known → AreFiled before.nodes.cluster known.book (devices_of before.nodes.nodes)
    filed_with known keeps = λ device.
        disk_kept before.nodes.cluster before.known known keeps (Sure (devices_of before.nodes.nodes device))
        (λ side is. subst (FoldersFiled before.nodes.cluster before.known.book) (sym is) (tells.filed device))
        (devices_of before.nodes.nodes device) refl

  module _ (object : Option ObjectModel) (is_object : IfSome object IsObject) (known' : Learnt) (is_silent' : Bool)
      (goes : is_silent' ≡ false → (before.is_silent ≡ false) × (known' ≡ with_own before.known stamp name object)) where
    abbrev after : TellingModel
    after = record before { last = Some stamp; known = known'; is_silent = is_silent' }

    keeps : is_silent' ≡ false → Keeps before.known known'
    keeps silent = subst (Keeps before.known) (sym (goes silent).1) (keeps_own before.known stamp name object)

    tells_after : is_silent' ≡ false → Tells after
    tells_after silent =
        let tells = was.tells (goes silent).0 in
        let same = (goes silent).1 in
        record {
          goes_on = tells.goes_on;
          sound = rw same (sound_after tells object is_object);
          drawn = λ other has. drawn_after tells object other (subst (λ (known : Learnt). Contains (stamps_of known) other) same has);
          filed = filed_with tells known' (keeps silent);
        }

    after_draw : IsTelling after
    after_draw = record { rules = was.rules; tells = tells_after }

    still_after : StillTells (is_silent' ≡ true) (learnt_by before) (learnt_by after)
    still_after = still_by before after was after_draw (λ silent. ((goes silent).0, keeps silent))

    learns_after : Draws (learnt_by after) name object stamp
    learns_after = by_case is_silent' refl
      where
        by_case : (b : Bool) → is_silent' ≡ b → Draws (learnt_by after) name object stamp
        by_case true silent = rw (silent_none after silent) tt
        by_case false silent = rw (tells_all after after_draw silent, (goes silent).1) (learns_own before.known stamp name object)

  -- ---- what holds after it

  module _ (object : Option ObjectModel) (is_object : IfSome object IsObject) (after : TellingModel) (after_is : after ≡ record before { last = Some stamp; known = after.known; is_silent = after.is_silent })
      (goes : after.is_silent ≡ false → (before.is_silent ≡ false) × (after.known ≡ with_own before.known stamp name object)) where
    pub is_telling : IsTelling after
    is_telling = subst IsTelling (sym after_is) (after_draw object is_object after.known after.is_silent goes)

    pub still_tells : StillTells (after.is_silent ≡ true) (learnt_by before) (learnt_by after)
    still_tells = subst (λ (one : TellingModel). StillTells (after.is_silent ≡ true) (learnt_by before) (learnt_by one)) (sym after_is) (still_after object is_object after.known after.is_silent goes)

    pub learns : Draws (learnt_by after) name object stamp
    learns = subst (λ (one : TellingModel). Draws (learnt_by one) name object stamp) (sym after_is) (learns_after object is_object after.known after.is_silent goes)
