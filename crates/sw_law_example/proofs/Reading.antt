-- The rest of the run, world by world: device 1 loses its disk, and a get asks both devices, fetches from device 0 and finds the object.
use Rattle.std.proofs.Common.{◌≡◌, ⊎_elim, ℕ, Bool, true, false, List, [], ◌∷◌, refl, sym, ap, subst, arith}
use Rattle.sw_types.specs.Name.{NameModel}
use Rattle.sw_types.specs.Object.{ObjectModel}
use Rattle.sw_hashpath.specs.FileName.{IsFileName}
use Rattle.sw_hashpath.specs.declared.file_name.FileName.TheVariants.{Data}
use Rattle.sw_diskfile.proofs.Lists.{Contains-cases, Contains-none}
use Rattle.sw_archive.specs.Put.{IsPut}
use Rattle.sw_ring.proofs.Among.{Contains-from_among}
use Rattle.sw_message.specs.Message.{IsMember}
use Rattle.sw_message.specs.Step.{Folders}
use Rattle.sw_message.specs.Transcript.{Step}
use Rattle.sw_message.specs.declared.reply.Reply.TheVariants as reply
use Rattle.sw_get.specs.Get.{place_of}
use Rattle.sw_law_scene.specs.Devices.{no_folders}
use Rattle.sw_law_scene.specs.Disks.{Sure}
use Rattle.sw_law_scene.specs.Moves.{lost, sends}
use Rattle.sw_law_scene.specs.Scene.{Answer, Request, StartedPut, disk_of, empty_scene, is_up}
use Rattle.sw_core.specs.Event.{Deliver, Event, Get, Happens, Lose, Start, with_scene}
use Rattle.sw_operation.specs.Operating.{Get as GetBegun}
use Rattle.sw_core.specs.World.{Operating, World, first_clock}
use Rattle.sw_law_alone.specs.Alone.{Delivers, LeadsAlone}
use Rattle.sw_law_complete.specs.Complete.{AreReady, HasOwnPlace}
use Rattle.sw_law_complete.proofs.PutDevices.{put_archive_is}
use Rattle.sw_law_example.specs.Pair.{pair}
use Rattle.sw_law_example.proofs.Getting.{ask, asked, asks_first, asks_second, brought, bytes, fetch, fetched, fetches, get_begun, heard_both, heard_one, is_over, waits_for_archive, waits_for_both, waits_for_second}
use Rattle.sw_law_example.proofs.Pairs.{both}
use Rattle.sw_law_example.proofs.Putting.{committed_both}
use Rattle.sw_law_example.proofs.Serving.{lists_durable, lists_none, lists_nothing, lists_one, only, reads_it}
use Rattle.sw_law_example.proofs.Steps.{is_handled, is_taken, replied, taken}
use Rattle.sw_law_example.proofs.Writing.{kept, put_at, written}

-- the events once the get has started
abbrev pub read_by : List Event
read_by = Deliver 9 ∷ Deliver 10 ∷ Deliver 11 ∷ Deliver 12 ∷ Deliver 13 ∷ Deliver 14 ∷ []

-- what holds of both devices holds of each
pub of_both : (P : ℕ → Type 0) → P 0 → P 1 → (device : ℕ) → IsMember pair device → P device
of_both P first second device member = ⊎_elim
    (λ is. subst P is first)
    (λ other. ⊎_elim (λ is. subst P is second) (λ none. absurd (Contains-none device none)) (Contains-cases 1 [] device other))
    (Contains-cases 0 (1 ∷ []) device (Contains-from_among both device member))

pub ready_first : AreReady (empty_scene pair)
ready_first = record { up = of_both (λ device. is_up (empty_scene pair) device ≡ true) refl refl; sure = λ device member. (no_folders, refl) }

module _ (name : NameModel) (object : ObjectModel) where
  abbrev pub get_at : List Step → Bool → Operating
  get_at past is_over = record { begun = GetBegun (get_begun name object); start = 10; past = past; is_over = is_over }

  -- ---- the worlds

  -- the disk of device 1 is lost
  abbrev pub left : World
  left = with_scene (lost 1 (written name object).scene) (written name object)

  abbrev pub get_started : World
  get_started = record {
    scene = sends 2 (ask name object 0 ∷ ask name object 1 ∷ []) left.scene;
    clock = first_clock;
    operations = put_at name object (committed_both name object) true ∷ get_at (asked name object) false ∷ [];
  }

  abbrev listed_first : World
  listed_first = replied 2 (ask name object 0) (reply.Held (lists_one first_clock 0)) (kept name object 0 true) get_started

  abbrev listed_all : World
  listed_all = replied 2 (ask name object 1) (reply.Held lists_nothing) no_folders listed_first

  abbrev told_first : World
  told_first = taken 2 [] (get_at (heard_one name object) false) listed_all

  abbrev told_all : World
  told_all = taken 2 (fetch name object ∷ []) (get_at (fetched name object) false) told_first

  abbrev sent : World
  sent = replied 2 (fetch name object) (reply.Fragment (bytes name object)) (kept name object 0 true) told_all

  abbrev pub read : World
  read = taken 2 [] (get_at (brought name object) true) sent

  -- ---- the loss

  pub loses : Happens (Lose 1) (written name object) left
  loses = (left.scene, refl, refl)

  pub ready : AreReady left.scene
  ready = record {
    up = of_both (λ device. is_up left.scene device ≡ true) refl refl;
    sure = of_both (λ device. (folders : Folders) × (disk_of left.scene device ≡ Sure folders)) (kept name object 0 true, refl) (no_folders, refl);
  }

  pub own_place : HasOwnPlace left.scene name
  own_place put has place =
      let the_put : StartedPut = record { booked = record { stamp = first_clock; name = name; object = object }; start = 0 } in
      sym (ap (λ (one : StartedPut). one.booked.name) (only the_put put has))

  -- ---- the get

  pub get_starts : Happens (Start (Get name)) left get_started
  get_starts = record {
    sents = ask name object 0 ∷ ask name object 1 ∷ [];
    later = get_at (asked name object) false;
    goes_on = record { handed = (asks_first name object, (asks_second name object, refl)); rests = waits_for_both name object; same = refl };
    after_is = refl;
  }

  named : IsFileName (Data first_clock 0 true)
  named = (omega arith, omega arith)

  lists_first : Happens (Deliver 9) get_started listed_first
  lists_first =
      is_handled get_started 9 10 2 (ask name object 0) (reply.Held (lists_one first_clock 0)) (kept name object 0 true) (kept name object 0 true) refl refl refl
      (lists_durable pair 0 (place_of (get_begun name object)) first_clock 0 (bytes name object) named)

  lists_second : Happens (Deliver 10) listed_first listed_all
  lists_second =
      is_handled listed_first 10 10 2 (ask name object 1) (reply.Held lists_nothing) no_folders no_folders refl refl refl (lists_none pair 1 (place_of (get_begun name object)))

  hears_first : Happens (Deliver 11) listed_all told_first
  hears_first =
      is_taken listed_all 11 11 2 (ask name object 0) (reply.Held (lists_one first_clock 0)) (get_at (asked name object) false) (get_at (heard_one name object) false) (heard_one name object) [] refl refl refl refl
      (record { handed = refl; rests = waits_for_second name object; same = refl })

  hears_second : Happens (Deliver 12) told_first told_all
  hears_second =
      is_taken told_first 12 12 2 (ask name object 1) (reply.Held lists_nothing) (get_at (heard_one name object) false) (get_at (fetched name object) false) (heard_both name object) (fetch name object ∷ []) refl refl refl refl
      (record { handed = (fetches name object, refl); rests = waits_for_archive name object; same = refl })

  module _ (put : IsPut pair.policy first_clock name object) where
    reads : Happens (Deliver 13) told_all sent
    reads =
        is_handled told_all 13 14 2 (fetch name object) (reply.Fragment (bytes name object)) (kept name object 0 true) (kept name object 0 true) refl refl refl
        (reads_it pair 0 (place_of (get_begun name object)) first_clock 0 (bytes name object) named (put_archive_is pair first_clock name object 0 put (omega arith)))

    brings : Happens (Deliver 14) sent read
    brings =
        is_taken sent 14 15 2 (fetch name object) (reply.Fragment (bytes name object)) (get_at (fetched name object) false) (get_at (brought name object) true) (brought name object) [] refl refl refl refl
        (record { handed = refl; rests = is_over name object put; same = refl })

    -- nothing but the get's own messages is delivered
    pub leads_to_read : LeadsAlone 2 get_started read_by read
    leads_to_read = (
      Delivers 9 (Request 10 2 (ask name object 0)) refl refl,
      listed_first,
      lists_first,
      (
        Delivers 10 (Request 10 2 (ask name object 1)) refl refl,
        listed_all,
        lists_second,
        (
          Delivers 11 (Answer 11 2 (ask name object 0) (reply.Held (lists_one first_clock 0))) refl refl,
          told_first,
          hears_first,
          (
            Delivers 12 (Answer 12 2 (ask name object 1) (reply.Held lists_nothing)) refl refl,
            told_all,
            hears_second,
            (
              Delivers 13 (Request 14 2 (fetch name object)) refl refl,
              sent,
              reads,
              (Delivers 14 (Answer 15 2 (fetch name object) (reply.Fragment (bytes name object))) refl refl, read, brings, refl),
            ),
          ),
        ),
      ),
    )
