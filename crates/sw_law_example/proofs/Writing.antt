-- The put's part of the run, world by world: both devices store, both make durable, and the put is acknowledged.
use Rattle.std.proofs.Common.{ℕ, ◌<◌, ◌≤◌, Bool, true, false, List, [], ◌∷◌, length, refl, arith}
use Rattle.sw_types.specs.Name.{NameModel}
use Rattle.sw_types.specs.Object.{ObjectModel}
use Rattle.sw_hashpath.specs.FileName.{IsFileName}
use Rattle.sw_hashpath.specs.declared.file_name.FileName.TheVariants.{Data}
use Rattle.sw_archive.specs.Put.{IsPut, put_archive}
use Rattle.sw_message.specs.Step.{Folders}
use Rattle.sw_message.specs.Transcript.{Step}
use Rattle.sw_message.specs.declared.reply.Reply.TheVariants as reply
use Rattle.sw_put.specs.Put.{place_of}
use Rattle.sw_law_scene.specs.Devices.{capacity_of, no_folders}
use Rattle.sw_law_scene.specs.Moves.{books, sends}
use Rattle.sw_law_scene.specs.Scene.{Answer, Request, empty_scene}
use Rattle.sw_core.specs.Event.{Deliver, Event, Happens, Put, Start}
use Rattle.sw_operation.specs.Operating.{Put as PutBegun}
use Rattle.sw_core.specs.World.{Operating, World, empty_world, first_clock}
use Rattle.sw_law_alone.specs.Alone.{Delivers, LeadsAlone}
use Rattle.sw_law_complete.proofs.PutDevices.{put_archive_is}
use Rattle.sw_law_example.specs.Pair.{pair}
use Rattle.sw_law_example.proofs.Putting.{commit, committed_both, committed_one, handed, handed_commits, hands_commit, hands_first, hands_other_commit, hands_second, is_over, put_begun, store, stored_both, stored_one, waits_for_both, waits_for_commits, waits_for_last, waits_for_second}
use Rattle.sw_law_example.proofs.Serving.{commits_it, kept_folders}
use Rattle.sw_law_example.proofs.Steps.{is_handled, is_taken, replied, taken}
use Rattle.sw_law_example.proofs.Storing.{stores_it}

-- the events once the put has started
abbrev pub written_by : List Event
written_by = Deliver 1 ∷ Deliver 2 ∷ Deliver 3 ∷ Deliver 4 ∷ Deliver 5 ∷ Deliver 6 ∷ Deliver 7 ∷ Deliver 8 ∷ []

module _ (name : NameModel) (object : ObjectModel) where
  abbrev pub archive_at : ℕ → List ℕ
  archive_at index = put_archive pair.policy first_clock name object index

  -- what device and index have once it is stored, or durable
  abbrev pub kept : ℕ → Bool → Folders
  kept index is_durable = kept_folders pair index (place_of (put_begun name object)) first_clock index (archive_at index) is_durable

  abbrev pub put_at : List Step → Bool → Operating
  put_at past is_over = record { begun = PutBegun (put_begun name object); start = 0; past = past; is_over = is_over }

  -- ---- the worlds

  abbrev pub started : World
  started = record {
    scene = sends 1 (store name object 0 ∷ store name object 1 ∷ []) (books first_clock name object (empty_scene pair));
    clock = first_clock;
    operations = put_at (handed name object) false ∷ [];
  }

  abbrev stored_first : World
  stored_first = replied 1 (store name object 0) reply.Synced (kept 0 false) started

  abbrev stored_all : World
  stored_all = replied 1 (store name object 1) reply.Synced (kept 1 false) stored_first

  abbrev heard_first : World
  heard_first = taken 1 [] (put_at (stored_one name object) false) stored_all

  abbrev heard_all : World
  heard_all = taken 1 (commit name object 0 ∷ commit name object 1 ∷ []) (put_at (handed_commits name object) false) heard_first

  abbrev durable_first : World
  durable_first = replied 1 (commit name object 0) reply.Committed (kept 0 true) heard_all

  abbrev durable_all : World
  durable_all = replied 1 (commit name object 1) reply.Committed (kept 1 true) durable_first

  abbrev told_first : World
  told_first = taken 1 [] (put_at (committed_one name object) false) durable_all

  abbrev pub written : World
  written = taken 1 [] (put_at (committed_both name object) true) told_first

  -- ---- the events

  module _ (put : IsPut pair.policy first_clock name object) where
    pub starts : Happens (Start (Put name object)) (empty_world pair) started
    starts = (
      omega arith,
      put,
      record {
        sents = store name object 0 ∷ store name object 1 ∷ [];
        later = put_at (handed name object) false;
        goes_on = record { handed = (hands_first name object, (hands_second name object, refl)); rests = waits_for_both name object; same = refl };
        after_is = refl;
      },
    )

    named : (index : ℕ) (is_durable : Bool) → index < 32 → IsFileName (Data first_clock index is_durable)
    named index is_durable below = (omega arith, below)

    module _ (first : length (archive_at 0) ≤ capacity_of pair 0) (second : length (archive_at 1) ≤ capacity_of pair 1) where
      stores_first : Happens (Deliver 1) started stored_first
      stores_first =
          is_handled started 1 0 1 (store name object 0) reply.Synced no_folders (kept 0 false) refl refl refl
          (stores_it pair 0 (place_of (put_begun name object)) first_clock 0 (archive_at 0) (put_archive_is pair first_clock name object 0 put (omega arith)) first)

      stores_second : Happens (Deliver 2) stored_first stored_all
      stores_second =
          is_handled stored_first 2 0 1 (store name object 1) reply.Synced no_folders (kept 1 false) refl refl refl
          (stores_it pair 1 (place_of (put_begun name object)) first_clock 1 (archive_at 1) (put_archive_is pair first_clock name object 1 put (omega arith)) second)

      hears_first : Happens (Deliver 3) stored_all heard_first
      hears_first =
          is_taken stored_all 3 1 1 (store name object 0) reply.Synced (put_at (handed name object) false) (put_at (stored_one name object) false) (stored_one name object) [] refl refl refl refl
          (record { handed = refl; rests = waits_for_second name object; same = refl })

      hears_second : Happens (Deliver 4) heard_first heard_all
      hears_second =
          is_taken heard_first 4 2 1 (store name object 1) reply.Synced (put_at (stored_one name object) false) (put_at (handed_commits name object) false) (stored_both name object)
          (commit name object 0 ∷ commit name object 1 ∷ []) refl refl refl refl
          (record { handed = (hands_commit name object, (hands_other_commit name object, refl)); rests = waits_for_commits name object; same = refl })

      commits_first : Happens (Deliver 5) heard_all durable_first
      commits_first =
          is_handled heard_all 5 4 1 (commit name object 0) reply.Committed (kept 0 false) (kept 0 true) refl refl refl
          (commits_it pair 0 (place_of (put_begun name object)) first_clock 0 (archive_at 0) (named 0 false (omega arith)))

      commits_second : Happens (Deliver 6) durable_first durable_all
      commits_second =
          is_handled durable_first 6 4 1 (commit name object 1) reply.Committed (kept 1 false) (kept 1 true) refl refl refl
          (commits_it pair 1 (place_of (put_begun name object)) first_clock 1 (archive_at 1) (named 1 false (omega arith)))

      tells_first : Happens (Deliver 7) durable_all told_first
      tells_first =
          is_taken durable_all 7 5 1 (commit name object 0) reply.Committed (put_at (handed_commits name object) false) (put_at (committed_one name object) false) (committed_one name object) [] refl refl refl refl
          (record { handed = refl; rests = waits_for_last name object; same = refl })

      tells_second : Happens (Deliver 8) told_first written
      tells_second =
          is_taken told_first 8 6 1 (commit name object 1) reply.Committed (put_at (committed_one name object) false) (put_at (committed_both name object) true) (committed_both name object) [] refl refl refl refl
          (record { handed = refl; rests = is_over name object; same = refl })

      -- nothing but the put's own messages is delivered
      pub leads_to_written : LeadsAlone 1 started written_by written
      leads_to_written = (
        Delivers 1 (Request 0 1 (store name object 0)) refl refl,
        stored_first,
        stores_first,
        (
          Delivers 2 (Request 0 1 (store name object 1)) refl refl,
          stored_all,
          stores_second,
          (
            Delivers 3 (Answer 1 1 (store name object 0) reply.Synced) refl refl,
            heard_first,
            hears_first,
            (
              Delivers 4 (Answer 2 1 (store name object 1) reply.Synced) refl refl,
              heard_all,
              hears_second,
              (
                Delivers 5 (Request 4 1 (commit name object 0)) refl refl,
                durable_first,
                commits_first,
                (
                  Delivers 6 (Request 4 1 (commit name object 1)) refl refl,
                  durable_all,
                  commits_second,
                  (
                    Delivers 7 (Answer 5 1 (commit name object 0) reply.Committed) refl refl,
                    told_first,
                    tells_first,
                    (Delivers 8 (Answer 6 1 (commit name object 1) reply.Committed) refl refl, written, tells_second, refl),
                  ),
                ),
              ),
            ),
          ),
        ),
      )
