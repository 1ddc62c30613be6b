-- The empty view is sound; and a fresh stamp is that of nothing on a device of a sound view.
use Rattle.std.proofs.Common.{ℕ, ◌<◌, Contains, List, [], ◌∷◌, refl, arith}
use Rattle.sw_hashpath.specs.Place.{PlaceModel}
use Rattle.sw_hashpath.specs.declared.file_name.FileName.{FileName}
use Rattle.sw_hashpath.specs.declared.file_name.FileName.TheVariants.{Data, Tombstone}
use Rattle.sw_diskfile.proofs.Lists.{Contains-later, Contains-none}
use Rattle.sw_ring.specs.Cluster.{ClusterModel, KeepsRules}
use Rattle.sw_message.specs.Learnt.{Learnt}
use Rattle.sw_message.specs.Step.{Folders}
use Rattle.sw_law_scene.specs.Devices.{no_folders}
use Rattle.sw_law_scene.specs.Disks.{Disk, IsSide, Sure}
use Rattle.sw_law_owed.specs.Decided.{IsNameBy}
use Rattle.sw_view.specs.History.{HasStampFrom, IsGuarded, Replays, stamp_of}
use Rattle.sw_view.specs.View.{IsFairEvent, IsFresh, IsSoundView, View, empty_view, known_to}
use Rattle.sw_view.specs.declared.event.Event.{Event}
use Rattle.sw_view.specs.declared.event.Event.TheVariants.{Faulted, Handled, Mounted, Replaced}
use Rattle.sw_law_view.proofs.Files.{named}
use Rattle.sw_law_view.proofs.Timeless.{deleted_out, put_out, scene_of}

pub empty_sound : (cluster : ClusterModel) → KeepsRules cluster → IsSoundView cluster empty_view
empty_sound cluster rules = record {
  rules = rules;
  closed = record { fair = λ device event has. absurd (Contains-none event has); replayed = λ device. (Sure no_folders, refl) };
  book = record { puts = λ booked has. absurd (Contains-none booked has); one = λ a b has. absurd (Contains-none a has) };
  stamped = λ marked has. absurd (Contains-none marked has);
  apart = λ booked marked has. absurd (Contains-none booked has);
  puts = λ put device has. absurd (Contains-none put has);
  deletes = λ delete device has. absurd (Contains-none delete has);
}

module _ (cluster : ClusterModel) (view : View) (sound : IsSoundView cluster view) (stamp : ℕ) (fresh : IsFresh cluster view stamp) (device mark : ℕ) where
  abbrev learnt : Learnt
  learnt = known_to cluster view

  -- a name that is known has a lesser stamp
  below : (place : PlaceModel) (name : FileName) → IsNameBy (scene_of cluster learnt) place 1 name → stamp_of name < stamp
  below place (Data other index durable) is = let put = put_out cluster learnt place other is.put in omega (arith, fresh.0 put.0 put.1, put.2)
  below place (Tombstone other) is = let deleted = deleted_out cluster learnt place other is in omega (arith, fresh.1 deleted.0 deleted.1, deleted.2)

  no_stamp : (events : List Event) → ((event : Event) → Contains events event → IsFairEvent cluster learnt event) → (disk : Disk) (side : Folders) → Replays cluster device events disk → IsSide disk side → HasStampFrom cluster stamp side → ⊥
  no_stamp events fair disk side replays is (place, name, is_place, spelt, there, least) =
      let less = below place name (named cluster view sound device events disk fair replays side is place name is_place spelt there) in omega (arith, less, least)

  guarded_so : (events : List Event) → ((event : Event) → Contains events event → IsFairEvent cluster learnt event) → IsGuarded cluster device stamp mark events
  guarded_so [] fair = tt
  guarded_so (Handled msg given ∷ past) fair = guarded_so past (λ event has. fair event (Contains-later (Handled msg given) past event has))
  guarded_so (Faulted msg ∷ past) fair = guarded_so past (λ event has. fair event (Contains-later (Faulted msg) past event has))
  guarded_so (Mounted ∷ past) fair = guarded_so past (λ event has. fair event (Contains-later Mounted past event has))
  guarded_so (Replaced loss ∷ past) fair =
      let fair_so : (event : Event) → Contains past event → IsFairEvent cluster learnt event = λ event has. fair event (Contains-later (Replaced loss) past event has) in
      (λ disk side replays is has. absurd (no_stamp past fair_so disk side replays is has), guarded_so past fair_so)

  pub guarded : IsGuarded cluster device stamp mark (view.history device)
  guarded = guarded_so (view.history device) (sound.closed.fair device)
