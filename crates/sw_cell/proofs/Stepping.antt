-- After each history that is fair by what a sound view knows, a message that this warrants has a step.
use Rattle.std.proofs.Common.{ℕ, Contains, List, refl}
use Rattle.sw_ring.specs.Cluster.{ClusterModel}
use Rattle.sw_message.specs.Learnt.{Learnt}
use Rattle.sw_message.specs.Message.{IsPlaceOf, place_in}
use Rattle.sw_message.specs.declared.message.Msg.{Msg}
use Rattle.sw_law_scene.specs.Disks.{Sure}
use Rattle.sw_law_possible.proofs.Steps.{device_step}
use Rattle.sw_law_replayed.specs.Keeping.{HasStep}
use Rattle.sw_view.specs.View.{IsFairEvent, IsFirm, IsSoundView, View, known_to}
use Rattle.sw_view.specs.declared.event.Event.{Event}
use Rattle.sw_law_view.proofs.Files.{filed, firm_warranted}
use Rattle.sw_cell.proofs.OfPlaces.{on_places}

module _ (cluster : ClusterModel) (view : View) (sound : IsSoundView cluster view) where
  abbrev learnt : Learnt
  learnt = known_to cluster view

  pub has_step : (device : ℕ) (events : List Event) (msg : Msg) → ((event : Event) → Contains events event → IsFairEvent cluster learnt event) → IsPlaceOf cluster (place_in msg) → IsFirm cluster learnt msg → HasStep cluster device events msg
  has_step device events msg fair right firm = λ folders replays.
      device_step cluster learnt device msg folders sound.book (filed cluster view sound device events (Sure folders) fair replays folders refl) (on_places cluster device learnt events (Sure folders) fair replays folders refl)
      (right, firm_warranted cluster learnt msg firm)
