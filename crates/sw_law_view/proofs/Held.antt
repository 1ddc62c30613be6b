-- Duties as what disks hold.
use Rattle.std.proofs.Common.{inl, inr, ⊎_elim, ℕ, true≢false, sym, ◌∙◌}
use Rattle.sw_hashpath.specs.Place.{PlaceModel, folder_of}
use Rattle.sw_ring.specs.Cluster.{ClusterModel}
use Rattle.sw_message.specs.Message.{is_primary}
use Rattle.sw_message.specs.Step.{Folders}
use Rattle.sw_message.specs.Warrant.{IsHome}
use Rattle.sw_message.specs.declared.target.Target.{Target}
use Rattle.sw_law_claim.specs.Claim.{ADurableEntry, AnEntry, IsBorneBy, What}
use Rattle.sw_law_owed.specs.Duties.{HoldsOrStands}
use Rattle.sw_law_owed.proofs.Holding.{held}
use Rattle.sw_view.specs.View.{IsSoundView, View}
use Rattle.sw_law_view.specs.Duties.{BearsAt, HeldHere, HeldOwn, HeldThere, Here, IsDutyKept, IsHeldStill, KeepsHeld, OnReplay, ReplacedHere, ReplacedOwn, ReplacedPrimary, ReplacedThere, There}
use Rattle.sw_law_view.proofs.Duties.{duties}

module _ (cluster : ClusterModel) (view : View) (place : PlaceModel) (stamp : ℕ) where
  -- a durable entry that is borne is held, or there is a floor above
  holds_or : (device index : ℕ) (folders : Folders) → IsBorneBy (is_primary cluster device place) (record { stamp = stamp; what = ADurableEntry index }) (folders (folder_of place)) → HoldsOrStands cluster device place stamp index folders
  holds_or device index folders borne = ⊎_elim (λ is. inl is) (λ above. inr above.1) (held cluster device place (record { stamp = stamp; what = ADurableEntry index }) folders borne)

  pub on_primary : (device index : ℕ) → BearsAt cluster view device place (record { stamp = stamp; what = ADurableEntry index }) → OnReplay cluster view device (HoldsOrStands cluster device place stamp index)
  on_primary device index bears = λ disk side replays is. holds_or device index side (bears disk side replays is)

  module _ (target : Target) (what : What) where
    here : IsHome cluster place target → BearsAt cluster view target.device place (record { stamp = stamp; what = what }) → IsHeldStill cluster view place stamp target what
    here (inl primary) bears = HeldOwn primary (λ disk side replays is.
        ⊎_elim (λ holds. inl holds) (λ above. inr (inr above.1)) (held cluster target.device place (record { stamp = stamp; what = what }) side (bears disk side replays is)))
    here (inr (member, off, below)) bears = HeldHere (λ disk side replays is.
        ⊎_elim (λ holds. holds) (λ above. absurd (true≢false (sym above.0 ∙ off))) (held cluster target.device place (record { stamp = stamp; what = what }) side (bears disk side replays is)))

    pub still : IsHome cluster place target → IsDutyKept cluster view place stamp target what → IsHeldStill cluster view place stamp target what
    still home (ReplacedHere replaced) = ReplacedOwn replaced
    still home (ReplacedThere primary is replaced) = ReplacedPrimary primary is replaced
    still home (Here bears) = here home bears
    still home (There primary is bears) = HeldThere primary is (on_primary primary target.index bears)

pub held_still : (cluster : ClusterModel) (view : View) → IsSoundView cluster view → KeepsHeld cluster view
held_still cluster view sound =
    let all = duties cluster view sound in
    record {
      stored = λ place stamp target bytes home has. still cluster view place stamp target (AnEntry target.index) home (all.stored place stamp target bytes home has);
      committed = λ place stamp target home has. still cluster view place stamp target (ADurableEntry target.index) home (all.committed place stamp target home has);
      shown = λ place stamp index device msg given primary has there shows. ⊎_elim (λ replaced. inl replaced) (λ bears. inr (on_primary cluster view place stamp device index bears)) (all.shown place stamp index device msg given primary has there shows);
    }
