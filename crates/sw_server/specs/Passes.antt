-- Passes of devices' reconstructors over a link, one behind the other.
use Rattle.std.specs.Prelude.{◌≡◌, ◌⊎◌, ℕ, Bool, true, false, List, [], ◌∷◌}
use Rattle.sw_ring.specs.Cluster.{ClusterModel}
use Rattle.sw_message.specs.Running.{AreCalls}
use Rattle.sw_message.specs.Transcript.{IsRun, Step}
use Rattle.sw_front.specs.Answering.{Ways}
use Rattle.sw_daemon.specs.Pass.{Begun, IsEnd, IsNext}
use Rattle.sw_daemon.specs.declared.report.PassReport.{PassReport}

module _ {L : Type 0} (ways : Ways L) (cluster : ClusterModel) where
  abbrev pub begun_at : (device : ℕ) → Begun
  begun_at device = record { cluster = cluster; device = device }

  -- A pass of a device ran: to its end, or as far as it went where memory was wanted.
  pub record RunsPass (device : ℕ) (is_whole : Bool) (before after : L) : Type 0 where
    pub past : List Step
    pub is_run : IsRun (IsNext (begun_at device)) past
    pub calls : AreCalls ways.calls ways.losses before past after
    pub ended : is_whole ≡ true → (report : PassReport) × IsEnd (begun_at device) past report

  -- One of each of these devices ran, in this order, up to the first for which memory was wanted.
  abbrev pub RunPasses : List ℕ → (is_whole : Bool) → (before after : L) → Type 0
  RunPasses [] is_whole before after = (is_whole ≡ true) × (after ≡ before)
  RunPasses (device ∷ devices) is_whole before after =
      ((between : L) × RunsPass device true before between × RunPasses devices is_whole between after)
      ⊎ ((is_whole ≡ false) × RunsPass device false before after)
