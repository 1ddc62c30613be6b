-- What a seat that draws stamps has learnt behind a call.
use Rattle.std.specs.Prelude.{◌≡◌, ◌≤◌}
use Rattle.sw_ring.specs.Cluster.{ClusterModel}
use Rattle.sw_view.specs.View.{IsSoundView}
use Rattle.sw_pass.specs.Known.{AllAgree, Covers, view_of}
use Rattle.sw_pass.specs.Steps.{old_of}
use Rattle.sw_pass.specs.declared.known.Known.{Known}

-- It knows all that it knew, and it neither raised nor drew.
pub record HasGrown (before after : Known) : Type 0 where
  pub covers : Covers after (old_of before)
  pub mark : before.mark ≤ after.mark
  pub clock : after.clock ≡ before.clock
  pub draws : after.draws ≡ before.draws

-- And what it knows is sound, and all that drew one stamp is the same.
pub record HasLearnt (cluster : ClusterModel) (before after : Known) : Type 0 where
  pub grown : HasGrown before after
  pub sound : IsSoundView cluster (view_of cluster after)
  pub agree : AllAgree after.drawn after.drawn
