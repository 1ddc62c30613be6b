-- How far a sync is.
use Rattle.std.specs.Prelude.{List}
use Rattle.sw_sync.specs.declared.errand.Errand.{Errand}
use Rattle.sw_sync.specs.declared.stage.Stage.{Stage}

-- its stage, and what is to be handed out, in this order
pub record State : Type 0 where
  pub stage : Stage
  pub due : List Errand
