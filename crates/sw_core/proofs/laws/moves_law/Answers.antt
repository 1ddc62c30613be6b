use Rattle.std.proofs.Common.{[], ◌∷◌, refl}
use Rattle.sw_core.proofs.Happening.{leads-sound}
use Rattle.sw_core.proofs.Happened.{happens-moves}
use Rattle.sw_core.proofs.SceneMoves.{may-move, scene-moves}
use Rattle.sw_core.proofs.laws.moves_law.Goals as goal

pub returns-clause-world : goal.returns-clause-world
returns-clause-world c event before after goes = happens-moves before after event goes

pub returns-clause-scene : goal.returns-clause-scene
returns-clause-scene c event before after goes = scene-moves before after (happens-moves before after event goes)

pub returns-clause-may : goal.returns-clause-may
returns-clause-may c cluster event before after sound goes = may-move before after (happens-moves before after event goes) (leads-sound cluster before (event ∷ []) after sound (after, goes, refl)).scene
