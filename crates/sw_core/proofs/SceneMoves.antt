-- What a move of a world does to its scene: a move that may happen, where the world is sound.
use Rattle.std.proofs.Common.{◌≡◌, ℕ, List, refl, sym, subst}
use Rattle.sw_message.specs.Transcript.{Step}
use Rattle.sw_law_scene.specs.Scene.{Scene}
use Rattle.sw_law_scene.specs.SceneMove.{Asked, AtDevice, MayHappen, Notes, NotesNothing, SceneMove}
use Rattle.sw_law_scene.specs.Sound.{IsSoundScene}
use Rattle.sw_law_scene.proofs.Moved.{sends-warranted}
use Rattle.sw_core.specs.Event.{Proceeds}
use Rattle.sw_core.specs.World.{Operating, World}
use Rattle.sw_core.specs.WorldMove.{Answered, Began, GaveUp, Moved, WorldMove}

module _ (before from : World) (notes : Notes before.clock before.scene from.scene) (number : ℕ) (operation : Operating) (past : List Step) (after : World) (goes : Proceeds from number operation past after) where
  -- an operation goes on, once something is noted
  asks : SceneMove before.clock before.scene after.scene
  asks = subst (λ (world : World). SceneMove before.clock before.scene world.scene) (sym goes.after_is) (Asked from.scene notes number goes.sents)

  -- with messages that may be sent, where the scene is sound then
  may-ask : IsSoundScene after.scene → MayHappen before.clock before.scene after.scene
  may-ask = subst (λ (world : World). IsSoundScene world.scene → MayHappen before.clock before.scene world.scene) (sym goes.after_is)
      (λ sound. (Asked from.scene notes number goes.sents, sends-warranted from.scene number goes.sents sound))

-- as the world moves, so does its scene
pub scene-moves : (before after : World) → WorldMove before after → SceneMove before.clock before.scene after.scene
scene-moves before _ (Moved scene clock move) = AtDevice scene move
scene-moves before _ (Answered at number sent reply has operation is waits after goes) = asks before before NotesNothing number operation _ after goes
scene-moves before _ (GaveUp number ticket operation is waits after goes) = asks before before NotesNothing number operation _ after goes
scene-moves before _ (Began begun scene notes after goes) = asks before _ notes _ _ _ after goes

-- and that may happen
pub may-move : (before after : World) → WorldMove before after → IsSoundScene after.scene → MayHappen before.clock before.scene after.scene
may-move before _ (Moved scene clock move) sound = (AtDevice scene move, tt)
may-move before _ (Answered at number sent reply has operation is waits after goes) sound = may-ask before before NotesNothing number operation _ after goes sound
may-move before _ (GaveUp number ticket operation is waits after goes) sound = may-ask before before NotesNothing number operation _ after goes sound
may-move before _ (Began begun scene notes after goes) sound = may-ask before _ notes _ _ _ after goes sound
