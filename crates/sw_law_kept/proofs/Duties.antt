-- Where promises are kept, and stamps are of what was started, the duties of devices are kept.
use Rattle.sw_law_scene.specs.Scene.{Scene}
use Rattle.sw_law_scene.specs.Sound.{IsSoundScene}
use Rattle.sw_law_owed.specs.Decided.{KeepsStamps}
use Rattle.sw_law_owed.specs.Duties.{KeepsDuties}
use Rattle.sw_law_owed.specs.Promise.{KeepsPromises}
use Rattle.sw_law_kept.proofs.Answered.{committed_kept, stored_kept}
use Rattle.sw_law_kept.proofs.Buried.{buried_kept}
use Rattle.sw_law_kept.proofs.Shown.{shown_kept}

pub scene_keeps : (scene : Scene) → IsSoundScene scene → KeepsPromises scene → KeepsStamps scene → KeepsDuties scene
scene_keeps scene sound promises stamps = record {
  stored = λ put target made bytes has home was_made at msg given. stored_kept scene sound promises stamps put has target home made was_made at bytes msg given;
  committed = λ put target made has home was_made at msg given. committed_kept scene sound promises stamps put has target home made was_made at msg given;
  shown = λ put index made has primary was_made about shows. shown_kept scene sound promises stamps put has index made primary was_made about shows;
  buried = λ delete made existed has was_made msg given. buried_kept scene sound promises stamps delete has made was_made msg existed given;
}
