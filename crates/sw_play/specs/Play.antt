-- What a script does to a world and to the text of what is told.
use Rattle.std.specs.Prelude.{◌≡◌, ℕ, true, Contains, List, ◌++◌}
use Rattle.sw_words.specs.Memory.{UnlessMemory}
use Rattle.sw_sim_world.specs.ScriptedWorld.{ScriptedWorld}
use Rattle.sw_sim_world.specs.Standing.{StandsFor, WorldModel}
use Rattle.sw_sim_world.specs.Doing.{Done}
use Rattle.sw_play.specs.Promised.{KeepsWord}
use Rattle.sw_play.specs.Full.{EndsInFull}
use Rattle.sw_play.specs.Story.{Plays, TellsOnePut, story_text}
use Rattle.sw_play.specs.declared.playing.PlayEnd.{PlayEnd}
use Rattle.sw_play.specs.declared.playing.PlayEnd.TheVariants as ended

-- the greatest number of bytes of a script
abbrev pub greatest_script : ℕ
greatest_script = 67108864

-- A run of a script of these lines from a world: there is a story of it, this is its text, each object that was found in it is one put's,
-- what is told to be acknowledged is kept, and operations that a line runs end in full.
pub record IsRun (before : ScriptedWorld) (lines : List (List ℕ)) (end : PlayEnd) (text : List ℕ) : Type 0 where
  pub story : List Done
  pub after : ScriptedWorld
  pub plays : Plays before 1 lines story end after
  pub text_is : text ≡ story_text story
  pub found : (done : Done) → Contains story done → TellsOnePut done
  pub promised : KeepsWord before.world.scene.cluster story
  pub full : EndsInFull before story

-- A world of the program that stood for one went through a run, whose text was added to what was told before.
pub record Played (before : ScriptedWorld) (lines : List (List ℕ)) (end : PlayEnd) (left : WorldModel) (old new : List ℕ) : Type 0 where
  pub told : List ℕ
  pub run : IsRun before lines end told
  pub text : new ≡ old ++ told
  pub stands : UnlessMemory ended.NoMemory end (StandsFor left run.after)
  -- after want of memory the world answers so from then on
  pub wants : end ≡ ended.NoMemory → left.is_wanting ≡ true
