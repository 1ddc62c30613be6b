-- Two plays of one script.
use Rattle.std.specs.Prelude.{◌≡◌, ◌⊎◌, List, ◌++◌}
use Rattle.sw_sim_world.specs.Doing.{Done}
use Rattle.sw_sim_world.specs.ScriptedWorld.{ScriptedWorld}
use Rattle.sw_play.specs.declared.playing.PlayEnd.{PlayEnd}
use Rattle.sw_play.specs.declared.playing.PlayEnd.TheVariants as ended

-- a list begins with another
abbrev pub IsFront : {X : Type 0} → (front whole : List X) → Type 0
IsFront {X} front whole = (rest : List X) × (whole ≡ front ++ rest)

-- They have one story, which leads to one world, and one end; or memory was wanted in one of them, whose story the other's begins with.
abbrev pub ArePlayedAlike : (story other : List Done) → (end how : PlayEnd) → (after later : ScriptedWorld) → Type 0
ArePlayedAlike story other end how after later =
    ((story ≡ other) × (end ≡ how) × (after ≡ later)) ⊎ ((end ≡ ended.NoMemory) × IsFront story other) ⊎ ((how ≡ ended.NoMemory) × IsFront other story)
