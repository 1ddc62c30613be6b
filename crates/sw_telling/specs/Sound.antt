-- Whatever a link tells by the test of its book is sound.
use Rattle.std.specs.Prelude.{Bool, true, false, if◌then◌else◌, Some, None}
use Rattle.sw_message.specs.Running.{TellsSoundly}
use Rattle.sw_message.specs.Soundly.{told_soundly}
use Rattle.sw_message.proofs.Soundly.{told-sound}
use Rattle.sw_telling.specs.Telling.{TellingModel, learnt_by}

by_silence : (telling : TellingModel) (is_silent : Bool) → TellsSoundly (Some telling.nodes.cluster) (if is_silent then None else told_soundly telling.nodes.cluster.policy telling.known)
by_silence telling true = tt
by_silence telling false = told-sound telling.nodes.cluster telling.known

pub told_soundly_by : (telling : TellingModel) → TellsSoundly (Some telling.nodes.cluster) (learnt_by telling)
told_soundly_by telling = by_silence telling telling.is_silent
