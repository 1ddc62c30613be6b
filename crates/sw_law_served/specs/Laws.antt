-- The law of what answers over nodes behind locks show.
use Rattle.std.specs.Prelude.{◌≡◌, ℕ, Bool, true, Result}
use Rattle.sw_types.specs.declared.memory.NoMemory.{NoMemory as Refused}
use Rattle.sw_ring.specs.Cluster.{ClusterModel}
use Rattle.sw_httpwrite.specs.Answer.{AnswerModel}
use Rattle.sw_request.specs.Body.{RequestModel}
use Rattle.sw_front.specs.Answering.{Answers}
use Rattle.sw_local.specs.Link.{LocalModel}
use Rattle.sw_law_served.specs.Served.{MayServe, ShowsSoundly, local_ways}

-- Each answer over a link that may serve, to nodes whose disks tell what they hold, shows so.
abbrev pub AnswersShow : {T : Type 0} → ClusterModel → (T → ℕ → Type 0) → Type 0
AnswersShow {T} cluster shows = (request : RequestModel) (before after : LocalModel T) (result : Result AnswerModel Refused) → MayServe cluster before
    → Answers (local_ways cluster true shows) cluster request before result after → ShowsSoundly cluster shows request before result after

-- The numbers of the calls that are lost stay.
abbrev pub AnswersKeepLost : {T : Type 0} → ClusterModel → (tells : Bool) → (T → ℕ → Type 0) → Type 0
AnswersKeepLost {T} cluster tells shows = (request : RequestModel) (before after : LocalModel T) (result : Result AnswerModel Refused) → Answers (local_ways cluster tells shows) cluster request before result after → after.lost ≡ before.lost
