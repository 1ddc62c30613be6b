-- Connections over nodes behind locks: what was answered shows what the pass of the thread promises.
use Rattle.std.specs.Prelude.{◌≡◌, ℕ, Bool, true, false, List, [], Option}
use Rattle.sw_ring.specs.Cluster.{ClusterModel}
use Rattle.sw_front.specs.Answering.{Answers}
use Rattle.sw_pass.specs.declared.known.Known.{Known}
use Rattle.sw_cell.specs.Learning.{HasLearnt}
use Rattle.sw_local.specs.Link.{LocalModel}
use Rattle.sw_law_served.specs.Served.{ShowsSoundly, local_ways}
use Rattle.sw_serve.specs.Serving.{Answering, Serves}
use Rattle.sw_serve.specs.declared.end.ConnEnd.{ConnEnd}

-- A request was answered over a link to nodes behind locks. Where their disks tell what they hold, the answer shows what the pass' view promises.
abbrev pub AnswersSoundly : {T : Type 0} → ClusterModel → (tells : Bool) → (shows : T → ℕ → Type 0) → Answering (LocalModel T)
AnswersSoundly cluster tells shows request before result after =
    Answers (local_ways cluster tells shows) cluster request before result after × (tells ≡ true → ShowsSoundly cluster shows request before result after)

-- a link that was not called yet, and none of whose calls is lost
abbrev pub fresh_link : {T : Type 0} → Known → (clock : T) → LocalModel T
fresh_link known clock = record { known = known; clock = clock; lost = []; calls = 0; losses = 0; refused = 0; wants = false }

-- A connection was served by a pass over nodes behind locks: from what that knew, and has learnt since, to what it knows then.
pub record ServesSoundly {T : Type 0} (cluster : ClusterModel) (tells : Bool) (shows : T → ℕ → Type 0) (clock : T) (left left' written written' : Option (List ℕ)) (faults faults' : ℕ) (before : Known) (end : ConnEnd) (after : Known) : Type 0 where
  pub first : Known
  pub learnt : HasLearnt cluster before first
  pub last : LocalModel T
  pub last_is : last.known ≡ after
  pub serves : Serves (AnswersSoundly cluster tells shows) left left' written written' faults faults' (fresh_link first clock) end last
