-- A connection over nodes behind locks is served so that each answer shows what the pass promises.
use Rattle.std.proofs.Common.{◌≡◌, ℕ, Bool, true, List, [], Option, refl, subst, ◌∙◌}
use Rattle.std.specs.Prelude.{Result}
use Rattle.sw_types.specs.declared.memory.NoMemory.{NoMemory as Refusal}
use Rattle.sw_ring.specs.Cluster.{ClusterModel}
use Rattle.sw_httpwrite.specs.Answer.{AnswerModel}
use Rattle.sw_request.specs.Body.{RequestModel}
use Rattle.sw_front.specs.Answering.{Answers}
use Rattle.sw_view.specs.View.{IsSoundView}
use Rattle.sw_pass.specs.declared.known.Known.{Known}
use Rattle.sw_cell.specs.Learning.{HasLearnt}
use Rattle.sw_local.specs.Link.{LocalModel}
use Rattle.sw_law_served.specs.Served.{ShowsSoundly, local_ways, view_by}
use Rattle.sw_law_served.proofs.Answers.{shows_soundly}
use Rattle.sw_law_served.proofs.Lost.{answers_lost}
use Rattle.sw_serve.specs.Serving.{Serves}
use Rattle.sw_serve.specs.Soundly.{AnswersSoundly, ServesSoundly, fresh_link}
use Rattle.sw_serve.specs.declared.end.ConnEnd.{ConnEnd}
use Rattle.sw_serve.proofs.Mapped.{serves_so}

module _ {T : Type 0} (cluster : ClusterModel) (tells : Bool) (shows : T → ℕ → Type 0) where
  -- what stands of the link between two requests
  abbrev Stands : LocalModel T → Type 0
  Stands link = (link.lost ≡ []) × (tells ≡ true → IsSoundView cluster (view_by cluster link))

  module _ (request : RequestModel) (before : LocalModel T) (result : Result AnswerModel Refusal) (after : LocalModel T) (stands : Stands before) (answers : Answers (local_ways cluster tells shows) cluster request before result after) where
    shown : tells ≡ true → ShowsSoundly cluster shows request before result after
    shown told = shows_soundly cluster shows request before after (record { none_lost = stands.0; sound = stands.1 told }) result
        (subst (λ (b : Bool). Answers (local_ways cluster b shows) cluster request before result after) told answers)

    each : AnswersSoundly cluster tells shows request before result after × Stands after
    each = ((answers, shown), (answers_lost cluster tells shows request before after result answers ∙ stands.0, λ told. (shown told).sound))

  pub serves_soundly : (clock : T) (left left' written written' : Option (List ℕ)) (faults faults' : ℕ) (before first : Known) (link : LocalModel T) (end : ConnEnd) (last : LocalModel T) (after : Known)
      → HasLearnt cluster before first → link ≡ fresh_link first clock → last.known ≡ after
      → Serves (Answers (local_ways cluster tells shows) cluster) left left' written written' faults faults' link end last
      → ServesSoundly cluster tells shows clock left left' written written' faults faults' before end after
  serves_soundly clock left left' written written' faults faults' before first link end last after learnt link_is last_is serves = record {
    first = first;
    learnt = learnt;
    last = last;
    last_is = last_is;
    serves = serves_so (Answers (local_ways cluster tells shows) cluster) (AnswersSoundly cluster tells shows) Stands each left left' written written' faults faults' (fresh_link first clock) end last
        (refl, λ told. learnt.sound)
        (subst (λ (one : LocalModel T). Serves (Answers (local_ways cluster tells shows) cluster) left left' written written' faults faults' one end last) link_is serves);
  }
