-- The numbers of the calls that are lost stay, whatever is answered over the link.
use Rattle.std.proofs.Common.{◌≡◌, ⊎_elim, ℕ, Bool, true, false, List, [], ◌∷◌, Option, Some, None, sym, ap, ◌∙◌}
use Rattle.std.specs.Prelude.{Result, Ok, Err}
use Rattle.sw_types.specs.Name.{NameModel}
use Rattle.sw_types.specs.Object.{ObjectModel, object_of}
use Rattle.sw_types.specs.declared.memory.NoMemory.{NoMemory as Refused}
use Rattle.sw_ring.specs.Cluster.{ClusterModel}
use Rattle.sw_message.specs.Running.{AreCalls}
use Rattle.sw_message.specs.Transcript.{Closed, Gave, Step}
use Rattle.sw_message.specs.declared.draw.DrawFault.{DrawFault}
use Rattle.sw_message.specs.declared.draw.DrawFault.TheVariants as draw
use Rattle.sw_httpwrite.specs.Answer.{AnswerModel}
use Rattle.sw_request.specs.Body.{RequestModel}
use Rattle.sw_request.specs.Metadata.{head_in}
use Rattle.sw_request.specs.declared.method.Method.{Method}
use Rattle.sw_request.specs.declared.method.Method.TheVariants.{Delete, Get, Head, Put}
use Rattle.sw_delete.specs.declared.end.DeleteEnd.{DeleteEnd}
use Rattle.sw_get.specs.declared.end.GetEnd.{GetEnd}
use Rattle.sw_put.specs.declared.end.PutEnd.{PutEnd}
use Rattle.sw_front.specs.Answering.{Answers, DeleteAnswers, GetAnswers, MethodAnswers, PutAnswers, Refuses}
use Rattle.sw_front.specs.Over.{DeletesOver, GetsOver, Learning, PutsOver}
use Rattle.sw_front.specs.declared.fault.FrontFault.{FrontFault}
use Rattle.sw_front.specs.declared.fault.FrontFault.TheVariants as fault
use Rattle.sw_local.specs.Link.{Calls, Draws, LocalModel}
use Rattle.sw_law_served.specs.Served.{get_of, local_ways}

-- ---- a call, and a draw

module _ {T : Type 0} (cluster : ClusterModel) (tells : Bool) (before : LocalModel T) where
  call_lost : (device : ℕ) (answer : Option _) (msg : _) (after : LocalModel T) → Calls cluster tells before device msg answer after → after.lost ≡ before.lost
  call_lost device None msg after lost = ap (λ (link : LocalModel T). link.lost) lost.after_is
  call_lost device (Some given) msg after was = ap (λ (link : LocalModel T). link.lost) was.after_is

  pub draw_lost : (shows : T → ℕ → Type 0) (name : NameModel) (object : Option ObjectModel) (result : Result ℕ DrawFault) (after : LocalModel T) → Draws cluster shows before name object result after → after.lost ≡ before.lost
  draw_lost shows name object (Ok stamp) after draw = ap (λ (link : LocalModel T). link.lost) draw.0.after_is
  draw_lost shows name object (Err why) after spent = ap (λ (link : LocalModel T). link.lost) spent.0.after_is

-- ---- operations

module _ {T : Type 0} (cluster : ClusterModel) (tells : Bool) (losses : LocalModel T → ℕ) where
  pub lost_kept : (before : LocalModel T) (past : List Step) (after : LocalModel T) → AreCalls (Calls cluster tells) losses before past after → after.lost ≡ before.lost
  lost_kept before [] after same = ap (λ (link : LocalModel T). link.lost) (sym same)
  lost_kept before (Gave sent ∷ more) after none = absurd none
  lost_kept before (Closed sent answer ∷ []) after none = absurd none
  lost_kept before (Closed sent answer ∷ Closed same again ∷ more) after none = absurd none
  lost_kept before (Closed sent answer ∷ Gave same ∷ more) after (between, were, same_is, call, counts) =
      call_lost cluster tells between sent.device answer sent.msg after call ∙ lost_kept before more between were

module _ {T : Type 0} (cluster : ClusterModel) (tells : Bool) (shows : T → ℕ → Type 0) (name : NameModel) (before after : LocalModel T) where
  abbrev losses : LocalModel T → ℕ
  losses link = link.losses

  abbrev learnt : Learning (LocalModel T)
  learnt = (local_ways cluster tells shows).learnt

  get_lost : (result : Result GetEnd Refused) → GetsOver (Calls cluster tells) losses learnt (get_of cluster name) before result after → after.lost ≡ before.lost
  get_lost (Ok end) (past, over, ended, finds) = lost_kept cluster tells losses before past after over.calls_are
  get_lost (Err refused) (past, over) = lost_kept cluster tells losses before past after over.calls_are

  put_lost : (object : ObjectModel) (result : Result PutEnd FrontFault) → PutsOver (Draws cluster shows) (Calls cluster tells) losses learnt cluster name object before result after → after.lost ≡ before.lost
  put_lost object (Ok end) (stamp, past, drew, ended) = lost_kept cluster tells losses drew.drawn past after drew.went.calls_are ∙ draw_lost cluster tells before shows name (Some object) (Ok stamp) drew.drawn drew.draw
  put_lost object (Err fault.StampsSpent) spent = draw_lost cluster tells before shows name (Some object) (Err draw.StampsSpent) after spent
  put_lost object (Err fault.NoMemory) (stamp, past, drew) = lost_kept cluster tells losses drew.drawn past after drew.went.calls_are ∙ draw_lost cluster tells before shows name (Some object) (Ok stamp) drew.drawn drew.draw

  delete_lost : (result : Result DeleteEnd FrontFault) → DeletesOver (Draws cluster shows) (Calls cluster tells) losses learnt cluster name before result after → after.lost ≡ before.lost
  delete_lost (Ok end) (stamp, past, drew, ended) = lost_kept cluster tells losses drew.drawn past after drew.went.calls_are ∙ draw_lost cluster tells before shows name None (Ok stamp) drew.drawn drew.draw
  delete_lost (Err fault.StampsSpent) spent = draw_lost cluster tells before shows name None (Err draw.StampsSpent) after spent
  delete_lost (Err fault.NoMemory) (stamp, past, drew) = lost_kept cluster tells losses drew.drawn past after drew.went.calls_are ∙ draw_lost cluster tells before shows name None (Ok stamp) drew.drawn drew.draw

-- ---- requests

module _ {T : Type 0} (cluster : ClusterModel) (tells : Bool) (shows : T → ℕ → Type 0) (request : RequestModel) (before after : LocalModel T) where
  module _ (name : NameModel) (close : Bool) where
    put_answers : (object : ObjectModel) (result : Result AnswerModel Refused) → PutAnswers (local_ways cluster tells shows) cluster name object close before result after → after.lost ≡ before.lost
    put_answers object (Ok answer) answers = ⊎_elim
        (λ ended. put_lost cluster tells shows name before after object (Ok ended.0) ended.1)
        (λ spent. put_lost cluster tells shows name before after object (Err fault.StampsSpent) spent.0)
        answers
    put_answers object (Err refused) (result, over) = put_lost cluster tells shows name before after object result over

    get_answers : (to_head : Bool) (result : Result AnswerModel Refused) → GetAnswers (local_ways cluster tells shows) cluster name to_head close before result after → after.lost ≡ before.lost
    get_answers to_head (Ok answer) (end, over, is) = get_lost cluster tells shows name before after (Ok end) over
    get_answers to_head (Err refused) (result, over) = get_lost cluster tells shows name before after result over

    delete_answers : (result : Result AnswerModel Refused) → DeleteAnswers (local_ways cluster tells shows) cluster name close before result after → after.lost ≡ before.lost
    delete_answers (Ok answer) answers = ⊎_elim
        (λ ended. delete_lost cluster tells shows name before after (Ok ended.0) ended.1)
        (λ spent. delete_lost cluster tells shows name before after (Err fault.StampsSpent) spent.0)
        answers
    delete_answers (Err refused) (result, over) = delete_lost cluster tells shows name before after result over

    method_lost : (method : Method) (result : Result AnswerModel Refused) → MethodAnswers (local_ways cluster tells shows) cluster request name method close before result after → after.lost ≡ before.lost
    method_lost Put result answers = put_answers (object_of (head_in request.head.fields) request.body) result answers
    method_lost Get result answers = get_answers false result answers
    method_lost Head result answers = get_answers true result answers
    method_lost Delete result answers = delete_answers result answers

  refused_lost : (result : Result AnswerModel Refused) (close : Bool) → Refuses (local_ways cluster tells shows) cluster request close before result after → after.lost ≡ before.lost
  refused_lost (Ok answer) close refuses = ap (λ (link : LocalModel T). link.lost) refuses.2
  refused_lost (Err refused) close same = ap (λ (link : LocalModel T). link.lost) same

  pub answers_lost : (result : Result AnswerModel Refused) → Answers (local_ways cluster tells shows) cluster request before result after → after.lost ≡ before.lost
  answers_lost result (still, close, asks, answers) = ⊎_elim (refused_lost result close) (λ operates. method_lost operates.name close operates.method result operates.answers) answers
