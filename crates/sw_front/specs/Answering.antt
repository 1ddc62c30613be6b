-- How a request without a defect is answered over a link.
use Rattle.std.specs.Prelude.{◌≡◌, ◌⊎◌, ◌↔◌, ℕ, Bool, true, false, IsTrue, Some, Result, Ok, Err}
use Rattle.sw_words.specs.Counts.{Rose}
use Rattle.sw_types.specs.Name.{NameModel}
use Rattle.sw_types.specs.Object.{ObjectModel, object_of}
use Rattle.sw_types.specs.declared.memory.NoMemory.{NoMemory as Refused}
use Rattle.sw_ring.specs.Cluster.{ClusterModel}
use Rattle.sw_message.specs.Running.{StillTells}
use Rattle.sw_httpwrite.specs.Answer.{AnswerModel}
use Rattle.sw_request.specs.Body.{RequestModel, has_other_tag}
use Rattle.sw_request.specs.Fields.{AsksToClose}
use Rattle.sw_request.specs.Metadata.{head_in}
use Rattle.sw_request.specs.Refusal.{method_of, name_in}
use Rattle.sw_request.specs.Response.{refusal_answer}
use Rattle.sw_request.specs.declared.method.Method.{Method}
use Rattle.sw_request.specs.declared.method.Method.TheVariants.{Delete, Get, Head, Put}
use Rattle.sw_request.specs.declared.refusal.Refusal.TheVariants.{ETagDiffers}
use Rattle.sw_put.specs.declared.end.PutEnd.{PutEnd}
use Rattle.sw_get.specs.declared.end.GetEnd.{GetEnd}
use Rattle.sw_delete.specs.declared.end.DeleteEnd.{DeleteEnd}
use Rattle.sw_response.specs.Response.{delete_answer, get_answer, put_answer, spent_answer}
use Rattle.sw_front.specs.Over.{Calling, DeletesOver, Drawing, GetsOver, Learning, PutsOver}
use Rattle.sw_front.specs.declared.fault.FrontFault.{FrontFault}
use Rattle.sw_front.specs.declared.fault.FrontFault.TheVariants.{StampsSpent}

-- what a link is to contracts: what its draws and calls may do, its counts, what it has learnt, and whether it may be silent
pub record Ways (L : Type 0) : Type 1 where
  pub draws : Drawing L
  pub calls : Calling L
  pub losses : L → ℕ
  pub refusals : L → ℕ
  pub learnt : Learning L
  pub may_be_silent : L → Type 0

module _ {L : Type 0} (ways : Ways L) (cluster : ClusterModel) where
  -- ---- the operations

  abbrev pub PutRuns : NameModel → ObjectModel → (before : L) → Result PutEnd FrontFault → (after : L) → Type 0
  PutRuns name object before result after = PutsOver ways.draws ways.calls ways.losses ways.learnt cluster name object before result after

  abbrev pub GetRuns : NameModel → (before : L) → Result GetEnd Refused → (after : L) → Type 0
  GetRuns name before result after = GetsOver ways.calls ways.losses ways.learnt (record { cluster = cluster; name = name }) before result after

  abbrev pub DeleteRuns : NameModel → (before : L) → Result DeleteEnd FrontFault → (after : L) → Type 0
  DeleteRuns name before result after = DeletesOver ways.draws ways.calls ways.losses ways.learnt cluster name before result after

  -- The answer is that of the operation's end, or of a stamp that was not drawn; or memory was wanted, and the operation went as far as
  -- it says.
  abbrev pub PutAnswers : NameModel → ObjectModel → (close : Bool) → (before : L) → Result AnswerModel Refused → (after : L) → Type 0
  PutAnswers name object close before (Ok answer) after =
      ((end : PutEnd) × PutRuns name object before (Ok end) after × (answer ≡ put_answer close object.body_md5 end))
      ⊎ (PutRuns name object before (Err StampsSpent) after × Rose (ways.refusals before) (ways.refusals after) × (answer ≡ spent_answer close))
  PutAnswers name object close before (Err refused) after = (result : Result PutEnd FrontFault) × PutRuns name object before result after

  abbrev pub GetAnswers : NameModel → (to_head close : Bool) → (before : L) → Result AnswerModel Refused → (after : L) → Type 0
  GetAnswers name to_head close before (Ok answer) after = (end : GetEnd) × GetRuns name before (Ok end) after × (answer ≡ get_answer to_head close end)
  GetAnswers name to_head close before (Err refused) after = (result : Result GetEnd Refused) × GetRuns name before result after

  abbrev pub DeleteAnswers : NameModel → (close : Bool) → (before : L) → Result AnswerModel Refused → (after : L) → Type 0
  DeleteAnswers name close before (Ok answer) after =
      ((end : DeleteEnd) × DeleteRuns name before (Ok end) after × (answer ≡ delete_answer close end))
      ⊎ (DeleteRuns name before (Err StampsSpent) after × Rose (ways.refusals before) (ways.refusals after) × (answer ≡ spent_answer close))
  DeleteAnswers name close before (Err refused) after = (result : Result DeleteEnd FrontFault) × DeleteRuns name before result after

  -- ---- requests

  abbrev pub MethodAnswers : RequestModel → NameModel → Method → (close : Bool) → (before : L) → Result AnswerModel Refused → (after : L) → Type 0
  MethodAnswers request name Put close before result after = PutAnswers name (object_of (head_in request.head.fields) request.body) close before result after
  MethodAnswers request name Get close before result after = GetAnswers name false close before result after
  MethodAnswers request name Head close before result after = GetAnswers name true close before result after
  MethodAnswers request name Delete close before result after = DeleteAnswers name close before result after

  -- an operation of the request's method on the object of its name was begun, and its end is answered
  pub record Operates (request : RequestModel) (close : Bool) (before : L) (result : Result AnswerModel Refused) (after : L) : Type 0 where
    pub same_tag : has_other_tag request ≡ false
    pub name : NameModel
    pub named : name_in request.head ≡ Some name
    pub method : Method
    pub is_method : method_of request.head.method ≡ Some method
    pub answers : MethodAnswers request name method close before result after

  -- nothing was begun: the body is not the one whose ETag was told, or memory was wanted
  abbrev pub Refuses : RequestModel → (close : Bool) → (before : L) → Result AnswerModel Refused → (after : L) → Type 0
  Refuses request close before (Ok answer) after = (has_other_tag request ≡ true) × (answer ≡ refusal_answer false close ETagDiffers) × (after ≡ before)
  Refuses request close before (Err refused) after = after ≡ before

  -- The answer to a request; it says whether the connection is to be closed as the request asks. The link keeps what it has learnt, or
  -- is silent where it may be.
  abbrev pub Answers : RequestModel → (before : L) → Result AnswerModel Refused → (after : L) → Type 0
  Answers request before result after =
      StillTells (ways.may_be_silent after) (ways.learnt before) (ways.learnt after)
      × (close : Bool) × (IsTrue close ↔ AsksToClose request.head) × (Refuses request close before result after ⊎ Operates request close before result after)
