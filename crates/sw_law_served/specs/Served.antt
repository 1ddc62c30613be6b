-- What the answer to a request over nodes behind locks shows, by what the pass of the thread knows.
use Rattle.std.specs.Prelude.{◌≡◌, ◌⊎◌, ◌↔◌, ◌<◌, ◌≤◌, ◌+◌, ℕ, Bool, true, false, IsTrue, List, [], ◌∷◌, length, Some, None, Result, Ok, Err, ⊤}
use Rattle.sw_types.specs.Name.{NameModel}
use Rattle.sw_types.specs.Object.{ObjectModel, object_of}
use Rattle.sw_types.specs.declared.memory.NoMemory.{NoMemory as Refused}
use Rattle.sw_ring.specs.Cluster.{ClusterModel}
use Rattle.sw_message.specs.Transcript.{Closed, Gave, IsRun, Step}
use Rattle.sw_httpwrite.specs.Answer.{AnswerModel}
use Rattle.sw_request.specs.Body.{RequestModel}
use Rattle.sw_request.specs.Fields.{AsksToClose}
use Rattle.sw_request.specs.Metadata.{head_in}
use Rattle.sw_request.specs.Refusal.{method_of, name_in}
use Rattle.sw_request.specs.declared.method.Method.{Method}
use Rattle.sw_request.specs.declared.method.Method.TheVariants.{Delete, Get, Head, Put}
use Rattle.sw_delete.specs.Delete as deletes
use Rattle.sw_delete.specs.declared.end.DeleteEnd.{DeleteEnd}
use Rattle.sw_get.specs.Get as gets
use Rattle.sw_get.specs.declared.end.GetEnd.{GetEnd}
use Rattle.sw_put.specs.Put as puts
use Rattle.sw_put.specs.declared.end.PutEnd.{PutEnd}
use Rattle.sw_put.specs.declared.end.PutEnd.TheVariants.{Created}
use Rattle.sw_response.specs.Response.{delete_answer, get_answer, put_answer, spent_answer}
use Rattle.sw_request.specs.Response.{refusal_answer}
use Rattle.sw_request.specs.declared.refusal.Refusal.TheVariants.{ETagDiffers}
use Rattle.sw_front.specs.Answering.{Ways}
use Rattle.sw_front.specs.Over.{IfFound, delete_machine, delete_of, put_machine, put_of}
use Rattle.sw_law_rounds.specs.Ends.{IsNotOlder, IsOvertaken, Shows}
use Rattle.sw_view.specs.View.{DrawnPut, Grows, IsSoundView, View}
use Rattle.sw_law_reading.specs.Reading.{AreCallsOver, AreOut, IsFoundIn, KnowsCreated}
use Rattle.sw_pass.specs.Known.{view_of}
use Rattle.sw_cell.specs.Learning.{HasGrown}
use Rattle.sw_local.specs.Link.{Calls, Draws, Drew, LocalModel, Spent, told_by}

-- a link to nodes behind locks, as what it is to contracts
abbrev pub local_ways : {T : Type 0} → ClusterModel → (tells : Bool) → (shows : T → ℕ → Type 0) → Ways (LocalModel T)
local_ways cluster tells shows = record {
  draws = Draws cluster shows;
  calls = Calls cluster tells;
  losses = λ it. it.losses;
  refusals = λ it. it.refused;
  learnt = λ it. told_by cluster tells it.known;
  may_be_silent = λ it. ⊥;
}

-- what the pass of a link knows
abbrev pub view_by : {T : Type 0} → ClusterModel → LocalModel T → View
view_by cluster link = view_of cluster link.known

abbrev pub get_of : ClusterModel → NameModel → gets.Begun
get_of cluster name = record { cluster = cluster; name = name }

-- each message that was closed was answered
abbrev pub AreAnswered : List Step → Type 0
AreAnswered [] = ⊤
AreAnswered (Gave sent ∷ past) = AreAnswered past
AreAnswered (Closed sent (Some reply) ∷ past) = AreAnswered past
AreAnswered (Closed sent None ∷ past) = ⊥

module _ {T : Type 0} (cluster : ClusterModel) where
  -- The messages of an operation were calls over the link, one behind the other, and none was lost: each let the view grow, and each reply but
  -- want of memory is the latest event of its device then. The pass drew nothing, and its clock is what it was.
  pub record WentBy (before : LocalModel T) (past : List Step) (after : LocalModel T) : Type 0 where
    pub calls : AreCallsOver cluster (view_by cluster before) past (view_by cluster after)
    pub answered : AreAnswered past
    pub grown : HasGrown before.known after.known

  -- ---- gets

  -- A get of the name went over the link and has ended. What it found is the whole object of one put that the pass knows, and each of its replies
  -- is an event in the histories. Of a put of the name that the pass knew acknowledged as the get began it tells nothing older while fewer devices
  -- are out than committed; while besides at most q - k are out it shows that put or something newer, or it was overtaken.
  pub record GetWent (name : NameModel) (before : LocalModel T) (end : GetEnd) (after : LocalModel T) : Type 0 where
    pub past : List Step
    pub run : IsRun (gets.IsNext (get_of cluster name)) past
    pub went : WentBy before past after
    pub ended : gets.IsEnd (get_of cluster name) past end
    pub found : IfFound end (IsFoundIn cluster (view_by cluster after) (get_of cluster name) past)
    pub not_older : (put : DrawnPut) (commits : ℕ) (out : List ℕ) → put.booked.name ≡ name → KnowsCreated cluster (view_by cluster before) put commits
        → AreOut (view_by cluster after) (get_of cluster name) past put.mark out → length out < commits → IsNotOlder put.booked.stamp end
    pub shows_put : (put : DrawnPut) (commits : ℕ) (out : List ℕ) → put.booked.name ≡ name → KnowsCreated cluster (view_by cluster before) put commits
        → AreOut (view_by cluster after) (get_of cluster name) past put.mark out → length out < commits → length out + cluster.policy.k ≤ cluster.policy.q
        → Shows put.booked.stamp end ⊎ IsOvertaken end

-- ---- puts and deletes

-- what a draw adds for a put
abbrev pub put_drawn : NameModel → ObjectModel → (stamp mark : ℕ) → DrawnPut
put_drawn name object stamp mark = record { booked = record { stamp = stamp; name = name; object = object }; mark = mark }

module _ {T : Type 0} (cluster : ClusterModel) (shows : T → ℕ → Type 0) where
  -- A put drew a stamp and went over the link, and has ended. Where it ended as created the pass knows it acknowledged with as many commits.
  pub record PutWent (name : NameModel) (object : ObjectModel) (before : LocalModel T) (end : PutEnd) (after : LocalModel T) : Type 0 where
    pub stamp : ℕ
    pub drawn : LocalModel T
    pub draw : Drew shows before name (Some object) stamp drawn
    pub past : List Step
    pub run : IsRun (put_machine cluster name object stamp) past
    pub went : WentBy cluster drawn past after
    pub ended : puts.put_end (put_of cluster name object stamp) past ≡ Some end
    pub created : (commits : ℕ) → end ≡ Created stamp commits → KnowsCreated cluster (view_by cluster after) (put_drawn name object stamp draw.raises.mark) commits

  -- A delete drew a stamp and went over the link, and has ended.
  pub record DeleteWent (name : NameModel) (before : LocalModel T) (end : DeleteEnd) (after : LocalModel T) : Type 0 where
    pub stamp : ℕ
    pub drawn : LocalModel T
    pub draw : Drew shows before name None stamp drawn
    pub past : List Step
    pub run : IsRun (delete_machine cluster name stamp) past
    pub went : WentBy cluster drawn past after
    pub ended : deletes.delete_end (delete_of cluster name stamp) past ≡ Some end

  -- ---- requests

  abbrev pub MethodShows : RequestModel → NameModel → Method → (close : Bool) → (before : LocalModel T) → AnswerModel → (after : LocalModel T) → Type 0
  MethodShows request name Put close before answer after =
      let object : ObjectModel = object_of (head_in request.head.fields) request.body in
      ((end : PutEnd) × PutWent name object before end after × (answer ≡ put_answer close object.body_md5 end)) ⊎ (Spent shows before after × (answer ≡ spent_answer close))
  MethodShows request name Get close before answer after = (end : GetEnd) × GetWent cluster name before end after × (answer ≡ get_answer false close end)
  MethodShows request name Head close before answer after = (end : GetEnd) × GetWent cluster name before end after × (answer ≡ get_answer true close end)
  MethodShows request name Delete close before answer after = ((end : DeleteEnd) × DeleteWent name before end after × (answer ≡ delete_answer close end)) ⊎ (Spent shows before after × (answer ≡ spent_answer close))

  -- an operation of the request's method on the object of its name was begun, and its end is answered
  pub record OperationShows (request : RequestModel) (close : Bool) (before : LocalModel T) (answer : AnswerModel) (after : LocalModel T) : Type 0 where
    pub name : NameModel
    pub named : name_in request.head ≡ Some name
    pub method : Method
    pub is_method : method_of request.head.method ≡ Some method
    pub shown : MethodShows request name method close before answer after

  -- What the answer shows; where memory was wanted there is none.
  abbrev pub AnswerShows : RequestModel → (before : LocalModel T) → Result AnswerModel Refused → (after : LocalModel T) → Type 0
  AnswerShows request before (Ok answer) after =
      (close : Bool) × (IsTrue close ↔ AsksToClose request.head)
      × (((after ≡ before) × (answer ≡ refusal_answer false close ETagDiffers)) ⊎ OperationShows request close before answer after)
  AnswerShows request before (Err refused) after = ⊤

  -- The answer to a request shows this, the view has grown, and it is sound.
  pub record ShowsSoundly (request : RequestModel) (before : LocalModel T) (result : Result AnswerModel Refused) (after : LocalModel T) : Type 0 where
    pub grows : Grows (view_by cluster before) (view_by cluster after)
    pub sound : IsSoundView cluster (view_by cluster after)
    pub shown : AnswerShows request before result after

-- a link that loses no call, and whose pass knows soundly
pub record MayServe {T : Type 0} (cluster : ClusterModel) (link : LocalModel T) : Type 0 where
  pub none_lost : link.lost ≡ []
  pub sound : IsSoundView cluster (view_by cluster link)
