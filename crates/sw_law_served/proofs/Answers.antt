-- An answer over a link to nodes behind locks that loses no call shows what the view promises.
use Rattle.std.proofs.Common.{◌≡◌, inl, inr, ⊎_elim, ℕ, Bool, true, false, List, [], Option, Some, None, refl, sym, ap, subst, ◌∙◌}
use Rattle.std.specs.Prelude.{Result, Ok, Err}
use Rattle.sw_types.specs.Name.{NameModel}
use Rattle.sw_types.specs.Object.{ObjectModel, object_of}
use Rattle.sw_types.specs.declared.memory.NoMemory.{NoMemory as Refused}
use Rattle.sw_ring.specs.Cluster.{ClusterModel}
use Rattle.sw_message.specs.Learnt.{Own}
use Rattle.sw_message.specs.Transcript.{IsRun, Next, Step}
use Rattle.sw_httpwrite.specs.Answer.{AnswerModel}
use Rattle.sw_request.specs.Body.{RequestModel}
use Rattle.sw_request.specs.Metadata.{head_in}
use Rattle.sw_request.specs.declared.method.Method.{Method}
use Rattle.sw_request.specs.declared.method.Method.TheVariants.{Delete, Get, Head, Put}
use Rattle.sw_delete.specs.declared.end.DeleteEnd.{DeleteEnd}
use Rattle.sw_get.specs.Get as gets
use Rattle.sw_get.specs.declared.end.GetEnd.{GetEnd}
use Rattle.sw_get.specs.declared.end.GetEnd.TheVariants.{Found}
use Rattle.sw_put.specs.declared.end.PutEnd.{PutEnd}
use Rattle.sw_front.specs.Answering.{Answers, DeleteAnswers, GetAnswers, MethodAnswers, PutAnswers, Refuses, Ways}
use Rattle.sw_front.specs.Over.{DeletesOver, GetsOver, IfFound, Learning, PutsOver, WentOver, put_of}
use Rattle.sw_front.specs.declared.fault.FrontFault.{FrontFault}
use Rattle.sw_front.specs.declared.fault.FrontFault.TheVariants as fault
use Rattle.sw_view.specs.View.{Grows, IsSoundView}
use Rattle.sw_view.proofs.Growth.{grows_both, grows_same}
use Rattle.sw_law_reading.specs.Reading.{AreCallsOver, IsFoundIn}
use Rattle.sw_law_reading.proofs.Acknowledged.{created_over}
use Rattle.sw_law_reading.proofs.Called.{grown}
use Rattle.sw_law_reading.proofs.Shows.{found_over, never_older, shows as all_shows}
use Rattle.sw_local.specs.Link.{Calls, Draws, LocalModel, Spent}
use Rattle.sw_law_served.specs.Served.{AnswerShows, DeleteWent, GetWent, MayServe, MethodShows, PutWent, ShowsSoundly, WentBy, get_of, local_ways, put_drawn, view_by}
use Rattle.sw_law_served.proofs.Calls.{sound_behind, went_by}
use Rattle.sw_law_served.proofs.Draws.{grown_by, grown_spent, has_put, lost_same}
use Rattle.sw_law_served.proofs.Lost.{lost_kept}

-- what a stretch of a connection leaves of the link
pub record IsLeft {T : Type 0} (cluster : ClusterModel) (before after : LocalModel T) : Type 0 where
  pub grows : Grows (view_by cluster before) (view_by cluster after)
  pub sound : IsSoundView cluster (view_by cluster after)

module _ {T : Type 0} (cluster : ClusterModel) (losses : LocalModel T → ℕ) (learnt : Learning (LocalModel T)) where
  -- ---- an operation's calls

  module _ (own : Own) (machine : List Step → Next → Type 0) (before : LocalModel T) (past : List Step) (after : LocalModel T) (may : MayServe cluster before)
      (over : WentOver (Calls cluster true) losses learnt cluster own machine before past after) where
    lost_none : after.lost ≡ []
    lost_none = lost_kept cluster true losses before past after over.calls_are ∙ may.none_lost

    pub went : WentBy cluster before past after
    went = went_by cluster losses before past after over.calls_are lost_none

    pub sound_first : IsSoundView cluster (view_by cluster before)
    sound_first = may.sound

    pub left : IsLeft cluster before after
    left = record {
      grows = grown cluster (view_by cluster before) past (view_by cluster after) went.calls;
      sound = sound_behind cluster before after past went.calls sound_first;
    }

  -- ---- gets

  module _ (name : NameModel) (before after : LocalModel T) (may : MayServe cluster before) where
    if_found : (past : List Step) → IsRun (gets.IsNext (get_of cluster name)) past → AreCallsOver cluster (view_by cluster before) past (view_by cluster after) → IsSoundView cluster (view_by cluster before)
        → (end : GetEnd) → gets.IsEnd (get_of cluster name) past end → IfFound end (IsFoundIn cluster (view_by cluster after) (get_of cluster name) past)
    if_found past run calls sound (Found stamp object sources) ended = found_over cluster (view_by cluster before) (view_by cluster after) (get_of cluster name) past stamp object sources sound refl run calls ended
    if_found past run calls sound other ended = tt

    pub get_went : (end : GetEnd) → GetsOver (Calls cluster true) losses learnt (get_of cluster name) before (Ok end) after → GetWent cluster name before end after
    get_went end (past, over, ended, finds) =
        let by : WentBy cluster before past after = went _ _ before past after may over in
        let sound : IsSoundView cluster (view_by cluster before) = sound_first _ _ before past after may over in
        record {
          past = past;
          run = over.run;
          went = by;
          ended = ended;
          found = if_found past over.run by.calls sound end ended;
          not_older = λ put commits out named knows out_of less. never_older cluster put commits out end
              (record { before = view_by cluster before; after = view_by cluster after; sound = sound; knows = knows; begun = get_of cluster name; cluster_is = refl; same_name = sym named; past = past; run = over.run; calls = by.calls; ended = ended; out_of = out_of }) less;
          shows_put = λ put commits out named knows out_of less most. all_shows cluster put commits out end
              (record { before = view_by cluster before; after = view_by cluster after; sound = sound; knows = knows; begun = get_of cluster name; cluster_is = refl; same_name = sym named; past = past; run = over.run; calls = by.calls; ended = ended; out_of = out_of }) less most;
        }

    pub get_left : (result : Result GetEnd Refused) → GetsOver (Calls cluster true) losses learnt (get_of cluster name) before result after → IsLeft cluster before after
    get_left (Ok end) (past, over, ended, finds) = left _ _ before past after may over
    get_left (Err refused) (past, over) = left _ _ before past after may over

  -- ---- puts and deletes

  module _ (shows : T → ℕ → Type 0) (name : NameModel) (before after : LocalModel T) (may : MayServe cluster before) where
    -- behind a draw
    may_still : (object : Option ObjectModel) (stamp : ℕ) (drawn : LocalModel T) → Draws cluster shows before name object (Ok stamp) drawn → MayServe cluster drawn
    may_still object stamp drawn (draw, knows) = record { none_lost = lost_same cluster shows before name object stamp drawn draw ∙ may.none_lost; sound = knows.0 }

    -- and what went over the link behind that
    left_behind : (object : Option ObjectModel) (stamp : ℕ) (drawn : LocalModel T) (draw : Draws cluster shows before name object (Ok stamp) drawn) → IsLeft cluster drawn after → IsLeft cluster before after
    left_behind object stamp drawn draw is = record {
      grows = grows_both (view_by cluster before) (view_by cluster drawn) (view_by cluster after) (grown_by cluster shows before name object stamp drawn draw.0) is.grows;
      sound = is.sound;
    }

    pub put_went : (object : ObjectModel) (end : PutEnd) → PutsOver (Draws cluster shows) (Calls cluster true) losses learnt cluster name object before (Ok end) after → PutWent cluster shows name object before end after
    put_went object end (stamp, past, drew, ended) =
        let still : MayServe cluster drew.drawn = may_still (Some object) stamp drew.drawn drew.draw in
        let by : WentBy cluster drew.drawn past after = went _ _ drew.drawn past after still drew.went in
        let sound : IsSoundView cluster (view_by cluster drew.drawn) = sound_first _ _ drew.drawn past after still drew.went in
        record {
          stamp = stamp;
          drawn = drew.drawn;
          draw = drew.draw.0;
          past = past;
          run = drew.went.run;
          went = by;
          ended = ended;
          created = λ commits is. created_over cluster (view_by cluster drew.drawn) (view_by cluster after) (put_of cluster name object stamp) past
              (put_drawn name object stamp drew.draw.0.raises.mark) commits (record { rules = sound.rules }) refl drew.went.run by.calls
              (has_put cluster shows before name object stamp drew.drawn drew.draw.0) refl refl (ended ∙ ap Some is);
        }

    pub delete_went : (end : DeleteEnd) → DeletesOver (Draws cluster shows) (Calls cluster true) losses learnt cluster name before (Ok end) after → DeleteWent cluster shows name before end after
    delete_went end (stamp, past, drew, ended) = record {
      stamp = stamp;
      drawn = drew.drawn;
      draw = drew.draw.0;
      past = past;
      run = drew.went.run;
      went = went _ _ drew.drawn past after (may_still None stamp drew.drawn drew.draw) drew.went;
      ended = ended;
    }

    -- no stamp was drawn
    spent_left : Spent shows before after → IsSoundView cluster (view_by cluster after) → IsLeft cluster before after
    spent_left spent sound = record { grows = grown_spent shows before after spent cluster; sound = sound }

    pub put_left : (object : ObjectModel) (result : Result PutEnd FrontFault) → PutsOver (Draws cluster shows) (Calls cluster true) losses learnt cluster name object before result after → IsLeft cluster before after
    put_left object (Ok end) (stamp, past, drew, ended) = left_behind (Some object) stamp drew.drawn drew.draw (left _ _ drew.drawn past after (may_still (Some object) stamp drew.drawn drew.draw) drew.went)
    put_left object (Err fault.StampsSpent) (spent, knows) = spent_left spent knows.0
    put_left object (Err fault.NoMemory) (stamp, past, drew) = left_behind (Some object) stamp drew.drawn drew.draw (left _ _ drew.drawn past after (may_still (Some object) stamp drew.drawn drew.draw) drew.went)

    pub delete_left : (result : Result DeleteEnd FrontFault) → DeletesOver (Draws cluster shows) (Calls cluster true) losses learnt cluster name before result after → IsLeft cluster before after
    delete_left (Ok end) (stamp, past, drew, ended) = left_behind None stamp drew.drawn drew.draw (left _ _ drew.drawn past after (may_still None stamp drew.drawn drew.draw) drew.went)
    delete_left (Err fault.StampsSpent) (spent, knows) = spent_left spent knows.0
    delete_left (Err fault.NoMemory) (stamp, past, drew) = left_behind None stamp drew.drawn drew.draw (left _ _ drew.drawn past after (may_still None stamp drew.drawn drew.draw) drew.went)

-- ---- requests

module _ {T : Type 0} (cluster : ClusterModel) (shows : T → ℕ → Type 0) where
  abbrev ways : Ways (LocalModel T)
  ways = local_ways cluster true shows

  abbrev losses : LocalModel T → ℕ
  losses = ways.losses

  abbrev learnt : Learning (LocalModel T)
  learnt = ways.learnt

  module _ (request : RequestModel) (before after : LocalModel T) (may : MayServe cluster before) (name : NameModel) (close : Bool) where
    method_shows : (method : Method) (answer : AnswerModel) → MethodAnswers ways cluster request name method close before (Ok answer) after → MethodShows cluster shows request name method close before answer after
    method_shows Put answer answers = ⊎_elim
        (λ ended. inl (ended.0, put_went cluster losses learnt shows name before after may (object_of (head_in request.head.fields) request.body) ended.0 ended.1, ended.2))
        (λ spent. inr (spent.0.0, spent.2))
        answers
    method_shows Get answer (end, over, is) = (end, get_went cluster losses learnt name before after may end over, is)
    method_shows Head answer (end, over, is) = (end, get_went cluster losses learnt name before after may end over, is)
    method_shows Delete answer answers = ⊎_elim
        (λ ended. inl (ended.0, delete_went cluster losses learnt shows name before after may ended.0 ended.1, ended.2))
        (λ spent. inr (spent.0.0, spent.2))
        answers

    put_answers_left : (object : ObjectModel) (result : Result AnswerModel Refused) → PutAnswers ways cluster name object close before result after → IsLeft cluster before after
    put_answers_left object (Ok answer) answers = ⊎_elim
        (λ ended. put_left cluster losses learnt shows name before after may object (Ok ended.0) ended.1)
        (λ spent. put_left cluster losses learnt shows name before after may object (Err fault.StampsSpent) spent.0)
        answers
    put_answers_left object (Err refused) (result, over) = put_left cluster losses learnt shows name before after may object result over

    get_answers_left : (to_head : Bool) (result : Result AnswerModel Refused) → GetAnswers ways cluster name to_head close before result after → IsLeft cluster before after
    get_answers_left to_head (Ok answer) (end, over, is) = get_left cluster losses learnt name before after may (Ok end) over
    get_answers_left to_head (Err refused) (result, over) = get_left cluster losses learnt name before after may result over

    delete_answers_left : (result : Result AnswerModel Refused) → DeleteAnswers ways cluster name close before result after → IsLeft cluster before after
    delete_answers_left (Ok answer) answers = ⊎_elim
        (λ ended. delete_left cluster losses learnt shows name before after may (Ok ended.0) ended.1)
        (λ spent. delete_left cluster losses learnt shows name before after may (Err fault.StampsSpent) spent.0)
        answers
    delete_answers_left (Err refused) (result, over) = delete_left cluster losses learnt shows name before after may result over

    method_left : (method : Method) (result : Result AnswerModel Refused) → MethodAnswers ways cluster request name method close before result after → IsLeft cluster before after
    method_left Put result answers = put_answers_left (object_of (head_in request.head.fields) request.body) result answers
    method_left Get result answers = get_answers_left false result answers
    method_left Head result answers = get_answers_left true result answers
    method_left Delete result answers = delete_answers_left result answers

  module _ (request : RequestModel) (before after : LocalModel T) (may : MayServe cluster before) where
    untouched : after ≡ before → IsLeft cluster before after
    untouched same = subst (λ (link : LocalModel T). IsLeft cluster before link) (sym same) (record { grows = grows_same (view_by cluster before); sound = may.sound })

    refused_left : (result : Result AnswerModel Refused) (close : Bool) → Refuses ways cluster request close before result after → IsLeft cluster before after
    refused_left (Ok answer) close refuses = untouched refuses.2
    refused_left (Err refused) close same = untouched same

    is_left : (result : Result AnswerModel Refused) → Answers ways cluster request before result after → IsLeft cluster before after
    is_left result (tells, close, asks, answers) = ⊎_elim
        (refused_left result close)
        (λ operates. method_left request before after may operates.name close operates.method result operates.answers)
        answers

    answer_shows : (result : Result AnswerModel Refused) → Answers ways cluster request before result after → AnswerShows cluster shows request before result after
    answer_shows (Ok answer) (tells, close, asks, answers) = (
      close,
      asks,
      ⊎_elim
          (λ refuses. inl (refuses.2, refuses.1))
          (λ operates. inr (record {
            name = operates.name;
            named = operates.named;
            method = operates.method;
            is_method = operates.is_method;
            shown = method_shows request before after may operates.name close operates.method answer operates.answers;
          }))
          answers,
    )
    answer_shows (Err refused) answers = tt

    pub shows_soundly : (result : Result AnswerModel Refused) → Answers ways cluster request before result after → ShowsSoundly cluster shows request before result after
    shows_soundly result answers =
        let left = is_left result answers in
        record { grows = left.grows; sound = left.sound; shown = answer_shows result answers }
