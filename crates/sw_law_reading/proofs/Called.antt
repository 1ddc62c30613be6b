-- What was answered over a link is an event in the view at the end, whatever the operation.
use Rattle.std.proofs.Common.{◌≡◌, ⊎_elim, ℕ, Contains, List, [], ◌∷◌, Option, Some, sym, subst}
use Rattle.sw_diskfile.proofs.Lists.{Contains-cases, Contains-first, Contains-none}
use Rattle.sw_ring.specs.Cluster.{ClusterModel}
use Rattle.sw_message.specs.Transcript.{Closed, Gave, Step}
use Rattle.sw_message.specs.declared.message.Msg.{Msg}
use Rattle.sw_message.specs.declared.reply.Reply.{Reply}
use Rattle.sw_message.specs.declared.reply.Reply.TheVariants as reply
use Rattle.sw_message.specs.declared.sent.Sent.{Sent}
use Rattle.sw_view.specs.View.{Grows, View}
use Rattle.sw_view.specs.declared.event.Event.{Event}
use Rattle.sw_view.specs.declared.event.Event.TheVariants.{Faulted, Handled}
use Rattle.sw_view.proofs.Growth.{continues_has, grows_both, grows_same}
use Rattle.sw_law_reading.specs.Reading.{AddsReply, AreCallsOver, IsCall, IsEventIn, IsLatest}

module _ (cluster : ClusterModel) (before : View) where
  -- views only grow
  pub grown : (past : List Step) (after : View) → AreCallsOver cluster before past after → Grows before after
  grown [] after same = subst (Grows before) same (grows_same before)
  grown (Gave sent ∷ more) after none = absurd none
  grown (Closed sent answer ∷ []) after none = absurd none
  grown (Closed sent answer ∷ Closed same again ∷ more) after none = absurd none
  grown (Closed sent answer ∷ Gave same ∷ more) after calls = grows_both before calls.0 after (grown more calls.0 calls.1) calls.3.grows

  -- a call of the transcript
  pub record WasCalled (sent : Sent) (answer : Option Reply) (after : View) : Type 0 where
    pub first : View
    pub second : View
    pub call : IsCall cluster first sent.device sent.msg answer second
    pub grows : Grows second after

  pub called : (past : List Step) (after : View) → AreCallsOver cluster before past after → (sent : Sent) (answer : Option Reply) → Contains past (Closed sent answer) → WasCalled sent answer after
  called [] after same sent answer has = absurd (Contains-none _ has)
  called (Gave one ∷ more) after none sent answer has = absurd none
  called (Closed one answered_so ∷ []) after none sent answer has = absurd none
  called (Closed one answered_so ∷ Closed same again ∷ more) after none sent answer has = absurd none
  called (Closed one answered_so ∷ Gave same ∷ more) after calls sent answer has = ⊎_elim
      (λ here.
      let sents : one ≡ sent = cc here in
      let answers : answered_so ≡ answer = cc here in
      subst (λ s. WasCalled s answer after) sents (subst (λ a. WasCalled one a after) answers (record { first = calls.0; second = after; call = calls.3; grows = grows_same after })))
      (λ later. ⊎_elim
      (λ gave. absurd (cc gave))
      (λ earlier.
      let was = called more calls.0 calls.1 sent answer earlier in
      record { first = was.first; second = was.second; call = was.call; grows = grows_both was.second calls.0 after was.grows calls.3.grows })
      (Contains-cases (Gave same) more (Closed sent answer) later))
      (Contains-cases (Closed one answered_so) (Gave same ∷ more) (Closed sent answer) has)

module _ (first second after : View) (grows : Grows second after) (device : ℕ) where
  stands : (event : Event) → IsLatest first second device event → Contains (after.history device) event
  stands event is =
      continues_has (second.history device) (after.history device) (grows.histories device) event (subst (λ events. Contains events event) (sym is.2) (Contains-first event is.0))

  event_in : (msg : Msg) (given : Reply) → AddsReply first second device msg (Some given) → IsEventIn after device msg given
  event_in msg reply.NoMemory adds = tt
  event_in msg reply.DiskFault adds = stands (Faulted msg) adds
  event_in msg other adds = stands (Handled msg other) adds

-- each reply is an event at the end
pub answered_event : (cluster : ClusterModel) (before : View) (past : List Step) (after : View) → AreCallsOver cluster before past after → (sent : Sent) (given : Reply) → Contains past (Closed sent (Some given)) → IsEventIn after sent.device sent.msg given
answered_event cluster before past after calls sent given has =
    let was = called cluster before past after calls sent (Some given) has in
    event_in was.first was.second after was.grows sent.device sent.msg given was.call.adds
