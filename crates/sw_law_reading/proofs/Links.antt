-- A run over a link each of whose calls is one of its view is a chain of views.
use Rattle.std.proofs.Common.{ℕ, List, [], ◌∷◌, Option, ap, subst, sym}
use Rattle.sw_ring.specs.Cluster.{ClusterModel}
use Rattle.sw_message.specs.Running.{AreCalls}
use Rattle.sw_message.specs.Transcript.{Gave, Step, Closed}
use Rattle.sw_message.specs.declared.message.Msg.{Msg}
use Rattle.sw_message.specs.declared.reply.Reply.{Reply}
use Rattle.sw_view.specs.View.{View}
use Rattle.sw_law_reading.specs.Reading.{AreCallsOver, IsCall}

-- A link may cease to tell of its view, and does not begin again. Where a call after which it tells found it telling, and is one of its view,
-- a run after which it tells is a chain of views.
module _ {L : Type 0} (calls : L → ℕ → Msg → Option Reply → L → Type 0) (losses : L → ℕ) (view : L → View) (Tells : L → Type 0) (cluster : ClusterModel)
    (one : (before : L) (device : ℕ) (msg : Msg) (answer : Option Reply) (after : L) → calls before device msg answer after → Tells after → Tells before × IsCall cluster (view before) device msg answer (view after)) where
  pub chained : (before : L) (past : List Step) (after : L) → AreCalls calls losses before past after → Tells after → Tells before × AreCallsOver cluster (view before) past (view after)
  chained before [] after same tells = (subst Tells (sym same) tells, ap view same)
  chained before (Gave sent ∷ more) after none tells = absurd none
  chained before (Closed sent answer ∷ []) after none tells = absurd none
  chained before (Closed sent answer ∷ Closed same again ∷ more) after none tells = absurd none
  chained before (Closed sent answer ∷ Gave same ∷ more) after (between, were, same_is, call, counts) tells =
      let last = one between sent.device sent.msg answer after call tells in
      let first = chained before more between were last.0 in
      (first.0, (view between, first.1, same_is, last.1))
