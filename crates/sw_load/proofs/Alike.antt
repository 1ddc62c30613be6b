-- Two runs of the same events are alike.
use Rattle.std.proofs.Common.{◌≡◌, List, [], ◌∷◌, refl, sym, ap, subst, ◌∙◌}
use Rattle.sw_ring.specs.Cluster.{ClusterModel}
use Rattle.sw_script.specs.declared.event.Event.{Event}
use Rattle.sw_sim_world.specs.Doing.{Done}
use Rattle.sw_sim_world.specs.ScriptedWorld.{ScriptedWorld}
use Rattle.sw_lab.specs.declared.summary.Summary.{Summary}
use Rattle.sw_play.proofs.OneSteps.{EventLaw, IsReached}
use Rattle.sw_play.proofs.OneStory.{done_once}
use Rattle.sw_load.specs.Load.{DoesEach, with_ends, with_story}

pub one_summary : (law : EventLaw) (cluster : ClusterModel) (events : List Event) (before : ScriptedWorld) (story other : List Done) (after later : ScriptedWorld) (summary : Summary)
    → IsReached cluster before → DoesEach before events story after → DoesEach before events other later → with_story story summary ≡ with_story other summary
one_summary law cluster [] before [] [] after later summary reached x y = refl
one_summary law cluster [] before (done ∷ story) other after later summary reached x y = absurd x
one_summary law cluster [] before [] (done ∷ other) after later summary reached x y = absurd y
one_summary law cluster (event ∷ events) before [] other after later summary reached x y = absurd x
one_summary law cluster (event ∷ events) before (one ∷ story) [] after later summary reached x y = absurd y
one_summary law cluster (event ∷ events) before (one ∷ story) (two ∷ other) after later summary reached x y =
    let same = done_once law cluster event before reached one two x.0 y.0 x.1 y.1 in
    one_summary law cluster events one.after story other after later (with_ends one.told.ends summary) same.1 x.2 (subst (λ (done : Done). DoesEach done.after events other later) (sym same.0) y.2)
    ∙ ap (λ (done : Done). with_story other (with_ends done.told.ends summary)) same.0
