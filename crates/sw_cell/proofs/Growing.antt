-- What a seat knows once it added to the history at its slot: its view has grown.
use Rattle.std.proofs.Common.{ℕ, Contains, List, [], sym, subst}
use mathlib.Core.Logic.{dite}
use native.Mathlib.Decide.{ℕ_discrete}
use Rattle.sw_ring.specs.Cluster.{ClusterModel}
use Rattle.sw_view.specs.History.{Continues}
use Rattle.sw_view.specs.View.{Grows}
use Rattle.sw_pass.specs.Known.{history, view_of}
use Rattle.sw_pass.specs.declared.known.Drawn.{Drawn}
use Rattle.sw_pass.specs.declared.known.Known.{Known}
use Rattle.sw_pass.proofs.Views.{grows_with}
use Rattle.sw_cell.specs.Handling.{HasAdded}

pub added_grows : (cluster : ClusterModel) (slot : ℕ) (before after : Known) → HasAdded slot before after → Continues (history after.histories slot) (history before.histories slot) → Grows (view_of cluster before) (view_of cluster after)
added_grows cluster slot before after added on =
    grows_with cluster before.drawn after.drawn before.histories after.histories
    (λ fact has. subst (λ (facts : List Drawn). Contains facts fact) (sym added.drawn) has)
    (λ other. dite (ℕ_discrete other slot)
    (λ same. subst (λ (place : ℕ). Continues (history after.histories place) (history before.histories place)) (sym same) on)
    (λ apart. ([], added.others other apart)))
