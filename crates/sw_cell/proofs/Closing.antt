-- Where what stood behind a lock is closed: the pass had all that the seat knew of what happened, and has of its device no more.
use Rattle.std.proofs.Common.{◌≡◌, ⊎_elim, ℕ, List, sym, ap, subst, ◌∙◌}
use Rattle.sw_disk.specs.Runs.{Seen}
use Rattle.sw_ring.specs.Cluster.{ClusterModel}
use Rattle.sw_objsrv.specs.Node.{NodeModel}
use Rattle.sw_law_replayed.specs.Standing.{IsReplayed}
use Rattle.sw_view.specs.History.{Continues}
use Rattle.sw_view.specs.declared.event.Event.{Event}
use Rattle.sw_pass.specs.Known.{Covers, history}
use Rattle.sw_pass.specs.Steps.{Knows, joined, learned, noted, old_of}
use Rattle.sw_pass.specs.declared.known.Kind.TheVariants as kind
use Rattle.sw_pass.specs.declared.known.Known.{Known}
use Rattle.sw_cell.specs.Locked.{AreCounted}
use Rattle.sw_cell.specs.Standing.{HasHistory}
use Rattle.sw_cell.proofs.Joined.{covers_noted, own_stays}
use Rattle.sw_cell.proofs.Leaving.{either_kept, same_continued}

-- a disk has the history that its node stands for
pub has_history : {D : Type 0} (cluster : ClusterModel) (seen : D → Seen) (events : List Event) (node : NodeModel D) (device : ℕ) (disk : D) → disk ≡ node.disk → node.device ≡ device
    → IsReplayed cluster seen events node → AreCounted events (seen node.disk).faults → HasHistory cluster seen device events disk
has_history cluster seen events node device disk same_disk same_device is counted =
    subst (λ (one : _). HasHistory cluster seen device events one) (sym same_disk)
    (subst (λ (id : ℕ). HasHistory cluster seen id events node.disk) same_device (record { is_due = node.is_due; holds = is.folders; counted = counted }))

-- The seat takes in what the pass knows, and the pass what the seat knows then.
module _ (pass seat first entered second after : Known)
    (first_is : first ≡ noted pass) (rest : entered ≡ learned (joined seat first)) (second_is : second ≡ noted entered) (rest_after : after ≡ learned (joined pass second)) where
  module _ (cluster : ClusterModel) (learnt : Knows cluster (joined seat first)) (told : Covers pass (old_of seat)) (slot : ℕ) where
    -- of each device the seat has then what the pass has
    entered_same : history entered.histories slot ≡ history pass.histories slot
    entered_same =
        let is = ap (λ (known : Known). history known.histories slot) rest in
        let theirs : history first.histories slot ≡ history pass.histories slot = ap (λ (known : Known). history known.histories slot) first_is in
        let on = (covers_noted seat first entered rest cluster learnt pass first_is).histories slot in
        ⊎_elim
        (λ own. same_continued (history entered.histories slot) (history pass.histories slot) on
        (subst (λ (events : List Event). Continues (history pass.histories slot) events) (sym (is ∙ own)) (told.histories slot)))
        (λ other. is ∙ (other ∙ theirs))
        (either_kept seat.kind seat.histories first.histories slot)

    -- and so the pass has what it had
    pub pass_same : history after.histories slot ≡ history pass.histories slot
    pass_same =
        let is = ap (λ (known : Known). history known.histories slot) rest_after in
        let theirs : history second.histories slot ≡ history entered.histories slot = ap (λ (known : Known). history known.histories slot) second_is in
        ⊎_elim (λ own. is ∙ own) (λ other. is ∙ (other ∙ (theirs ∙ entered_same))) (either_kept pass.kind pass.histories second.histories slot)

    -- which of the seat's own device is what the seat had
    pub pass_own : seat.kind ≡ kind.Node slot → history seat.histories slot ≡ history after.histories slot
    pass_own node = sym (own_stays seat first entered rest slot node) ∙ (entered_same ∙ sym pass_same)
