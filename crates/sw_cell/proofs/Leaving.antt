-- As a call ends: the pass took in what the seat of the node knows, and has of the device the seat's history.
use Rattle.std.proofs.Common.{◌≡◌, ◌⊎◌, inl, inr, ⊎_elim, ℕ, zero, suc, ◌+◌, Bool, List, [], ◌∷◌, length, refl, sym, ap, subst, ◌∙◌, arith, length-append}
use mathlib.Core.Logic.{dite}
use native.Mathlib.Decide.{ℕ_discrete}
use Rattle.sw_ring.specs.Cluster.{ClusterModel}
use Rattle.sw_message.specs.declared.message.Msg.{Msg}
use Rattle.sw_message.specs.declared.reply.Reply.{Reply}
use Rattle.sw_message.specs.declared.reply.Reply.TheVariants.{NoMemory}
use Rattle.sw_view.specs.History.{Continues}
use Rattle.sw_view.specs.declared.event.Event.{Event}
use Rattle.sw_view.specs.declared.event.Event.TheVariants.{Mounted}
use Rattle.sw_pass.specs.Known.{history}
use Rattle.sw_pass.specs.Steps.{Knows, joined, learned, longest, noted, own_kept}
use Rattle.sw_pass.specs.declared.known.Kind.{Kind}
use Rattle.sw_pass.specs.declared.known.Kind.TheVariants as kind
use Rattle.sw_pass.specs.declared.known.Known.{Known}
use Rattle.sw_pass.proofs.Histories.{by_longer, continues_itself, continues_length, continues_more, continues_one, history_other, history_same}
use Rattle.sw_cell.specs.Calling.{IsCalled, IsRepliedTo, event_of, replied_events, shown}
use Rattle.sw_cell.specs.Handling.{HasAdded}
use Rattle.sw_cell.proofs.Joined.{covers_noted, learnt_after}

-- ---- histories

-- two that go on from one another are one
pub same_continued : (one other : List Event) → Continues one other → Continues other one → one ≡ other
same_continued one other ([], is) back = is
same_continued one other (event ∷ more, is) back =
    let more_long : length one ≡ suc (length more + length other) = ap length is ∙ ap suc (length-append more other) in
    let no_longer = continues_length other one back in
    absurd (omega arith)

-- a join has at each slot the history of one of the two
either_longest : (ones others : List (List Event)) (slot : ℕ) → (history (longest ones others) slot ≡ history ones slot) ⊎ (history (longest ones others) slot ≡ history others slot)
either_longest [] others slot = inr refl
either_longest (one ∷ ones) [] slot = inl refl
either_longest (one ∷ ones) (other ∷ others) zero = by_longer (λ (events : List Event). (events ≡ one) ⊎ (events ≡ other)) one other (λ less. inr refl) (λ least. inl refl)
either_longest (one ∷ ones) (other ∷ others) (suc slot) = either_longest ones others slot

pub either_kept : (of : Kind) (ones others : List (List Event)) (slot : ℕ) → (history (own_kept of ones others) slot ≡ history ones slot) ⊎ (history (own_kept of ones others) slot ≡ history others slot)
either_kept kind.Pass ones others slot = either_longest ones others slot
either_kept kind.Note ones others slot = either_longest ones others slot
either_kept kind.Spent ones others slot = either_longest ones others slot
either_kept (kind.Node own) ones others slot = dite (ℕ_discrete slot own)
    (λ same. inl (subst (λ (place : ℕ). history (own_kept (kind.Node own) ones others) place ≡ history ones place) (sym same) (history_same (longest ones others) own (history ones own))))
    (λ apart. subst (λ (events : List Event). (events ≡ history ones slot) ⊎ (events ≡ history others slot)) (sym (history_other (longest ones others) own slot (history ones own) apart)) (either_longest ones others slot))

-- ---- replies

replied_more : (tells : Bool) (msg : Msg) (reply : Reply) (events : List Event) → Continues (replied_events tells msg reply events) events
replied_more tells msg NoMemory events = continues_itself events
replied_more tells msg reply events = continues_one (shown tells (event_of msg reply)) events

-- a reply goes on from what had happened
replied_on : (tells : Bool) (msg : Msg) (reply : Reply) (past events : List Event) → IsRepliedTo tells msg reply past events → Continues events past
replied_on tells msg reply past events is =
    let mounted : Continues is.middle past = ⊎_elim
    (λ same. subst (λ (middle : List Event). Continues middle past) (sym same) (continues_itself past))
    (λ same. subst (λ (middle : List Event). Continues middle past) (sym same) (continues_one Mounted past))
    is.mounted in
    subst (λ (latest : List Event). Continues latest past) (sym is.latest) (continues_more _ is.middle past (replied_more tells msg reply is.middle) mounted)

-- ---- the call

-- a pass that takes in what a seat knows has of the seat's device what the seat has, where that goes on from what the pass had
pub same_history : (slot : ℕ) (pass left after note : Known) → note ≡ noted left → after ≡ learned (joined pass note) → Continues (history after.histories slot) (history left.histories slot) → Continues (history left.histories slot) (history pass.histories slot)
    → history after.histories slot ≡ history left.histories slot
same_history slot pass left after note noted_so rest covers later =
    let is : history after.histories slot ≡ history (own_kept pass.kind pass.histories note.histories) slot = ap (λ (known : Known). history known.histories slot) rest in
    let theirs : history note.histories slot ≡ history left.histories slot = ap (λ (known : Known). history known.histories slot) noted_so in
    ⊎_elim
    (λ own. same_continued (history after.histories slot) (history left.histories slot) covers (subst (λ (events : List Event). Continues (history left.histories slot) events) (sym (is ∙ own)) later))
    (λ other. is ∙ (other ∙ theirs))
    (either_kept pass.kind pass.histories note.histories slot)

module _ (cluster : ClusterModel) (tells : Bool) (slot : ℕ) (msg : Msg) (reply : Reply) (pass seat entered left after : Known) where
  pub called : (first second : Known) → first ≡ noted pass → entered ≡ learned (joined seat first) → (Knows cluster (joined seat first))
      → HasAdded slot entered left → IsRepliedTo tells msg reply (history entered.histories slot) (history left.histories slot)
      → second ≡ noted left → after ≡ learned (joined pass second) → (Knows cluster (joined pass second))
      → IsCalled cluster tells slot msg reply pass after
  called first second first_is rest learnt added replied second_is rest_after knows =
      let later = (covers_noted seat first entered rest cluster learnt pass first_is).histories slot in
      let covers = (covers_noted pass second after rest_after cluster knows left second_is).histories slot in
      let on = continues_more (history left.histories slot) (history entered.histories slot) (history pass.histories slot) (replied_on tells msg reply (history entered.histories slot) (history left.histories slot) replied) later in
      record {
        learnt = learnt_after pass second after rest_after cluster knows;
        past = history entered.histories slot;
        later = later;
        replied = subst (IsRepliedTo tells msg reply (history entered.histories slot)) (sym (same_history slot pass left after second second_is rest_after covers on)) replied;
      }
