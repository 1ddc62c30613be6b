-- A draw of a link over nodes behind locks: the view has the put then, it has grown, and is sound still.
use Rattle.std.proofs.Common.{◌≡◌, ⊎_elim, ℕ, Contains, List, [], ◌∷◌, Option, Some, sym, ap, subst, ◌∙◌}
use Rattle.sw_types.specs.Name.{NameModel}
use Rattle.sw_types.specs.Object.{ObjectModel}
use Rattle.sw_diskfile.proofs.Lists.{Contains-first, Contains-later}
use Rattle.sw_ring.specs.Cluster.{ClusterModel}
use Rattle.sw_view.specs.View.{Grows}
use Rattle.sw_view.specs.declared.event.Event.{Event}
use Rattle.sw_pass.specs.Known.{history, puts_in}
use Rattle.sw_pass.specs.Steps.{fact_of}
use Rattle.sw_pass.specs.declared.known.Drawn.{Drawn}
use Rattle.sw_pass.specs.declared.known.Known.{Known}
use Rattle.sw_pass.proofs.Views.{grows_with}
use Rattle.sw_local.specs.Link.{Drew, LocalModel, Spent}
use Rattle.sw_law_served.specs.Served.{put_drawn, view_by}

module _ {T : Type 0} (cluster : ClusterModel) (shows : T → ℕ → Type 0) (before : LocalModel T) (name : NameModel) (object : Option ObjectModel) (stamp : ℕ) (drawn : LocalModel T)
    (draw : Drew shows before name object stamp drawn) where
  abbrev raised_to : Known
  raised_to = draw.raised_to

  facts : drawn.known.drawn ≡ fact_of stamp name object raised_to ∷ raised_to.drawn
  facts = ap (λ (known : Known). known.drawn) draw.drawn

  same_facts : raised_to.drawn ≡ before.known.drawn
  same_facts = ap (λ (known : Known). known.drawn) draw.raises.raised_is

  same_histories : drawn.known.histories ≡ before.known.histories
  same_histories = ap (λ (known : Known). known.histories) draw.drawn ∙ ap (λ (known : Known). known.histories) draw.raises.raised_is

  pub grown_by : Grows (view_by cluster before) (view_by cluster drawn)
  grown_by = grows_with cluster before.known.drawn drawn.known.drawn before.known.histories drawn.known.histories
      (λ fact has. subst (λ (all : List Drawn). Contains all fact) (sym facts)
      (Contains-later (fact_of stamp name object raised_to) raised_to.drawn fact (subst (λ (all : List Drawn). Contains all fact) (sym same_facts) has)))
      (λ slot. ([], ap (λ (all : List (List Event)). history all slot) same_histories))

  pub lost_same : drawn.lost ≡ before.lost
  lost_same = ap (λ (link : LocalModel T). link.lost) draw.after_is

-- ---- no stamp was drawn

module _ {T : Type 0} (shows : T → ℕ → Type 0) (before after : LocalModel T) (spent : Spent shows before after) where
  spent_facts : (after.known.drawn ≡ before.known.drawn) × (after.known.histories ≡ before.known.histories)
  spent_facts =
      let raises = spent.raises.raised_is in
      ⊎_elim
      (λ same. (ap (λ (known : Known). known.drawn) same ∙ ap (λ (known : Known). known.drawn) raises, ap (λ (known : Known). known.histories) same ∙ ap (λ (known : Known). known.histories) raises))
      (λ same. (ap (λ (known : Known). known.drawn) same ∙ ap (λ (known : Known). known.drawn) raises, ap (λ (known : Known). known.histories) same ∙ ap (λ (known : Known). known.histories) raises))
      spent.spent

  pub grown_spent : (cluster : ClusterModel) → Grows (view_by cluster before) (view_by cluster after)
  grown_spent cluster = grows_with cluster before.known.drawn after.known.drawn before.known.histories after.known.histories
      (λ fact has. subst (λ (all : List Drawn). Contains all fact) (sym spent_facts.0) has)
      (λ slot. ([], ap (λ (all : List (List Event)). history all slot) spent_facts.1))

-- ---- a put

module _ {T : Type 0} (cluster : ClusterModel) (shows : T → ℕ → Type 0) (before : LocalModel T) (name : NameModel) (object : ObjectModel) (stamp : ℕ) (drawn : LocalModel T)
    (draw : Drew shows before name (Some object) stamp drawn) where
  mark_is : draw.raised_to.mark ≡ draw.raises.mark
  mark_is = ap (λ (known : Known). known.mark) draw.raises.raised_is

  -- the view has the put
  pub has_put : Contains (view_by cluster drawn).puts (put_drawn name object stamp draw.raises.mark)
  has_put = subst (λ (mark : ℕ). Contains (view_by cluster drawn).puts (put_drawn name object stamp mark)) mark_is
      (subst (λ (all : List Drawn). Contains (puts_in all) (put_drawn name object stamp draw.raised_to.mark)) (sym (facts cluster shows before name (Some object) stamp drawn draw))
      (Contains-first (put_drawn name object stamp draw.raised_to.mark) (puts_in draw.raised_to.drawn)))
