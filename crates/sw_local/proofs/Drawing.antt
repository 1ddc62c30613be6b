-- A draw of a link over nodes behind locks: it has learnt the put or the delete, and what its pass knows is sound still.
use Rattle.std.proofs.Common.{◌≡◌, ⊎_elim, ℕ, ◌<◌, ◌≤◌, Bool, true, false, Contains, List, [], ◌∷◌, Option, Some, None, sym, ap, subst, ◌∙◌, arith}
use Rattle.std.specs.Prelude.{IfSome}
use Rattle.sw_types.specs.Name.{NameModel, name_fault}
use Rattle.sw_types.specs.Object.{IsObject, ObjectModel}
use Rattle.sw_types.specs.Stamp.{greatest_stamp}
use Rattle.sw_words.specs.Counts.{one_more}
use Rattle.sw_diskfile.proofs.Lists.{Contains-cases, Contains-first, Contains-later, mapped}
use Rattle.sw_ring.specs.Cluster.{ClusterModel}
use Rattle.sw_message.specs.Learnt.{Booked, Marked}
use Rattle.sw_message.specs.Running.{Draws, LearnsOwn, StillTells}
use Rattle.sw_view.specs.View.{DrawnDelete, DrawnPut, Grows, IsFresh, IsSoundView, known_to}
use Rattle.sw_view.specs.declared.event.Event.{Event}
use Rattle.sw_law_view.proofs.Stays.{delete_sound, put_sound}
use Rattle.sw_pass.specs.Known.{AllAgree, deletes_in, history, puts_in, view_of, view_with}
use Rattle.sw_pass.specs.Steps as steps
use Rattle.sw_pass.specs.Steps.{drew, marked, raised}
use Rattle.sw_pass.specs.declared.known.Drawn.{Drawn}
use Rattle.sw_pass.specs.declared.known.Known.{Known}
use Rattle.sw_pass.proofs.Facts.{delete_out, drawn_delete, drawn_put, put_out}
use Rattle.sw_pass.proofs.Histories.{continues_itself}
use Rattle.sw_pass.proofs.Views.{grows_with}
use Rattle.sw_local.specs.Link.{Drew, KnowsSoundly, LocalModel, Spent, learnt_of, told_by}
use Rattle.sw_local.proofs.Looking.{HasLooked, drew_so, has_drawn, has_spent, is_fresh, spent_so}
use Rattle.sw_local.proofs.Telling.{no_less, still_told, told_all}

-- ---- a fact more

module _ (cluster : ClusterModel) (known : Known) (stamp : ℕ) (above : (fact : Drawn) → Contains known.drawn fact → fact.stamp < stamp) (name : NameModel) (mark : ℕ) where
  abbrev fact_with : Option ObjectModel → Drawn
  fact_with object = record { stamp = stamp; name = name; object = object; mark = mark }

  -- the stamp is above all in the view
  fresh_in : IsFresh cluster (view_of cluster known) stamp
  fresh_in = (
    (λ booked has.
        let from = mapped (λ (put : DrawnPut). put.booked) (puts_in known.drawn) booked has in
        subst (λ (one : Booked). one.stamp < stamp) from.2 (above (drawn_put from.0) (put_out known.drawn from.0 from.1))),
    (λ marked has.
        let from = mapped (λ (delete : DrawnDelete). delete.marked) (deletes_in known.drawn) marked has in
        subst (λ (one : Marked). one.stamp < stamp) from.2 (above (drawn_delete from.0) (delete_out known.drawn from.0 from.1))),
  )

  -- so the view stays sound
  sound_with : IsSoundView cluster (view_of cluster known) → stamp ≤ greatest_stamp → name_fault name ≡ None → (object : Option ObjectModel) → IfSome object IsObject
      → IsSoundView cluster (view_with cluster (fact_with object ∷ known.drawn) known.histories)
  sound_with sound bound named None is = delete_sound cluster (view_of cluster known) sound (record { marked = record { stamp = stamp; name = name }; mark = mark }) fresh_in bound
  sound_with sound bound named (Some object) is = put_sound cluster (view_of cluster known) sound (record { booked = record { stamp = stamp; name = name; object = object }; mark = mark }) fresh_in
      (record { policy_rules = sound.rules.policy; stamp_bound = bound; name_rules = named; object_rules = is })

  -- and all of one stamp is the same
  agree_with : AllAgree known.drawn known.drawn → (object : Option ObjectModel) → AllAgree (fact_with object ∷ known.drawn) (fact_with object ∷ known.drawn)
  agree_with agree object = λ one other first second same. ⊎_elim
      (λ here. ⊎_elim
      (λ also. sym here ∙ also)
      (λ later. let stamps : stamp ≡ one.stamp = ap (λ (fact : Drawn). fact.stamp) here in let less = above other later in absurd (omega (arith, stamps, less, same)))
      (Contains-cases (fact_with object) known.drawn other second))
      (λ later. ⊎_elim
      (λ here. let stamps : stamp ≡ other.stamp = ap (λ (fact : Drawn). fact.stamp) here in let less = above one later in absurd (omega (arith, stamps, less, same)))
      (λ also. agree one other later also same)
      (Contains-cases (fact_with object) known.drawn other second))
      (Contains-cases (fact_with object) known.drawn one first)

  grows_by : (object : Option ObjectModel) → Grows (view_of cluster known) (view_with cluster (fact_with object ∷ known.drawn) known.histories)
  grows_by object = grows_with cluster known.drawn (fact_with object ∷ known.drawn) known.histories known.histories (Contains-later (fact_with object) known.drawn) (λ slot. continues_itself (history known.histories slot))

  -- it is among what is known
  has_own : (object : Option ObjectModel) → LearnsOwn (known_to cluster (view_with cluster (fact_with object ∷ known.drawn) known.histories)) name object stamp
  has_own None = Contains-first (record { stamp = stamp; name = name }) (known_to cluster (view_of cluster known)).marks
  has_own (Some object) = Contains-first (record { stamp = stamp; name = name; object = object }) (known_to cluster (view_of cluster known)).book

-- ---- what was drawn

learns_so : (cluster : ClusterModel) (known : Known) → IsSoundView cluster (view_of cluster known) → AllAgree known.drawn known.drawn → (name : NameModel) (object : Option ObjectModel) (stamp : ℕ)
    → LearnsOwn (known_to cluster (view_of cluster known)) name object stamp → LearnsOwn (learnt_of cluster known) name object stamp
learns_so cluster known sound agree name None stamp has = (no_less cluster known sound agree).marks (record { stamp = stamp; name = name }) has
learns_so cluster known sound agree name (Some object) stamp has = (no_less cluster known sound agree).book (record { stamp = stamp; name = name; object = object }) has

module _ (cluster : ClusterModel) (tells : Bool) (mark time : ℕ) (before : Known) (was : KnowsSoundly cluster before) (name : NameModel) (named : name_fault name ≡ None)
    (object : Option ObjectModel) (is_object : IfSome object IsObject) (stamp : ℕ) (bound : stamp ≤ greatest_stamp) (fresh : steps.IsFresh stamp (raised time (marked mark before))) where
  abbrev now : Known
  now = drew stamp name object (raised time (marked mark before))

  knows_now : KnowsSoundly cluster now
  knows_now = (sound_with cluster before stamp fresh.above name mark was.0 bound named object is_object, agree_with cluster before stamp fresh.above name mark was.1 object)

  tells_now : StillTells ⊥ (told_by cluster tells before) (told_by cluster tells now)
  tells_now = still_told cluster before now was knows_now tells (grows_by cluster before stamp fresh.above name mark object)

  learns_by : (t : Bool) → Draws (told_by cluster t now) name object stamp
  learns_by false = tt
  learns_by true = rw (told_all cluster now knows_now) (learns_so cluster now knows_now.0 knows_now.1 name object stamp (has_own cluster before stamp fresh.above name mark object))

-- a draw of a link whose pass looked before, and what it was asked for
pub record HasDrawn {T : Type 0} (cluster : ClusterModel) (shows : T → ℕ → Type 0) (before : LocalModel T) (name : NameModel) (object : Option ObjectModel) (stamp : ℕ) (after : Known) : Type 0 where
  pub mark : ℕ
  pub found : Known
  pub time : ℕ
  pub look : HasLooked shows before mark found time
  pub drawn : after ≡ drew stamp name object (raised time found)
  pub fresh : steps.IsFresh stamp (raised time found)
  pub knows : KnowsSoundly cluster before.known
  pub named : name_fault name ≡ None
  pub is_object : IfSome object IsObject
  pub bound : stamp ≤ greatest_stamp

module _ {T : Type 0} {cluster : ClusterModel} {shows : T → ℕ → Type 0} {before : LocalModel T} {name : NameModel} {object : Option ObjectModel} {stamp : ℕ} {after : Known}
    (is : HasDrawn cluster shows before name object stamp after) where
  drawn_so : after ≡ drew stamp name object (raised is.time (marked is.mark before.known))
  drawn_so = has_drawn is.look after stamp name object is.drawn is.fresh

  fresh_so : steps.IsFresh stamp (raised is.time (marked is.mark before.known))
  fresh_so = is_fresh is.look after stamp name object is.drawn is.fresh

  pub draws : Drew shows before name object stamp (record before { known = after })
  draws = drew_so is.look after stamp name object is.drawn is.fresh

  pub knows_drawn : KnowsSoundly cluster after
  knows_drawn = subst (KnowsSoundly cluster) (sym drawn_so) (knows_now cluster true is.mark is.time before.known is.knows name is.named object is.is_object stamp is.bound fresh_so)

  pub tells_drawn : (tells : Bool) → StillTells ⊥ (told_by cluster tells before.known) (told_by cluster tells after)
  tells_drawn tells = subst (λ (known : Known). StillTells ⊥ (told_by cluster tells before.known) (told_by cluster tells known)) (sym drawn_so)
      (tells_now cluster tells is.mark is.time before.known is.knows name is.named object is.is_object stamp is.bound fresh_so)

  pub learns_drawn : (tells : Bool) → Draws (told_by cluster tells after) name object stamp
  learns_drawn tells = subst (λ (known : Known). Draws (told_by cluster tells known) name object stamp) (sym drawn_so)
      (learns_by cluster tells is.mark is.time before.known is.knows name is.named object is.is_object stamp is.bound fresh_so tells)

-- ---- nothing was drawn

-- a draw that was refused
pub record HasSpent {T : Type 0} (cluster : ClusterModel) (shows : T → ℕ → Type 0) (before : LocalModel T) (after : Known) : Type 0 where
  pub mark : ℕ
  pub found : Known
  pub time : ℕ
  pub look : HasLooked shows before mark found time
  pub refused : steps.Refused time found after
  pub knows : KnowsSoundly cluster before.known

module _ {T : Type 0} {cluster : ClusterModel} {shows : T → ℕ → Type 0} {before : LocalModel T} {after : Known} (is : HasSpent cluster shows before after) where
  same_facts : (after.drawn ≡ before.known.drawn) × (after.histories ≡ before.known.histories)
  same_facts = ⊎_elim
      (λ same. (ap (λ (known : Known). known.drawn) same, ap (λ (known : Known). known.histories) same))
      (λ same. (ap (λ (known : Known). known.drawn) same, ap (λ (known : Known). known.histories) same))
      (has_spent is.look after is.refused)

  pub spends : Spent shows before (record before { known = after; refused = one_more before.refused })
  spends = spent_so is.look after is.refused

  pub knows_spent : KnowsSoundly cluster after
  knows_spent = rw (same_facts.0, same_facts.1) is.knows

  pub tells_spent : (tells : Bool) → StillTells ⊥ (told_by cluster tells before.known) (told_by cluster tells after)
  tells_spent tells = still_told cluster before.known after is.knows knows_spent tells
      (grows_with cluster before.known.drawn after.drawn before.known.histories after.histories
      (λ fact has. subst (λ (facts : List Drawn). Contains facts fact) (sym same_facts.0) has)
      (λ slot. ([], ap (λ (all : List (List Event)). history all slot) same_facts.1)))
