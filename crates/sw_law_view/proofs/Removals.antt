-- Where the removal of an entry is firmly warranted, the primary of its index has shown it durable, or a floor above its stamp.
use Rattle.std.proofs.Common.{◌≡◌, ◌⊎◌, inr, ⊎_elim, ℕ, Contains, Some, refl, sym, subst}
use Rattle.sw_hashpath.specs.Place.{PlaceModel}
use Rattle.sw_ring.specs.Cluster.{ClusterModel, ids_of}
use Rattle.sw_message.specs.Learnt.{Learnt}
use Rattle.sw_message.specs.Message.{is_primary, place_in}
use Rattle.sw_message.specs.Warrant.{HeardAt, IsPrimaryOf, ShowsAbove, ShowsDurable}
use Rattle.sw_message.specs.declared.message.Msg.{Msg}
use Rattle.sw_message.specs.declared.message.Msg.TheVariants as message
use Rattle.sw_message.specs.declared.reply.Reply.{Reply}
use Rattle.sw_law_claim.specs.Claim.{ADurableEntry, AsksAway, Claim, IsOfIndex}
use Rattle.sw_law_owed.proofs.Faults.{no_claim}
use Rattle.sw_law_owed.proofs.Primaries.{at_primary}
use Rattle.sw_view.specs.View.{IsFirm, View, known_to}
use Rattle.sw_view.specs.declared.event.Event.TheVariants.{Handled}
use Rattle.sw_view.proofs.Known.{from_known}

module _ (cluster : ClusterModel) (view : View) where
  abbrev learnt : Learnt
  learnt = known_to cluster view

  -- an event of the primary of an index shows its entry durable, or a floor above its stamp
  pub record WasShown (place : PlaceModel) (stamp index : ℕ) : Type 0 where
    pub primary : ℕ
    pub of : IsPrimaryOf cluster place index primary
    pub msg : Msg
    pub given : Reply
    pub has : Contains (view.history primary) (Handled msg given)
    pub there : place_in msg ≡ Some place
    pub shows : ShowsDurable stamp index msg given ⊎ ShowsAbove stamp given

  -- a reply that is known does
  abbrev IsShown : PlaceModel → (stamp index : ℕ) → Type 0
  IsShown place stamp index = HeardAt learnt place (λ heard. IsPrimaryOf cluster place index heard.device × (ShowsDurable stamp index heard.msg heard.reply ⊎ ShowsAbove stamp heard.reply))

  -- which is no failure: that shows nothing
  shown_by : (place : PlaceModel) (stamp index : ℕ) → IsShown place stamp index → WasShown place stamp index
  shown_by place stamp index at =
      let heard = at.heard in
      record {
        primary = heard.device;
        of = at.shows.0;
        msg = heard.msg;
        given = heard.reply;
        has = ⊎_elim
            (λ has. has)
            (λ failed.
            let fault = subst (λ r. ShowsDurable stamp index heard.msg r ⊎ ShowsAbove stamp r) failed.1 at.shows.1 in
            absurd (no_claim (is_primary cluster heard.device place) heard.msg (record { stamp = stamp; what = ADurableEntry index }) (inr (at_primary cluster place index heard.device at.shows.0, (index, refl, fault)))))
            (from_known (ids_of cluster) view heard at.known);
        there = at.same_place;
        shows = at.shows.1;
      }

  pub asked_away : (place : PlaceModel) (claim : Claim) (msg : Msg) → AsksAway place claim msg → IsFirm cluster learnt msg → (index : ℕ) × IsOfIndex index claim.what × WasShown place claim.stamp index
  asked_away place claim (message.Remove at stamp index) (same, stamps, of) firm =
      (index, of, shown_by place claim.stamp index (subst (λ s. IsShown place s index) (sym stamps) (subst (λ p. IsShown p stamp index) same firm)))
  asked_away place claim msg asks firm = absurd asks
