-- A view that is sound keeps the duties of its devices.
use Rattle.std.proofs.Common.{◌≡◌, ◌⊎◌, inl, inr, ⊎_elim, ℕ, true≢false, Contains, Some, refl, sym, subst, ◌∙◌}
use Rattle.sw_hashpath.specs.Place.{IsPlace, PlaceModel}
use Rattle.sw_ring.specs.Cluster.{ClusterModel}
use Rattle.sw_message.specs.Learnt.{Learnt}
use Rattle.sw_message.specs.Message.{IsPlaceOf, is_primary, place_in}
use Rattle.sw_message.specs.Warrant.{IsPrimaryOf, ShowsAbove, ShowsDurable}
use Rattle.sw_message.specs.declared.message.Msg.{Msg}
use Rattle.sw_message.specs.declared.message.Msg.TheVariants as message
use Rattle.sw_message.specs.declared.reply.Reply.{Reply}
use Rattle.sw_message.specs.declared.reply.Reply.TheVariants as reply
use Rattle.sw_message.specs.declared.target.Target.{Target}
use Rattle.sw_law_claim.specs.Claim.{ADurableEntry, AnEntry, AsksAway, Claim, Claims, IsOfIndex, What}
use Rattle.sw_law_owed.proofs.Kept.{IsAway}
use Rattle.sw_law_owed.proofs.Primaries.{at_primary}
use Rattle.sw_view.specs.View.{IsFirm, IsSoundView, View, known_to}
use Rattle.sw_view.specs.declared.event.Event.TheVariants.{Handled}
use Rattle.sw_law_view.specs.Duties.{BearsAt, Here, IsDutyKept, IsReplacedSince, KeepsDuties, ReplacedHere, ReplacedThere, There}
use Rattle.sw_law_view.proofs.Fates.{Away, Bears, IsLostIn, Lost, fate}
use Rattle.sw_law_view.proofs.Removals.{WasShown, asked_away}

module _ (cluster : ClusterModel) (view : View) (sound : IsSoundView cluster view) where
  abbrev learnt : Learnt
  learnt = known_to cluster view

  -- what a device handled is about a place of the cluster
  pub handled_place : (device : ℕ) (msg : Msg) (given : Reply) (place : PlaceModel) → Contains (view.history device) (Handled msg given) → place_in msg ≡ Some place → IsPlace cluster.part_power place
  handled_place device msg given place has there = subst (IsPlaceOf cluster) there (sound.closed.fair device (Handled msg given) has).0

  -- a disk that was replaced though it bore a claim was so since all that is not newer
  pub replaced_since : (device : ℕ) (place : PlaceModel) (is_place : IsPlace cluster.part_power place) (claim : Claim) → IsLostIn cluster learnt sound.stamped device place is_place claim (view.history device) → IsReplacedSince view device claim.stamp
  replaced_since device place is_place claim (loss, has, guard) = (
    loss,
    has,
    λ put there below. guard put.booked.stamp put.mark below (sound.puts put device there),
    λ delete there below. guard delete.marked.stamp delete.mark below (sound.deletes delete device there),
  )

  -- ---- one device

  module _ (device : ℕ) (place : PlaceModel) (claim : Claim) where
    -- the entry was removed from a handoff
    abbrev pub WasAway : Type 0
    WasAway = (msg : Msg) × IsAway cluster device place claim msg × IsFirm cluster learnt msg

    -- what a reply claimed is borne still, or the disk was replaced, or the entry was removed
    pub claimed : (msg : Msg) (given : Reply) → Contains (view.history device) (Handled msg given) → place_in msg ≡ Some place → Claims (is_primary cluster device place) msg given claim
        → IsReplacedSince view device claim.stamp ⊎ (BearsAt cluster view device place claim ⊎ WasAway)
    claimed msg given has there claims =
        let is_place = handled_place device msg given place has there in
        let replay = sound.closed.replayed device in
        elim (fate cluster learnt sound.stamped device place is_place claim msg given there claims (view.history device) replay.0 (sound.closed.fair device) replay.1 has) [
          | Bears borne ↦ inr (inl (λ disk side replays is. borne disk replays side is))
          | Lost lost ↦ inl (replaced_since device place is_place claim lost)
          | Away other away firm ↦ inr (inr (other, away, firm))
        ]

  -- ---- primaries

  module _ (place : PlaceModel) (stamp index device : ℕ) (primary : IsPrimaryOf cluster place index device) where
    abbrev durable : Claim
    durable = record { stamp = stamp; what = ADurableEntry index }

    -- what the primary of an index has shown it holds
    pub shown : (msg : Msg) (given : Reply) → Contains (view.history device) (Handled msg given) → place_in msg ≡ Some place → ShowsDurable stamp index msg given ⊎ ShowsAbove stamp given
        → IsReplacedSince view device stamp ⊎ BearsAt cluster view device place durable
    shown msg given has there shows = ⊎_elim
        (λ replaced. inl replaced)
        (λ rest. ⊎_elim (λ bears. inr bears) (λ away. absurd (true≢false (sym (at_primary cluster place index device primary) ∙ away.1.0))) rest)
        (claimed device place durable msg given has there (inr (at_primary cluster place index device primary, (index, refl, shows))))

  -- ---- duties

  module _ (place : PlaceModel) (stamp : ℕ) (target : Target) (what : What) (of : (other : ℕ) → IsOfIndex other what → target.index ≡ other) where
    -- of what was removed
    away_kept : (msg : Msg) → AsksAway place (record { stamp = stamp; what = what }) msg → IsFirm cluster learnt msg → IsDutyKept cluster view place stamp target what
    away_kept msg asks firm =
        let away = asked_away cluster view place (record { stamp = stamp; what = what }) msg asks firm in
        let was : WasShown cluster view place stamp target.index = subst (WasShown cluster view place stamp) (sym (of away.0 away.1)) away.2 in
        ⊎_elim (λ replaced. ReplacedThere was.primary was.of replaced) (λ bears. There was.primary was.of bears) (shown place stamp target.index was.primary was.of was.msg was.given was.has was.there was.shows)

    pub kept : (msg : Msg) (given : Reply) → Contains (view.history target.device) (Handled msg given) → place_in msg ≡ Some place
        → Claims (is_primary cluster target.device place) msg given (record { stamp = stamp; what = what }) → IsDutyKept cluster view place stamp target what
    kept msg given has there claims = ⊎_elim
        (λ replaced. ReplacedHere replaced)
        (λ rest. ⊎_elim (λ bears. Here bears) (λ away. away_kept away.0 away.1.1 away.2) rest)
        (claimed target.device place (record { stamp = stamp; what = what }) msg given has there claims)

  -- all duties
  pub duties : KeepsDuties cluster view
  duties = record {
    stored = λ place stamp target bytes home has. kept place stamp target (AnEntry target.index) (λ other same. same) (message.PutFrag place stamp target.index bytes) reply.Synced has refl (inl refl);
    committed = λ place stamp target home has. kept place stamp target (ADurableEntry target.index) (λ other same. same) (message.Commit place stamp target.index) reply.Committed has refl (inl refl);
    shown = λ place stamp index device msg given primary has there shows. shown place stamp index device primary msg given has there shows;
  }
