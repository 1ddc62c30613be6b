-- As a view grows, what it knew stays known and what was firmly warranted is so still; a closed view stays closed.
use Rattle.std.proofs.Common.{◌≡◌, ⊎_elim, ℕ, Bool, Contains, List, [], ◌∷◌, ◌++◌, refl, sym, ap, subst, ◌∙◌, append_assoc}
use Rattle.std.specs.Prelude.{if◌then◌else◌}
use Rattle.std.proofs.lemmas.Bool.{cases_eq, eq-eqb, ne_eqb}
use Rattle.std.proofs.lemmas.List.Elements.{All-weaker, Contains-append_cases, Contains-append_left, Contains-append_right}
use Rattle.sw_diskfile.proofs.Lists.{Contains-cases, Contains-map, mapped}
use Rattle.sw_ring.specs.Cluster.{ClusterModel, ids_of}
use Rattle.sw_message.specs.Learnt.{Heard, Keeps, Learnt}
use Rattle.sw_message.specs.Warrant.{IsSynced}
use Rattle.sw_message.specs.declared.message.Msg.{Msg}
use Rattle.sw_message.specs.declared.message.Msg.TheVariants as message
use Rattle.sw_law_scene.specs.Disks.{Disk}
use Rattle.sw_law_scene.proofs.Knowledge.{warranted_kept}
use Rattle.sw_view.specs.History.{Continues, Replays}
use Rattle.sw_view.specs.View.{DrawnDelete, DrawnPut, Grows, IsClosed, IsFairEvent, IsFirm, IsJoined, View, heard_at, heard_in, known_to, with_event}
use Rattle.sw_view.specs.declared.event.Event.{Event}
use Rattle.sw_view.specs.declared.event.Event.TheVariants.{Faulted, Handled, Mounted, Replaced}
use Rattle.sw_view.proofs.Known.{heard_more}

-- ---- histories

pub continues_both : (first second third : List Event) → Continues second first → Continues third second → Continues third first
continues_both first second third one other = (other.0 ++ one.0, other.1 ∙ ap (λ events. other.0 ++ events) one.1 ∙ sym (append_assoc other.0 one.0 first))

pub continues_has : (earlier later : List Event) → Continues later earlier → (event : Event) → Contains earlier event → Contains later event
continues_has earlier later on event has = subst (λ events. Contains events event) (sym on.1) (Contains-append_right on.0 earlier event has)

pub grows_same : (view : View) → Grows view view
grows_same view = record { puts = λ put has. has; deletes = λ delete has. has; histories = λ device. ([], refl) }

pub grows_both : (first second third : View) → Grows first second → Grows second third → Grows first third
grows_both first second third one other = record {
  puts = λ put has. other.puts put (one.puts put has);
  deletes = λ delete has. other.deletes delete (one.deletes delete has);
  histories = λ device. continues_both (first.history device) (second.history device) (third.history device) (one.histories device) (other.histories device);
}

-- ---- replies

module _ (before after : View) (grows : Grows before after) where
  heard_still : (devices : List ℕ) (heard : Heard) → Contains (heard_in devices before) heard → Contains (heard_in devices after) heard
  heard_still [] heard has = has
  heard_still (device ∷ devices) heard has = ⊎_elim
      (λ here.
      let on = grows.histories device in
      Contains-append_left (heard_at device (after.history device)) (heard_in devices after) heard
      (subst (λ events. Contains (heard_at device events) heard) (sym on.1) (heard_more device on.0 (before.history device) heard here)))
      (λ later. Contains-append_right (heard_at device (after.history device)) (heard_in devices after) heard (heard_still devices heard later))
      (Contains-append_cases (heard_at device (before.history device)) (heard_in devices before) heard has)

  module _ (cluster : ClusterModel) where
    pub keeps : Keeps (known_to cluster before) (known_to cluster after)
    keeps = record {
      book = λ booked has.
          let from = mapped (λ (put : DrawnPut). put.booked) before.puts booked has in
          subst (Contains (known_to cluster after).book) from.2 (Contains-map (λ (put : DrawnPut). put.booked) after.puts from.0 (grows.puts from.0 from.1));
      marks = λ marked has.
          let from = mapped (λ (delete : DrawnDelete). delete.marked) before.deletes marked has in
          subst (Contains (known_to cluster after).marks) from.2 (Contains-map (λ (delete : DrawnDelete). delete.marked) after.deletes from.0 (grows.deletes from.0 from.1));
      heard = heard_still (ids_of cluster);
    }

-- ---- warrants

module _ (cluster : ClusterModel) (old new : Learnt) (more : Keeps old new) where
  pub firm_kept : (msg : Msg) → IsFirm cluster old msg → IsFirm cluster new msg
  firm_kept (message.Commit place stamp index) is = record {
    targets = is.targets;
    enough = is.enough;
    indices = is.indices;
    devices = is.devices;
    homes = is.homes;
    synced = All-weaker (IsSynced old.heard place stamp) (IsSynced new.heard place stamp) (λ target was. (was.0, more.heard _ was.1)) is.targets is.synced;
  }
  firm_kept (message.Delete place stamp) (marked, known, same, placed) = (marked, more.marks marked known, same, placed)
  firm_kept (message.PutFrag place stamp index bytes) is = warranted_kept cluster old new more (message.PutFrag place stamp index bytes) is
  firm_kept (message.Remove place stamp index) is = warranted_kept cluster old new more (message.Remove place stamp index) is
  firm_kept (message.Ask place) is = tt
  firm_kept (message.Fetch place stamp index) is = tt
  firm_kept message.Parts is = tt
  firm_kept (message.Suffixes part) is = tt
  firm_kept (message.Places part) is = tt

  pub fair_kept : (event : Event) → IsFairEvent cluster old event → IsFairEvent cluster new event
  fair_kept (Handled msg given) is = (is.0, firm_kept msg is.1)
  fair_kept (Faulted msg) is = (is.0, firm_kept msg is.1)
  fair_kept Mounted is = tt
  fair_kept (Replaced loss) is = tt

-- ---- one event more

module _ (device : ℕ) (event : Event) (view : View) where
  abbrev more_view : View
  more_view = with_event device event view

  abbrev chosen : ℕ → Bool → List Event
  chosen other b = if b then event ∷ view.history other else view.history other

  pub here : more_view.history device ≡ event ∷ view.history device
  here = ap (chosen device) (eq-eqb device device refl)

  pub there : (other : ℕ) → (other ≡ device → ⊥) → more_view.history other ≡ view.history other
  there other apart = ap (chosen other) (ne_eqb other device apart)

  pub grown : Grows view more_view
  grown = record {
    puts = λ put has. has;
    deletes = λ delete has. has;
    histories = λ other. ⊎_elim
        (λ same. (event ∷ [], ap (chosen other) (eq-eqb other device same)))
        (λ apart. ([], there other apart))
        (cases_eq other device);
  }

  -- the view stays closed, where the event is fair and the disk may hold something after it
  pub closed_on : (cluster : ClusterModel) → IsClosed cluster view → IsFairEvent cluster (known_to cluster view) event → (disk : Disk) → Replays cluster device (event ∷ view.history device) disk → IsClosed cluster more_view
  closed_on cluster closed fair disk replays =
      let kept = fair_kept cluster (known_to cluster view) (known_to cluster more_view) (keeps view more_view grown cluster) in
      record {
        fair = λ other one has. ⊎_elim
            (λ same.
            ⊎_elim (λ first. subst (IsFairEvent cluster (known_to cluster more_view)) first (kept event fair)) (λ later. kept one (closed.fair other one later))
            (Contains-cases event (view.history other) one (subst (λ events. Contains events one) (ap (chosen other) (eq-eqb other device same)) has)))
            (λ apart. kept one (closed.fair other one (subst (λ events. Contains events one) (there other apart) has)))
            (cases_eq other device);
        replayed = λ other. ⊎_elim
            (λ same. subst (λ (d : ℕ). (one : Disk) × Replays cluster d (more_view.history d) one) (sym same) (disk, subst (λ events. Replays cluster device events disk) (sym here) replays))
            (λ apart. let one = closed.replayed other in (one.0, subst (λ events. Replays cluster other events one.0) (sym (there other apart)) one.1))
            (cases_eq other device);
      }

-- ---- two views in one

pub closed_in_both : (cluster : ClusterModel) (one other both : View) → IsClosed cluster one → IsClosed cluster other → IsJoined one other both → IsClosed cluster both
closed_in_both cluster one other both first second is =
    let kept_first = fair_kept cluster (known_to cluster one) (known_to cluster both) (keeps one both is.first cluster) in
    let kept_second = fair_kept cluster (known_to cluster other) (known_to cluster both) (keeps other both is.second cluster) in
    record {
      fair = λ device event has. ⊎_elim
          (λ same. kept_first event (first.fair device event (subst (λ events. Contains events event) same has)))
          (λ same. kept_second event (second.fair device event (subst (λ events. Contains events event) same has)))
          (is.either device);
      replayed = λ device. ⊎_elim
          (λ same. let disk = first.replayed device in (disk.0, subst (λ events. Replays cluster device events disk.0) (sym same) disk.1))
          (λ same. let disk = second.replayed device in (disk.0, subst (λ events. Replays cluster device events disk.0) (sym same) disk.1))
          (is.either device);
    }
