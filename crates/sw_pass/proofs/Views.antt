-- The view of what a seat knows: it grows as the seat knows more, stays closed, and is sound under the rule.
use Rattle.std.proofs.Common.{◌≡◌, ◌⊎◌, ⊎_elim, ℕ, ◌≤◌, ◌<◌, Contains, List, ◌∷◌, Some, refl, sym, ap, subst, arith}
use Rattle.sw_types.specs.Stamp.{greatest_stamp}
use Rattle.sw_archive.specs.Put.{IsPut}
use Rattle.sw_diskfile.proofs.Lists.{mapped}
use Rattle.sw_ring.specs.Cluster.{ClusterModel, KeepsRules}
use Rattle.sw_message.specs.Learnt.{Booked, Marked}
use Rattle.sw_law_scene.specs.Devices.{no_folders}
use Rattle.sw_law_scene.specs.Disks.{Disk, Sure}
use Rattle.sw_view.specs.History.{Continues, IsGuarded, Replays}
use Rattle.sw_view.specs.View.{DrawnDelete, DrawnPut, Grows, IsClosed, IsFairEvent, IsFresh, IsSoundView, MayHappen, View, known_to, with_event}
use Rattle.sw_view.specs.declared.event.Event.{Event}
use Rattle.sw_view.specs.declared.event.Event.TheVariants.{Replaced}
use Rattle.sw_view.proofs.Growth.{fair_kept, here, keeps}
use Rattle.sw_view.proofs.Within.{guarded_within}
use Rattle.sw_law_view.proofs.Fresh.{guarded}
use Rattle.sw_law_view.proofs.Stays.{event_sound}
use Rattle.sw_pass.specs.Known.{AllAgree, deletes_in, history, puts_in, slot_of, view_of, view_with}
use Rattle.sw_pass.specs.Rule.{Account, Fits}
use Rattle.sw_pass.specs.declared.known.Drawn.{Drawn}
use Rattle.sw_pass.specs.declared.known.Known.{Known}
use Rattle.sw_pass.proofs.Facts.{delete_in, delete_out, drawn_delete, drawn_put, put_in, put_out}
use Rattle.sw_pass.proofs.Losses.{guarded_owed}

-- ---- growth

pub grows_with : (cluster : ClusterModel) (before after : List Drawn) (earlier later : List (List Event)) → ((fact : Drawn) → Contains before fact → Contains after fact) → ((slot : ℕ) → Continues (history later slot) (history earlier slot))
    → Grows (view_with cluster before earlier) (view_with cluster after later)
grows_with cluster before after earlier later more on = record {
  puts = λ put has. put_in after put (more (drawn_put put) (put_out before put has));
  deletes = λ delete has. delete_in after delete (more (drawn_delete delete) (delete_out before delete has));
  histories = λ device. on (slot_of cluster device);
}

-- a view that grew is closed, where each event that is new is fair by what was known before
pub closed_after : (cluster : ClusterModel) (before after : View) → Grows before after
    → ((device : ℕ) (event : Event) → Contains (after.history device) event → Contains (before.history device) event ⊎ IsFairEvent cluster (known_to cluster before) event)
    → ((device : ℕ) → (disk : Disk) × Replays cluster device (after.history device) disk) → IsClosed cluster before → IsClosed cluster after
closed_after cluster before after grows new replayed closed = record {
  fair = λ device event has. fair_kept cluster (known_to cluster before) (known_to cluster after) (keeps before after grows cluster) event
      (⊎_elim (λ was. closed.fair device event was) (λ fair. fair) (new device event has));
  replayed = replayed;
}

-- ---- soundness

same_booked : (one other : DrawnPut) → drawn_put one ≡ drawn_put other → one.booked ≡ other.booked
same_booked one other same =
    let stamps : one.booked.stamp ≡ other.booked.stamp = ap (λ (f : Drawn). f.stamp) same in
    let objects : Some one.booked.object ≡ Some other.booked.object = ap (λ (f : Drawn). f.object) same in
    let objects' : one.booked.object ≡ other.booked.object = cc (objects) in
    let names : one.booked.name ≡ other.booked.name = ap (λ (f : Drawn). f.name) same in
    let whole : record { stamp = one.booked.stamp; name = one.booked.name; object = one.booked.object } ≡ record { stamp = other.booked.stamp; name = other.booked.name; object = other.booked.object } = cc (stamps, names, objects') in
    whole

pub sound_of : (cluster : ClusterModel) (account : Account) (stamps losses id : ℕ) (known : Known) → KeepsRules cluster → Fits cluster account stamps losses id known → AllAgree known.drawn known.drawn → IsSoundView cluster (view_of cluster known)
sound_of cluster account stamps losses id known rules fits agree = record {
  rules = rules;
  closed = fits.closed;
  book = record {
    puts = λ booked has.
        let from = put_from booked has in
        let drawn = fits.drawn (drawn_put from.0) from.1 in
        subst (λ (b : Booked). IsPut cluster.policy b.stamp b.name b.object) from.2
        (record { policy_rules = rules.policy; stamp_bound = drawn.bound; name_rules = drawn.may.0; object_rules = drawn.may.1 });
    one = λ a b first second same.
        let one = put_from a first in
        let other = put_from b second in
        let stamps' : one.0.booked.stamp ≡ other.0.booked.stamp = subst (λ (x : Booked). x.stamp ≡ other.0.booked.stamp) (sym one.2) (subst (λ (y : Booked). a.stamp ≡ y.stamp) (sym other.2) same) in
        let both = same_booked one.0 other.0 (agree (drawn_put one.0) (drawn_put other.0) one.1 other.1 stamps') in
        subst (λ (x : Booked). x ≡ b) one.2 (subst (λ (y : Booked). one.0.booked ≡ y) other.2 both);
  };
  stamped = λ marked has.
      let from = delete_from marked has in
      subst (λ (m : Marked). m.stamp ≤ greatest_stamp) from.2 (fits.drawn (drawn_delete from.0) from.1).bound;
  apart = λ booked marked first second same.
      let one = put_from booked first in
      let other = delete_from marked second in
      let stamps' : one.0.booked.stamp ≡ other.0.marked.stamp = subst (λ (x : Booked). x.stamp ≡ other.0.marked.stamp) (sym one.2) (subst (λ (y : Marked). booked.stamp ≡ y.stamp) (sym other.2) same) in
      let both = ap (λ (f : Drawn). f.object) (agree (drawn_put one.0) (drawn_delete other.0) one.1 other.1 stamps') in
      absurd (cc (both));
  puts = λ put device has. guards (drawn_put put) (put_out known.drawn put has) device;
  deletes = λ delete device has. guards (drawn_delete delete) (delete_out known.drawn delete has) device;
}
  where
    put_from : (booked : Booked) → Contains (known_to cluster (view_of cluster known)).book booked → (put : DrawnPut) × Contains known.drawn (drawn_put put) × (put.booked ≡ booked)
    put_from booked has = let from = mapped (λ (put : DrawnPut). put.booked) (puts_in known.drawn) booked has in (from.0, put_out known.drawn from.0 from.1, from.2)

    delete_from : (marked : Marked) → Contains (known_to cluster (view_of cluster known)).marks marked → (delete : DrawnDelete) × Contains known.drawn (drawn_delete delete) × (delete.marked ≡ marked)
    delete_from marked has = let from = mapped (λ (delete : DrawnDelete). delete.marked) (deletes_in known.drawn) marked has in (from.0, delete_out known.drawn from.0 from.1, from.2)

    guards : (fact : Drawn) → Contains known.drawn fact → (device : ℕ) → IsGuarded cluster device fact.stamp fact.mark (history known.histories (slot_of cluster device))
    guards fact has device =
        let slot : ℕ = slot_of cluster device in
        guarded_within cluster device (history known.histories slot) (account.past slot) (fits.histories slot) fact.stamp fact.mark
        (guarded_owed cluster device fact.stamp fact.mark (account.owed slot) (account.past slot) ((fits.drawn fact has).guarded device))

-- a stamp that no seat drew is fresh for each
pub fresh_of : (cluster : ClusterModel) (account : Account) (stamps losses id stamp : ℕ) (known : Known) → Fits cluster account stamps losses id known → stamps ≤ stamp → IsFresh cluster (view_of cluster known) stamp
fresh_of cluster account stamps losses id stamp known fits least = (
  (λ booked has.
      let from = mapped (λ (put : DrawnPut). put.booked) (puts_in known.drawn) booked has in
      let below = (fits.drawn (drawn_put from.0) (put_out known.drawn from.0 from.1)).stamp in
      subst (λ (b : Booked). b.stamp < stamp) from.2 (omega (arith, below, least))),
  (λ marked has.
      let from = mapped (λ (delete : DrawnDelete). delete.marked) (deletes_in known.drawn) marked has in
      let below = (fits.drawn (drawn_delete from.0) (delete_out known.drawn from.0 from.1)).stamp in
      subst (λ (m : Marked). m.stamp < stamp) from.2 (omega (arith, below, least))),
)

-- and guarded still as a disk is lost whose number no mark is above
pub fresh_after : (cluster : ClusterModel) (view : View) → IsSoundView cluster view → (device loss : ℕ) → MayHappen view (Replaced loss) → (stamp : ℕ) → IsFresh cluster view stamp → (mark : ℕ) → IsGuarded cluster device stamp mark (Replaced loss ∷ view.history device)
fresh_after cluster view sound device loss may stamp fresh mark =
    let was = sound.closed.replayed device in
    let after = event_sound cluster view sound device (Replaced loss) (Sure no_folders) tt (was.0, was.1, refl) may in
    subst (IsGuarded cluster device stamp mark) (here device (Replaced loss) view) (guarded cluster (with_event device (Replaced loss) view) after stamp fresh device mark)
