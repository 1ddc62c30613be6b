-- A closed view stays closed and a sound one sound as it goes on.
use Rattle.std.proofs.Common.{◌≡◌, ◌≢◌, ⊎_elim, ℕ, ◌≤◌, Contains, List, [], ◌∷◌, refl, sym, subst, arith}
use Rattle.std.proofs.lemmas.Bool.{cases_eq}
use Rattle.sw_types.specs.Stamp.{greatest_stamp}
use Rattle.sw_diskfile.proofs.Lists.{Contains-cases, Contains-later}
use Rattle.sw_archive.specs.Put.{IsPut}
use Rattle.sw_ring.specs.Cluster.{ClusterModel}
use Rattle.sw_message.specs.Learnt.{Booked, Marked}
use Rattle.sw_law_scene.specs.Disks.{Disk, Sure}
use Rattle.sw_view.specs.History.{Continues, IsGuarded, Replays}
use Rattle.sw_view.specs.View.{DrawnDelete, DrawnPut, Grows, IsClosed, IsFairEvent, IsFresh, IsSoundView, MayHappen, View, known_to, with_event}
use Rattle.sw_view.specs.declared.event.Event.{Event}
use Rattle.sw_view.specs.declared.event.Event.TheVariants.{Faulted, Handled, Mounted, Replaced}
use Rattle.sw_view.proofs.Growth.{closed_in_both, closed_on, fair_kept, here, keeps, there}
use Rattle.sw_view.proofs.Within.{guarded_within, replayed_within}
use Rattle.sw_law_view.specs.Staying.{IsSoWithin, StaysClosed, StaysSound}
use Rattle.sw_law_view.proofs.Fresh.{guarded}

pub stays_closed : (cluster : ClusterModel) → StaysClosed cluster
stays_closed cluster = record {
  handled = λ view device msg given found folders closed right firm replays step.
      let on : Replays cluster device (Handled msg given ∷ view.history device) (Sure folders) = (found, folders, replays, step, refl) in
      (closed_on device (Handled msg given) view cluster closed (right, firm) (Sure folders) on, on);
  joined = closed_in_both cluster;
}

-- a view that knows more puts and deletes, and has the same histories, is closed still
closed_more : (cluster : ClusterModel) (before after : View) → Grows before after → ((device : ℕ) → after.history device ≡ before.history device) → IsClosed cluster before → IsClosed cluster after
closed_more cluster before after grows same closed = record {
  fair = λ device event has. fair_kept cluster (known_to cluster before) (known_to cluster after) (keeps before after grows cluster) event (closed.fair device event (subst (λ events. Contains events event) (same device) has));
  replayed = λ device. let one = closed.replayed device in (one.0, subst (λ events. Replays cluster device events one.0) (sym (same device)) one.1);
}

module _ (cluster : ClusterModel) (view : View) (sound : IsSoundView cluster view) where
  -- ---- a put

  module _ (put : DrawnPut) (fresh : IsFresh cluster view put.booked.stamp) (is_put : IsPut cluster.policy put.booked.stamp put.booked.name put.booked.object) where
    abbrev with_put : View
    with_put = record view { puts = put ∷ view.puts }

    book_cases : (P : Booked → Type 0) → P put.booked → ((booked : Booked) → Contains (known_to cluster view).book booked → P booked) → (booked : Booked) → Contains (known_to cluster with_put).book booked → P booked
    book_cases P new old booked has = ⊎_elim (λ same. subst P same new) (old booked) (Contains-cases put.booked (known_to cluster view).book booked has)

    pub put_sound : IsSoundView cluster with_put
    put_sound = record {
      rules = sound.rules;
      closed = closed_more cluster view with_put (record { puts = λ one has. Contains-later put view.puts one has; deletes = λ one has. has; histories = λ device. ([], refl) }) (λ device. refl) sound.closed;
      book = record {
        puts = book_cases (λ booked. IsPut cluster.policy booked.stamp booked.name booked.object) is_put sound.book.puts;
        one = λ a b first second. book_cases (λ x. (y : Booked) → Contains (known_to cluster with_put).book y → x.stamp ≡ y.stamp → x ≡ y)
            (book_cases (λ y. put.booked.stamp ≡ y.stamp → put.booked ≡ y) (λ same. refl) (λ booked there same. absurd (omega (arith, fresh.0 booked there, same))))
            (λ x is. book_cases (λ y. x.stamp ≡ y.stamp → x ≡ y) (λ same. absurd (omega (arith, fresh.0 x is, same))) (λ y also. sound.book.one x y is also))
            a first b second;
      };
      stamped = sound.stamped;
      apart = λ booked marked first second. book_cases (λ x. x.stamp ≢ marked.stamp) (λ same. absurd (omega (arith, fresh.1 marked second, same))) (λ x is. sound.apart x marked is second) booked first;
      puts = λ one device has. ⊎_elim
          (λ same. subst (λ (p : DrawnPut). IsGuarded cluster device p.booked.stamp p.mark (view.history device)) same (guarded cluster view sound put.booked.stamp fresh device put.mark))
          (sound.puts one device)
          (Contains-cases put view.puts one has);
      deletes = sound.deletes;
    }

  -- ---- a delete

  module _ (delete : DrawnDelete) (fresh : IsFresh cluster view delete.marked.stamp) (stamped : delete.marked.stamp ≤ greatest_stamp) where
    abbrev with_delete : View
    with_delete = record view { deletes = delete ∷ view.deletes }

    mark_cases : (P : Marked → Type 0) → P delete.marked → ((marked : Marked) → Contains (known_to cluster view).marks marked → P marked) → (marked : Marked) → Contains (known_to cluster with_delete).marks marked → P marked
    mark_cases P new old marked has = ⊎_elim (λ same. subst P same new) (old marked) (Contains-cases delete.marked (known_to cluster view).marks marked has)

    pub delete_sound : IsSoundView cluster with_delete
    delete_sound = record {
      rules = sound.rules;
      closed = closed_more cluster view with_delete (record { puts = λ one has. has; deletes = λ one has. Contains-later delete view.deletes one has; histories = λ device. ([], refl) }) (λ device. refl) sound.closed;
      book = sound.book;
      stamped = mark_cases (λ marked. marked.stamp ≤ greatest_stamp) stamped sound.stamped;
      apart = λ booked marked first second. mark_cases (λ y. booked.stamp ≢ y.stamp) (λ same. absurd (omega (arith, fresh.0 booked first, same))) (λ y is. sound.apart booked y first is) marked second;
      puts = sound.puts;
      deletes = λ one device has. ⊎_elim
          (λ same. subst (λ (d : DrawnDelete). IsGuarded cluster device d.marked.stamp d.mark (view.history device)) same (guarded cluster view sound delete.marked.stamp fresh device delete.mark))
          (sound.deletes one device)
          (Contains-cases delete view.deletes one has);
    }

  -- ---- an event

  module _ (device : ℕ) (event : Event) (disk : Disk) (fair : IsFairEvent cluster (known_to cluster view) event) (replays : Replays cluster device (event ∷ view.history device) disk) where
    more_guarded : (one : Event) (stamp mark : ℕ) → MayHappen view one → ((loss : ℕ) → one ≡ Replaced loss → mark ≤ loss) → IsGuarded cluster device stamp mark (view.history device) → IsGuarded cluster device stamp mark (one ∷ view.history device)
    more_guarded (Handled msg given) stamp mark may late is = is
    more_guarded (Faulted msg) stamp mark may late is = is
    more_guarded Mounted stamp mark may late is = is
    more_guarded (Replaced loss) stamp mark may late is = (λ one side was held has. late loss refl, is)

    guarded_at : (other stamp mark : ℕ) → MayHappen view event → ((loss : ℕ) → event ≡ Replaced loss → mark ≤ loss) → IsGuarded cluster other stamp mark (view.history other)
        → IsGuarded cluster other stamp mark ((with_event device event view).history other)
    guarded_at other stamp mark may late is = ⊎_elim
        (λ same.
        let mine : IsGuarded cluster device stamp mark (view.history device) = subst (λ (d : ℕ). IsGuarded cluster d stamp mark (view.history d)) same is in
        subst (λ (d : ℕ). IsGuarded cluster d stamp mark ((with_event device event view).history d)) (sym same)
        (subst (IsGuarded cluster device stamp mark) (sym (here device event view)) (more_guarded event stamp mark may late mine)))
        (λ apart. subst (IsGuarded cluster other stamp mark) (sym (there device event view other apart)) is)
        (cases_eq other device)

    pub event_sound : MayHappen view event → IsSoundView cluster (with_event device event view)
    event_sound may = record {
      rules = sound.rules;
      closed = closed_on device event view cluster sound.closed fair disk replays;
      book = sound.book;
      stamped = sound.stamped;
      apart = sound.apart;
      puts = λ put other has. guarded_at other put.booked.stamp put.mark may (λ loss is. (subst (MayHappen view) is may).0 put has) (sound.puts put other has);
      deletes = λ delete other has. guarded_at other delete.marked.stamp delete.mark may (λ loss is. (subst (MayHappen view) is may).1 delete has) (sound.deletes delete other has);
    }

pub stays_sound : (cluster : ClusterModel) → StaysSound cluster
stays_sound cluster = record {
  put = λ view put sound fresh is_put. put_sound cluster view sound put fresh is_put;
  delete = λ view delete sound fresh stamped. delete_sound cluster view sound delete fresh stamped;
  event = λ view device event disk sound fair replays may. event_sound cluster view sound device event disk fair replays may;
}

pub so_within : (cluster : ClusterModel) (device : ℕ) (later earlier : List Event) → Continues later earlier → IsSoWithin cluster device later earlier
so_within cluster device later earlier on = record {
  replayed = replayed_within cluster device earlier later on;
  guarded = guarded_within cluster device earlier later on;
}
