use Rattle.std.proofs.Common.{[], Err, inl, inr, refl, ap, subst, ◌∙◌}
use Rattle.std.proofs.KnownBytes.{Appends-nil}
use Rattle.sw_ring.specs.Cluster.{ClusterModel}
use Rattle.sw_shelf.specs.Shelf.{with_all}
use Rattle.sw_server.specs.Sessions.{after_shelf}
use Rattle.sw_server.specs.Shelving.{AreHanded, CameBack, ShelfMembers, with_faults}
use Rattle.sw_server.proofs.Refusing.{are_empty, came_since, no_door}
use Rattle.sw_server.proofs.serving.serve_table.Given.{Over}
use Rattle.sw_server.proofs.serving.serve_table.Goals as goal

abbrev shelf_of : (g : Over) → ShelfMembers g.row.F.Denot g.row.F-Disk.Denot
shelf_of g = record { hands = g.F.Shelf.hands; out = g.F.Shelf.out; returned = g.F.Shelf.returned; faults = g.F.Shelf.faults; seen = g.F.Disk.Disk.seen; left_since = g.F.Disk.Disk.left_since }

pub returns-in_default-clause-serves : goal.returns-in_default-clause-serves
returns-in_default-clause-serves g c = ([], Appends-nil (g.O.Sink.written c.args.output.now), record { did = inr (record { cause = tt; came_back = λ other. absurd (other refl); faults = refl; untouched = refl; nothing = refl }); door_faults = refl })

pub returns-in-Err-Failed-clause-serves : goal.returns-in-Err-Failed-clause-serves
returns-in-Err-Failed-clause-serves g c =
    let back = c.in-Err-Failed.ensures in (
      [],
      Appends-nil (g.O.Sink.written c.args.output.now),
      record {
        did = inr (record {
          cause = tt;
          came_back = λ other. subst (λ (cluster : ClusterModel). CameBack (shelf_of g) cluster c.args.shelf.now c.take_disks.new.shelf) c.requires.cluster back.came_back;
          faults = back.failed (ap Err c.in-Err-Failed.field-0-is);
          untouched = refl;
          nothing = refl;
        });
        door_faults = refl;
      },
    )

pub returns-in-Err-NoMemory-clause-serves : goal.returns-in-Err-NoMemory-clause-serves
returns-in-Err-NoMemory-clause-serves g c =
    let back = c.in-Err-NoMemory.ensures in (
      [],
      Appends-nil (g.O.Sink.written c.args.output.now),
      record { did = inr (record { cause = tt; came_back = λ other. absurd (other refl); faults = back.no_memory (ap Err c.in-Err-NoMemory.field-0-is); untouched = refl; nothing = refl }); door_faults = refl },
    )

pub new-requires-clause-empty : goal.new-requires-clause-empty
new-requires-clause-empty g c =
    are_empty g.F.Disk.Disk.seen g.F.Shelf.hands g.C.OfCluster.cluster (rw c.requires.cluster at c.devices.ensures.rules) c.in-Ok-take_disks.disks.items
    (subst (λ (cluster : ClusterModel). AreHanded g.F.Disk.Disk.seen g.F.Shelf.hands cluster.devices c.in-Ok-take_disks.disks.items) c.requires.cluster c.in-Ok-take_disks.ensures.handed)

pub returns-in-Ok-new-clause-serves : goal.returns-in-Ok-new-clause-serves
returns-in-Ok-new-clause-serves g c =
    let over = c.serve_over-pass.ensures.serves in
    let back = c.close.result.items in (
      over.0,
      over.1,
      record {
        did = inl (record {
          given = c.in-Ok-take_disks.disks.items;
          handed = subst (λ (cluster : ClusterModel). AreHanded g.F.Disk.Disk.seen g.F.Shelf.hands cluster.devices c.in-Ok-take_disks.disks.items) c.requires.cluster c.in-Ok-take_disks.ensures.handed;
          mounted = c.in-Ok-new.ensures.mounted;
          last = c.serve_over-pass.result.0.known;
          serves = over.2;
          final = c.close.new.pass.known;
          learnt = c.close.ensures.learnt;
          back = back;
          each = c.close.ensures.each;
          disks = c.close.ensures.disks;
          returned = c.put_back_each.ensures.back ∙ ap (λ returned. with_all returned back) c.in-Ok-take_disks.ensures.returned;
          faults = c.put_back_each.ensures.faults ∙ ap (λ count. with_faults g.F.Disk.Disk.seen count back) c.in-Ok-take_disks.ensures.quiet;
          none_out = c.put_back_each.ensures.out;
        });
        door_faults = c.serve_over-pass.ensures.doors;
      },
    )

pub returns-in-Err-clause-serves : goal.returns-in-Err-clause-serves
returns-in-Err-clause-serves g c =
    let end = c.refuse.result in (
      [],
      Appends-nil (g.O.Sink.written c.args.output.now),
      record {
        did = inr (record {
          cause = c.refuse.ensures.cause;
          came_back = λ other. came_since (shelf_of g) g.C.OfCluster.cluster c.args.shelf.now c.take_disks.new.shelf c.refuse.new.shelf c.in-Ok-take_disks.ensures.returned (c.refuse.ensures.came_back other);
          faults = c.refuse.ensures.faults ∙ ap (after_shelf end) c.in-Ok-take_disks.ensures.quiet;
          untouched = refl;
          nothing = refl;
        });
        door_faults = no_door end (g.A.Doors.faults c.args.doors.now) c.refuse.ensures.cause;
      },
    )
