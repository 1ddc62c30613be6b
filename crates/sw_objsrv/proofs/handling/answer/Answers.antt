use Rattle.std.proofs.Common.{◌≡◌, ◌≤◌, Some, length, refl, sym, subst, ap, inl}
use Rattle.std.proofs.lemmas.Result.{on_ok_weaker}
use Rattle.sw_hashpath.specs.Place.{PlaceModel, folder_of}
use Rattle.sw_suffix.specs.Table.{floor_at}
use Rattle.sw_diskfile.proofs.Outcomes.{on_ok}
use Rattle.sw_ring.specs.Cluster.{ClusterModel, KeepsRules}
use Rattle.sw_message.specs.Message.{IsPlaceOf, is_primary, place_in}
use Rattle.sw_message.specs.declared.message.Msg.{Msg}
use Rattle.sw_objsrv.proofs.InOrder.{orders_stay}
use Rattle.sw_objsrv.proofs.PlaceFolders.{folder_short}
use Rattle.sw_objsrv.proofs.PlaceStep.{order_at_place}
use Rattle.sw_objsrv.proofs.handling.answer.Goals as goal

short : (cluster : ClusterModel) (message : Msg) (place : PlaceModel) → place_in message ≡ Some place → KeepsRules cluster → IsPlaceOf cluster (place_in message) → length (folder_of place) ≤ 64
short cluster message place is rules is_place = folder_short cluster.part_power place (subst (IsPlaceOf cluster) is is_place) rules.part_power

pub put_frag-requires : goal.put_frag-requires
put_frag-requires g c = short c.args.cluster.now c.args.msg.now c.in-PutFrag.place (ap place_in c.in-PutFrag.is) c.requires.rules c.requires.place

pub commit-requires-clause-folder : goal.commit-requires-clause-folder
commit-requires-clause-folder g c = short c.args.cluster.now c.args.msg.now c.in-Commit.place (ap place_in c.in-Commit.is) c.requires.rules c.requires.place

pub delete-requires-clause-folder : goal.delete-requires-clause-folder
delete-requires-clause-folder g c = short c.args.cluster.now c.args.msg.now c.in-Delete.place (ap place_in c.in-Delete.is) c.requires.rules c.requires.place

pub ask-requires : goal.ask-requires
ask-requires g c = short c.args.cluster.now c.args.msg.now c.in-Ask.place (ap place_in c.in-Ask.is) c.requires.rules c.requires.place

pub fetch-requires : goal.fetch-requires
fetch-requires g c = short c.args.cluster.now c.args.msg.now c.in-Fetch.place (ap place_in c.in-Fetch.is) c.requires.rules c.requires.place

pub remove-requires-clause-folder : goal.remove-requires-clause-folder
remove-requires-clause-folder g c = short c.args.cluster.now c.args.msg.now c.in-Remove.place (ap place_in c.in-Remove.is) c.requires.rules c.requires.place

-- ---- about a place

pub returns-in-PutFrag-clause-answered : goal.returns-in-PutFrag-clause-answered
returns-in-PutFrag-clause-answered g c = rw c.in-PutFrag.is (inl c.put_frag.ensures.handles)

pub returns-in-PutFrag-clause-order : goal.returns-in-PutFrag-clause-order
returns-in-PutFrag-clause-order g c =
    let cluster = c.args.cluster.now in
    let floors = c.args.floors.now.floors in
    let place = c.in-PutFrag.place in
    let primary = is_primary cluster c.args.device place in
    order_at_place g.D.Disk.seen g.D.Disk.left_since g.D.Disk.tells g.met.D.Disk.telling cluster c.args.device floors floors c.args.disk.now c.put_frag.new.disk c.args.msg.now place (ap place_in c.in-PutFrag.is)
    primary c.put_frag.result refl c.requires.place (returns-in-PutFrag-clause-answered g c)
    (on_ok_weaker c.put_frag.result (λ stays. stays primary (floor_at place floors)) c.put_frag.ensures.order) (λ other apart. refl)

pub returns-in-Commit-clause-answered : goal.returns-in-Commit-clause-answered
returns-in-Commit-clause-answered g c = rw c.in-Commit.is (inl (rw c.is_primary-is_primary.ensures at c.commit.ensures.handles))

pub returns-in-Commit-clause-order : goal.returns-in-Commit-clause-order
returns-in-Commit-clause-order g c =
    order_at_place g.D.Disk.seen g.D.Disk.left_since g.D.Disk.tells g.met.D.Disk.telling c.args.cluster.now c.args.device c.args.floors.now.floors c.commit.new.floors.floors c.args.disk.now c.commit.new.disk
    c.args.msg.now c.in-Commit.place (ap place_in c.in-Commit.is) c.is_primary-is_primary.result c.commit.result c.is_primary-is_primary.ensures c.requires.place
    (returns-in-Commit-clause-answered g c) c.commit.ensures.order c.commit.ensures.others

pub returns-in-Delete-clause-answered : goal.returns-in-Delete-clause-answered
returns-in-Delete-clause-answered g c = rw c.in-Delete.is (inl (rw c.is_primary-is_primary-in-Delete.ensures at c.delete.ensures.handles))

pub returns-in-Delete-clause-order : goal.returns-in-Delete-clause-order
returns-in-Delete-clause-order g c =
    order_at_place g.D.Disk.seen g.D.Disk.left_since g.D.Disk.tells g.met.D.Disk.telling c.args.cluster.now c.args.device c.args.floors.now.floors c.delete.new.floors.floors c.args.disk.now c.delete.new.disk
    c.args.msg.now c.in-Delete.place (ap place_in c.in-Delete.is) c.is_primary-is_primary-in-Delete.result c.delete.result c.is_primary-is_primary-in-Delete.ensures c.requires.place
    (returns-in-Delete-clause-answered g c) c.delete.ensures.order c.delete.ensures.others

pub returns-in-Remove-clause-answered : goal.returns-in-Remove-clause-answered
returns-in-Remove-clause-answered g c = rw c.in-Remove.is (inl (rw c.is_primary-is_primary-in-Remove.ensures at c.remove.ensures.handles))

pub returns-in-Remove-clause-order : goal.returns-in-Remove-clause-order
returns-in-Remove-clause-order g c =
    order_at_place g.D.Disk.seen g.D.Disk.left_since g.D.Disk.tells g.met.D.Disk.telling c.args.cluster.now c.args.device c.args.floors.now.floors c.remove.new.floors.floors c.args.disk.now c.remove.new.disk
    c.args.msg.now c.in-Remove.place (ap place_in c.in-Remove.is) c.is_primary-is_primary-in-Remove.result c.remove.result c.is_primary-is_primary-in-Remove.ensures c.requires.place
    (returns-in-Remove-clause-answered g c) c.remove.ensures.order c.remove.ensures.others

pub returns-in-Fetch-clause-answered : goal.returns-in-Fetch-clause-answered
returns-in-Fetch-clause-answered g c = rw c.in-Fetch.is c.fetch.ensures.handles

pub returns-in-Ask-clause-answered : goal.returns-in-Ask-clause-answered
returns-in-Ask-clause-answered g c = rw c.in-Ask.is (inl c.ask.ensures.handles)

-- ---- where nothing changes

pub returns-in-Ask-clause-order : goal.returns-in-Ask-clause-order
returns-in-Ask-clause-order g c =
    on_ok c.ask.result _ (λ _.
    orders_stay g.D.Disk.seen g.D.Disk.left_since g.D.Disk.tells g.met.D.Disk.telling c.args.cluster.now c.args.device c.args.floors.now.floors c.args.floors.now.floors c.args.disk.now c.ask.new.disk (λ place. refl) c.ask.ensures.kept)

pub returns-in-Fetch-clause-order : goal.returns-in-Fetch-clause-order
returns-in-Fetch-clause-order g c =
    on_ok c.fetch.result _ (λ _.
    orders_stay g.D.Disk.seen g.D.Disk.left_since g.D.Disk.tells g.met.D.Disk.telling c.args.cluster.now c.args.device c.args.floors.now.floors c.args.floors.now.floors c.args.disk.now c.fetch.new.disk (λ place. refl) c.fetch.ensures.kept)

pub returns-in-Parts-clause-order : goal.returns-in-Parts-clause-order
returns-in-Parts-clause-order g c =
    on_ok c.parts.result _ (λ _.
    orders_stay g.D.Disk.seen g.D.Disk.left_since g.D.Disk.tells g.met.D.Disk.telling c.args.cluster.now c.args.device c.args.floors.now.floors c.args.floors.now.floors c.args.disk.now c.parts.new.disk (λ place. refl) c.parts.ensures.kept)

pub returns-in-Places-clause-order : goal.returns-in-Places-clause-order
returns-in-Places-clause-order g c =
    on_ok c.places.result _ (λ _.
    orders_stay g.D.Disk.seen g.D.Disk.left_since g.D.Disk.tells g.met.D.Disk.telling c.args.cluster.now c.args.device c.args.floors.now.floors c.args.floors.now.floors c.args.disk.now c.places.new.disk (λ place. refl) c.places.ensures.kept)
