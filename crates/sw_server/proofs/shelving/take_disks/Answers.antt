use Rattle.std.proofs.Common.{◌≡◌, ◌<◌, ◌≤◌, ◌++◌, ◌+◌, ◌∷◌, [], cond, List, ℕ, Result, ap, arith, get_or, inl, is_ok, Vec, Global, Ok, Err, length, refl, subst, sym, take, ◌∙◌}
use Rattle.std.specs.Prelude.{IsErrOf, IsOk}
use Rattle.std.proofs.lemmas.List.{length-take-le, take_more}
use Rattle.std.proofs.lemmas.Slice.Zip.{all_zipped_more}
use Rattle.sw_words.specs.Counts.{one_more}
use Rattle.sw_ring.specs.declared.device.Device.{Device}
use Rattle.sw_shelf.specs.Shelf.{with_all}
use Rattle.sw_shelf.specs.declared.fault.ShelfFault.{ShelfFault}
use Rattle.sw_shelf.specs.declared.fault.ShelfFault.TheVariants.{Failed, NoMemory as WantOfMemory}
use Rattle.sw_server.specs.Shelving.{AreHanded, IsHanded}
use Rattle.sw_server.proofs.HandingBack.{none_back, same_back, without_disks}
use Rattle.sw_server.proofs.HandingOut.{as_many, no_fault, rises}
use Rattle.sw_server.proofs.shelving.take_disks.Given.{Over}
use Rattle.sw_server.proofs.shelving.take_disks.Goals as goal

-- so many disks are handed out
count : (g : Over) (devices : List Device) (slot : ℕ) (disks : List g.row.F-Disk.Denot) → slot ≤ length devices → AreHanded g.F.Disk.Disk.seen g.F.Shelf.hands (take slot devices) disks → length disks ≡ slot
count g devices slot disks within are = as_many g.F.Disk.Disk.seen g.F.Shelf.hands (take slot devices) disks are ∙ length-take-le slot devices within

abbrev nowhere : Device
nowhere = record { id = 0; capacity = 0 }

-- what a list is behind a push for which there was room
with_last : {T V E : Type 0} (items items' : List T) (last : T) (result : Result V E) → items' ≡ cond (is_ok result) (items ++ last ∷ []) items → IsOk result → items' ≡ items ++ last ∷ []
with_last items items' last (Ok value) are is = are
with_last items items' last (Err error) are is = absurd (cc)

pub unwrap-requires : goal.unwrap-requires
unwrap-requires g c =
    let so_many = count g c.devices-device-items.result.now c.each.device-index c.each.disks.items (omega arith) c.each.invariant.handed in
    c.push.ensures.succeeds (omega (arith, so_many, c.each.invariant.room, c.each.disks.ok, c.each-test.true))

pub each-preserved : goal.each-preserved
each-preserved g c =
    let devices = c.devices-device-items.result.now in
    let slot = c.each.device-index in
    let within : slot < length devices = c.each-test.true in
    let device = get_or devices slot nowhere in
    let disk = c.in-Ok-disk.disk in
    let so_many = count g devices slot c.each.disks.items (omega arith) c.each.invariant.handed in
    let fits = c.push.ensures.succeeds (omega (arith, so_many, c.each.invariant.room, c.each.disks.ok, within)) in
    let pushed = with_last c.each.disks.items c.push.new.self.items disk c.push.result c.push.ensures.items fits in
    let one : IsHanded g.F.Disk.Disk.seen g.F.Shelf.hands device disk = record { before = c.each.shelf; after = c.disk.new.self; handed = c.in-Ok-disk.ensures.hands; is_new = c.in-Ok-disk.ensures.new } in
    record {
      handed = rw pushed (rw (take_more devices slot nowhere within) (all_zipped_more (IsHanded g.F.Disk.Disk.seen g.F.Shelf.hands) (take slot devices) c.each.disks.items device disk c.each.invariant.handed one));
      out = c.in-Ok-disk.ensures.out ∙ rises (g.F.Shelf.out c.each.shelf) (omega (arith, c.each.invariant.out, c.devices-device-items.ensures.rules.few, ap length c.devices-device-items.ensures.listed, within)) ∙ ap (λ (n : ℕ). n + 1) c.each.invariant.out;
      returned = c.in-Ok-disk.ensures.returned ∙ c.each.invariant.returned;
      faults = c.in-Ok-disk.ensures.quiet ∙ c.each.invariant.faults;
      room = omega (arith, c.push.ensures.capacity, c.each.invariant.room);
    }

-- ---- where the shelf has none

pub put_back-requires-clause-few : goal.put_back-requires-clause-few
put_back-requires-clause-few g c κs within =
    let so_many = count g c.devices-device-items.result.now c.each.device-index c.each.disks.items (omega arith) c.each.invariant.handed in
    omega (arith, so_many, c.each-test.true, ap length c.devices-device-items.ensures.listed, ap length c.devices-in-Err.ensures.listed)

pub put_back-requires-clause-out : goal.put_back-requires-clause-out
put_back-requires-clause-out g c κs within =
    let so_many = count g c.devices-device-items.result.now c.each.device-index c.each.disks.items (omega arith) c.each.invariant.handed in
    c.in-Err.ensures.kept ∙ c.each.invariant.out ∙ sym so_many

is_fault : (g : Over) (fault cause : ShelfFault) → IsErrOf {T = Vec g.row.F-Disk.Denot Global} (Err fault) cause → IsErrOf {T = g.row.F-Disk.Denot} (Err fault) cause
is_fault g fault cause is = cc

pub returns-in-Err-clause-failed : goal.returns-in-Err-clause-failed
returns-in-Err-clause-failed g c = λ is.
    c.put_back.ensures.faults ∙ no_fault g.F.Disk.Disk.seen g.F.Shelf.hands _ c.each.disks.items c.devices-in-Err.result.now (g.F.Shelf.faults c.disk.new.self) c.each.invariant.handed
    ∙ c.in-Err.ensures.failed (is_fault g c.in-Err.fault Failed is) ∙ ap one_more c.each.invariant.faults

pub returns-in-Err-clause-no_memory : goal.returns-in-Err-clause-no_memory
returns-in-Err-clause-no_memory g c = λ is.
    c.put_back.ensures.faults ∙ no_fault g.F.Disk.Disk.seen g.F.Shelf.hands _ c.each.disks.items c.devices-in-Err.result.now (g.F.Shelf.faults c.disk.new.self) c.each.invariant.handed
    ∙ c.in-Err.ensures.no_memory (is_fault g c.in-Err.fault WantOfMemory is) ∙ c.each.invariant.faults

pub returns-in-Err-clause-came_back : goal.returns-in-Err-clause-came_back
returns-in-Err-clause-came_back g c =
    let given = c.each.disks.items in
    let so_many = count g c.devices-device-items.result.now c.each.device-index given (omega arith) c.each.invariant.handed in
    record {
      given = given;
      handed = rw so_many (subst (λ (devices : List Device). AreHanded g.F.Disk.Disk.seen g.F.Shelf.hands (take c.each.device-index devices) given) c.devices-device-items.ensures.listed c.each.invariant.handed);
      back = given;
      how = inl refl;
      returned = same_back given c.devices-in-Err.result.now c.args.cluster.now.devices (g.F.Shelf.returned c.disk.new.self) (g.F.Shelf.returned c.args.shelf.now) (g.F.Shelf.returned c.put_back.new.shelf)
          c.put_back.ensures.back c.devices-in-Err.ensures.listed (c.in-Err.ensures.returned ∙ c.each.invariant.returned);
      none_out = c.put_back.ensures.out;
    }

-- ---- where there was no memory for any

pub returns-in_default-clause-came_back : goal.returns-in_default-clause-came_back
returns-in_default-clause-came_back g c = record {
  given = [];
  handed = tt;
  back = [];
  how = inl refl;
  returned = none_back (g.F.Shelf.returned c.args.shelf.now) ∙ ap (with_all (g.F.Shelf.returned c.args.shelf.now)) (sym (without_disks c.args.cluster.now.devices [] refl));
  none_out = c.requires;
}
