-- Disks that are yet to go back to a shelf, one by one.
use Rattle.std.proofs.Common.{◌≡◌, ◌≤◌, ℕ, ◌-◌, List, [], ◌∷◌, drop, length, suc, Option, None, Some, refl, sym, ap, subst, ◌∙◌, arith}
use Rattle.std.proofs.lemmas.List.{append_assoc, append-nil}
use Rattle.sw_disk.specs.Runs.{Seen}
use Rattle.sw_ring.specs.declared.device.Device.{Device}
use Rattle.sw_shelf.specs.Shelf.{after_back, with_all, with_one}
use Rattle.sw_server.specs.Shelving.{with_devices, with_faults}

-- what loses its first item and stays the same is empty
pub none_of : {T : Type 0} (items : List T) → items ≡ drop 1 items → items ≡ []
none_of [] is = refl
none_of (item ∷ items) is = let longer = ap length is in absurd (omega arith)

-- where no disk was to go back
pub none_back : {T : Type 0} (returned : Option (List T)) → returned ≡ with_all returned []
none_back None = refl
none_back (Some items) = ap Some (sym (append-nil items))

-- one, and then more
one_more_back : {T : Type 0} (returned : Option (List T)) (one : T) (more : List T) → with_all (with_one returned one) more ≡ with_all returned (one ∷ more)
one_more_back None one more = refl
one_more_back (Some items) one more = ap Some (append_assoc items (one ∷ []) more)

-- where there are devices enough, each disk has one
pub all_have_devices : {D : Type 0} (devices : List Device) (disks : List D) → length disks ≤ length devices → length (with_devices devices disks) ≡ length disks
all_have_devices [] [] few = refl
all_have_devices [] (disk ∷ disks) few = absurd (omega arith)
all_have_devices (device ∷ devices) [] few = refl
all_have_devices (device ∷ devices) (disk ∷ disks) few = ap suc (all_have_devices devices disks (omega (arith, few)))

pub without_disks : {D : Type 0} (devices : List Device) (disks : List D) → disks ≡ [] → with_devices devices disks ≡ []
without_disks [] disks none = refl
without_disks (device ∷ devices) disks none = ap (with_devices (device ∷ devices)) none

-- what is back may be told over equal devices, and from an equal start
pub same_back : {D : Type 0} (disks : List D) (devices devices' : List Device) (before before' after : Option (List (ℕ × D)))
    → after ≡ with_all before (with_devices devices disks) → devices ≡ devices' → before ≡ before' → after ≡ with_all before' (with_devices devices' disks)
same_back disks devices devices' before before' after back listed same = cc

module _ {D : Type 0} (seen : D → Seen) (all : List (ℕ × D)) where
  -- of all disks these are yet to go back; the first members are the shelf's now, and the last two its when none was back
  pub record AreLeft (left : List (ℕ × D)) (out : ℕ) (returned : Option (List (ℕ × D))) (faults : ℕ) (returned_first : Option (List (ℕ × D))) (faults_first : ℕ) : Type 0 where
    pub out_is : out ≡ length left
    pub back : with_all returned left ≡ with_all returned_first all
    pub count : with_faults seen faults left ≡ with_faults seen faults_first all

  -- at first all are left
  pub all_left : (out : ℕ) (returned : Option (List (ℕ × D))) (faults : ℕ) → out ≡ length all → AreLeft all out returned faults returned faults
  all_left out returned faults out_is = record { out_is = out_is; back = refl; count = refl }

  -- the next one goes back
  pub one_goes_back : (device : ℕ) (disk : D) (left : List (ℕ × D)) (out : ℕ) (returned : Option (List (ℕ × D))) (faults : ℕ) (returned_first : Option (List (ℕ × D))) (faults_first : ℕ)
      → AreLeft ((device, disk) ∷ left) out returned faults returned_first faults_first
      → AreLeft left (out - 1) (with_one returned (device, disk)) (after_back (seen disk).faults faults) returned_first faults_first
  one_goes_back device disk left out returned faults returned_first faults_first are = record {
    out_is = omega (arith, are.out_is);
    back = one_more_back returned (device, disk) left ∙ are.back;
    count = are.count;
  }

  -- all are back
  pub none_left : (left : List (ℕ × D)) (out : ℕ) (returned : Option (List (ℕ × D))) (faults : ℕ) (returned_first : Option (List (ℕ × D))) (faults_first : ℕ)
      → left ≡ [] → AreLeft left out returned faults returned_first faults_first
      → (out ≡ 0) × (returned ≡ with_all returned_first all) × (faults ≡ with_faults seen faults_first all)
  none_left left out returned faults returned_first faults_first none are =
      let are_none = subst (λ (disks : List (ℕ × D)). AreLeft disks out returned faults returned_first faults_first) none are in
      (are_none.out_is, none_back returned ∙ are_none.back, are_none.count)
