-- A shelf's count of faults, with one disk more that was refused or is back.
use Rattle.std.proofs.Common.{◌≡◌, ℕ, ◌==◌, Bool, true, false, cond, List, [], ◌∷◌, ◌++◌, refl, ap, ◌∙◌}
use Rattle.sw_words.specs.Counts.{one_more}
use Rattle.sw_memdisk.specs.Memory.{MemDiskModel, seen_of}
use Rattle.sw_shelf.specs.Shelf.{after_back}
use Rattle.sw_memshelf.specs.Memory.{with_back}

pub back_more : (count : ℕ) (back : List (ℕ × MemDiskModel)) (device : ℕ) (disk : MemDiskModel) → with_back count (back ++ (device, disk) ∷ []) ≡ after_back (seen_of disk).faults (with_back count back)
back_more count [] device disk = refl
back_more count ((first, one) ∷ back) device disk = back_more (after_back (seen_of one).faults count) back device disk

either_way : (b : Bool) (count : ℕ) → cond b (one_more count) (one_more (one_more count)) ≡ one_more (cond b count (one_more count))
either_way true count = refl
either_way false count = refl

pub refused_more : (count : ℕ) (back : List (ℕ × MemDiskModel)) → with_back (one_more count) back ≡ one_more (with_back count back)
refused_more count [] = refl
refused_more count ((first, one) ∷ back) = ap (λ (n : ℕ). with_back n back) (either_way ((seen_of one).faults == 0) count) ∙ refused_more (after_back (seen_of one).faults count) back
