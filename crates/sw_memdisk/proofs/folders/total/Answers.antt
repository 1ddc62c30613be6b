use Rattle.std.proofs.Common.{◌≡◌, ◌∙◌, ◌+◌, ℕ, min, sum_by, ap, arith}
use Rattle.std.proofs.lemmas.List.Sums.{sum_by-cons}
use Rattle.sw_words.specs.Counts.{last_count}
use Rattle.sw_memdisk.specs.Disk.{kept_in}
use Rattle.sw_memdisk.specs.Memory.{bytes_in, used_by}
use Rattle.sw_memdisk.proofs.Lookups.{used_by_values}
use Rattle.sw_memdisk.proofs.folders.total.Goals as goal

pub loop-folder-init : goal.loop-folder-init
loop-folder-init c =
    let bytes : sum_by bytes_in c.into_iter-folder-iterator.result ≡ used_by (kept_in c.args.folders.now)
    = ap (sum_by bytes_in) (c.into_iter-folder-iterator.ensures.into_iter_gives ∙ c.values-folder-items.ensures.rest) ∙ used_by_values c.args.folders.now.entries in
    record { small = omega arith; sum = omega (arith, bytes) }

one_more : (total size bytes left new used : ℕ) → min (total + left) last_count ≡ min used last_count → left ≡ bytes + new → size ≡ min bytes last_count → min (min (total + size) last_count + new) last_count ≡ min used last_count
one_more total size bytes left new used e l s = omega (arith, e, l, s)

pub loop-folder-preserved : goal.loop-folder-preserved
loop-folder-preserved c =
    let bytes : sum_by bytes_in c.loop-folder.folder-iterator ≡ bytes_in c.in-Some.folder.now + sum_by bytes_in c.next.new.self
    = ap (sum_by bytes_in) c.in-Some.ensures.steps ∙ sum_by-cons bytes_in c.in-Some.folder.now c.next.new.self in
    record {
      small = omega (arith, c.saturating_add-total.ensures);
      sum = ap (λ (n : ℕ). min (n + sum_by bytes_in c.next.new.self) last_count) c.saturating_add-total.ensures ∙ one_more c.loop-folder.total c.size.result _ _ _ (used_by (kept_in c.args.folders.now)) c.loop-folder.invariant.sum bytes c.size.ensures;
    }

pub returns : goal.returns
returns c =
    let none : sum_by bytes_in c.loop-folder.folder-iterator ≡ 0 = ap (sum_by bytes_in) c.in-None.ensures.steps.0 in
    omega (arith, c.loop-folder.invariant.small, c.loop-folder.invariant.sum, none)
