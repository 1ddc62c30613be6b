-- The entry in front of those that are left.
use Rattle.std.proofs.Common.{◌≡◌, ◌<◌, ◌≤◌, ℕ, List, [], ◌∷◌, ◌++◌, ap, if◌then◌else◌}
use Rattle.std.proofs.lemmas.Bool.{le-ltb, lt-ltb}
use Rattle.sw_hashdir.specs.declared.entry.Entry.{Entry}
use Rattle.sw_message.specs.declared.miss.Miss.TheVariants as miss
use Rattle.sw_recon.specs.Revert.{kept_as, treat}
use Rattle.sw_recon.specs.declared.kept.KeptCause.TheVariants.{Missed}
use Rattle.sw_recon.specs.declared.kept.KeptEntry.{KeptEntry}
use Rattle.sw_recon.specs.declared.status.Status.TheVariants.{Treats}
use Rattle.sw_recon.specs.declared.treatment.Treatment.TheVariants.{Ask}

module _ (total : ℕ) (entry : Entry) (later : List Entry) (removed : ℕ) (kept : List KeptEntry) where
  pub treats_first : entry.index < total → treat total (entry ∷ later) removed kept ≡ Treats (record { entry = entry; later = later; treatment = Ask; removed = removed; kept = kept })
  treats_first below =
      ap (λ b. if b then Treats (record { entry = entry; later = later; treatment = Ask; removed = removed; kept = kept }) else treat total later removed (kept ++ kept_as entry (Missed miss.Odd) ∷ []))
      (lt-ltb entry.index total below)

  pub treats_later : total ≤ entry.index → treat total (entry ∷ later) removed kept ≡ treat total later removed (kept ++ kept_as entry (Missed miss.Odd) ∷ [])
  treats_later above =
      ap (λ b. if b then Treats (record { entry = entry; later = later; treatment = Ask; removed = removed; kept = kept }) else treat total later removed (kept ++ kept_as entry (Missed miss.Odd) ∷ []))
      (le-ltb entry.index total above)
