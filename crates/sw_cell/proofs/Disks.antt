-- Disks that stood behind locks stay what is known of their devices while no history changes.
use Rattle.std.proofs.Common.{◌≡◌, ◌++◌, ℕ, List, [], ◌∷◌, sym, ap, subst, ◌∙◌, append_assoc}
use Rattle.std.specs.List.{All}
use Rattle.std.proofs.lemmas.List.Elements.{All-nil, All-push, All-weaker}
use Rattle.sw_disk.specs.Runs.{Seen}
use Rattle.sw_ring.specs.Cluster.{ClusterModel}
use Rattle.sw_view.specs.declared.event.Event.{Event}
use Rattle.sw_pass.specs.Known.{history}
use Rattle.sw_pass.specs.declared.known.Known.{Known}
use Rattle.sw_cell.specs.Standing.{HasHistory, IsDiskOf}

module _ {D : Type 0} (cluster : ClusterModel) (seen : D → Seen) where
  -- each disk is what is known of its device
  abbrev pub AreDisksOf : Known → List (ℕ × D) → Type 0
  AreDisksOf known disks = All (λ (one : ℕ × D). IsDiskOf cluster seen known one.0 one.1) disks

  -- so it is where there is none
  pub no_disks : (known : Known) → AreDisksOf known []
  no_disks known = All-nil (λ (one : ℕ × D). IsDiskOf cluster seen known one.0 one.1)

  disk_still : (before after : Known) → ((slot : ℕ) → history after.histories slot ≡ history before.histories slot) → (device : ℕ) (disk : D) → IsDiskOf cluster seen before device disk → IsDiskOf cluster seen after device disk
  disk_still before after same device disk is = record {
    slot = is.slot;
    at = is.at;
    has = subst (λ (events : List Event). HasHistory cluster seen device events disk) (sym (same is.slot)) is.has;
  }

  -- and so they are with one disk more
  pub disks_more : (before after : Known) → ((slot : ℕ) → history after.histories slot ≡ history before.histories slot) → (disks : List (ℕ × D)) (device : ℕ) (disk : D) → AreDisksOf before disks → IsDiskOf cluster seen after device disk
      → AreDisksOf after (disks ++ (device, disk) ∷ [])
  disks_more before after same disks device disk are is =
      All-push (λ (one : ℕ × D). IsDiskOf cluster seen after one.0 one.1) disks (device, disk)
      (All-weaker (λ (one : ℕ × D). IsDiskOf cluster seen before one.0 one.1) (λ (one : ℕ × D). IsDiskOf cluster seen after one.0 one.1) (λ one has. disk_still before after same one.0 one.1 has) disks are) is

-- ---- lists that grow at their end

module _ {X : Type 0} (before between after more : List X) (last : X) (first : between ≡ before ++ more) (second : after ≡ between ++ last ∷ []) where
  pub added_twice : after ≡ before ++ (more ++ last ∷ [])
  added_twice = second ∙ ap (λ xs. xs ++ last ∷ []) first ∙ append_assoc before more (last ∷ [])
