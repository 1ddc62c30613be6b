-- Archives of one put stand beside one another: none strays.
use Rattle.std.proofs.Common.{◌≡◌, ◌≢◌, inl, inr, ℕ, ◌<◌, ◌++◌, List, [], ◌∷◌, length, sym, ap, subst, ◌∙◌, arith}
use Rattle.std.specs.Prelude.{Err}
use Rattle.std.specs.List.{All}
use Rattle.std.proofs.lemmas.List.Elements.{All-push, All-weaker}
use Rattle.sw_types.specs.Name.{NameModel}
use Rattle.sw_types.specs.Object.{ObjectModel}
use Rattle.sw_types.specs.Policy.{PolicyModel}
use Rattle.sw_archive.specs.Archive.{ArchiveModel, IsSound}
use Rattle.sw_archive.specs.Assemble.{AreAlike, AreTogether, IsNext}
use Rattle.sw_archive.specs.Put.{IsPut, put_fields}
use Rattle.sw_archive.specs.declared.assemble.AssembleFault.TheVariants.{BodyMd5}
use Rattle.sw_archive.proofs.Gatherings.{AreTogether-push}
use Rattle.sw_archive.proofs.Objects.{object_of_put}
use Rattle.sw_gather.specs.Gathered.{Strays}
use Rattle.sw_gather.proofs.Joins.{enough_from_k}

module _ (policy : PolicyModel) (stamp : ℕ) (name : NameModel) (object : ObjectModel) where
  -- it is the put's archive of its index
  abbrev pub IsOne : ArchiveModel → Type 0
  IsOne archive = archive ≡ put_fields policy stamp name object archive.index

  alike : (a b : ArchiveModel) → IsOne a → IsOne b → AreAlike a b
  alike a b first second =
      subst (λ (it : ArchiveModel). a ≡ record it { index = a.index; payload = a.payload }) (sym second)
      (first ∙ ap (λ (these : List ℕ). record (put_fields policy stamp name object b.index) { index = a.index; payload = these }) (sym (ap (λ (it : ArchiveModel). it.payload) first)))

  -- one of another index, beside fewer than k
  pub none_strays : IsPut policy stamp name object → (others : List ArchiveModel) (archive : ArchiveModel) → All IsOne others → IsOne archive → AreTogether others → IsSound archive
      → All (λ other. other.index ≢ archive.index) others → length others < policy.k → Strays policy others archive → ⊥
  none_strays put others archive ones one together sound new few strays =
      let k : archive.k ≡ policy.k = ap (λ (it : ArchiveModel). it.k) one in
      let next : IsNext others archive = record { alike = All-weaker IsOne (λ (other : ArchiveModel). AreAlike other archive) (λ other is. alike other archive is one) others ones; new = new; few = omega (arith, few, k) } in
      elim strays [
        | inl never ↦ never next
        | inr wrong ↦
            let is = wrong.1 in
            let read = object_of_put (others ++ archive ∷ []) (Err (BodyMd5 is.told is.computed)) is.other (enough_from_k others archive next (is.enough ∙ sym k)) (AreTogether-push others archive together sound next)
            policy stamp name object put (All-push IsOne others archive ones one) (λ refused. cc) in
            absurd (cc)
      ]
