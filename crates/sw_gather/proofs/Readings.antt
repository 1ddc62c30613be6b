-- Bytes that were fetched bring one archive, or are spoiled in one way.
use Rattle.std.proofs.Common.{◌≡◌, ◌⊎◌, inl, inr, ℕ, List, [], ◌∷◌, ◌++◌, refl, sym, ap, subst, ◌∙◌}
use Rattle.sw_types.specs.Name.{NameModel}
use Rattle.sw_types.specs.Policy.{PolicyModel}
use Rattle.sw_archive.specs.Archive.{ArchiveModel, IsArchive, IsSound}
use Rattle.sw_archive.specs.Assemble.{AreTogether, IsNext}
use Rattle.sw_archive.proofs.Archives.{one_archive}
use Rattle.sw_archive.proofs.Gatherings.{AreTogether-push}
use Rattle.sw_archive.proofs.Objects.{not_other}
use Rattle.sw_message.specs.Spoil.{IsAsked, IsSpoilOf}
use Rattle.sw_message.specs.declared.spoil.Foreign.TheVariants as foreign
use Rattle.sw_message.specs.declared.spoil.Spoil.{Spoil}
use Rattle.sw_message.specs.declared.spoil.Spoil.TheVariants as spoil
use Rattle.sw_message.proofs.Spoils.{asked_or_spoil, one_spoil_of}
use Rattle.sw_gather.specs.Gathered.{AreRight, AreWrong, Strays}
use Rattle.sw_gather.proofs.Joins.{enough_from_k}

-- ---- an archive is of the object of those before it, or strays, and not both

module _ (policy : PolicyModel) (others : List ArchiveModel) (archive : ArchiveModel) (together : AreTogether others) (sound : IsSound archive) (of : archive.k ≡ policy.k) (next : IsNext others archive)
    (right : AreRight policy (others ++ archive ∷ [])) where
  right-or-wrong : AreWrong policy (others ++ archive ∷ []) → ⊥
  right-or-wrong wrong =
      let told = right wrong.enough in
      not_other (others ++ archive ∷ []) told.0 wrong.told wrong.computed (enough_from_k others archive next (wrong.enough ∙ sym of)) (AreTogether-push others archive together sound next) told.1 told.2 wrong.other

  right-or-stray : Strays policy others archive → ⊥
  right-or-stray (inl never) = never next
  right-or-stray (inr wrong) = right-or-wrong wrong.1

-- ---- what bytes mean

-- they bring an archive beside the others, or are spoiled
pub data Reading : Type 0 where
  Brings : (archive : ArchiveModel) → Reading
  Spoils : (how : Spoil) → Reading

module _ (Named : NameModel → Type 0) (policy : PolicyModel) (stamp : ℕ) (others : List ArchiveModel) (index : ℕ) (bytes : List ℕ) where
  abbrev IsWanted : ArchiveModel → Type 0
  IsWanted archive = IsArchive bytes archive × IsAsked Named policy stamp index archive

  abbrev pub Reads : Reading → Type 0
  Reads (Brings archive) = IsWanted archive × IsNext others archive × AreRight policy (others ++ archive ∷ [])
  Reads (Spoils (spoil.Foreign foreign.Object)) = (archive : ArchiveModel) × IsWanted archive × Strays policy others archive
  Reads (Spoils how) = IsSpoilOf Named policy stamp index bytes how

  abbrev Spoilt : Spoil → Type 0
  Spoilt how = ((how ≡ spoil.Foreign foreign.Object) × (archive : ArchiveModel) × IsWanted archive × Strays policy others archive) ⊎ IsSpoilOf Named policy stamp index bytes how

  spoilt : (how : Spoil) → Reads (Spoils how) → Spoilt how
  spoilt (spoil.Fault fault) is = inr is
  spoilt (spoil.Foreign foreign.Name) is = inr is
  spoilt (spoil.Foreign foreign.Stamp) is = inr is
  spoilt (spoil.Foreign foreign.Index) is = inr is
  spoilt (spoil.Foreign foreign.Code) is = inr is
  spoilt (spoil.Foreign foreign.Object) is = inl (refl, is.0, is.1, is.2)

  wanted-or-spoil : (archive : ArchiveModel) (how : Spoil) → IsWanted archive → IsSpoilOf Named policy stamp index bytes how → ⊥
  wanted-or-spoil archive how is spoils = asked_or_spoil Named policy stamp index bytes archive is.0 is.1 how spoils

  one-spoil : (a b : Spoil) → Spoilt a → Spoilt b → a ≡ b
  one-spoil a b (inl x) (inl y) = x.0 ∙ sym y.0
  one-spoil a b (inl x) (inr y) = absurd (wanted-or-spoil x.1 b x.2 y)
  one-spoil a b (inr x) (inl y) = absurd (wanted-or-spoil y.1 a y.2 x)
  one-spoil a b (inr x) (inr y) = one_spoil_of Named policy stamp index bytes a b x y

  module _ (together : AreTogether others) where
    brings-or-spoils : (archive : ArchiveModel) (how : Spoil) → Reads (Brings archive) → Spoilt how → ⊥
    brings-or-spoils archive how is (inl stray) =
        right-or-stray policy others archive together is.0.0.sound is.0.1.code.0 is.1 is.2 (subst (Strays policy others) (one_archive bytes stray.1 archive stray.2.0 is.0.0) stray.3)
    brings-or-spoils archive how is (inr spoils) = wanted-or-spoil archive how is.0 spoils

    pub one-reading : (a b : Reading) → Reads a → Reads b → a ≡ b
    one-reading (Brings one) (Brings other) x y = ap Brings (one_archive bytes one other x.0.0 y.0.0)
    one-reading (Brings one) (Spoils how) x y = absurd (brings-or-spoils one how x (spoilt how y))
    one-reading (Spoils how) (Brings one) x y = absurd (brings-or-spoils one how y (spoilt how x))
    one-reading (Spoils one) (Spoils other) x y = ap Spoils (one-spoil one other (spoilt one x) (spoilt other y))
