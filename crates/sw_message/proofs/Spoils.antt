-- Bytes are the archive that was asked for, or they have one spoil, and not both.
use Rattle.std.proofs.Common.{◌≡◌, ℕ, List, Result, Ok, Err, refl, ap, subst}
use Rattle.std.specs.Prelude.{MatchResult}
use Rattle.sw_types.specs.Name.{NameModel}
use Rattle.sw_types.specs.Policy.{PolicyModel}
use Rattle.sw_hashpath.specs.Place.{PlaceModel}
use Rattle.sw_archive.specs.Archive.{ArchiveModel, IsArchive}
use Rattle.sw_archive.proofs.Archives.{one_archive}
use Rattle.sw_archive.proofs.Faults.{no_fault, one_fault}
use Rattle.sw_ring.specs.Cluster.{ClusterModel}
use Rattle.sw_message.specs.Spoil.{Differs, DiffersIn, IsAlike, IsArchiveOf, IsAsked, IsOfPlace, IsSpoil, IsSpoilOf}
use Rattle.sw_message.specs.declared.spoil.Foreign.{Foreign as AForeign}
use Rattle.sw_message.specs.declared.spoil.Foreign.TheVariants.{Name, Stamp, Index, Code, Object}
use Rattle.sw_message.specs.declared.spoil.Spoil.{Spoil}
use Rattle.sw_message.specs.declared.spoil.Spoil.TheVariants.{Fault, Foreign}

-- ---- another archive differs in one thing first

module _ (Named : NameModel → Type 0) (policy : PolicyModel) (stamp index : ℕ) (archive : ArchiveModel) where
  abbrev Other : AForeign → Type 0
  Other foreign = Differs Named policy stamp index archive foreign

  asked_alike : (foreign : AForeign) → IsAsked Named policy stamp index archive → Other foreign → ⊥
  asked_alike Name asked differs = differs asked.name
  asked_alike Stamp asked differs = differs.1 asked.stamp_is
  asked_alike Index asked differs = differs.2 asked.index_is
  asked_alike Code asked differs = differs.3 asked.code
  asked_alike Object asked differs = differs

  one_difference : (a b : AForeign) → Other a → Other b → a ≡ b
  one_difference Name Name x y = refl
  one_difference Name Stamp x y = absurd (x y.0)
  one_difference Name Index x y = absurd (x y.0)
  one_difference Name Code x y = absurd (x y.0)
  one_difference Stamp Name x y = absurd (y x.0)
  one_difference Stamp Stamp x y = refl
  one_difference Stamp Index x y = absurd (x.1 y.1)
  one_difference Stamp Code x y = absurd (x.1 y.1)
  one_difference Index Name x y = absurd (y x.0)
  one_difference Index Stamp x y = absurd (y.1 x.1)
  one_difference Index Index x y = refl
  one_difference Index Code x y = absurd (x.2 y.2)
  one_difference Code Name x y = absurd (y x.0)
  one_difference Code Stamp x y = absurd (y.1 x.1)
  one_difference Code Index x y = absurd (y.2 x.2)
  one_difference Code Code x y = refl
  one_difference Object b x y = absurd x
  one_difference a Object x y = absurd y

-- one that is named as was asked for
module _ (Named : NameModel → Type 0) (policy : PolicyModel) (stamp index : ℕ) (archive : ArchiveModel) (named : Named archive.name) where
  pub asked_behind : IsAlike policy stamp index archive → IsAsked Named policy stamp index archive
  asked_behind alike = record { name = named; stamp_is = alike.stamp_is; index_is = alike.index_is; code = alike.code }

  pub differs_behind : (foreign : AForeign) → DiffersIn policy stamp index archive foreign → Differs Named policy stamp index archive foreign
  differs_behind Name differs = absurd differs
  differs_behind Stamp differs = (named, differs)
  differs_behind Index differs = (named, differs.0, differs.1)
  differs_behind Code differs = (named, differs.0, differs.1, differs.2)
  differs_behind Object differs = differs

-- bytes that spell one archive are not another one that was asked for
pub other_than_asked : (Named : NameModel → Type 0) (policy : PolicyModel) (stamp index : ℕ) (bytes : List ℕ) (archive other : ArchiveModel) (foreign : AForeign)
    → IsArchive bytes archive → IsArchive bytes other → IsAsked Named policy stamp index archive → Differs Named policy stamp index other foreign → ⊥
other_than_asked Named policy stamp index bytes archive other foreign is spelled asked differs =
    asked_alike Named policy stamp index other foreign (subst (IsAsked Named policy stamp index) (one_archive bytes archive other is spelled) asked) differs

-- ---- spoils

module _ (Named : NameModel → Type 0) (policy : PolicyModel) (stamp index : ℕ) (bytes : List ℕ) where
  abbrev SpoilsOf : Spoil → Type 0
  SpoilsOf spoil = IsSpoilOf Named policy stamp index bytes spoil

  pub asked_or_spoil : (archive : ArchiveModel) → IsArchive bytes archive → IsAsked Named policy stamp index archive → (spoil : Spoil) → SpoilsOf spoil → ⊥
  asked_or_spoil archive is asked (Fault fault) spoils = no_fault bytes archive fault is spoils
  asked_or_spoil archive is asked (Foreign foreign) spoils = other_than_asked Named policy stamp index bytes archive spoils.0 foreign is spoils.1 asked spoils.2

  one_foreign : (a b : AForeign) → SpoilsOf (Foreign a) → SpoilsOf (Foreign b) → a ≡ b
  one_foreign a b x y =
      one_difference Named policy stamp index y.0 a b (subst (λ (archive : ArchiveModel). Differs Named policy stamp index archive a) (one_archive bytes x.0 y.0 x.1 y.1) x.2) y.2

  pub one_spoil_of : (a b : Spoil) → SpoilsOf a → SpoilsOf b → a ≡ b
  one_spoil_of (Fault a) (Fault b) x y = ap (λ f. Fault f) (one_fault bytes a b x y)
  one_spoil_of (Fault a) (Foreign b) x y = absurd (no_fault bytes y.0 a y.1 x)
  one_spoil_of (Foreign a) (Fault b) x y = absurd (no_fault bytes x.0 b x.1 y)
  one_spoil_of (Foreign a) (Foreign b) x y = ap (λ f. Foreign f) (one_foreign a b x y)

  -- what checking the bytes gives
  abbrev IsChecked : Result ArchiveModel Spoil → Type 0
  IsChecked result = MatchResult result (λ archive. IsArchive bytes archive × IsAsked Named policy stamp index archive) SpoilsOf

  pub reads : (result : Result ArchiveModel Spoil) → IsChecked result → (archive : ArchiveModel) → IsArchive bytes archive → IsAsked Named policy stamp index archive → result ≡ Ok archive
  reads (Ok read) checked archive is asked = ap (λ (a : ArchiveModel). Ok a) (one_archive bytes read archive checked.0 is)
  reads (Err spoil) checked archive is asked = absurd (asked_or_spoil archive is asked spoil checked)

  pub spoiled : (result : Result ArchiveModel Spoil) → IsChecked result → (spoil : Spoil) → SpoilsOf spoil → result ≡ Err spoil
  spoiled (Ok read) checked spoil spoils = absurd (asked_or_spoil read checked.0 checked.1 spoil spoils)
  spoiled (Err first) checked spoil spoils = ap (λ (s : Spoil). Err s) (one_spoil_of first spoil checked spoils)

-- of a place
module _ (cluster : ClusterModel) (place : PlaceModel) (stamp index : ℕ) (bytes : List ℕ) where
  pub asked_or_spoiled : (spoil : Spoil) → IsArchiveOf cluster place stamp index bytes → IsSpoil cluster place stamp index bytes spoil → ⊥
  asked_or_spoiled spoil is spoils = asked_or_spoil (IsOfPlace cluster place) cluster.policy stamp index bytes is.archive is.spelled is.asked spoil spoils

  pub one_spoil : (a b : Spoil) → IsSpoil cluster place stamp index bytes a → IsSpoil cluster place stamp index bytes b → a ≡ b
  one_spoil a b x y = one_spoil_of (IsOfPlace cluster place) cluster.policy stamp index bytes a b x y
