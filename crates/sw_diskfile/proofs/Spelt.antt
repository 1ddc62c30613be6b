-- Each text is that of a name or of none, so that each folder has a directory.
use Rattle.std.proofs.Common.{◌≡◌, inl, inr, ⊎_elim, ℕ, suc, ◌<◌, Bool, true, false, Contains, List, [], ◌∷◌, sym, ◌∙◌, subst, arith}
use Rattle.sw_types.specs.Policy.{greatest_total}
use Rattle.sw_types.specs.Stamp.{greatest_stamp}
use Rattle.sw_hashpath.specs.FileName.{IsFileName, file_name_text}
use Rattle.sw_hashpath.specs.declared.file_name.FileName.{FileName}
use Rattle.sw_hashpath.specs.declared.file_name.FileName.TheVariants.{Data, Tombstone}
use Rattle.sw_hashdir.specs.Directory.{IsDirectory}
use Rattle.sw_hashdir.proofs.Texts.{one_text}
use Rattle.sw_diskfile.proofs.Lists.{Contains-cases, Contains-first, Contains-later, Contains-none}
use Rattle.sw_diskfile.proofs.Decisions.{OrNot, among_or_not, below_or_not, same_or_not}

-- ---- texts

module _ (text : List ℕ) where
  -- the text of an archive's name, of a tombstone's, and of any
  abbrev IsArchive : Bool → Type 0
  IsArchive durable = (stamp : ℕ) × (stamp < suc greatest_stamp) × ((index : ℕ) × (index < greatest_total) × (text ≡ file_name_text (Data stamp index durable)))

  abbrev IsTombstone : Type 0
  IsTombstone = (stamp : ℕ) × (stamp < suc greatest_stamp) × (text ≡ file_name_text (Tombstone stamp))

  abbrev pub IsSpelt : Type 0
  IsSpelt = (name : FileName) × IsFileName name × (text ≡ file_name_text name)

  -- it is one of these, or none
  archive_or_not : (durable : Bool) → OrNot (IsArchive durable)
  archive_or_not durable = below_or_not (λ stamp. (index : ℕ) × (index < greatest_total) × (text ≡ file_name_text (Data stamp index durable)))
      (λ stamp. below_or_not (λ index. text ≡ file_name_text (Data stamp index durable)) (λ index. same_or_not text (file_name_text (Data stamp index durable))) greatest_total) (suc greatest_stamp)

  tombstone_or_not : OrNot IsTombstone
  tombstone_or_not = below_or_not (λ stamp. text ≡ file_name_text (Tombstone stamp)) (λ stamp. same_or_not text (file_name_text (Tombstone stamp))) (suc greatest_stamp)

  -- it is that of one of them, or of none
  pub spelt_or_not : OrNot IsSpelt
  spelt_or_not = by (archive_or_not false) (archive_or_not true) tombstone_or_not
    where
      none : (IsArchive false → ⊥) → (IsArchive true → ⊥) → (IsTombstone → ⊥) → (name : FileName) → IsFileName name → text ≡ file_name_text name → ⊥
      none plain durable tombstone (Data stamp index false) spelt is = plain (stamp, omega (arith, spelt.0), (index, spelt.1, is))
      none plain durable tombstone (Data stamp index true) spelt is = durable (stamp, omega (arith, spelt.0), (index, spelt.1, is))
      none plain durable tombstone (Tombstone stamp) spelt is = tombstone (stamp, omega (arith, spelt), is)

      by : OrNot (IsArchive false) → OrNot (IsArchive true) → OrNot IsTombstone → OrNot IsSpelt
      by (inl is) durable tombstone = inl (Data is.0 is.2.0 false, (omega (arith, is.1), is.2.1), is.2.2)
      by (inr plain) (inl is) tombstone = inl (Data is.0 is.2.0 true, (omega (arith, is.1), is.2.1), is.2.2)
      by (inr plain) (inr durable) (inl is) = inl (Tombstone is.0, omega (arith, is.1), is.2)
      by (inr plain) (inr durable) (inr tombstone) = inr (λ is. none plain durable tombstone is.0 is.1 is.2)

-- ---- directories

-- the texts have a directory
abbrev pub HasDirectory : List (List ℕ) → Type 0
HasDirectory texts = (names : List FileName) × IsDirectory texts names

-- that of one text more has its name, too, if it is that of one
one_more : (text : List ℕ) (texts : List (List ℕ)) → OrNot (IsSpelt text) → HasDirectory texts → HasDirectory (text ∷ texts)
one_more text texts (inl is) rest = (
  is.0 ∷ rest.0,
  λ name. (
    λ has. ⊎_elim
        (λ here. subst (λ (n : FileName). IsFileName n × Contains (text ∷ texts) (file_name_text n)) here (is.1, subst (Contains (text ∷ texts)) is.2 (Contains-first text texts)))
        (λ later. let spelt = (rest.1 name).0 later in (spelt.0, Contains-later text texts (file_name_text name) spelt.1))
        (Contains-cases is.0 rest.0 name has),
    λ spelt. ⊎_elim
        (λ here. subst (Contains (is.0 ∷ rest.0)) (one_text is.0 name is.1 spelt.0 (sym is.2 ∙ here)) (Contains-first is.0 rest.0))
        (λ later. Contains-later is.0 rest.0 name ((rest.1 name).1 (spelt.0, later)))
        (Contains-cases text texts (file_name_text name) spelt.1),
  ),
)
one_more text texts (inr none) rest = (
  rest.0,
  λ name. (
    λ has. let spelt = (rest.1 name).0 has in (spelt.0, Contains-later text texts (file_name_text name) spelt.1),
    λ spelt. ⊎_elim
        (λ here. absurd (none (name, spelt.0, here)))
        (λ later. (rest.1 name).1 (spelt.0, later))
        (Contains-cases text texts (file_name_text name) spelt.1),
  ),
)

-- each list of texts has a directory
pub directory_of : (texts : List (List ℕ)) → HasDirectory texts
directory_of [] = ([], λ name. (λ has. absurd (Contains-none name has), λ spelt. absurd (Contains-none (file_name_text name) spelt.1)))
directory_of (text ∷ texts) = one_more text texts (spelt_or_not text) (directory_of texts)

-- a name is in it, or not
pub there_or_not : (texts : List (List ℕ)) (names : List FileName) → IsDirectory texts names → (name : FileName) → IsFileName name → OrNot (Contains names name)
there_or_not texts names directory name spelt = ⊎_elim
    (λ has. inl ((directory name).1 (spelt, has)))
    (λ not. inr (λ has. not ((directory name).0 has).1))
    (among_or_not texts (file_name_text name))
