-- Laws of directories: there is one floor at most, an entry has its name and is durable or not, and what makes a twin.
use Rattle.std.proofs.Common.{◌≡◌, inl, inr, ℕ, Bool, true, false, List, Contains, Some, refl, sym, ap, ◌∙◌}
use Rattle.std.proofs.lemmas.Bool.{cases_order}
use Rattle.sw_hashpath.specs.declared.file_name.FileName.{FileName}
use Rattle.sw_hashpath.specs.declared.file_name.FileName.TheVariants.{Data, Tombstone}
use Rattle.sw_hashdir.specs.Directory.{HasEntryAt, IsAbove, IsFloor}
use Rattle.sw_hashdir.specs.Obsolete.{IsTwin}
use Rattle.sw_hashdir.specs.declared.floor.Floor.{Floor}
use Rattle.sw_hashdir.specs.declared.floor.FloorKind.{FloorKind}
use Rattle.sw_hashdir.specs.declared.floor.FloorKind.TheVariants as kind

one_kind : (a b : FloorKind) → (a ≡ kind.Tombstone → b ≡ kind.Durable → ⊥) → (b ≡ kind.Tombstone → a ≡ kind.Durable → ⊥) → a ≡ b
one_kind kind.Durable kind.Durable first second = refl
one_kind kind.Durable kind.Tombstone first second = absurd (second refl refl)
one_kind kind.Tombstone kind.Durable first second = absurd (first refl refl)
one_kind kind.Tombstone kind.Tombstone first second = refl

-- floors of which neither is above the other are the same
pub level : (a b : Floor) → (IsAbove a b → ⊥) → (IsAbove b a → ⊥) → a ≡ b
level a b not_above not_below = elim (cases_order a.stamp b.stamp) [
  | inl same ↦
      let kinds = one_kind a.kind b.kind (λ up down. not_above (inr (same, up, down))) (λ up down. not_below (inr (sym same, up, down))) in
      ap (λ (s : ℕ). record { stamp = s; kind = a.kind }) same ∙ ap (λ (k : FloorKind). record { stamp = b.stamp; kind = k }) kinds
  | inr (inl less) ↦ absurd (not_below (inl less))
  | inr (inr more) ↦ absurd (not_above (inl more))
]

-- there is one floor at most
pub one_floor : (names : List FileName) (a b : Floor) → IsFloor names (Some a) → IsFloor names (Some b) → a ≡ b
one_floor names a b first second = level a b (second.1 a first.0) (first.1 b second.0)

-- an entry has its name
pub entry_there : (names : List FileName) (stamp index : ℕ) (durable : Bool) → HasEntryAt names stamp index durable → Contains names (Data stamp index durable)
entry_there names stamp index true has = has
entry_there names stamp index false has = has.0

-- and its stamp and index say whether it is durable
pub one_durable : (names : List FileName) (stamp index : ℕ) (a b : Bool) → HasEntryAt names stamp index a → HasEntryAt names stamp index b → a ≡ b
one_durable names stamp index true true first second = refl
one_durable names stamp index true false first second = absurd (second.1 first)
one_durable names stamp index false true first second = absurd (first.1 second)
one_durable names stamp index false false first second = refl

-- a twin is one where more durable names are
pub twin_more : (names rest : List FileName) → ((stamp index : ℕ) → Contains rest (Data stamp index true) → Contains names (Data stamp index true)) → (name : FileName) → IsTwin rest name → IsTwin names name
twin_more names rest more (Data stamp index false) twin = more stamp index twin
twin_more names rest more (Data stamp index true) twin = twin
twin_more names rest more (Tombstone stamp) twin = twin
