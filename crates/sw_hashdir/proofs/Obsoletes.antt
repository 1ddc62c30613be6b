-- Names below a floor.
use Rattle.std.proofs.Common.{◌≡◌, inl, inr, ◌↔◌, Bool, true, List, Contains, IsTrue, MatchOption, Option, Some, None, subst}
use Rattle.sw_hashpath.specs.declared.file_name.FileName.{FileName}
use Rattle.sw_hashdir.specs.Directory.{IsFloor}
use Rattle.sw_hashdir.proofs.Laws.{one_floor}
use Rattle.sw_hashdir.specs.Obsolete.{IsBelow, IsBelowFloor, IsObsolete, IsTwin}
use Rattle.sw_hashdir.specs.declared.floor.Floor.{Floor}

below_floor : (names : List FileName) (floor : Option Floor) (name : FileName) → IsFloor names floor → MatchOption floor ⊥ (λ there. IsBelow there name) ↔ IsBelowFloor names name
below_floor names None name is = (λ none. absurd none, λ below. is below.0 below.1.0)
below_floor names (Some floor) name is = (
  λ below. (floor, is, below),
  λ below. subst (λ other. IsBelow other name) (one_floor names below.0 floor below.1 is) below.2,
)

-- at a primary, a name that is no twin
pub obsolete_below : (names : List FileName) (floor : Option Floor) (name : FileName) (is_primary result : Bool) → Contains names name → IsFloor names floor → is_primary ≡ true → (IsTwin names name → ⊥) → IsTrue result ↔ MatchOption floor ⊥ (λ there. IsBelow there name) → IsTrue result ↔ IsObsolete is_primary names name
obsolete_below names floor name is_primary result has is primary no_twin answer =
    let both = below_floor names floor name is in (
      λ yes. (has, inr (primary, both.0 (answer.0 yes))),
      λ obsolete. elim obsolete.1 [
        | inl twin ↦ absurd (no_twin twin)
        | inr below ↦ answer.1 (both.1 below.1)
      ],
    )
