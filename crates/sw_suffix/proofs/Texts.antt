-- Texts of floors, one line after another.
use Rattle.std.proofs.Common.{◌≡◌, ℕ, ◌+◌, ◌<◌, ◌≤◌, List, [], ◌∷◌, ◌++◌, length, get_or, take, sym, ap, ◌∙◌, append_assoc}
use Rattle.std.proofs.lemmas.List.{append-nil, take_all, take_more}
use Rattle.sw_hashpath.specs.Place.{PlaceModel}
use Rattle.sw_hashdir.specs.declared.floor.Floor.{Floor}
use Rattle.sw_suffix.specs.Suffix.{floor_line, suffix_text}

suffix_text-push : (floors : List (PlaceModel × Floor)) (floor : PlaceModel × Floor) → suffix_text (floors ++ floor ∷ []) ≡ suffix_text floors ++ floor_line floor.0 floor.1
suffix_text-push [] floor = append-nil (floor_line floor.0 floor.1)
suffix_text-push (first ∷ floors) floor =
    ap (λ (text : List ℕ). floor_line first.0 first.1 ++ text) (suffix_text-push floors floor) ∙ sym (append_assoc (floor_line first.0 first.1) (suffix_text floors) (floor_line floor.0 floor.1))

-- one line more
pub suffix_text-more : (floors : List (PlaceModel × Floor)) (i : ℕ) (floor : PlaceModel × Floor) → i < length floors → floor ≡ get_or floors i floor
    → suffix_text (take i floors) ++ floor_line floor.0 floor.1 ≡ suffix_text (take (i + 1) floors)
suffix_text-more floors i floor within is =
    sym (ap suffix_text (take_more floors i floor within ∙ ap (λ (f : PlaceModel × Floor). take i floors ++ f ∷ []) (sym is)) ∙ suffix_text-push (take i floors) floor)

-- all lines
pub suffix_text-whole : (floors : List (PlaceModel × Floor)) (i : ℕ) → length floors ≤ i → suffix_text (take i floors) ≡ suffix_text floors
suffix_text-whole floors i past = ap suffix_text (take_all i floors past)
