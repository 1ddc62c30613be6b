-- Lines one after another, numbers joined, and the pieces of a line as they are put together.
use Rattle.std.proofs.Common.{◌≡◌, ℕ, ◌+◌, ◌<◌, List, [], ◌∷◌, ◌++◌, append_assoc, get_or, length, map, take, refl, sym, ap, ◌∙◌}
use Rattle.std.specs.List.{concat, join_by}
use Rattle.std.proofs.lemmas.List.{append-nil, map_push, take_more}
use Rattle.std.proofs.lemmas.List.Folds.{concat-append, flat_map-map}

-- what a function makes of one more item
pub map_more : {X Y : Type 0} (f : X → Y) (items : List X) (i : ℕ) (d : X) → i < length items → map f (take (i + 1) items) ≡ map f (take i items) ++ f (get_or items i d) ∷ []
map_more f items i d within = ap (map f) (take_more items i d within) ∙ map_push f (take i items) (get_or items i d)

-- the lines of one more item
pub lines_more : {X : Type 0} (line : X → List ℕ) (items : List X) (i : ℕ) (item : X) → i < length items → item ≡ get_or items i item
    → concat (map line (take (i + 1) items)) ≡ concat (map line (take i items)) ++ line item
lines_more line items i item within is =
    ap concat (map_more line items i item within) ∙ concat-append (map line (take i items)) (line (get_or items i item) ∷ [])
    ∙ ap (λ last. concat (map line (take i items)) ++ last) (append-nil (line (get_or items i item)) ∙ ap line (sym is))

-- joined are the texts that the items give
pub join_by-map : {X A : Type 0} (f : X → List A) (between : List A) (items : List X) → join_by f between items ≡ join_by (λ text. text) between (map f items)
join_by-map f between [] = refl
join_by-map f between (item ∷ items) = ap (λ rest. f item ++ rest) (sym (flat_map-map (λ text. between ++ text) f items))

-- pieces as a definition and as a format have them
pub pieces_of_three : (a b c d : List ℕ) → a ++ b ++ c ++ d ≡ a ++ (b ++ (c ++ d))
pieces_of_three a b c d = simp append_assoc

pub pieces_of_five : (a b c d e f : List ℕ) → a ++ b ++ c ++ d ++ e ++ f ≡ a ++ (b ++ (c ++ (d ++ (e ++ f))))
pieces_of_five a b c d e f = simp append_assoc

-- and as they are put together where a payload stands behind a format
pub pieces_of_stored : (a b c d e f g h : List ℕ) → a ++ b ++ c ++ d ++ e ++ (f ++ g) ++ h ≡ a ++ (b ++ (c ++ (d ++ (e ++ f)))) ++ g ++ h
pieces_of_stored a b c d e f g h = simp append_assoc
