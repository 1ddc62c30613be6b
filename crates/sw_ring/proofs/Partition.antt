-- The devices of a partition: what a row has at its number is in the column under it.
use Rattle.std.proofs.Common.{◌≡◌, ℕ, suc, ◌+◌, ◌<◌, ◌≤◌, ◌==◌, ◌||◌, Bool, false, not, cond, nat_lt, List, [], ◌∷◌, length, get_or, map, None, refl, ap, ◌∙◌, arith}
use Rattle.std.specs.List.{All, position, position_or_len, slice_get}
use Rattle.std.proofs.lemmas.Bool.Decides.{nat_tests}
use Rattle.std.proofs.lemmas.List.{length-map}
use Rattle.std.proofs.lemmas.Option.{slice_get-get_or, slice_get_past}
use Rattle.sw_ring.specs.Ring.{has_at, is_among, option_is}

-- rows that each have a device for each of so many partitions
abbrev pub AreEven : ℕ → List (List ℕ) → Type 0
AreEven parts rows = All (λ row. length row ≡ parts) rows

-- a row that is long enough has the device at a partition where the column has it
is_here : (part id parts : ℕ) (row : List ℕ) → length row ≡ parts → part < parts → option_is (slice_get row part) id ≡ (get_or row part 0 == id)
is_here part id parts row even within = ap (λ o. option_is o id) (slice_get-get_or row part 0 (omega (arith, even)))

pub has_at_among : (part id parts : ℕ) (rows : List (List ℕ)) → AreEven parts rows → part < parts
    → has_at part id rows ≡ is_among (map (λ row. get_or row part 0) rows) id
has_at_among part id parts [] even within = refl
has_at_among part id parts (row ∷ rows) even within =
    ap (λ b. b || has_at part id rows) (is_here part id parts row (even 0 [] (omega arith)) within)
    ∙ ap (λ b. (get_or row part 0 == id) || b) (has_at_among part id parts rows (λ i d h. even (suc i) d (omega arith)) within)

position_among : (part id parts : ℕ) (rows : List (List ℕ)) → AreEven parts rows → part < parts
    → position_or_len (λ row. option_is (slice_get row part) id) rows ≡ position_or_len (λ other. other == id) (map (λ row. get_or row part 0) rows)
position_among part id parts [] even within = refl
position_among part id parts (row ∷ rows) even within =
    ap (λ b. cond (not b) (1 + position_or_len (λ row. option_is (slice_get row part) id) rows) 0) (is_here part id parts row (even 0 [] (omega arith)) within)
    ∙ ap (λ n. cond (not (get_or row part 0 == id)) (1 + n) 0) (position_among part id parts rows (λ i d h. even (suc i) d (omega arith)) within)

-- the first row that has the device is its position in the column
pub index_among : (part id parts : ℕ) (rows : List (List ℕ)) → AreEven parts rows → part < parts
    → position (λ row. option_is (slice_get row part) id) rows ≡ position (λ other. other == id) (map (λ row. get_or row part 0) rows)
index_among part id parts rows even within = rw (position_among part id parts rows even within, length-map rows (λ row. get_or row part 0)) refl

-- rows that all end before a partition have no device there
pub nowhere : (part id parts : ℕ) (rows : List (List ℕ)) → AreEven parts rows → parts ≤ part
    → position_or_len (λ row. option_is (slice_get row part) id) rows ≡ length rows
nowhere part id parts [] even past = refl
nowhere part id parts (row ∷ rows) even past =
    let here : length row ≡ parts = even 0 [] (omega arith) in
    ap (λ o. cond (not (option_is o id)) (1 + position_or_len (λ row. option_is (slice_get row part) id) rows) 0) (slice_get_past row part (omega (arith, here)))
    ∙ ap (λ n. 1 + n) (nowhere part id parts rows (λ i d h. even (suc i) d (omega arith)) past)
    ∙ omega arith

pub no_index : (part id parts : ℕ) (rows : List (List ℕ)) → AreEven parts rows → parts ≤ part
    → position (λ row. option_is (slice_get row part) id) rows ≡ None
no_index part id parts rows even past =
    let none : nat_lt (length rows) (length rows) ≡ false = grind (arith, nat_tests) in
    rw (nowhere part id parts rows even past, none) refl

position_or_len-map : {X Y : Type 0} (test : Y → Bool) (f : X → Y) (xs : List X) → position_or_len test (map f xs) ≡ position_or_len (λ x. test (f x)) xs
position_or_len-map test f [] = refl
position_or_len-map test f (x ∷ xs) = ap (λ n. cond (not (test (f x))) (1 + n) 0) (position_or_len-map test f xs)

-- a search among elements that f made is one among those that it made them of
pub position-map : {X Y : Type 0} (test : Y → Bool) (f : X → Y) (xs : List X) → position test (map f xs) ≡ position (λ x. test (f x)) xs
position-map test f xs = rw (position_or_len-map test f xs, length-map xs f) refl
