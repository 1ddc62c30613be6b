-- There is a list of all places of a cluster, so that each name of a folder is that of a place, or of none.
use Rattle.std.proofs.Common.{◌≡◌, ◌⊎◌, ◌↔◌, inl, inr, ⊎_elim, ℕ, zero, suc, ◌<◌, Contains, List, [], ◌∷◌, ◌++◌, get_or, length, map, refl, sym, ap, subst, arith}
use Rattle.std.proofs.lemmas.Bool.{cases_eq}
use Rattle.std.proofs.lemmas.List.Elements.{Contains-append_cases, Contains-append_left, Contains-append_right}
use Rattle.sw_hashpath.specs.Place.{IsHash, IsPlace, PlaceModel, folder_of, place_of}
use Rattle.sw_diskfile.proofs.Lists.{Contains-cases, Contains-first, Contains-map, Contains-none, mapped}
use Rattle.sw_ring.specs.Cluster.{ClusterModel}
use Rattle.sw_diskfile.proofs.Decisions.{among_or_not}
use Rattle.sw_law_scene.specs.Disks.{IsOfNoPlace}

-- ---- lists of numbers below a bound

-- each number is below the bound, and so is what stands for one past the end
abbrev AreBelow : (bound : ℕ) → List ℕ → Type 0
AreBelow bound numbers = (position : ℕ) → get_or numbers position 0 < bound

-- each of these lists with each number below a bound before it
abbrev with_first : (bound : ℕ) → List (List ℕ) → List (List ℕ)
with_first zero lists = []
with_first (suc bound) lists = map (λ (rest : List ℕ). bound ∷ rest) lists ++ with_first bound lists

pub record IsLed (bound : ℕ) (lists : List (List ℕ)) (numbers : List ℕ) : Type 0 where
  pub first : ℕ
  pub rest : List ℕ
  pub below : first < bound
  pub has : Contains lists rest
  pub same : first ∷ rest ≡ numbers

led : (bound : ℕ) (lists : List (List ℕ)) (numbers : List ℕ) → Contains (with_first bound lists) numbers → IsLed bound lists numbers
led zero lists numbers has = absurd (Contains-none numbers has)
led (suc bound) lists numbers has = ⊎_elim
    (λ here. let from = mapped (λ (rest : List ℕ). bound ∷ rest) lists numbers here in record { first = bound; rest = from.0; below = omega arith; has = from.1; same = from.2 })
    (λ later. let is = led bound lists numbers later in record { first = is.first; rest = is.rest; below = omega (arith, is.below); has = is.has; same = is.same })
    (Contains-append_cases (map (λ (rest : List ℕ). bound ∷ rest) lists) (with_first bound lists) numbers has)

leads : (bound first : ℕ) (lists : List (List ℕ)) (rest : List ℕ) → first < bound → Contains lists rest → Contains (with_first bound lists) (first ∷ rest)
leads zero first lists rest below has = absurd (omega (arith, below))
leads (suc bound) first lists rest below has = ⊎_elim
    (λ same. Contains-append_left (map (λ (r : List ℕ). bound ∷ r) lists) (with_first bound lists) (first ∷ rest)
    (subst (λ (n : ℕ). Contains (map (λ (r : List ℕ). bound ∷ r) lists) (n ∷ rest)) (sym same) (Contains-map (λ (r : List ℕ). bound ∷ r) lists rest has)))
    (λ differ. Contains-append_right (map (λ (r : List ℕ). bound ∷ r) lists) (with_first bound lists) (first ∷ rest) (leads bound first lists rest (omega (arith, below, differ)) has))
    (cases_eq first bound)

module _ (bound : ℕ) (some : zero < bound) where
  abbrev AreAll : (count : ℕ) → List (List ℕ) → Type 0
  AreAll count lists = (numbers : List ℕ) → Contains lists numbers ↔ ((length numbers ≡ count) × AreBelow bound numbers)

  below_led : (first : ℕ) (rest : List ℕ) → first < bound → AreBelow bound rest → AreBelow bound (first ∷ rest)
  below_led first rest below are zero = below
  below_led first rest below are (suc position) = are position

  none : AreAll zero ([] ∷ [])
  none [] = ((λ has. (refl, λ position. some)), (λ is. Contains-first [] []))
  none (first ∷ rest) = ((λ has. ⊎_elim (λ same. absurd (cc same)) (λ later. absurd (Contains-none _ later)) (Contains-cases [] [] (first ∷ rest) has)), (λ is. absurd (omega (arith, is.0))))

  one_more : (count : ℕ) (lists : List (List ℕ)) → AreAll count lists → AreAll (suc count) (with_first bound lists)
  one_more count lists are [] = ((λ has. let is = led bound lists [] has in absurd (cc (is.same))), (λ is. absurd (omega (arith, is.0))))
  one_more count lists are (first ∷ rest) = (
    λ has.
        let is = led bound lists (first ∷ rest) has in
        let of = (are is.rest).0 is.has in
        subst (λ (numbers : List ℕ). (length numbers ≡ suc count) × AreBelow bound numbers) is.same (ap suc of.0, below_led is.first is.rest is.below of.1),
    λ is. leads bound first lists rest (is.1 zero) ((are rest).1 (omega (arith, is.0), λ position. is.1 (suc position))),
  )

  -- all lists of so many numbers below the bound
  all_lists : (count : ℕ) → (lists : List (List ℕ)) × AreAll count lists
  all_lists zero = ([] ∷ [], none)
  all_lists (suc count) = let rest = all_lists count in (with_first bound rest.0, one_more count rest.0 rest.1)

-- ---- places

-- all hashes
all_hashes : (hashes : List (List ℕ)) × ((hash : List ℕ) → Contains hashes hash ↔ IsHash hash)
all_hashes =
    let all = all_lists 256 (omega arith) 16 in
    (all.0, λ hash. ((λ has. let is = (all.1 hash).0 has in record { sixteen = is.0; bytes = is.1 }), (λ is. (all.1 hash).1 (is.sixteen, is.bytes))))

-- all places of a cluster with so many partitions
pub all_places : (power : ℕ) → (places : List PlaceModel) × ((place : PlaceModel) → Contains places place ↔ IsPlace power place)
all_places power =
    let hashes = all_hashes in
    let at : List ℕ → PlaceModel = λ hash. place_of hash power in (
      map at hashes.0,
      λ place. (
        λ has. let from = mapped at hashes.0 place has in subst (IsPlace power) from.2 (record { hash = (hashes.1 from.0).0 from.1; part = refl }),
        λ is.
            let same : place_of place.hash power ≡ place = λ i. record { part = sym is.part i; hash = place.hash } in
            subst (Contains (map at hashes.0)) same (Contains-map at hashes.0 place.hash ((hashes.1 place.hash).1 is.hash)),
      ),
    )

-- the names of their folders
pub all_folders : (power : ℕ) → (names : List (List ℕ)) × ((place : PlaceModel) → IsPlace power place → Contains names (folder_of place)) × ((name : List ℕ) → Contains names name → (place : PlaceModel) × IsPlace power place × (folder_of place ≡ name))
all_folders power =
    let places = all_places power in (
      map folder_of places.0,
      λ place is. Contains-map folder_of places.0 place ((places.1 place).1 is),
      λ name has. let from = mapped folder_of places.0 name has in (from.0, (places.1 from.0).0 from.1, from.2),
    )

-- a name is that of the folder of a place, or of none
pub place_or_none : (cluster : ClusterModel) (name : List ℕ) → ((place : PlaceModel) × IsPlace cluster.part_power place × (folder_of place ≡ name)) ⊎ IsOfNoPlace cluster name
place_or_none cluster name =
    let all = all_folders cluster.part_power in
    ⊎_elim (λ has. inl (all.2 name has)) (λ not. inr (λ place right same. not (subst (Contains all.0) (sym same) (all.1 place right)))) (among_or_not all.0 name)
