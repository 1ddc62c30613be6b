-- How many bytes are free on a disk is one number, in whichever folders its files are counted.
use Rattle.std.proofs.Common.{◌≡◌, ◌≢◌, ⊎_elim, ℕ, ◌+◌, ◌≤◌, AllPairs, Contains, List, [], ◌∷◌, sym, ap, subst, ◌∙◌, arith}
use Rattle.std.specs.Prelude.{sum_by}
use Rattle.std.proofs.lemmas.List.Sums.{sum_by-cons}
use Rattle.sw_diskfile.proofs.Decisions.{among_or_not}
use Rattle.sw_diskfile.proofs.Lists.{Contains-cases, Contains-first, Contains-later, Contains-none, first_before, rest_ascend}
use Rattle.sw_message.specs.Step.{Folders}
use Rattle.sw_law_scene.specs.Devices.{IsFree, size_of}

module _ (size : List ℕ → ℕ) where
  abbrev total : List (List ℕ) → ℕ
  total names = sum_by size names

  -- some names but for one of them
  record Without (name : List ℕ) (names : List (List ℕ)) : Type 0 where
    rest : List (List ℕ)
    total_is : total names ≡ size name + total rest
    kept : (other : List ℕ) → Contains names other → other ≢ name → Contains rest other

  without : (name : List ℕ) (names : List (List ℕ)) → Contains names name → Without name names
  without name [] has = absurd (Contains-none name has)
  without name (first ∷ names) has = ⊎_elim
      (λ here. record {
        rest = names;
        total_is = sum_by-cons size first names ∙ ap (λ (n : ℕ). n + total names) (ap size here);
        kept = λ other there apart. ⊎_elim (λ this. absurd (apart (sym this ∙ here))) (λ later. later) (Contains-cases first names other there);
      })
      (λ later.
      let fewer = without name names later in
      record {
        rest = first ∷ fewer.rest;
        total_is =
            let so = fewer.total_is in
            omega (arith, sum_by-cons size first names, sum_by-cons size first fewer.rest, so);
        kept = λ other there apart. ⊎_elim
            (λ this. subst (Contains (first ∷ fewer.rest)) this (Contains-first first fewer.rest))
            (λ behind. Contains-later first fewer.rest other (fewer.kept other behind apart))
            (Contains-cases first names other there);
      })
      (Contains-cases first names name has)

  -- different names have no more than some others, if each of them that is none of these has nothing
  no_more : (names others : List (List ℕ)) → AllPairs (λ a b. a ≢ b) names → ((name : List ℕ) → Contains names name → (Contains others name → ⊥) → size name ≡ 0) → total names ≤ total others
  no_more [] others distinct none = omega arith
  no_more (first ∷ names) others distinct none =
      let rest = rest_ascend (λ a b. a ≢ b) first names distinct in
      ⊎_elim
      (λ there.
      let fewer = without first others there in
      let so = fewer.total_is in
      let below = no_more names fewer.rest rest (λ name has lacks. none name (Contains-later first names name has) (λ among. lacks (fewer.kept name among (λ same. first_before (λ a b. a ≢ b) first names distinct name has (sym same))))) in
      omega (arith, sum_by-cons size first names, so, below))
      (λ lacks.
      let below = no_more names others rest (λ name has. none name (Contains-later first names name has)) in
      omega (arith, sum_by-cons size first names, none first (Contains-first first names) lacks, below))
      (among_or_not others first)

pub one_room : (capacity : ℕ) (folders : Folders) (room other : ℕ) → IsFree capacity folders room → IsFree capacity folders other → room ≡ other
one_room capacity folders room other x y =
    let size = λ (name : List ℕ). size_of (folders name) in
    let up = no_more size x.names y.names x.distinct (λ name has lacks. ap size_of (y.others name lacks)) in
    let down = no_more size y.names x.names y.distinct (λ name has lacks. ap size_of (x.others name lacks)) in
    let first = x.room_is in
    let second = y.room_is in
    omega (arith, up, down, first, second)
