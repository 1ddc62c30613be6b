-- Archives gathered, with one more.
use Rattle.std.proofs.Common.{◌≡◌, ℕ, ◌≤◌, Bool, true, false, List, [], ◌∷◌, ◌++◌, length, refl, sym, ap, subst, ◌∙◌, inr, arith}
use Rattle.std.specs.List.{All}
use Rattle.std.proofs.lemmas.List.Elements.{All-append, All-cons, All-head, All-nil, All-tail, All-weaker}
use Rattle.sw_types.specs.Policy.{PolicyModel}
use Rattle.sw_archive.specs.Archive.{ArchiveModel}
use Rattle.sw_archive.specs.Assemble.{AreAlike, AreEnough, IsNext, IsOther, k_of}
use Rattle.sw_message.specs.Spoil.{HasCode}
use Rattle.sw_gather.specs.Gathered.{GatheredModel, IsBeside, IsWithoutLast, Joins, Settles}

-- ---- room

abbrev pub HaveRoom : ℕ → List ArchiveModel → Type 0
HaveRoom room archives = All (λ archive. archive.k ≤ room) archives

pub room_more : (room more : ℕ) (archives : List ArchiveModel) → room ≤ more → HaveRoom room archives → HaveRoom more archives
room_more room more archives up all = All-weaker (λ archive. archive.k ≤ room) (λ archive. archive.k ≤ more) (λ archive within. omega (arith, up, within)) archives all

pub room_for : (archives : List ArchiveModel) (archive : ArchiveModel) (room : ℕ) → HaveRoom room archives → archive.k ≤ room → k_of archives archive ≤ room
room_for [] archive room all within = within
room_for (first ∷ others) archive room all within = All-head (λ archive. archive.k ≤ room) first others all

pub room_added : (archives : List ArchiveModel) (archive : ArchiveModel) (room : ℕ) → HaveRoom room archives → archive.k ≤ room → HaveRoom room (archives ++ archive ∷ [])
room_added archives archive room all within =
    All-append (λ archive. archive.k ≤ room) archives (archive ∷ []) all (All-cons (λ archive. archive.k ≤ room) archive [] within (All-nil (λ archive. archive.k ≤ room)))

pub room_grown : (room more most : ℕ) (old middle new : List ArchiveModel) (archive : ArchiveModel) → room ≤ more → most ≡ more → middle ≡ old → new ≡ middle ++ archive ∷ [] → archive.k ≤ more
    → HaveRoom room old → HaveRoom most new
room_grown room more most old middle new archive up same first second within all =
    subst (HaveRoom most) (sym (second ∙ ap (λ archives. archives ++ archive ∷ []) first))
    (room_added old archive most (room_more room most old (omega (arith, up, same)) all) (omega (arith, same, within)))

pub room_front : (archives : List ArchiveModel) (last : ArchiveModel) (room : ℕ) → HaveRoom room (archives ++ last ∷ []) → HaveRoom room archives
room_front [] last room all = All-nil (λ archive. archive.k ≤ room)
room_front (first ∷ others) last room all =
    All-cons (λ archive. archive.k ≤ room) first others (All-head (λ archive. archive.k ≤ room) first (others ++ last ∷ []) all)
    (room_front others last room (All-tail (λ archive. archive.k ≤ room) first (others ++ last ∷ []) all))

-- ---- whether k are there

first_k : (first : ArchiveModel) (others : List ArchiveModel) (archive : ArchiveModel) → IsNext (first ∷ others) archive → first.k ≡ archive.k
first_k first others archive next = ap (λ (one : ArchiveModel). one.k) (All-head (λ other. AreAlike other archive) first others next.alike)

pub k_from_enough : (archives : List ArchiveModel) (archive : ArchiveModel) → IsNext archives archive → AreEnough (archives ++ archive ∷ []) → length (archives ++ archive ∷ []) ≡ archive.k
k_from_enough [] archive next enough = enough
k_from_enough (first ∷ others) archive next enough = enough ∙ first_k first others archive next

pub enough_from_k : (archives : List ArchiveModel) (archive : ArchiveModel) → IsNext archives archive → length (archives ++ archive ∷ []) ≡ archive.k → AreEnough (archives ++ archive ∷ [])
enough_from_k [] archive next is = is
enough_from_k (first ∷ others) archive next is = is ∙ sym (first_k first others archive next)

-- k archives of the policy's code are enough
pub enough_coded : (policy : PolicyModel) (archives : List ArchiveModel) → All (HasCode policy) archives → 1 ≤ policy.k → length archives ≡ policy.k → AreEnough archives
enough_coded policy [] coded some is = absurd (omega (arith, some, is))
enough_coded policy (first ∷ archives) coded some is = is ∙ sym (All-head (HasCode policy) first archives coded).0

-- ---- without the last

not_alone : {A : Type 0} (x y z : A) (xs : List A) → x ∷ [] ≡ y ∷ (xs ++ z ∷ []) → ⊥
not_alone x y z [] same = omega (arith, ap length same)
not_alone x y z (other ∷ xs) same = omega (arith, ap length same)

pub same_front : {A : Type 0} (xs ys : List A) (x y : A) → xs ++ x ∷ [] ≡ ys ++ y ∷ [] → xs ≡ ys
same_front [] [] x y same = refl
same_front [] (other ∷ ys) x y same = absurd (not_alone x other y ys same)
same_front (one ∷ xs) [] x y same = absurd (not_alone y one x xs (sym same))
same_front (one ∷ xs) (other ∷ ys) x y same =
    let rest : xs ++ x ∷ [] ≡ ys ++ y ∷ [] = cc in
    let front = same_front xs ys x y rest in
    cc

-- ---- what joining gives

module _ (policy : PolicyModel) (before : GatheredModel) (archive : ArchiveModel) (next : IsNext before.archives archive) (of : archive.k ≡ policy.k) where
  pub beside_few : (after : GatheredModel) → after.archives ≡ before.archives ++ archive ∷ [] → (AreEnough after.archives → ⊥) → IsBeside policy before archive after
  beside_few after added few = record {
    next = next;
    archives = added;
    object = λ is. absurd (few (subst AreEnough (sym added) (enough_from_k before.archives archive next (sym (ap length added) ∙ is ∙ sym of))));
  }

  pub joins : (middle after : GatheredModel) → middle.archives ≡ before.archives ++ archive ∷ [] → middle.object ≡ before.object → AreEnough middle.archives → (settled : Bool)
      → Settles middle settled after → Joins policy before archive settled after
  joins middle after added object enough true settles = record { next = next; archives = settles.0 ∙ added; object = λ _. settles.1 }
  joins middle after added object enough false settles =
      let last = settles.1 in
      let front = same_front after.archives before.archives last.last archive (sym last.archives ∙ added) in
      record {
        kept = ap (λ archives. record { archives = archives; object = after.object }) front ∙ ap (λ object. record { archives = before.archives; object = object }) (last.object ∙ object);
        strays = inr (
          next,
          record {
            enough = k_from_enough before.archives archive next (subst AreEnough added enough) ∙ of;
            told = settles.0.told;
            computed = settles.0.computed;
            other = subst (λ archives. IsOther archives settles.0.told settles.0.computed) added settles.0.other;
          },
        );
      }

  pub left : (middle after : GatheredModel) → middle.archives ≡ before.archives ++ archive ∷ [] → middle.object ≡ before.object → IsWithoutLast middle after → after ≡ before
  left middle after added object last =
      let front = same_front after.archives before.archives last.last archive (sym last.archives ∙ added) in
      ap (λ archives. record { archives = archives; object = after.object }) front ∙ ap (λ object. record { archives = before.archives; object = object }) (last.object ∙ object)
