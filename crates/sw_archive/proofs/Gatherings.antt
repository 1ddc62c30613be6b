-- Archives that stand beside one another, one more at a time.
use Rattle.std.proofs.Common.{◌≡◌, ◌≢◌, ◌≤◌, ◌<◌, ◌+◌, ℕ, List, [], ◌∷◌, ◌++◌, length, length-append, ap, arith}
use Rattle.std.proofs.lemmas.List.Elements.{All-append, All-from_recursion, All-nil, All-push}
use Rattle.std.proofs.lemmas.List.Quantifiers.{all_pairs_push}
use Rattle.sw_archive.specs.Archive.{ArchiveModel, IsSound}
use Rattle.sw_archive.specs.Assemble.{AreAlike, AreTogether, IsNext, k_of}

pub none_together : AreTogether []
none_together = record {
  sound = All-nil IsSound;
  alike = λ i j d less within. absurd (omega arith);
  distinct = λ i j d less within. absurd (omega arith);
  few = All-nil (λ (archive : ArchiveModel). 0 ≤ archive.k);
}

-- with one that can stand beside them
pub AreTogether-push : (archives : List ArchiveModel) (archive : ArchiveModel) → AreTogether archives → IsSound archive → IsNext archives archive → AreTogether (archives ++ archive ∷ [])
AreTogether-push archives archive together sound next =
    let count : length (archives ++ archive ∷ []) ≡ length archives + 1 = length-append archives (archive ∷ []) in
    let fits = λ (other : ArchiveModel). length (archives ++ archive ∷ []) ≤ other.k in
    record {
      sound = All-push IsSound archives archive together.sound sound;
      alike = all_pairs_push AreAlike archives archive together.alike next.alike;
      distinct = all_pairs_push (λ (a b : ArchiveModel). a.index ≢ b.index) archives archive together.distinct next.new;
      few = All-append fits archives (archive ∷ [])
          (λ position d below. let same = ap (λ (x : ArchiveModel). x.k) (next.alike position d below) in omega (arith, count, next.few, same))
          (All-from_recursion fits (archive ∷ []) (omega (arith, count, next.few), tt));
    }

-- there is room for one that can stand beside them, where there is for as many as the first one's k
pub room_for_next : (archives : List ArchiveModel) (archive : ArchiveModel) (room : ℕ) → IsNext archives archive → k_of archives archive ≤ room → length archives < room
room_for_next [] archive room next most = omega (arith, next.few, most)
room_for_next (first ∷ others) archive room next most =
    let same = ap (λ (x : ArchiveModel). x.k) (next.alike 0 first (omega arith)) in omega (arith, next.few, most, same)
