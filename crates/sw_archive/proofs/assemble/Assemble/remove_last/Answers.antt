-- Archives that stand beside one another still do without the last of them.
use Rattle.std.proofs.Common.{◌≢◌, ℕ, ◌≤◌, ◌<◌, List, length, take, get_or, sym, subst, arith}
use Rattle.std.specs.List.{AllPairs}
use Rattle.std.proofs.lemmas.List.{get_or-take, length-take}
use Rattle.std.proofs.lemmas.List.Elements.{All-take, All-weaker}
use Rattle.sw_archive.specs.Archive.{ArchiveModel, IsSound}
use Rattle.sw_archive.specs.Assemble.{AreAlike, AreTogether}
use Rattle.sw_archive.proofs.assemble.Assemble.remove_last.Goals as goal

pairs_take : {X : Type 0} (R : X → X → Type 0) (n : ℕ) (xs : List X) → AllPairs R xs → AllPairs R (take n xs)
pairs_take R n xs pairs i j d less within =
    let below : j < n = omega (arith, within, length-take n xs) in
    let there : j < length xs = omega (arith, within, length-take n xs) in
    let first : i < n = omega arith in
    subst (λ x. R x (get_or (take n xs) j d)) (sym (get_or-take n xs i d first)) (subst (R (get_or xs i d)) (sym (get_or-take n xs j d below)) (pairs i j d less there))

front : (n : ℕ) (archives : List ArchiveModel) → AreTogether archives → AreTogether (take n archives)
front n archives together = record {
  sound = All-take IsSound n archives together.sound;
  alike = pairs_take AreAlike n archives together.alike;
  distinct = pairs_take (λ (a : ArchiveModel) (b : ArchiveModel). a.index ≢ b.index) n archives together.distinct;
  few = All-weaker (λ (archive : ArchiveModel). length archives ≤ archive.k) (λ (archive : ArchiveModel). length (take n archives) ≤ archive.k)
      (λ archive few. omega (arith, few, length-take n archives)) (take n archives) (All-take (λ (archive : ArchiveModel). length archives ≤ archive.k) n archives together.few);
}

pub invariant_of-self : goal.invariant_of-self
invariant_of-self c = subst AreTogether (sym c.pop.ensures.rest) (front _ c.self.inside.archives.items c.self.invariant)
