-- Names that bear a claim: what is above one that does, and what takes the place of one.
use Rattle.std.proofs.Common.{◌≡◌, inl, inr, ⊎_elim, ℕ, Bool, true, false, List, refl, sym, ◌∙◌, subst, arith}
use Rattle.sw_hashpath.specs.declared.file_name.FileName.{FileName}
use Rattle.sw_hashpath.specs.declared.file_name.FileName.TheVariants.{Data, Tombstone}
use Rattle.sw_hashdir.specs.Directory.{IsAbove, StandsAbove}
use Rattle.sw_hashdir.specs.Obsolete.{IsBelow, IsTwin}
use Rattle.sw_hashdir.specs.declared.floor.Floor.{Floor}
use Rattle.sw_law_claim.specs.Claim.{ADurableEntry, ATombstone, AnEntry, Claim, IsBearing, IsOfIndex, IsWhat, ShowsFloor, What}

-- ---- floors

-- a name that shows a floor is no twin
pub shows_no_twin : (names : List FileName) (name : FileName) (floor : Floor) → ShowsFloor name floor → IsTwin names name → ⊥
shows_no_twin names (Data stamp index true) floor shows twin = twin
shows_no_twin names (Data stamp index false) floor shows twin = shows
shows_no_twin names (Tombstone stamp) floor shows twin = twin

-- and what it is below is above that floor
pub shows_below : (name : FileName) (floor other : Floor) → ShowsFloor name floor → IsBelow other name → IsAbove other floor
shows_below (Data stamp index true) floor other shows below = subst (IsAbove other) (sym shows) (⊎_elim (λ less. inl less) (λ level. inr (sym level.0, level.1, refl)) below)
shows_below (Data stamp index false) floor other shows below = absurd shows
shows_below (Tombstone stamp) floor other shows below = subst (IsAbove other) (sym shows) (inl below)

-- what is above a floor stands above what that one does
above_stands : (floor other : Floor) (stamp : ℕ) → IsAbove floor other → StandsAbove other stamp → StandsAbove floor stamp
above_stands floor other stamp (inl less) (inl more) = inl (omega (arith, less, more))
above_stands floor other stamp (inl less) (inr level) = inl (omega (arith, less, level.0))
above_stands floor other stamp (inr same) (inl more) = inl (omega (arith, same.0, more))
above_stands floor other stamp (inr same) (inr level) = inr (same.0 ∙ level.0, same.1)

-- a floor stands above the stamp of what is below it
what_below : (stamp : ℕ) (what : What) (name : FileName) (floor : Floor) → IsWhat stamp what name → IsBelow floor name → StandsAbove floor stamp
what_below stamp (AnEntry index) name floor is below = ⊎_elim (λ less. inl less) (λ level. inr (sym level.0, level.1)) (subst (IsBelow floor) is.1 below)
what_below stamp (ADurableEntry index) name floor is below = ⊎_elim (λ less. inl less) (λ level. inr (sym level.0, level.1)) (subst (IsBelow floor) is below)
what_below stamp ATombstone name floor is below = inl (subst (IsBelow floor) is below)

-- ---- entries

-- what the plain name is the durable one is, too
plain_what : (s : ℕ) (what : What) (stamp index : ℕ) → IsWhat s what (Data stamp index false) → IsWhat s what (Data stamp index true)
plain_what s (AnEntry other) stamp index is = let e = is.1 in (true, cc)
plain_what s (ADurableEntry other) stamp index is = absurd (cc)
plain_what s ATombstone stamp index is = absurd (cc)

-- an entry that is what is claimed has its stamp and its index
entry_is : (s : ℕ) (what : What) (stamp index : ℕ) (durable : Bool) → IsWhat s what (Data stamp index durable) → (s ≡ stamp) × IsOfIndex index what
entry_is s (AnEntry other) stamp index durable is = let e = is.1 in (cc, cc)
entry_is s (ADurableEntry other) stamp index durable is = (cc, cc)
entry_is s ATombstone stamp index durable is = absurd (cc)

module _ (primary : Bool) (claim : Claim) where
  -- a floor stands above the stamp of a claim that a name below it bears
  pub bearing_below : (name : FileName) (floor : Floor) → IsBearing primary claim name → IsBelow floor name → StandsAbove floor claim.stamp
  bearing_below name floor (inl what) below = what_below claim.stamp claim.what name floor what below
  bearing_below name floor (inr shown) below = above_stands floor shown.1 claim.stamp (shows_below name shown.1 floor shown.2 below) shown.3

  -- what the plain name bears the durable one does, too
  pub plain_bears : (stamp index : ℕ) → IsBearing primary claim (Data stamp index false) → IsBearing primary claim (Data stamp index true)
  plain_bears stamp index (inl what) = inl (plain_what claim.stamp claim.what stamp index what)
  plain_bears stamp index (inr shown) = absurd shown.2

  -- at a handoff an entry bears what has its stamp and its index alone
  pub handoff_bears : primary ≡ false → (stamp index : ℕ) (durable : Bool) → IsBearing primary claim (Data stamp index durable) → (claim.stamp ≡ stamp) × IsOfIndex index claim.what
  handoff_bears handoff stamp index durable (inl what) = entry_is claim.stamp claim.what stamp index durable what
  handoff_bears handoff stamp index durable (inr shown) = let at_primary = shown.0 in absurd (cc)
