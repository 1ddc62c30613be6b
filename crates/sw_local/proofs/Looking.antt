-- A pass that looks how many losses there were, and then draws: what the draw leaves is said of what was known before the look.
use Rattle.std.proofs.Common.{◌≡◌, ℕ, ◌≤◌, Option, refl, subst}
use Rattle.sw_types.specs.Name.{NameModel}
use Rattle.sw_types.specs.Object.{ObjectModel}
use Rattle.sw_words.specs.Counts.{one_more}
use Rattle.sw_pass.specs.Known.{history}
use Rattle.sw_pass.specs.Losses.{LossesBelow}
use Rattle.sw_pass.specs.Steps.{IsFresh, Refused, drew, marked, raised}
use Rattle.sw_pass.specs.declared.known.Known.{Known}
use Rattle.sw_local.specs.Link.{Drew, HasRaised, LocalModel, Spent}

-- what the pass of a link found as it looked how many losses there were, and the time that the clock showed
pub record HasLooked {T : Type 0} (shows : T → ℕ → Type 0) (before : LocalModel T) (mark : ℕ) (found : Known) (time : ℕ) : Type 0 where
  pub looked : found ≡ marked mark before.known
  pub rises : before.known.mark ≤ mark
  pub above : (slot : ℕ) → LossesBelow mark (history before.known.histories slot)
  pub shown : shows before.clock time

module _ {T : Type 0} {shows : T → ℕ → Type 0} {before : LocalModel T} {mark : ℕ} {found : Known} {time : ℕ} (look : HasLooked shows before mark found time) (after : Known) where
  abbrev raised_to : Known
  raised_to = raised time (marked mark before.known)

  has_raised : HasRaised shows before raised_to
  has_raised = record { time = time; shown = look.shown; mark = mark; rises = look.rises; above = look.above; raised_is = refl }

  -- it drew
  module _ (stamp : ℕ) (name : NameModel) (object : Option ObjectModel) (drawn : after ≡ drew stamp name object (raised time found)) (fresh : IsFresh stamp (raised time found)) where
    pub has_drawn : after ≡ drew stamp name object raised_to
    has_drawn = subst (λ (known : Known). after ≡ drew stamp name object (raised time known)) look.looked drawn

    pub is_fresh : IsFresh stamp raised_to
    is_fresh = subst (λ (known : Known). IsFresh stamp (raised time known)) look.looked fresh

    pub drew_so : Drew shows before name object stamp (record before { known = after })
    drew_so = record { raised_to = raised_to; raises = has_raised; drawn = has_drawn; fresh = is_fresh; after_is = refl }

  -- it found that the stamps are spent, at the raise or at the draw
  module _ (refused : Refused time found after) where
    pub has_spent : Refused time (marked mark before.known) after
    has_spent = subst (λ (known : Known). Refused time known after) look.looked refused

    pub spent_so : Spent shows before (record before { known = after; refused = one_more before.refused })
    spent_so = record { raised_to = raised_to; raises = has_raised; spent = has_spent; after_is = refl }
