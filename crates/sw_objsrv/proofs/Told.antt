-- Facts of what a disk told and tells: one after another, side by side, and of a folder.
use Rattle.std.proofs.Common.{ℕ, Bool, true, false, true≢false, List, Option, Some, None, refl, sym, subst}
use Rattle.std.specs.Prelude.{IsSome}
use Rattle.sw_disk.specs.Folder.{Folder}
use Rattle.sw_disk.specs.Runs.{IfTold, IsTelling}
use Rattle.sw_disk.specs.State.{State}

-- all disks of a type tell, or none does
pub told_too : (tells : Bool) (a b : Option State) → IsTelling tells a → IsTelling tells b → IsSome a → IsSome b
told_too true a b first second some = second
told_too false a b first second some = absurd (true≢false (sym (subst (λ (o : Option State). IsSome o) first some)))

-- a disk that told before tells now
pub told_after : (tells : Bool) (a b : Option State) → IsTelling tells a → IsTelling tells b → (P : State → State → Type 0) (Q : State → Type 0) → IfTold a (λ s. IfTold b (λ t. P s t)) → ((s t : State) → P s t → Q t) → IfTold b Q
told_after tells a None first second P Q has more = tt
told_after true None (Some t) first second P Q has more = absurd (true≢false (sym first))
told_after false None (Some t) first second P Q has more = absurd (cc)
told_after tells (Some s) (Some t) first second P Q has more = more s t has

-- a fact of no state
pub told_still : (tells : Bool) (a b : Option State) → IsTelling tells a → IsTelling tells b → (P : Type 0) → IfTold a (λ s. P) → IfTold b (λ s. P)
told_still tells a None first second P has = tt
told_still true None (Some t) first second P has = absurd (true≢false (sym first))
told_still false None (Some t) first second P has = absurd (cc)
told_still tells (Some s) (Some t) first second P has = has

-- a fact of what it told, beside one of what it told and tells
pub has_told : (a b : Option State) (Has : State → Type 0) (P : State → State → Type 0) → IfTold a Has → IfTold a (λ s. IfTold b (λ t. P s t)) → IfTold a (λ s. IfTold b (λ t. Has s × P s t))
has_told None b Has P has holds = tt
has_told (Some s) None Has P has holds = tt
has_told (Some s) (Some t) Has P has holds = (has, holds)

-- two facts of what it told and tells
pub both_told : (a b : Option State) (Has : State → Type 0) (P Q : State → State → Type 0) → IfTold a Has → IfTold a (λ s. IfTold b (λ t. P s t)) → IfTold a (λ s. IfTold b (λ t. Q s t))
    → IfTold a (λ s. IfTold b (λ t. Has s × P s t × Q s t))
both_told None b Has P Q has first second = tt
both_told (Some s) None Has P Q has first second = tt
both_told (Some s) (Some t) Has P Q has first second = (has, first, second)

pub told_both : (told : Option State) (P Q : State → Type 0) → IfTold told P → IfTold told Q → IfTold told (λ state. P state × Q state)
told_both None P Q first second = tt
told_both (Some state) P Q first second = (first, second)

-- what follows of both
pub both_follow : (old new : Option State) (Has : State → Type 0) (P Q : State → State → Type 0) → ((before after : State) → Has before → P before after → Q before after)
    → IfTold old Has → IfTold old (λ before. IfTold new (P before)) → IfTold old (λ before. IfTold new (Q before))
both_follow None new Has P Q more there has = tt
both_follow (Some before) None Has P Q more there has = tt
both_follow (Some before) (Some after) Has P Q more there has = more before after there has

-- a fact of each thing
pub told_each : {A : Type 0} (told : Option State) (P : A → State → Type 0) → ((a : A) → IfTold told (P a)) → IfTold told (λ state. (a : A) → P a state)
told_each None P each = tt
told_each (Some state) P each = each

pub both_each : {A : Type 0} (old new : Option State) (P : A → State → State → Type 0) → ((a : A) → IfTold old (λ before. IfTold new (P a before)))
    → IfTold old (λ before. IfTold new (λ after. (a : A) → P a before after))
both_each None new P each = tt
both_each (Some before) new P each = told_each new (λ a. P a before) each

pub both_both : (old new : Option State) (P Q : State → State → Type 0) → IfTold old (λ before. IfTold new (P before)) → IfTold old (λ before. IfTold new (Q before))
    → IfTold old (λ before. IfTold new (λ after. P before after × Q before after))
both_both None new P Q first second = tt
both_both (Some before) new P Q first second = told_both new (P before) (Q before) first second

-- ---- a folder before and after

module _ (folder : List ℕ) where
  -- a fact of a folder before and after
  abbrev pub Both : (old new : Option State) → (Folder → Folder → Type 0) → Type 0
  Both old new P = IfTold old (λ before. IfTold new (λ after. P (before.folder folder) (after.folder folder)))

  pub both_self : (told : Option State) (P : Folder → Folder → Type 0) → ((x : Folder) → P x x) → Both told told P
  both_self None P same = tt
  both_self (Some s) P same = same (s.folder folder)

  pub both_more : (tells : Bool) (a b c : Option State) (P Q R : Folder → Folder → Type 0) → IsTelling tells a → IsTelling tells b → ((x y z : Folder) → P x y → Q y z → R x z) → Both a b P → Both b c Q → Both a c R
  both_more tells None b c P Q R one two more first second = tt
  both_more tells (Some x) b None P Q R one two more first second = tt
  both_more tells (Some x) (Some y) (Some z) P Q R one two more first second = more (x.folder folder) (y.folder folder) (z.folder folder) first second
  both_more tells (Some x) None (Some z) P Q R one two more first second = absurd (true≢false (sym (told_too tells (Some x) None one two refl)))

  pub both_and : (a b : Option State) (P Q : Folder → Folder → Type 0) (Has : Folder → Type 0) → ((x y : Folder) → P x y → Has y → Q x y) → Both a b P → IfTold b (λ after. Has (after.folder folder)) → Both a b Q
  both_and None b P Q Has more first second = tt
  both_and (Some x) None P Q Has more first second = tt
  both_and (Some x) (Some y) P Q Has more first second = more (x.folder folder) (y.folder folder) first second

  -- a fact of the folder after from one before
  pub after_told : (tells : Bool) (a b : Option State) (P : Folder → Folder → Type 0) (Has Still : Folder → Type 0) → IsTelling tells a → IsTelling tells b → ((x y : Folder) → P x y → Has x → Still y) → Both a b P → IfTold a (λ before. Has (before.folder folder))
      → IfTold b (λ after. Still (after.folder folder))
  after_told tells a None P Has Still one two more both has = tt
  after_told tells (Some x) (Some y) P Has Still one two more both has = more (x.folder folder) (y.folder folder) both has
  after_told tells None (Some y) P Has Still one two more both has = absurd (true≢false (sym (told_too tells (Some y) None two one refl)))
