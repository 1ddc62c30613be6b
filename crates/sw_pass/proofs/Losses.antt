-- Losses and guards along a history, with what is owed.
use Rattle.std.proofs.Common.{◌≡◌, ◌≢◌, ℕ, refl, ◌≤◌, ◌==◌, if◌then◌else◌, Bool, true, false, List, [], ◌∷◌, ◌++◌, Option, Some, None, subst, arith}
use Rattle.std.proofs.lemmas.Bool.Decides.{nat_tests}
use Rattle.sw_ring.specs.Cluster.{ClusterModel}
use Rattle.sw_view.specs.History.{IsGuarded}
use Rattle.sw_view.specs.declared.event.Event.{Event}
use Rattle.sw_view.specs.declared.event.Event.TheVariants.{Faulted, Handled, Mounted, Replaced}
use Rattle.sw_pass.specs.Losses.{IsDue, LossesBelow, Rises, with_owed}

-- ---- losses

pub losses_more : (n m : ℕ) → n ≤ m → (past : List Event) → LossesBelow n past → LossesBelow m past
losses_more n m le [] below = tt
losses_more n m le (Handled msg reply ∷ past) below = losses_more n m le past below
losses_more n m le (Faulted msg ∷ past) below = losses_more n m le past below
losses_more n m le (Mounted ∷ past) below = losses_more n m le past below
losses_more n m le (Replaced loss ∷ past) below = (omega (arith, le, below.0), losses_more n m le past below.1)

-- an earlier history has fewer losses
pub losses_earlier : (n : ℕ) (more past : List Event) → LossesBelow n (more ++ past) → LossesBelow n past
losses_earlier n [] past below = below
losses_earlier n (Handled msg reply ∷ more) past below = losses_earlier n more past below
losses_earlier n (Faulted msg ∷ more) past below = losses_earlier n more past below
losses_earlier n (Mounted ∷ more) past below = losses_earlier n more past below
losses_earlier n (Replaced loss ∷ more) past below = losses_earlier n more past below.1

pub rises_earlier : (more past : List Event) → Rises (more ++ past) → Rises past
rises_earlier [] past rises = rises
rises_earlier (Handled msg reply ∷ more) past rises = rises_earlier more past rises
rises_earlier (Faulted msg ∷ more) past rises = rises_earlier more past rises
rises_earlier (Mounted ∷ more) past rises = rises_earlier more past rises
rises_earlier (Replaced loss ∷ more) past rises = rises_earlier more past rises.1

-- ---- without what is owed

pub losses_owed : (n : ℕ) (owed : Option ℕ) (past : List Event) → LossesBelow n (with_owed owed past) → LossesBelow n past
losses_owed n None past below = below
losses_owed n (Some loss) past below = below.1

pub rises_owed : (owed : Option ℕ) (past : List Event) → Rises (with_owed owed past) → Rises past
rises_owed None past rises = rises
rises_owed (Some loss) past rises = rises.1

pub guarded_owed : (cluster : ClusterModel) (device stamp mark : ℕ) (owed : Option ℕ) (past : List Event) → IsGuarded cluster device stamp mark (with_owed owed past) → IsGuarded cluster device stamp mark past
guarded_owed cluster device stamp mark None past is = is
guarded_owed cluster device stamp mark (Some loss) past is = is.1

-- ---- A due event changes nothing here, where the loss that is owed counts already.

pub due_guarded : (cluster : ClusterModel) (device stamp mark : ℕ) (event : Event) (owed : Option ℕ) (past : List Event) → IsDue event owed → IsGuarded cluster device stamp mark (with_owed owed past) → IsGuarded cluster device stamp mark (event ∷ past)
due_guarded cluster device stamp mark (Replaced loss) owed past is = subst (λ z. IsGuarded cluster device stamp mark (with_owed z past)) is
due_guarded cluster device stamp mark (Handled msg reply) owed past is = subst (λ z. IsGuarded cluster device stamp mark (with_owed z past)) is
due_guarded cluster device stamp mark (Faulted msg) owed past is = subst (λ z. IsGuarded cluster device stamp mark (with_owed z past)) is
due_guarded cluster device stamp mark Mounted owed past is = subst (λ z. IsGuarded cluster device stamp mark (with_owed z past)) is

pub due_rises : (event : Event) (owed : Option ℕ) (past : List Event) → IsDue event owed → Rises (with_owed owed past) → Rises (event ∷ past)
due_rises (Replaced loss) owed past is = subst (λ z. Rises (with_owed z past)) is
due_rises (Handled msg reply) owed past is = subst (λ z. Rises (with_owed z past)) is
due_rises (Faulted msg) owed past is = subst (λ z. Rises (with_owed z past)) is
due_rises Mounted owed past is = subst (λ z. Rises (with_owed z past)) is

pub due_losses : (n : ℕ) (event : Event) (owed : Option ℕ) (past : List Event) → IsDue event owed → LossesBelow n (with_owed owed past) → LossesBelow n (event ∷ past)
due_losses n (Replaced loss) owed past is = subst (λ z. LossesBelow n (with_owed z past)) is
due_losses n (Handled msg reply) owed past is = subst (λ z. LossesBelow n (with_owed z past)) is
due_losses n (Faulted msg) owed past is = subst (λ z. LossesBelow n (with_owed z past)) is
due_losses n Mounted owed past is = subst (λ z. LossesBelow n (with_owed z past)) is

-- ---- what stands at one slot changed

pub same_or_not : (y x : ℕ) (P : Bool → Type 0) (b : Bool) → (y == x) ≡ b → (y ≡ x → P true) → (y ≢ x → P false) → P b
same_or_not y x P true is same other = same (grind (arith, nat_tests))
same_or_not y x P false is same other = other (λ e. grind (arith, nat_tests))

abbrev pub upd : {A : Type 0} → (ℕ → A) → ℕ → A → ℕ → A
upd f x a y = if y == x then a else f y

pub upd_at : {A : Type 0} (f : ℕ → A) (x : ℕ) (a : A) (y : ℕ) (P : A → Type 0) → (y ≡ x → P a) → (y ≢ x → P (f y)) → P (upd f x a y)
upd_at f x a y P same other = same_or_not y x (λ b. P (if b then a else f y)) (y == x) refl same other

pub upd_same : {A : Type 0} (f : ℕ → A) (x : ℕ) (a : A) → upd f x a x ≡ a
upd_same f x a = upd_at f x a x (λ z. z ≡ a) (λ e. refl) (λ n. absurd (n refl))

pub upd_other : {A : Type 0} (f : ℕ → A) (x : ℕ) (a : A) (y : ℕ) → y ≢ x → upd f x a y ≡ f y
upd_other f x a y n = upd_at f x a y (λ z. z ≡ f y) (λ e. absurd (n e)) (λ _. refl)
