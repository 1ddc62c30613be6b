-- The messages that wait from a slot on are delivered, one after the other: how far that is.
use Rattle.std.proofs.Common.{◌≡◌, ⊎_elim, ℕ, zero, suc, ◌+◌, ◌<◌, ◌≤◌, true, false, true≢false, Contains, List, [], ◌∷◌, ◌++◌, length, slice_get, Some, refl, sym, subst, ◌∙◌, append-nil, append_assoc, arith}
use Rattle.std.proofs.lemmas.Bool.{cases_lt}
use Rattle.std.proofs.lemmas.Option.{same_Some, slice_get_within}
use Rattle.sw_core.specs.Event.{Deliver}
use Rattle.sw_sim_exchange.specs.declared.lines.EndLine.{EndLine}
use Rattle.sw_sim_world.specs.Leading.{DeliversFrom, IsLeastFrom, LeadsBy, LeadsByOne}
use Rattle.sw_sim_world.specs.ScriptedWorld.{IsAny, ScriptedWorld, Step, Waits}
use Rattle.sw_sim_world.specs.Standing.{IsLetterOf, StandsFor, WorldModel}
use Rattle.sw_sim_exchange.specs.declared.letter.Letter.{Letter}
use Rattle.sw_sim_world.proofs.Leasts.{delivered-later}
use Rattle.sw_sim_world.proofs.Slots.{item-at, zip-length}
use Rattle.sw_sim_world.proofs.Stretches.{LedOn, led-one, none-led, of-kind, step_of}

-- Those from one slot up to another were delivered, and whatever is delivered then is what is left.
pub record Sweeping (from : ℕ) (before : ScriptedWorld) (slot : ℕ) (left : WorldModel) (old new : List EndLine) : Type 0 where
  pub steps : List Step
  pub now : ScriptedWorld
  pub led : LedOn before steps now left old new
  pub delivers : (rest : List Step) → DeliversFrom from now rest → DeliversFrom from before (steps ++ rest)
  pub reached : (other : ℕ) → from ≤ other → other < slot → Contains now.delivered (suc other)

-- at first none was delivered
pub none-swept : (from : ℕ) (before : ScriptedWorld) (left : WorldModel) (ends : List EndLine) → StandsFor left before → Sweeping from before from left ends ends
none-swept from before left ends stands = record {
  steps = [];
  now = before;
  led = none-led before left ends stands;
  delivers = λ rest delivers. delivers;
  reached = λ other above below. absurd (omega (arith, above, below));
}

-- the letters from one slot up to another were delivered, and all from one slot on
abbrev pub EachBetween : List Letter → (from to : ℕ) → Type 0
EachBetween letters from to = (slot : ℕ) (letter : Letter) → from ≤ slot → slot < to → slice_get letters slot ≡ Some letter → letter.is_delivered ≡ true

-- and all from one slot on
abbrev pub EachFrom : List Letter → (from : ℕ) → Type 0
EachFrom letters from = (slot : ℕ) (letter : Letter) → from ≤ slot → slice_get letters slot ≡ Some letter → letter.is_delivered ≡ true

-- one slot more
pub between-more : (letters : List Letter) (from slot : ℕ) (letter : Letter) → slice_get letters slot ≡ Some letter → letter.is_delivered ≡ true → EachBetween letters from slot → EachBetween letters from (slot + 1)
between-more letters from slot letter here delivered between other one above below is = ⊎_elim
    (λ less. between other one above less is)
    (λ more.
    let same : other ≡ slot = omega (arith, more, below) in
    subst (λ (that : Letter). that.is_delivered ≡ true) (same_Some letter one (sym here ∙ subst (λ (at : ℕ). slice_get letters at ≡ Some one) same is)) delivered)
    (cases_lt other slot)

module _ (from : ℕ) (before : ScriptedWorld) (slot : ℕ) (left : WorldModel) (old middle : List EndLine) (sweeping : Sweeping from before slot left old middle) where
  -- the letter of a message
  letter-at : (other : ℕ) → other < length sweeping.now.world.scene.messages → (letter : Letter) × (slice_get left.letters other ≡ Some letter)
  letter-at other within = item-at left.letters other (omega (arith, within, zip-length IsLetterOf left.letters sweeping.now.world.scene.messages sweeping.led.stands.letters))

  -- ---- the next one that waits is delivered

  module _ (next : ℕ) (letter : Letter) (here : slice_get left.letters next ≡ Some letter) (fresh : letter.is_delivered ≡ false) (between : EachBetween left.letters slot next) where
    -- all up to it were delivered
    reached-next : (other : ℕ) → from ≤ other → other < next → Contains sweeping.now.delivered (suc other)
    reached-next other above below = ⊎_elim
        (λ less. sweeping.reached other above less)
        (λ more. let one = item-at left.letters other (omega (arith, below, slice_get_within left.letters next letter here)) in (sweeping.led.stands.marked other one.0 one.1).0 (between other one.0 more below one.1))
        (cases_lt other slot)

    -- it is the least that waits
    least : from ≤ next → IsLeastFrom from sweeping.now (suc next)
    least reaches =
        let now = sweeping.now in
        let stands = sweeping.led.stands in
        let posted = item-at now.world.scene.messages next (omega (arith, slice_get_within left.letters next letter here, zip-length IsLetterOf left.letters now.world.scene.messages stands.letters)) in
        record {
          above = omega (arith, reaches);
          waits = record { posted = posted.0; there = posted.1; such = refl; fresh = λ has. absurd (true≢false (sym ((stands.marked next letter here).1 has) ∙ fresh)) };
          least = none-earlier;
        }
      where
        none-earlier : (other : ℕ) → from < other → other < suc next → Waits IsAny sweeping.now other → ⊥
        none-earlier zero above below waits = absurd (omega (arith, above))
        none-earlier (suc other) above below waits = waits.fresh (reached-next other (omega (arith, above)) (omega (arith, below)))

    -- so all up to it were delivered, and it was too
    pub swept-one : from ≤ next → (later : WorldModel) (new : List EndLine) → LeadsByOne (Deliver (suc next)) sweeping.now later middle new → Sweeping from before next later old new
    swept-one reaches later new one =
        let step = step_of (Deliver (suc next)) one.after in
        record {
          steps = sweeping.steps ++ step ∷ [];
          now = one.after;
          led = led-one before sweeping.steps sweeping.now left old middle sweeping.led later new (Deliver (suc next)) one;
          delivers = λ rest delivers.
              subst (DeliversFrom from before) (sym (append_assoc sweeping.steps (step ∷ []) rest)) (sweeping.delivers (step ∷ rest) (suc next, least reaches, refl, delivers));
          reached = λ other above below. delivered-later sweeping.now one.after (suc next) one.is_step.delivered (suc other) (reached-next other above below);
        }

  -- ---- none is left

  -- so what was delivered is all that waited
  pub swept : from ≤ slot → EachFrom left.letters slot → LeadsBy (DeliversFrom from before) before left old middle
  swept reaches all =
      of-kind before sweeping.steps sweeping.now left old middle sweeping.led (DeliversFrom from before)
      (subst (DeliversFrom from before) (append-nil sweeping.steps) (sweeping.delivers [] none-later))
    where
      none-later : (message : ℕ) → from < message → Waits IsAny sweeping.now message → ⊥
      none-later zero above waits = absurd (omega (arith, above))
      none-later (suc other) above waits = waits.fresh (⊎_elim
          (λ less. sweeping.reached other (omega (arith, above)) less)
          (λ more. let letter = letter-at other (slice_get_within sweeping.now.world.scene.messages other waits.posted waits.there) in (sweeping.led.stands.marked other letter.0 letter.1).0 (all other letter.0 more letter.1))
          (cases_lt other slot))
