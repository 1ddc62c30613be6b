-- A world by its fields, as a function has it, is the world that it was given.
use Rattle.std.proofs.Common.{◌≡◌, ◌≤◌, ◌<◌, ℕ, List, length, slice_get, slice_index_or, Some, sym, subst}
use Rattle.sw_sim_exchange.specs.declared.letter.Letter.{Letter}
use Rattle.sw_sim_world.specs.ScriptedWorld.{ScriptedWorld}
use Rattle.sw_sim_world.specs.Standing.{StandsFor, WorldModel}
use Rattle.sw_sim_world.specs.WorldInside.{inner_seen}
use Rattle.sw_sim_world.specs.declared.inner.Inner.TheInside.{Inside}
use Rattle.sw_sim_world.proofs.Slots.{indexed}

module _ (inside : Inside) (now : WorldModel) (view : inner_seen inside ≡ now) where
  -- it stands for what that stands for
  pub stood : (before : ScriptedWorld) → StandsFor now before → StandsFor (inner_seen inside) before
  stood before stands = subst (λ (model : WorldModel). StandsFor model before) (sym view) stands

  -- a number of an operation is one still
  pub within-inside : (number : ℕ) → number ≤ length now.operations → number ≤ length inside.exchange.operations
  within-inside number within = subst (λ (model : WorldModel). number ≤ length model.operations) (sym view) within

  -- the letter that was read is that of the slot
  pub there : (letters : List Letter) (slot : ℕ) (letter : Letter) → letters ≡ inside.exchange.letters → slot < length now.letters → letter ≡ slice_index_or letters slot letter → slice_get inside.exchange.letters slot ≡ Some letter
  there letters slot letter same within is =
      let below : slot < length inside.exchange.letters = subst (λ (model : WorldModel). slot < length model.letters) (sym view) within in
      subst (λ (items : List Letter). slice_get items slot ≡ Some letter) same (indexed letters slot letter (subst (λ (items : List Letter). slot < length items) (sym same) below) is)
