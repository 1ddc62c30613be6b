-- Stretches of basic events: one after the other, and what is told of their ends.
use Rattle.std.proofs.Common.{◌≡◌, List, [], ◌∷◌, ◌++◌, refl, sym, ap, subst, ◌∙◌, append-nil, append_assoc}
use Rattle.sw_core.specs.Event.{Event}
use Rattle.sw_sim_exchange.specs.declared.lines.EndLine.{EndLine}
use Rattle.sw_sim_world.specs.Leading.{LeadsBy, LeadsByOne}
use Rattle.sw_sim_world.specs.ScriptedWorld.{AreSteps, ScriptedWorld, Step}
use Rattle.sw_sim_world.specs.Standing.{StandsFor, WorldModel}
use Rattle.sw_sim_world.specs.Unfolding.{TellsEnds}

-- steps that lead on from where others led
pub more-steps : (first : ScriptedWorld) (steps : List Step) (between : ScriptedWorld) (more : List Step) (last : ScriptedWorld) → AreSteps first steps between → AreSteps between more last → AreSteps first (steps ++ more) last
more-steps first [] between more last same are = subst (λ (scripted : ScriptedWorld). AreSteps scripted more last) same are
more-steps first (step ∷ steps) between more last earlier are = (earlier.0, more-steps step.after steps between more last earlier.1 are)

-- what is told of them is told one after the other
pub more-ends : (first : ScriptedWorld) (steps : List Step) (between : ScriptedWorld) (more : List Step) (mine others : List EndLine) → AreSteps first steps between → TellsEnds first steps mine → TellsEnds between more others
    → TellsEnds first (steps ++ more) (mine ++ others)
more-ends first [] between more mine others same none tells =
    subst (λ (ends : List EndLine). TellsEnds first more (ends ++ others)) (sym none) (subst (λ (scripted : ScriptedWorld). TellsEnds scripted more others) same tells)
more-ends first (step ∷ steps) between more mine others are (these, later, whole, zips, rest) tells = (
  these,
  later ++ others,
  ap (λ (ends : List EndLine). ends ++ others) whole ∙ append_assoc these later others,
  zips,
  more-ends step.after steps between more later others are.1 rest tells,
)

-- a world was led on by these basic events, and the ends of them were added
pub record LedOn (before : ScriptedWorld) (steps : List Step) (now : ScriptedWorld) (left : WorldModel) (old new : List EndLine) : Type 0 where
  pub are_steps : AreSteps before steps now
  pub mine : List EndLine
  pub told : new ≡ old ++ mine
  pub ends : TellsEnds before steps mine
  pub stands : StandsFor left now

-- no step leads from a world to itself
pub none-led : (before : ScriptedWorld) (left : WorldModel) (ends : List EndLine) → StandsFor left before → LedOn before [] before left ends ends
none-led before left ends stands = record { are_steps = refl; mine = []; told = sym (append-nil ends); ends = refl; stands = stands }

-- the step of one that happened
abbrev pub step_of : (event : Event) → ScriptedWorld → Step
step_of event after = record { event = event; after = after }

module _ (before : ScriptedWorld) (steps : List Step) (now : ScriptedWorld) (left : WorldModel) (old middle : List EndLine) (led : LedOn before steps now left old middle) (later : WorldModel) (new : List EndLine) where
  -- by one more
  pub led-one : (event : Event) (one : LeadsByOne event now later middle new) → LedOn before (steps ++ step_of event one.after ∷ []) one.after later old new
  led-one event one = record {
    are_steps = more-steps before steps now (step_of event one.after ∷ []) one.after led.are_steps (one.is_step, refl);
    mine = led.mine ++ one.mine;
    told = one.told ∙ ap (λ (ends : List EndLine). ends ++ one.mine) led.told ∙ append_assoc old led.mine one.mine;
    ends = more-ends before steps now (step_of event one.after ∷ []) led.mine one.mine led.are_steps led.ends (one.mine, [], sym (append-nil one.mine), one.ends, refl);
    stands = one.stands;
  }

  -- by some more
  pub led-more : (Unfolded : List Step → Type 0) (more : LeadsBy Unfolded now later middle new) → LedOn before (steps ++ more.steps) more.after later old new
  led-more Unfolded more = record {
    are_steps = more-steps before steps now more.steps more.after led.are_steps more.are_steps;
    mine = led.mine ++ more.mine;
    told = more.told ∙ ap (λ (ends : List EndLine). ends ++ more.mine) led.told ∙ append_assoc old led.mine more.mine;
    ends = more-ends before steps now more.steps led.mine more.mine led.are_steps led.ends more.ends;
    stands = more.stands;
  }

-- that is one of a kind
pub of-kind : (before : ScriptedWorld) (steps : List Step) (now : ScriptedWorld) (left : WorldModel) (old new : List EndLine) → LedOn before steps now left old new → (Unfolded : List Step → Type 0) → Unfolded steps → LeadsBy Unfolded before left old new
of-kind before steps now left old new led Unfolded unfolded = record {
  steps = steps;
  after = now;
  are_steps = led.are_steps;
  unfolded = unfolded;
  mine = led.mine;
  told = led.told;
  ends = led.ends;
  stands = led.stands;
}
