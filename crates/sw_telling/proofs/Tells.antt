-- What a link tells that is not silent.
use Rattle.std.proofs.Common.{◌≡◌, ℕ, Bool, true, false, List, Option, Some, None, Result, Ok, Err, refl, subst, sym}
use Rattle.std.specs.Prelude.{OnErr, OnOk, is_err}
use Rattle.sw_message.specs.Learnt.{IsSoundBook, Keeps, Learnt}
use Rattle.sw_message.specs.Running.{StillTells}
use Rattle.sw_message.specs.Soundly.{is_sound_learnt}
use Rattle.sw_message.proofs.Soundly.{learnt-sound, told-passed}
use Rattle.sw_types.specs.declared.memory.NoMemory.{NoMemory}
use Rattle.sw_sim_nodes.specs.Nodes.{NodesModel, Stops}
use Rattle.sw_telling.specs.Telling.{IsTelling, Tells, TellingModel, learnt_by}

module _ (telling : TellingModel) where
  pub silent_none : telling.is_silent ≡ true → learnt_by telling ≡ None
  silent_none silent = rw silent refl

  pub told_all : telling.is_silent ≡ false → is_sound_learnt telling.nodes.cluster.policy telling.known ≡ true → learnt_by telling ≡ Some telling.known
  told_all speaks sound = rw speaks (told-passed telling.nodes.cluster.policy telling.known sound)

  pub tells_all : IsTelling telling → telling.is_silent ≡ false → learnt_by telling ≡ Some telling.known
  tells_all is speaks = told_all speaks (is.tells speaks).sound

  pub sound_book : Tells telling → IsSoundBook telling.nodes.cluster.policy telling.known.book
  sound_book tells = (learnt-sound telling.nodes.cluster.policy telling.known tells.sound).book

to_silence : (MayBe : Type 0) → MayBe → (first : Option Learnt) → StillTells MayBe first None
to_silence MayBe is None = refl
to_silence MayBe is (Some first) = is

-- it still tells, where it keeps what it knew unless it falls silent
pub still_by : (before after : TellingModel) → IsTelling before → IsTelling after → (after.is_silent ≡ false → (before.is_silent ≡ false) × Keeps before.known after.known) → StillTells (after.is_silent ≡ true) (learnt_by before) (learnt_by after)
still_by before after was is keeps = by_case after.is_silent refl
  where
    by_case : (b : Bool) → after.is_silent ≡ b → StillTells (after.is_silent ≡ true) (learnt_by before) (learnt_by after)
    by_case true silent = rw (silent_none after silent) (to_silence (after.is_silent ≡ true) silent (learnt_by before))
    by_case false speaks = rw (tells_all before was (keeps speaks).0, tells_all after is speaks) (keeps speaks).1

-- ---- what changes nothing of it

module _ (telling : TellingModel) (is : IsTelling telling) where
  -- what its clock shows, and how many draws were refused
  pub with_clock : (clock refused : ℕ) → IsTelling (record telling { clock = clock; refused = refused })
  with_clock clock refused = record {
    rules = is.rules;
    tells = λ speaks. let it = is.tells speaks in record { goes_on = it.goes_on; sound = it.sound; drawn = it.drawn; filed = it.filed };
  }

  -- which devices are down
  with_down : (down : List ℕ) → IsTelling (record telling { nodes = record telling.nodes { down = down } })
  with_down down = record {
    rules = is.rules;
    tells = λ speaks. let it = is.tells speaks in record { goes_on = it.goes_on; sound = it.sound; drawn = it.drawn; filed = it.filed };
  }

  down_alone : (nodes' : NodesModel) (device : ℕ) (result : Result Unit NoMemory) → OnOk result (Stops telling.nodes device nodes') → OnErr result (nodes' ≡ telling.nodes) → nodes' ≡ record telling.nodes { down = nodes'.down }
  down_alone nodes' device (Ok value) stops same = stops.after_is
  down_alone nodes' device (Err refused) stops same = subst (λ (model : NodesModel). model ≡ record telling.nodes { down = model.down }) (sym same) refl

  pub with_stopped : (nodes' : NodesModel) (device : ℕ) (result : Result Unit NoMemory) → OnOk result (Stops telling.nodes device nodes') → OnErr result (nodes' ≡ telling.nodes) → IsTelling (record telling { nodes = nodes' })
  with_stopped nodes' device result stops same =
      subst (λ (model : NodesModel). IsTelling (record telling { nodes = model })) (sym (down_alone nodes' device result stops same)) (with_down nodes'.down)

-- what a call that was not refused did
pub on_ok : (result : Result Unit NoMemory) (P : Type 0) → is_err result ≡ false → OnOk result P → P
on_ok (Ok value) P none holds = holds
on_ok (Err refused) P none holds = absurd (cc)
